-- The facts that saves ask of a game's descriptions; and puzzles with one written description are the same.
use Rattle.std.proofs.Common.{arith}
use Rattle.std.proofs.lemmas.Bool.Decides.{nat_tests}
use Rattle.std.proofs.Common.{◌≡◌, ◌≢◌, ℕ, ◌≤◌, List, Some, None, Ok, refl}
use Rattle.std.proofs.lemmas.Bool.{cond_both}
use Rattle.std.proofs.lemmas.Option.{cond_some}
use Rattle.std.proofs.lemmas.Slice.Eq.{bytes_eq-Decides}
use Rattle.trail_solver.specs.declared.rules.Rules.{Ghosts as RulesGhosts}
use Rattle.game_texts.specs.declared.game.Game.{Ghosts as GameGhosts}
use Rattle.game_texts.proofs.GameIdLemmas.{ReadsGrammar, game_reads}
use Rattle.play_midend.specs.declared.moves.Move.{Move}
use Rattle.play_midend.specs.declared.moves.Move.TheVariants.{Restart}
use Rattle.play_save.specs.SaveTexts.{SavedGame, saves_of}
use Rattle.play_save.specs.FirstFaults.{restart_of}

-- reading a description gives the puzzle that it describes, of the width; and what is described so has a written form
pub record IsGame {P : Type 0} (game : SavedGame P) : Type 0 where
  pub reads : ReadsGrammar P game.desc_at game.Describes
  pub sized : (w : ℕ) (p : P) (text : List ℕ) → game.Describes w p text → (game.puzzle p).size ≡ w
  pub canonical : (w : ℕ) (p : P) (text : List ℕ) → game.Describes w p text → game.Describes w p (game.desc_of p)

-- a game's texts, and the written description of each of its puzzles
pub record Owes {P : Type 0} (game : SavedGame P) (of_game : P → Type 0) : Type 0 where
  pub texts : IsGame game
  pub own_text : (p : P) → of_game p → game.Describes (game.puzzle p).size p (game.desc_of p)

-- a game has what saves ask of its descriptions, by three of its laws
pub game_owes : {P : Type 0} (rules : RulesGhosts P) (game : GameGhosts P)
    → ((w : ℕ) (t : List ℕ) (p : P) → 3 ≤ w → w ≤ 9 → game.desc_at w t ≡ Ok p → (saves_of rules game).Describes w p t)
    → ((t : List ℕ) (p : P) → rules.valid p → game.describes t p → game.desc_at (rules.puzzle p).size t ≡ Ok p)
    → ((p : P) → rules.valid p → game.describes (game.desc_of p) p)
    → Owes (saves_of rules game) rules.valid
game_owes {P} rules game taken again canonical = record {
  texts = record {
    reads = game_reads P rules.puzzle rules.valid game.describes game.desc_at taken again;
    sized = λ w p text (described, of, size). size;
    canonical = λ w p text (described, of, size). (canonical p of, of, size);
  };
  own_text = λ p of. (canonical p of, of, refl);
}

-- the written description tells puzzles of a width apart
pub same_puzzle : {P : Type 0} (game : SavedGame P) (w : ℕ) (p q : P) (p_text q_text : List ℕ)
    → IsGame game → game.Describes w p p_text → game.Describes w q q_text → game.desc_of q ≡ game.desc_of p → q ≡ p
same_puzzle game w p q p_text q_text owes p_is q_is same = grind (arith, nat_tests)

-- a puzzle that was read is a restart just if its written description is the one of the session's puzzle
pub restart_taken : {P : Type 0} (game : SavedGame P) (p q : P) (m : Move)
    → restart_of game p q ≡ Some m → (m ≡ Restart) × (game.desc_of q ≡ game.desc_of p)
restart_taken game p q m is = grind (arith, nat_tests, cond_some, bytes_eq-Decides)

pub restart_again : {P : Type 0} (game : SavedGame P) (p : P) → restart_of game p p ≡ Some Restart
restart_again game p = rw ((bytes_eq-Decides (game.desc_of p) (game.desc_of p)).1 refl) refl

-- another puzzle is no restart
pub other_puzzle : {P : Type 0} (game : SavedGame P) (w : ℕ) (p q : P) (p_text q_text : List ℕ)
    → IsGame game → game.Describes w p p_text → game.Describes w q q_text → q ≢ p → restart_of game p q ≡ None
other_puzzle game w p q p_text q_text owes p_is q_is other =
    grind (arith, nat_tests, cond_both, same_puzzle, bytes_eq-Decides)
