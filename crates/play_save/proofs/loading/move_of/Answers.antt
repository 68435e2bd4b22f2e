-- A description that can't be read, or is another puzzle's, is no restart.
use Rattle.std.proofs.Common.{◌≡◌, ◌≢◌, Bool, false, IsTrue, sym, ap, ◌∙◌}
use Rattle.play_save.specs.SaveTexts.{saves_of}
use Rattle.play_save.specs.FirstFaults.{state_move}
use Rattle.play_save.proofs.GameTexts.{Owes, game_owes}
use Rattle.play_save.proofs.StatesPlayed.{IsDescribed, no_restart, other_restart}
use Rattle.play_save.proofs.loading.move_of.Given.{Over}
use Rattle.play_save.proofs.loading.move_of.Goals as goal
use Rattle.play_save.proofs.loading.move_of.Goals.{in_default-read_desc-via-in-Ok-read_desc+else-same, in_default-read_desc-via-in_default-read_desc}

-- the game has what saves ask of its descriptions, by its laws
owes : (g : Over) → Owes (saves_of g.P.Rules g.P.Game) g.P.Rules.valid
owes g = let laws = g.met.P.Game in game_owes g.P.Rules g.P.Game laws.desc_taken laws.desc_again laws.desc_canonical

-- if a test that equal things pass has failed, they differ
differ : {A : Type 0} {a b : A} (r : Bool) → (a ≡ b → IsTrue r) → r ≡ false → a ≢ b
differ r test failed same = let true_it = test same in cc

pub returns-in_default-read_desc : goal.returns-in_default-read_desc
returns-in_default-read_desc g c =
    let game = saves_of g.P.Rules g.P.Game in
    let p = c.args.puzzle.now in
    let value = c.args.state.now.value.now in
    let size = g.met.P.Rules.valid_size p c.size.ensures.valid in
    let described : IsDescribed game p = record {
      text = g.P.Game.desc_of p;
      described = (owes g).own_text p c.size.ensures.valid;
      smallest = size.0;
      largest = size.1;
    } in
    let read = sym (ap (λ w. g.P.Game.desc_at w value) c.size.ensures.value) ∙ sym c.read_desc.ensures in
    let key = ap (λ k. state_move game p k value) c.in-RestartMove.is in
    elim c.in_default-read_desc.branch [
      | in_default-read_desc-via-in-Ok-read_desc+else-same w ↦
          let other : w.in-Ok-read_desc.again ≢ p = differ w.same.result w.same.ensures.1 w.if-same.false in
          let again = w.in-Ok-read_desc.again in
          sym (key ∙ other_restart game p again value (owes g).texts described other (read ∙ w.in-Ok-read_desc.is))
      | in_default-read_desc-via-in_default-read_desc w ↦
          sym (key ∙ no_restart game p value w.in_default-read_desc.field-0 (read ∙ w.in_default-read_desc.is))
    ]
