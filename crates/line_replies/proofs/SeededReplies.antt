-- The game of a seed that was begun has one solution, which `solve` answers and a list has.
use Rattle.std.proofs.Common.{◌≡◌, ◌≢◌, ℕ, List, [], ◌∷◌, ◌++◌, length, codes, Option, Some, Result, Ok, Err, inr, refl, sym, ap, subst, arith, append-nil, length-append}
use Rattle.std.specs.Fmt.{decimal}
use Rattle.std.specs.Option.{IsSomeAnd}
use Rattle.std.proofs.lemmas.Bool.{ne_eqb}
use Rattle.std.proofs.lemmas.Fmt.{decimal_digit}
use Rattle.byte_text.specs.Bytes.{exclamation, line_feed}
use Rattle.latin_board.specs.Squares.{GridValue}
use Rattle.trail_solver.specs.Puzzles.{Solves}
use Rattle.trail_solver.specs.Solutions.{IsOnlySolution}
use Rattle.trail_solver.proofs.ListedSolutions.{AreFirst-only}
use Rattle.game_texts.specs.declared.id_fault.IdFault.{IdFault}
use Rattle.game_texts.specs.declared.game_id.GameId.{GameId}
use Rattle.game_texts.specs.declared.game_id.GameId.TheVariants.{Seeded}
use Rattle.game_texts.specs.declared.params.Params.{Params}
use Rattle.game_texts.specs.Parameters.{params_text}
use Rattle.puzzle_gen.specs.declared.gen_fault.GenFault.{GenFault}
use Rattle.puzzle_gen.specs.Generating.{Generates}
use Rattle.puzzle_gen.specs.SeededSquares.{square_of}
use Rattle.needed_items.proofs.ItemLaws.{ItemLaws}
use Rattle.puzzle_gen.proofs.GeneratedOnce.{generated_only, generated_needed}
use Rattle.play_midend.specs.declared.moves.Move.TheVariants.{Solve as Filling}
use Rattle.play_midend.specs.Histories.{History, with_move, refusal_in, played}
use Rattle.play_midend.specs.Laws.{ToSolution}
use Rattle.play_midend.proofs.Playing.{accepted, allowed_in, solved_as_played}
use Rattle.line_replies.specs.declared.command.Command.TheVariants.{New, Ask}
use Rattle.line_replies.specs.declared.command.Request.TheVariants.{Act, Listing}
use Rattle.line_replies.specs.declared.command.Action.TheVariants.{Solve}
use Rattle.line_replies.specs.Commands.{IsRead}
use Rattle.line_replies.specs.GameFacts.{GameFacts}
use Rattle.line_replies.specs.NewSessions.{new_game, generated_game, IsIdRead, IdBegins}
use Rattle.line_replies.specs.SolutionTexts.{grid_digits, grid_line, listed_lines, move_line}
use Rattle.line_replies.specs.SessionReplies.{shown_board, text_outcome}
use Rattle.line_replies.specs.Replies.{ReadGives, left}
use Rattle.line_replies.specs.RunLaws.{Asks, IsTheAnswer, HasJustOne, SeededLinesHaveOne, seeded_line}
use Rattle.line_replies.proofs.CommandLaws.{word_read}
use Rattle.line_replies.proofs.RepliesOnce.{IdsAreReadOnce}
use Rattle.line_replies.proofs.CallReplies.{given_to}
use Rattle.line_replies.proofs.KnownReplies.{the_answer}

solve_asks : Asks (Some (codes "solve")) (Act Solve)
solve_asks = (codes "solve", refl, word_read (codes "solve") (Ask (Act Solve)) refl)

list_two_asks : Asks (Some (codes "list 2")) (Listing 2)
list_two_asks =
    let two : codes "list 2" ≡ codes "list " ++ decimal 2 = ap (λ (digits : List ℕ). codes "list " ++ digits) (sym (decimal_digit 2 (omega arith))) in
    (codes "list 2", refl, inr (omega arith, omega arith, two))

-- ---- the line of a list of one

one_line : (g : GridValue) → listed_lines (g ∷ []) ≡ grid_line g
one_line g =
    let whole : grid_line g ++ [] ≡ grid_line g = append-nil (grid_line g) in
    let long : length (grid_line g) ≢ 0 = λ none. absurd (omega (arith, none, length-append (grid_digits g) (line_feed ∷ []))) in
    rw (whole, ne_eqb (length (grid_line g)) 0 long) refl

-- ---- the new game of a puzzle with one solution

module _ {P : Type 0} (f : GameFacts P) (laws : ItemLaws f.rules) (ids : IdsAreReadOnce f) where
  -- in a new session of a puzzle with one solution, `solve` answers this solution
  solve_answers : (params : Params) (puzzle : P) (g : GridValue) → IsOnlySolution (f.rules.puzzle puzzle) g
      → IsTheAnswer f (Some (new_game params puzzle)) (Some (codes "solve")) (move_line (Filling g)) (Some (with_move (new_game params puzzle) (Filling g)))
  solve_answers params puzzle g only =
      let h = new_game params puzzle in
      let new = with_move h (Filling g) in
      the_answer f laws ids h new (Some (codes "solve")) (Act Solve) (move_line (Filling g)) solve_asks
      (Ok ToSolution, refl, (Ok new, inr (inr (g, only, refl)), (move_line (Filling g), (g, refl, refl), refl)))

  -- of a puzzle with one solution, `list 2` has this solution alone
  list_has : (h : History P) (g : GridValue) → IsOnlySolution (f.rules.puzzle h.puzzle) g
      → IsTheAnswer f (Some h) (Some (codes "list 2")) (grid_line g) (Some h)
  list_has h g only =
      the_answer f laws ids h h (Some (codes "list 2")) (Listing 2) (grid_line g) list_two_asks
      (g ∷ [], AreFirst-only (Solves (f.rules.puzzle h.puzzle)) 2 g only.solves only.only (omega arith), ap (λ text. text_outcome h text) (sym (one_line g)))

  -- a new session in which the only solution was filled in shows its numbers
  shows_solution : (params : Params) (puzzle : P) (g : GridValue) → IsOnlySolution (f.rules.puzzle puzzle) g
      → (shown_board f (with_move (new_game params puzzle) (Filling g))).numbers ≡ g.numbers
  shows_solution params puzzle g only =
      let p = f.rules.puzzle puzzle in
      let h = new_game params puzzle in
      let new = with_move h (Filling g) in
      let made : played p h (Filling g) ≡ Ok new = solved_as_played p h g only in
      let allowed = allowed_in p h (Filling g) (accepted (refusal_in p h (Filling g)) new new made).0 in
      rw allowed.on_board refl

  -- the new session of a generated puzzle has the seed's square as its only solution
  generated_has_one : (params : Params) (seed : ℕ) (puzzle : P) → Generates f.rules params seed (Ok puzzle)
      → HasJustOne f (square_of params.size seed) (new_game params puzzle)
  generated_has_one params seed puzzle gives =
      let g = square_of params.size seed in
      let only = generated_only f.rules params seed puzzle laws gives in
      record {
        only = only;
        needed = generated_needed f.rules params seed puzzle laws gives;
        solved = with_move (new_game params puzzle) (Filling g);
        solves = solve_answers params puzzle g only;
        shows = shows_solution params puzzle g only;
        listed = list_has (new_game params puzzle) g only;
      }

  -- ---- the line that begins it

  -- the session of what a seed generates has the seed's square as its only solution
  made_has_one : (params : Params) (seed : ℕ) (k : History P) (made : Result P GenFault) → Generates f.rules params seed made
      → generated_game params made ≡ Ok k → HasJustOne f (square_of params.size seed) k
  made_has_one params seed k (Ok puzzle) gives is =
      let same : new_game params puzzle ≡ k = cc in
      subst (λ (h : History P). HasJustOne f (square_of params.size seed) h) same (generated_has_one params seed puzzle gives)
  made_has_one params seed k (Err fault) gives is = cc

  -- the session that the ID of a seed begins has the seed's square as its only solution
  begun_has_one : (params : Params) (seed : ℕ) (k : History P) (read : Result (GameId P) IdFault) → Ok (Seeded params seed) ≡ read
      → IdBegins f read (Ok k) → HasJustOne f (square_of params.size seed) k
  begun_has_one params seed k read same begins =
      let gives : IdBegins f (Ok (Seeded params seed)) (Ok k) =
      subst (λ (r : Result (GameId P) IdFault). IdBegins f r (Ok k)) (sym same) begins in
      let (made, generates, is) = gives in made_has_one params seed k made generates is

  -- the session that `new` with a seed leaves has the seed's square as its only solution
  said_has_one : (old new : Option (History P)) (params : Params) (seed : ℕ) (id text : List ℕ) → IsIdRead f id (Ok (Seeded params seed))
      → ReadGives f old (Ok (Some (New id))) (Ok (text, new)) → IsSomeAnd new (HasJustOne f (square_of params.size seed))
  said_has_one old new params seed id text is (Ok k, (read, scan, begins), out) =
      let begun : new ≡ Some k = ap (left old) out in
      subst (λ (o : Option (History P)). IsSomeAnd o (HasJustOne f (square_of params.size seed))) (sym begun)
      (begun_has_one params seed k read (ids id (Ok (Seeded params seed)) read is scan) begins)
  said_has_one old new params seed id text is (Err fault, begins, out) = cc

  pub seeded_lines_have_one : SeededLinesHaveOne f
  seeded_lines_have_one old new params seed text letters within gives =
      let id = params_text params ++ exclamation ∷ decimal seed in
      let reads : IsRead (seeded_line params seed) (Ok (Some (New id))) = (codes "new " ++ id, refl, inr refl) in
      said_has_one old new params seed id text (letters, within, refl)
      (given_to f old (seeded_line params seed) (Ok (Some (New id))) (Ok (text, new)) reads gives)
