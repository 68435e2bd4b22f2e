-- A flag of a board along the moves that lead to it: which of them set it, and that a restart alone takes it back.
use Rattle.std.proofs.Common.{◌≡◌, ◌⊎◌, ◌↔◌, Bool, true, false, List, [], ◌∷◌, ◌++◌, None, refl, sym, ap, ◌∙◌, subst, inl, inr}
use Rattle.std.specs.List.{AllByRecursion}
use Rattle.latin_board.specs.Boards.{BoardValue}
use Rattle.trail_solver.specs.Puzzles.{Puzzle}
use Rattle.play_midend.specs.declared.moves.Move.{Move}
use Rattle.play_midend.specs.Steps.{refusal_of, moved, after_move, replay_from, ArePlayable, is_restart}
use Rattle.play_midend.specs.Flags.{StandsSinceRestart}
use Rattle.play_midend.proofs.Making.{step_allowed}
use Rattle.play_midend.proofs.Playing.{not_refused}
use Rattle.play_midend.proofs.Replaying.{after_step}

-- what is known of a flag: moves that are `such` set it, a restart takes it back, and any other leaves it
pub record IsSetBy (p : Puzzle) (flag : BoardValue → Bool) (such : BoardValue → Move → Type 0) (good : BoardValue → Type 0) : Type 0 where
  pub goes_on : (b : BoardValue) (m : Move) → good b → refusal_of p b m ≡ None → good (moved p b m)
  pub set : (b : BoardValue) (m : Move) → good b → such b m → flag (moved p b m) ≡ true
  pub kept : (b : BoardValue) (m : Move) → good b → flag b ≡ true → is_restart m ≡ false → flag (moved p b m) ≡ true
  pub only : (b : BoardValue) (m : Move) → good b → refusal_of p b m ≡ None → flag (moved p b m) ≡ true
      → such b m ⊎ ((flag b ≡ true) × (is_restart m ≡ false))

-- none of the moves is a restart
abbrev NoRestart : List Move → Type 0
NoRestart ms = AllByRecursion (λ m. is_restart m ≡ false) ms

module _ (p : Puzzle) (flag : BoardValue → Bool) (such : BoardValue → Move → Type 0) (good : BoardValue → Type 0)
    (law : IsSetBy p flag such good) where
  -- the first move of a list that can be played isn't refused, and is made
  made_is : (b : BoardValue) (m : Move) (ms : List Move) → ArePlayable p b (m ∷ ms)
      → (refusal_of p b m ≡ None) × (after_move p b m ≡ moved p b m)
  made_is b m ms playable =
      let none = not_refused (refusal_of p b m) (moved p b m) playable.0 in
      (none, after_step p b m (moved p b m) (step_allowed p b m none))

  stays_good : (b : BoardValue) (m : Move) (ms : List Move) → good b → ArePlayable p b (m ∷ ms) → good (after_move p b m)
  stays_good b m ms fine playable =
      let one = made_is b m ms playable in
      subst (λ (c : BoardValue). good c) (sym one.1) (law.goes_on b m fine one.0)

  -- a flag that is set stays set along moves without a restart
  stays_set : (b : BoardValue) (ms : List Move) → good b → ArePlayable p b ms → flag b ≡ true → NoRestart ms
      → flag (replay_from p b ms) ≡ true
  stays_set b [] fine playable is none_after = is
  stays_set b (m ∷ ms) fine playable is none_after =
      stays_set (after_move p b m) ms (stays_good b m ms fine playable) playable.1
      (ap flag (made_is b m ms playable).1 ∙ law.kept b m fine is none_after.0) none_after.1

  -- after a move that sets the flag, and with no restart since then, it is set
  set_at : (b : BoardValue) (before : List Move) (m : Move) (after : List Move) → good b → ArePlayable p b (before ++ m ∷ after)
      → such (replay_from p b before) m → NoRestart after → flag (replay_from p b (before ++ m ∷ after)) ≡ true
  set_at b [] m after fine playable is none_after =
      stays_set (after_move p b m) after (stays_good b m after fine playable) playable.1
      (ap flag (made_is b m after playable).1 ∙ law.set b m fine is) none_after
  set_at b (k ∷ before) m after fine playable is none_after =
      set_at (after_move p b k) before m after (stays_good b k (before ++ m ∷ after) fine playable) playable.1 is none_after

  later : (b : BoardValue) (m : Move) (ms : List Move) → StandsSinceRestart p such (after_move p b m) ms → StandsSinceRestart p such b (m ∷ ms)
  later b m ms w = record {
    before = m ∷ w.before;
    made = w.made;
    after = w.after;
    moves_are = ap (λ ns. m ∷ ns) w.moves_are;
    is_such = w.is_such;
    no_restart = w.no_restart;
  }

  -- if the flag is set, a move has set it since the last restart, or it was set before and no restart came
  set_by : (b : BoardValue) (ms : List Move) → good b → ArePlayable p b ms → flag (replay_from p b ms) ≡ true
      → StandsSinceRestart p such b ms ⊎ ((flag b ≡ true) × NoRestart ms)
  set_by b [] fine playable is = inr (is, tt)
  set_by b (m ∷ ms) fine playable is =
      let one = made_is b m ms playable in
      elim (set_by (after_move p b m) ms (stays_good b m ms fine playable) playable.1 is) [
        | inl made ↦ inl (later b m ms made)
        | inr (was, none_after) ↦ elim (law.only b m fine one.0 (ap flag (sym one.1) ∙ was)) [
          | inl now ↦ inl (record { before = []; made = m; after = ms; moves_are = refl; is_such = now; no_restart = none_after })
          | inr (old, other) ↦ inr (old, (other, none_after))
        ]
      ]

  -- from a board where the flag isn't set: it is set just if a move has set it since the last restart
  pub flagged : (b : BoardValue) (ms : List Move) → good b → flag b ≡ false → ArePlayable p b ms
      → (flag (replay_from p b ms) ≡ true) ↔ StandsSinceRestart p such b ms
  flagged b ms fine off playable = (
    λ is. elim (set_by b ms fine playable is) [
      | inl made ↦ made
      | inr (was, none_after) ↦ cc
    ],
    λ made.
        let same = made.moves_are in
        subst (λ (ns : List Move). flag (replay_from p b ns) ≡ true) (sym same)
        (set_at b made.before made.made made.after fine (subst (λ (ns : List Move). ArePlayable p b ns) same playable)
        made.is_such made.no_restart),
  )
