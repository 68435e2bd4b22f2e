-- The full puzzle of a solution, from which items go one by one.
use Rattle.std.proofs.Common.{◌≡◌, ℕ, ◌+◌, ◌<◌, Bool, true, false, ◌&&◌, ◌||◌, nat_le, nat_lt, sym, ap, ◌∙◌, subst, arith, leb}
use Rattle.std.proofs.lemmas.Bool.{and_from, le-leb, lt-leb, or_left, lt-ltb}
use Rattle.std.proofs.lemmas.Bool.Decides.{nat_tests}
use Rattle.latin_board.specs.Squares.{GridValue}
use Rattle.trail_solver.specs.Puzzles.{Solves}
use Rattle.trail_solver.specs.declared.rules.Rules.{Ghosts}
use Rattle.needed_items.specs.Needed.{all_but}
use Rattle.needed_items.proofs.ItemLaws.{ItemLaws}
use Rattle.json_replies.specs.declared.begin_line.FirstTried.TheVariants.{Others}
use Rattle.json_replies.specs.DeskReplies.{first_count, is_filled_in, IsFilled}

-- whether an item is left once those before the kth were tried: it isn't one of them, or it is filled in
abbrev pub is_left : {P : Type 0} → Ghosts P → P → ℕ → ℕ → Bool
is_left f p k i = nat_le k i || is_filled_in f p i

-- an item is left as before if the item that is tried is filled in
as_before : (k i : ℕ) (filled : ℕ → Bool) → filled k ≡ true → (leb k i || filled i) ≡ (leb (k + 1) i || filled i)
as_before k i filled is = grind (arith, nat_tests)

-- the item that is tried goes if it isn't filled in, and any other is left as before
goes_alone : (k i : ℕ) (filled : ℕ → Bool) → filled k ≡ false → ((leb k i || filled i) && all_but k i) ≡ (leb (k + 1) i || filled i)
goes_alone k i filled is = grind (arith, nat_tests)

module _ {P : Type 0} (f : Ghosts P) (laws : ItemLaws f) (p : P) (g : GridValue) (solves : Solves (f.puzzle p) g) where
  full_valid : f.valid (f.full_of g)
  full_valid = laws.full_valid g solves.is_grid solves.latin

  full_size : (f.puzzle (f.full_of g)).size ≡ (f.puzzle p).size
  full_size = laws.full_size g solves.is_grid solves.latin ∙ solves.same_size

  -- before any item was tried all are left
  pub none_tried : f.full_of g ≡ f.cut (f.full_of g) (is_left f p 0)
  none_tried =
      sym (laws.cut_all (f.full_of g) full_valid)
      ∙ laws.cut_agrees (f.full_of g) (λ i. true) (is_left f p 0) full_valid
      (λ i inside there. sym (or_left (leb 0 i) (is_filled_in f p i) (le-leb 0 i (omega arith))))

  -- an item that is filled in stays
  pub item_stays : (q : P) (k : ℕ) → is_filled_in f p k ≡ true → q ≡ f.cut (f.full_of g) (is_left f p k)
      → q ≡ f.cut (f.full_of g) (is_left f p (k + 1))
  item_stays q k is left =
      left ∙ laws.cut_agrees (f.full_of g) (is_left f p k) (is_left f p (k + 1)) full_valid
      (λ i inside there. as_before k i (is_filled_in f p) is)

  -- any other item goes
  pub item_goes : (q r : P) (k : ℕ) → is_filled_in f p k ≡ false → q ≡ f.cut (f.full_of g) (is_left f p k)
      → r ≡ f.cut q (all_but k) → r ≡ f.cut (f.full_of g) (is_left f p (k + 1))
  item_goes q r k is left gone =
      gone ∙ ap (λ (s : P). f.cut s (all_but k)) left ∙ laws.cut_cut (f.full_of g) (is_left f p k) (all_but k) full_valid
      ∙ laws.cut_agrees (f.full_of g) (λ i. is_left f p k i && all_but k i) (is_left f p (k + 1)) full_valid
      (λ i inside there. goes_alone k i (is_filled_in f p) is)

  -- once all were tried the puzzle is filled in
  pub all_tried : (q : P) (count : ℕ) → count ≡ f.items_of (f.puzzle p).size → q ≡ f.cut (f.full_of g) (is_left f p count)
      → IsFilled f g p q
  all_tried q count all left =
      let full = f.full_of g in
      let keep = is_filled_in f p in
      let is : q ≡ f.cut full keep =
      left ∙ laws.cut_agrees full (is_left f p count) keep full_valid (λ i inside there.
      ap (λ (b : Bool). b || keep i) (lt-leb count i (omega (arith, all, subst (λ (w : ℕ). i < f.items_of w) full_size inside)))) in
      record {
        is_cut = is;
        valid = subst (λ (r : P). f.valid r) (sym is) (laws.cut_valid full keep full_valid);
        size = ap (λ (r : P). (f.puzzle r).size) is ∙ laws.cut_size full keep ∙ full_size;
        all = λ i first.
            let inside : i < f.items_of (f.puzzle p).size = omega (arith, first) in
            let in_full : i < f.items_of (f.puzzle full).size = subst (λ (w : ℕ). i < f.items_of w) (sym full_size) inside in
            let has : f.has full i ≡ true =
            laws.full_has g i solves.is_grid solves.latin (subst (λ (w : ℕ). i < f.items_of w) (sym solves.same_size) inside) in
            ap (λ (r : P). f.has r i) is ∙ laws.cut_has full keep i full_valid in_full
            ∙ and_from (f.has full i) (keep i) has (or_left (nat_lt i (first_count f (f.puzzle p).size Others)) (f.has p i) (lt-ltb i _ first));
        solves = subst (λ (r : P). Solves (f.puzzle r) g) (sym is)
            (laws.cut_solved full keep g full_valid (laws.full_solved g solves.is_grid solves.latin));
      }
