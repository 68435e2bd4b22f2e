-- One change more in a folder's list of changes: what has stood in the folder since a moment.
use Rattle.std.proofs.Common.{◌≡◌, ◌≤◌, ◌+◌, inl, inr, ℕ, List, [], ◌∷◌, ◌++◌, length, take, sym, ◌∙◌, ap, arith, length-append}
use Rattle.std.proofs.lemmas.List.{take_all, take-append-le}
use Rattle.std.proofs.lemmas.Bool.{cases_eq}
use Rattle.safe_save.specs.Changes.{image_of, ChangesGoOn}
use Rattle.safe_save.specs.declared.changes.FolderChange.{FolderChange}

module _ (old : List FolderChange) (change : FolderChange) where
  -- the changes with one more after them
  abbrev grown : List FolderChange
  grown = old ++ change ∷ []

  -- there is one change more
  size : length grown ≡ length old + 1
  size = length-append old (change ∷ [])

  front : (k : ℕ) (name : List ℕ) → k ≤ length old → image_of (take k grown) name ≡ image_of (take k old) name
  front k name le = ap (λ all. image_of all name) (take-append-le k old (change ∷ []) le)

  -- after one change more than there were, the folder is that of all changes
  whole : (k : ℕ) (name : List ℕ) → k ≡ length old + 1 → image_of (take k grown) name ≡ image_of grown name
  whole k name is = ap (λ all. image_of all name) (take_all k grown (omega (arith, size, is)))

  -- one change more adds to what has stood since a moment only what stands after it
  pub grows : ChangesGoOn old grown
  grows = record {
    later = omega (arith, size);
    nothing_else = λ t f le (k, since, among, same). elim (cases_eq k (length old + 1)) [
      | inl last ↦ inr (λ name. same name ∙ whole k name last)
      | inr earlier ↦ let within : k ≤ length old = omega (arith, among, size, earlier) in inl (k, since, within, λ name. same name ∙ front k name within)
    ];
    keeps = λ t f le (k, since, within, same). (k, since, omega (arith, within, size), λ name. same name ∙ sym (front k name within));
  }
