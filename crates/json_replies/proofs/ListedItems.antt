-- A list of what is said of each item grows item by item.
use Rattle.std.proofs.Common.{◌≡◌, ◌↔◌, ℕ, ◌+◌, ◌<◌, Bool, false, IsTrue, List, [], ◌∷◌, ◌++◌, length, inl, inr, subst, sym, ◌∙◌, ap, arith}
use Rattle.std.proofs.lemmas.Bool.{cases_eq}
use Rattle.std.proofs.lemmas.List.{get_or_append_left, get_or_push, length_push}
use Rattle.json_replies.specs.ListedItems.{listed_by}

-- what a list says of the first n items
pub record SaysOf (Holds : ℕ → Type 0) (n : ℕ) (listed : List Bool) : Type 0 where
  pub count : length listed ≡ n
  pub each : (i : ℕ) → i < n → IsTrue (listed_by listed i) ↔ Holds i

-- with what is said of one item more at its end, a list says it of n + 1 items
pub says_more : (Holds : ℕ → Type 0) (n : ℕ) (old new : List Bool) (b : Bool) → new ≡ old ++ b ∷ [] → IsTrue b ↔ Holds n → SaysOf Holds n old
    → SaysOf Holds (n + 1) new
says_more Holds n old new b grown last said = record {
  count = ap length grown ∙ length_push old b ∙ ap (λ k. k + 1) said.count;
  each = λ i below. subst (λ (l : List Bool). IsTrue (listed_by l i) ↔ Holds i) (sym grown) (elim (cases_eq i n) [
    | inl same ↦
        subst (λ (k : ℕ). IsTrue (listed_by (old ++ b ∷ []) k) ↔ Holds k) (sym same)
        (subst (λ (t : Bool). IsTrue t ↔ Holds n) (sym (get_or_push old b false n said.count)) last)
    | inr other ↦
        let small : i < n = omega (arith, below, other) in
        subst (λ (t : Bool). IsTrue t ↔ Holds i) (sym (get_or_append_left old (b ∷ []) false i (omega (arith, small, said.count))))
        (said.each i small)
  ]);
}
