-- Bytes that are taken one piece after another.
use Rattle.std.proofs.Common.{ℕ, ◌+◌, ◌-◌, ◌≡◌, Option, List, length, take, drop, sym, subst, arith, length-drop}
use Rattle.std.proofs.Math.Seq.{take-add}
use Rattle.std.proofs.lemmas.List.{take_all}
use Rattle.std.proofs.KnownBytes.{Appends-trans}
use Rattle.std.specs.Io.KnownBytes.{Appends}

-- if the first n bytes were taken, and then m of the rest, the first n + m bytes were
pub Appends-piece : (a b c : Option (List ℕ)) (bytes : List ℕ) (n m : ℕ) → Appends a b (take n bytes)
    → Appends b c (take m (take (length bytes - n) (drop n bytes))) → Appends a c (take (n + m) bytes)
Appends-piece a b c bytes n m p q =
    let rest : take (length bytes - n) (drop n bytes) ≡ drop n bytes = take_all _ _ (omega (arith, length-drop n bytes)) in
    let more : Appends b c (take m (drop n bytes)) = subst (λ l. Appends b c (take m l)) rest q in
    subst (Appends a c) (sym (take-add n m bytes)) (Appends-trans a b c (take n bytes) (take m (drop n bytes)) p more)
