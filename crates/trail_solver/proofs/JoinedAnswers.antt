-- Answers as solutions join them.
use Rattle.std.proofs.Common.{◌⊎◌, refl, sym, ◌∙◌, subst, ⊎_elim}
use Rattle.latin_board.specs.Squares.{GridValue}
use Rattle.trail_solver.specs.declared.answer.Answer.{Answer}
use Rattle.trail_solver.specs.declared.answer.Answer.TheVariants.{None, One, Several}
use Rattle.trail_solver.specs.Answers.{Fits}
use Rattle.trail_solver.specs.Inner.Added.{Adds}

-- an answer on some solutions is one on the same solutions under another name
pub fits_same : (A B : GridValue → Type 0) (answer : Answer) → ((g : GridValue) → A g → B g) → ((g : GridValue) → B g → A g) → Fits A answer
    → Fits B answer
fits_same A B None to from f = λ g b. f g (from g b)
fits_same A B (One g) to from f = (to g f.0, λ h b. f.1 h (from h b))
fits_same A B (Several g h) to from (first, second, apart) = (to g first, to h second, apart)

-- what is added of one kind of grids is added of the same kind under another name
pub adds_same : (A B : GridValue → Type 0) (found answer : Answer) → ((g : GridValue) → A g → B g) → ((g : GridValue) → B g → A g)
    → Adds A found answer → Adds B found answer
adds_same A B None answer to from f = fits_same A B answer to from f
adds_same A B (One g) None to from f = f
adds_same A B (One g) (One k) to from f = (f.0, λ h b. f.1 h (from h b))
adds_same A B (One g) (Several k h) to from (same, second, apart) = (same, to h second, apart)
adds_same A B (Several g h) answer to from f = f

-- where there is no solution to join, the answer stays
pub adds_nothing : (A : GridValue → Type 0) (found : Answer) → ((g : GridValue) → A g → ⊥) → Adds A found found
adds_nothing A None n = n
adds_nothing A (One g) n = (refl, λ h a. absurd (n h a))
adds_nothing A (Several g h) n = refl

-- where A's solutions join, and then B's, those of C, which is both, have joined
pub adds_then : (A B C : GridValue → Type 0) (a b c : Answer) → ((g : GridValue) → A g → C g) → ((g : GridValue) → B g → C g)
    → ((g : GridValue) → C g → A g ⊎ B g) → Adds A a b → Adds B b c → Adds C a c
adds_then A B C None None None ac bc split f h = λ g m. ⊎_elim (f g) (h g) (split g m)
adds_then A B C None None (One k) ac bc split f h = (bc k h.0, λ g m. ⊎_elim (λ l. absurd (f g l)) (h.1 g) (split g m))
adds_then A B C None None (Several k l) ac bc split f (first, second, apart) = (bc k first, bc l second, apart)
adds_then A B C None (One j) None ac bc split f h = absurd h
adds_then A B C None (One j) (One k) ac bc split f h =
    (let P : GridValue → Type 0 = C in subst P (sym h.0) (ac j f.0), λ g m. ⊎_elim (λ l. f.1 g l ∙ sym h.0) (λ l. h.1 g l ∙ sym h.0) (split g m))
adds_then A B C None (One j) (Several k l) ac bc split f (same, second, apart) =
    (let P : GridValue → Type 0 = C in subst P (sym same) (ac j f.0), bc l second, apart)
adds_then A B C None (Several j l) c ac bc split (first, second, apart) h =
    let P : Answer → Type 0 = λ x. Fits C x in subst P (sym h) (ac j first, ac l second, apart)
adds_then A B C (One i) None c ac bc split f h = absurd f
adds_then A B C (One i) (One j) None ac bc split f h = absurd h
adds_then A B C (One i) (One j) (One k) ac bc split f h =
    (h.0 ∙ f.0, λ g m. ⊎_elim (f.1 g) (λ l. h.1 g l ∙ f.0) (split g m))
adds_then A B C (One i) (One j) (Several k l) ac bc split f (same, second, apart) = (same ∙ f.0, bc l second, apart)
adds_then A B C (One i) (Several j l) c ac bc split (same, second, apart) h =
    let P : Answer → Type 0 = λ x. Adds C (One i) x in subst P (sym h) (same, ac l second, apart)
adds_then A B C (Several i l) b c ac bc split f h =
    let P : Answer → Type 0 = λ x. Adds B x c in subst P f h
