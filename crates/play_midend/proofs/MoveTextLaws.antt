-- A text is read as the move that it spells, and each move's text is read.
use Rattle.std.proofs.lemmas.Bool.Decides.{nat_tests}
use Rattle.std.proofs.Common.{◌≡◌, ℕ, zero, ◌≤◌, ℤ, pos, negsuc, false, ◌==◌, cond, List, [], ◌∷◌, ◌++◌, codes, bytes_eq, Option, Some, None, option_map, Result, Ok, Err, IfOk, IfErr, ok_or, refl, sym, ap, ◌∙◌, subst, arith}
use Rattle.std.specs.Fmt.{decimal}
use Rattle.std.proofs.lemmas.Fmt.{decimal_digit}
use Rattle.std.proofs.lemmas.Slice.Eq.{bytes_eq-Decides}
use Rattle.std.proofs.lemmas.Bool.{cond_both}
use Rattle.byte_text.specs.Cuts.{Lacks, before, behind}
use Rattle.byte_text.specs.Decimals.{decimal_value}
use Rattle.byte_text.proofs.CutLaws.{cut_parts, before_at, behind_at}
use Rattle.byte_text.proofs.DecimalLaws.{number_taken, number_again, lacks_decimal}
use Rattle.play_midend.specs.declared.moves.Move.{Move}
use Rattle.play_midend.specs.declared.moves.Move.TheVariants.{Real, Pencil, MarkAll, Solve, Restart, Done}
use Rattle.play_midend.specs.declared.fault.PlayFault.{PlayFault}
use Rattle.play_midend.specs.MoveTexts.{three_text, coordinate_text, move_text, AreBytes, IsCoordinate, IsWritable, IsMoveText, move_fault, all_three, three_at, coordinate_at, both, two_at, solution_at, mark_all_at, move_by, move_at}
use Rattle.play_midend.proofs.OptionSteps.{map_taken, and_then_taken, ok_or_taken}
use Rattle.play_midend.proofs.SolutionTexts.{solution_digits_taken, solution_digits_again}
use Rattle.byte_text.specs.Bytes.{capital_r, capital_p, capital_m, capital_s, capital_d, comma}

-- the text is these three numbers, each up to 255, with commas between them
abbrev IsThree : List ℕ → ℕ × ℕ × ℕ → Type 0
IsThree text (x, y, n) = AreBytes x y n × (text ≡ three_text x y n)

all_three_taken : (x y n : Option ℕ) (i j k : ℕ) → all_three x y n ≡ Some (i, j, k) → (x ≡ Some i) × (y ≡ Some j) × (n ≡ Some k)
all_three_taken x y n i j k e = grind (arith, nat_tests)

three_taken : (text : List ℕ) (t : ℕ × ℕ × ℕ) → three_at text ≡ Some t → IsThree text t
three_taken text (i, j, k) read =
    let first = and_then_taken _ (behind comma text) (i, j, k) read in
    let second = and_then_taken _ (behind comma first.value) (i, j, k) first.rest in
    let (read_x, read_y, read_n) = all_three_taken _ _ _ i j k second.rest in
    let x = number_taken 255 i (before comma text) (omega arith) read_x in
    let y = number_taken 255 j (before comma first.value) (omega arith) read_y in
    let n = number_taken 255 k second.value (omega arith) read_n in
    let e : text ≡ before comma text ++ (comma ∷ first.value) = cut_parts comma text first.value first.gives in
    let f : first.value ≡ before comma first.value ++ (comma ∷ second.value) = cut_parts comma first.value second.value second.gives in
    let g : first.value ≡ decimal j ++ (comma ∷ decimal k) =
    f ∙ ap (λ front. front ++ (comma ∷ second.value)) y.0 ∙ ap (λ end. decimal j ++ (comma ∷ end)) n.0 in (
      record { x_is = x.1; y_is = y.1; n_is = n.1 },
      e ∙ ap (λ front. front ++ (comma ∷ first.value)) x.0 ∙ ap (λ end. decimal i ++ (comma ∷ end)) g,
    )

three_again : (x y n : ℕ) → AreBytes x y n → three_at (three_text x y n) ≡ Some (x, y, n)
three_again x y n h =
    let lacks : (k : ℕ) → k ≤ 255 → Lacks comma (decimal k) = λ k within. lacks_decimal comma k (omega arith) refl in
    let back : (k : ℕ) → k ≤ 255 → decimal_value 255 (decimal k) ≡ Some k = λ k within. number_again 255 k within (omega arith) in
    let rest : List ℕ = decimal y ++ (comma ∷ decimal n) in
    rw (behind_at comma (decimal x) rest (lacks x h.x_is), before_at comma (decimal x) rest (lacks x h.x_is), behind_at comma (decimal y) (decimal n) (lacks y h.y_is), before_at comma (decimal y) (decimal n) (lacks y h.y_is), back x h.x_is, back y h.y_is, back n h.n_is) refl

-- the text of the coordinate -1 of a done mark's place
pub minus_one : coordinate_text (negsuc zero) ≡ codes "-1"
minus_one = ap (λ ds. 45 ∷ ds) (decimal_digit 1 (omega arith))

coordinate_taken : (text : List ℕ) (z : ℤ) → coordinate_at text ≡ Some z → IsCoordinate z × (text ≡ coordinate_text z)
coordinate_taken text z =
    cond_both (bytes_eq text (codes "-1")) _ _ (λ (o : Option ℤ). o ≡ Some z → IsCoordinate z × (text ≡ coordinate_text z)) (
    λ is read.
    let e : negsuc zero ≡ z = cc in
    let same : text ≡ codes "-1" = (bytes_eq-Decides text (codes "-1")).0 is in
    subst (λ (v : ℤ). IsCoordinate v × (text ≡ coordinate_text v)) e (refl, same ∙ sym minus_one)
    ) (
    λ other read.
    let number = map_taken pos (decimal_value 127 text) z read in
    let taken = number_taken 127 number.value text (omega arith) number.gives in
    subst (λ (v : ℤ). IsCoordinate v × (text ≡ coordinate_text v)) number.rest (taken.1, taken.0)
    )

not_minus : (text : List ℕ) → Lacks 45 text → bytes_eq text (codes "-1") ≡ false
not_minus text h = grind (arith, nat_tests, bytes_eq-Decides)

coordinate_again : (z : ℤ) → IsCoordinate z → (Lacks comma (coordinate_text z)) × (coordinate_at (coordinate_text z) ≡ Some z)
coordinate_again (pos n) h = (
  lacks_decimal comma n (omega arith) refl,
  rw (not_minus (decimal n) (lacks_decimal 45 n (omega arith) refl), number_again 127 n h (omega arith)) refl,
)
coordinate_again (negsuc n) h =
    subst (λ (k : ℕ). Lacks comma (coordinate_text (negsuc k)) × (coordinate_at (coordinate_text (negsuc k)) ≡ Some (negsuc k))) (sym h)
    (subst (λ (text : List ℕ). Lacks comma text × (coordinate_at text ≡ Some (negsuc zero))) (sym minus_one)
    ((λ e. absurd (omega arith), (λ e. absurd (omega arith), tt)), refl))

-- the text is these two coordinates, with a comma between them
abbrev IsTwo : List ℕ → ℤ × ℤ → Type 0
IsTwo text t = IsCoordinate t.0 × IsCoordinate t.1 × (text ≡ coordinate_text t.0 ++ (comma ∷ coordinate_text t.1))

both_taken : (x y : Option ℤ) (t : ℤ × ℤ) → both x y ≡ Some t → (x ≡ Some t.0) × (y ≡ Some t.1)
both_taken x y t e = grind (arith, nat_tests)

two_taken : (text : List ℕ) (t : ℤ × ℤ) → two_at text ≡ Some t → IsTwo text t
two_taken text t read =
    let cut = and_then_taken _ (behind comma text) t read in
    let each = both_taken _ _ t cut.rest in
    let x = coordinate_taken (before comma text) t.0 each.0 in
    let y = coordinate_taken cut.value t.1 each.1 in
    let e : text ≡ before comma text ++ (comma ∷ cut.value) = cut_parts comma text cut.value cut.gives in
    (x.0, y.0, e ∙ ap (λ front. front ++ (comma ∷ cut.value)) x.1 ∙ ap (λ end. coordinate_text t.0 ++ (comma ∷ end)) y.1)

two_again : (x y : ℤ) → IsCoordinate x → IsCoordinate y → two_at (coordinate_text x ++ (comma ∷ coordinate_text y)) ≡ Some (x, y)
two_again x y hx hy = grind (arith, nat_tests, coordinate_again, behind_at, before_at)

-- if a move is read of a text that begins with b, the text is that move's
abbrev ReadsMove : Option Move → ℕ → List ℕ → Move → Type 0
ReadsMove read b bs m = read ≡ Some m → IsMoveText m (b ∷ bs)

made_taken : {T : Type 0} (make : T → Move) (o : Option T) (b : ℕ) (bs : List ℕ) (m : Move)
    → ((t : T) → o ≡ Some t → IsMoveText (make t) (b ∷ bs)) → ReadsMove (option_map make o) b bs m
made_taken make o b bs m text read = grind (arith, nat_tests, map_taken)

real_taken : (bs : List ℕ) (m : Move) → ReadsMove (option_map (λ (x, y, n). Real x y n) (three_at bs)) capital_r bs m
real_taken bs m =
    made_taken (λ (x, y, n). Real x y n) (three_at bs) capital_r bs m
    (λ t is. let h = three_taken bs t is in record { writable = h.0; spelled = ap (λ xs. capital_r ∷ xs) h.1 })

pencil_taken : (bs : List ℕ) (m : Move) → ReadsMove (option_map (λ (x, y, n). Pencil x y n) (three_at bs)) capital_p bs m
pencil_taken bs m =
    made_taken (λ (x, y, n). Pencil x y n) (three_at bs) capital_p bs m
    (λ t is. let h = three_taken bs t is in record { writable = h.0; spelled = ap (λ xs. capital_p ∷ xs) h.1 })

mark_all_taken : (bs : List ℕ) (m : Move) → ReadsMove (mark_all_at bs) capital_m bs m
mark_all_taken bs m read = grind (arith, nat_tests)

solve_taken : (bs : List ℕ) (m : Move) → ReadsMove (option_map Solve (solution_at bs)) capital_s bs m
solve_taken bs m =
    made_taken Solve (solution_at bs) capital_s bs m
    (λ g is. let h = solution_digits_taken bs g is in record { writable = h.0; spelled = ap (λ xs. capital_s ∷ xs) h.1 })

done_taken : (bs : List ℕ) (m : Move) → ReadsMove (option_map (λ (x, y). Done x y) (two_at bs)) capital_d bs m
done_taken bs m =
    made_taken (λ (x, y). Done x y) (two_at bs) capital_d bs m (λ t is.
    let (x_is, y_is, spelled) = two_taken bs t is in
    record { writable = (x_is, y_is); spelled = ap (λ xs. capital_d ∷ xs) spelled })

-- one letter's row of the table: its move, or what the rows after it give
letter_taken : (b k : ℕ) (bs : List ℕ) (m : Move) (here later : Option Move) → ReadsMove here k bs m → ReadsMove later b bs m
    → ReadsMove (cond (b == k) here later) b bs m
letter_taken b k bs m here later this others = grind (arith, nat_tests)

-- what is read of a text is the move that it spells
pub move_taken : (text : List ℕ) (m : Move) → move_by text ≡ Some m → IsMoveText m text
move_taken [] m = λ read. cc
move_taken (b ∷ bs) m =
    letter_taken b capital_r bs m _ _ (real_taken bs m)
    (letter_taken b capital_p bs m _ _ (pencil_taken bs m)
    (letter_taken b capital_m bs m _ _ (mark_all_taken bs m)
    (letter_taken b capital_s bs m _ _ (solve_taken bs m)
    (letter_taken b capital_d bs m _ _ (done_taken bs m) (λ read. cc)))))

spelled_again : (m : Move) → IsWritable m → move_by (move_text m) ≡ Some m
spelled_again (Real x y n) h = rw (three_again x y n h) refl
spelled_again (Pencil x y n) h = rw (three_again x y n h) refl
spelled_again MarkAll h = refl
spelled_again (Solve g) h = rw (solution_digits_again g h) refl
spelled_again Restart h = absurd h
spelled_again (Done x y) h = rw (two_again x y h.0 h.1) refl

-- each move's text is read
pub move_again : (text : List ℕ) (m : Move) → IsMoveText m text → move_by text ≡ Some m
move_again text m h = rw h.spelled (spelled_again m h.writable)

-- if the answer of reading is a move, the text is that move's
pub read_found : (text : List ℕ) (result : Result Move PlayFault) → result ≡ move_at text → IfOk result (λ m. IsMoveText m text)
unfolding move_at
read_found text (Ok m) is = move_taken text m (ok_or_taken (move_by text) (move_fault text) m (sym is))
read_found text (Err e) is = tt

-- a text of a move is read as that move and no other
pub read_only : (text : List ℕ) (result : Result Move PlayFault) → result ≡ move_at text → (m : Move) → IsMoveText m text → result ≡ Ok m
unfolding move_at
read_only text result is m h = is ∙ rw (move_again text m h) refl

pub read_fault : (text : List ℕ) (result : Result Move PlayFault) → result ≡ move_at text → IfErr result (λ fault. fault ≡ move_fault text)
unfolding move_at
read_fault text (Ok m) is = tt
read_fault text (Err e) is =
    elim (move_by text) as (λ o. Err e ≡ ok_or o (move_fault text) → e ≡ move_fault text) [ None ↦ λ e. cc | Some k ↦ λ e. cc ] is

-- what `read_move` promises, for the prover's search
pub ruleset reads = (read_found, read_fault)
