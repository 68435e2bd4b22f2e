-- A record that is read is one with which the text begins, and one with which it begins is read.
use Rattle.std.proofs.lemmas.Bool.Decides.{nat_tests}
use Rattle.std.proofs.Common.{◌≡◌, ℕ, ◌<◌, Bool, true, false, ◌==◌, ◌&&◌, nat_le, List, [], ◌∷◌, ◌++◌, length, Some, None, Ok, Err, cond, refl, sym, ap, ◌∙◌, subst, arith, length-append}
use Rattle.std.proofs.Math.Bool.{and-true, and-false}
use Rattle.std.proofs.lemmas.Bool.{eqb-true, cond_both}
use Rattle.std.proofs.lemmas.Option.{cond_some}
use Rattle.std.proofs.lemmas.List.{take-append-drop, length-take-le, take_at, drop_at}
use Rattle.byte_text.specs.Bytes.{space, colon}
use Rattle.byte_text.specs.Cuts.{Lacks, behind}
use Rattle.byte_text.specs.Decimals.{digit_onto, number_from}
use Rattle.byte_text.proofs.CutLaws.{cut_parts, before_at, behind_at, lacks_before}
use Rattle.play_save.specs.declared.fault.LoadFault.{LoadFault}
use Rattle.play_save.specs.declared.fault.LoadFault.TheVariants.{Malformed}
use Rattle.play_save.specs.Records.{Entry, is_break, begins_with_break, AreBreaks, is_empty, unpadded, length_at, BeginsWith, skip_breaks, field_at, value_at, value_behind, record_of, record_behind, record_or_end, record_at}
use Rattle.play_midend.proofs.OptionSteps.{map_taken, and_then_taken, ok_or_taken, where_taken}

-- one more byte at the end of a name: a blank is dropped, and after any other byte nothing is
pub unpadded-snoc : (xs : List ℕ) (b : ℕ) → unpadded (xs ++ b ∷ []) ≡ cond (b == space) (unpadded xs) (xs ++ b ∷ [])
unpadded-snoc [] b = ap (λ t. cond t [] (b ∷ [])) (and-true (b == space))
unpadded-snoc (x ∷ xs) b = rw (unpadded-snoc xs b) (by_blank (b == space))
  where
    some : (ys : List ℕ) → is_empty (ys ++ b ∷ []) ≡ false
    some [] = refl
    some (y ∷ ys) = refl

    by_blank : (t : Bool)
        → cond ((x == space) && is_empty (cond t (unpadded xs) (xs ++ b ∷ []))) [] (x ∷ cond t (unpadded xs) (xs ++ b ∷ []))
        ≡ cond t (unpadded (x ∷ xs)) (x ∷ (xs ++ b ∷ []))
    by_blank true = refl
    by_blank false = rw (some xs, and-false) refl

-- a text is its line breaks in front, and then the text without them
skip_split : (bs : List ℕ) → (breaks : List ℕ) × (bs ≡ breaks ++ skip_breaks bs) × AreBreaks breaks
skip_split [] = ([], refl, tt)
skip_split (b ∷ bs) =
    cond_both (is_break b) _ _ (λ (rest : List ℕ). (breaks : List ℕ) × (b ∷ bs ≡ breaks ++ rest) × AreBreaks breaks)
    (λ is. let (front, split, breaks) = skip_split bs in (b ∷ front, ap (λ xs. b ∷ xs) split, (is, breaks))) (λ is. ([], refl, tt))

skip_no_break : (bs : List ℕ) → begins_with_break (skip_breaks bs) ≡ false
skip_no_break [] = refl
skip_no_break (b ∷ bs) =
    cond_both (is_break b) _ _ (λ (rest : List ℕ). begins_with_break rest ≡ false) (λ is. skip_no_break bs) (λ is. is)

pub skip_again : (breaks rest : List ℕ)
    → AreBreaks breaks → begins_with_break rest ≡ false → skip_breaks (breaks ++ rest) ≡ rest
skip_again [] [] are other = refl
skip_again [] (b ∷ rest) are other = rw other refl
skip_again (b ∷ breaks) rest are other = rw are.0 (skip_again breaks rest are.1 other)

pub skip_all : (bs : List ℕ) → AreBreaks bs → skip_breaks bs ≡ []
skip_all [] are = refl
skip_all (b ∷ bs) are = rw are.0 (skip_all bs are.1)

all_skipped : (bs : List ℕ) → skip_breaks bs ≡ [] → AreBreaks bs
all_skipped [] none = tt
all_skipped (b ∷ bs) none =
    cond_both (is_break b) _ _ (λ (rest : List ℕ). rest ≡ [] → AreBreaks (b ∷ bs))
    (λ is empty. (is, all_skipped bs empty)) (λ is empty. cc) none

-- digits that are read as a number have no colon among them
digits_lack_colon : (n : ℕ) (bs : List ℕ) (m : ℕ) → number_from 99999999 n bs ≡ Some m → Lacks colon bs
digits_lack_colon n [] m is = tt
digits_lack_colon n (b ∷ bs) m is =
    let step = and_then_taken (λ k. number_from 99999999 k bs) (digit_onto 99999999 n b) m is in (
      λ colon. let none : digit_onto 99999999 n b ≡ None =
          rw colon refl in let some = step.gives in cc,
      digits_lack_colon step.value bs m step.rest,
    )

length_lacks_colon : (digits : List ℕ) (n : ℕ) → length_at digits ≡ Some n → Lacks colon digits
length_lacks_colon digits n is =
    digits_lack_colon 0 digits n (where_taken (nat_le 1 (length digits) && nat_le (length digits) 8) _ n is).1

-- a text with a colon is what stands before the first one, this colon, and what stands after it
field_taken : (bs : List ℕ) (parts : List ℕ × List ℕ)
    → field_at bs ≡ Some parts → (bs ≡ parts.0 ++ (colon ∷ parts.1)) × Lacks colon parts.0
field_taken bs parts is = grind (arith, nat_tests, map_taken, cut_parts, lacks_before)

field_again : (front rest : List ℕ) → Lacks colon front → field_at (front ++ (colon ∷ rest)) ≡ Some (front, rest)
field_again front rest lacks = rw (behind_at colon front rest lacks, before_at colon front rest lacks) refl

-- a value of a length and the rest after it are, together, the text
value_taken : (n : ℕ) (bs : List ℕ) (parts : List ℕ × List ℕ)
    → value_at n bs ≡ Some parts → (length parts.0 ≡ n) × (bs ≡ parts.0 ++ parts.1)
value_taken n bs parts is = grind (arith, nat_tests, cond_some, length-take-le, take-append-drop)

value_again : (value rest : List ℕ) → value_at (length value) (value ++ rest) ≡ Some (value, rest)
value_again value rest = grind (arith, nat_tests, length-append, take_at, drop_at)

-- a length, a colon, a value of this length and the rest are read as this value and this rest
sized_again : (digits value rest : List ℕ)
    → length_at digits ≡ Some (length value) → value_behind (digits ++ (colon ∷ (value ++ rest))) ≡ Some (value, rest)
sized_again digits value rest sized =
    rw (field_again digits (value ++ rest) (length_lacks_colon digits (length value) sized), sized) (value_again value rest)

-- if a record is read behind line breaks, the text with them begins with this record, and the other way
keyed_taken : (front bs : List ℕ) (e : Entry) (rest : List ℕ) → AreBreaks front → begins_with_break bs ≡ false
    → record_behind bs ≡ Some (e, rest) → BeginsWith e rest (front ++ bs)
unfolding record_behind
keyed_taken front bs e rest breaks no_break is =
    let field = and_then_taken _ (field_at bs) (e, rest) is in
    let key = field.value.0 in
    let cut = field_taken bs field.value field.gives in
    let made = where_taken (length key == 8) _ (e, rest) field.rest in
    let value = map_taken (record_of key) (value_behind field.value.1) (e, rest) made.1 in
    let sized = and_then_taken _ (field_at field.value.1) value.value value.gives in
    let size = and_then_taken _ (length_at sized.value.0) value.value sized.rest in
    let own = field_taken field.value.1 sized.value sized.gives in
    let parts = value_taken size.value sized.value.1 value.value size.rest in
    let eight = eqb-true (length key) 8 made.0 in
    let begins : BeginsWith (record_of key value.value).0 (record_of key value.value).1 (front ++ bs) = record {
      breaks = front;
      key = key;
      digits = sized.value.0;
      spelled = ap (λ xs. front ++ xs) (cut.0 ∙ ap (λ xs. key ++ (colon ∷ xs)) (own.0 ∙ ap (λ xs. sized.value.0 ++ (colon ∷ xs)) parts.1));
      are_breaks = breaks;
      eight = eight;
      no_colon = cut.1;
      no_break = no_break_in key _ eight (ap begins_with_break (sym cut.0) ∙ no_break);
      name_is = refl;
      length_is = size.gives ∙ ap Some (sym parts.0);
    } in
    subst (λ (p : Entry × List ℕ). BeginsWith p.0 p.1 (front ++ bs)) value.rest begins
  where
    no_break_in : (xs ys : List ℕ) → length xs ≡ 8 → begins_with_break (xs ++ ys) ≡ false → begins_with_break xs ≡ false
    no_break_in [] ys eight is_none = absurd (omega arith)
    no_break_in (x ∷ xs) ys eight is_none = is_none

keyed_again : (e : Entry) (rest key digits : List ℕ)
    → length key ≡ 8 → Lacks colon key → e.key ≡ unpadded key → length_at digits ≡ Some (length e.value)
    → record_behind (key ++ (colon ∷ (digits ++ (colon ∷ (e.value ++ rest))))) ≡ Some (e, rest)
unfolding record_behind
keyed_again e rest key digits eight lacks name sized = grind (arith, nat_tests, field_again, sized_again)

-- what is read as a record, and not as the end, is the record that begins with its key
or_end_taken : (bs : List ℕ) (e : Entry) (rest : List ℕ)
    → record_or_end bs ≡ Ok (Some (e, rest)) → record_behind bs ≡ Some (e, rest)
or_end_taken bs e rest is = grind (arith, nat_tests, map_taken, ok_or_taken)

or_end_again : (bs : List ℕ) (e : Entry) (rest : List ℕ)
    → 0 < length bs → record_behind bs ≡ Some (e, rest) → record_or_end bs ≡ Ok (Some (e, rest))
or_end_again [] e rest some is = absurd (omega arith)
or_end_again (b ∷ bs) e rest some is = rw is refl

-- a record that is read is what the text begins with
pub record_taken : (bs : List ℕ) (e : Entry) (rest : List ℕ) → record_at bs ≡ Ok (Some (e, rest)) → BeginsWith e rest bs
unfolding record_at
record_taken bs e rest is =
    let (front, split, breaks) = skip_split bs in
    subst (BeginsWith e rest) (sym split)
    (keyed_taken front (skip_breaks bs) e rest breaks (skip_no_break bs) (or_end_taken (skip_breaks bs) e rest is))

-- what a text begins with is read as its record
pub record_again : (bs : List ℕ) (e : Entry) (rest : List ℕ) → BeginsWith e rest bs → record_at bs ≡ Ok (Some (e, rest))
unfolding record_at
record_again bs e rest h = grind (arith, nat_tests, skip_again, length-append, or_end_again, keyed_again)

-- if the end is read, no byte is left but line breaks
or_end_none : (bs : List ℕ) → record_or_end bs ≡ Ok None → bs ≡ []
or_end_none bs is = grind (arith, nat_tests, map_taken, ok_or_taken)

pub end_taken : (bs : List ℕ) → record_at bs ≡ Ok None → AreBreaks bs
unfolding record_at
end_taken bs is = all_skipped bs (or_end_none (skip_breaks bs) is)

-- line breaks alone are read as the end
pub end_again : (bs : List ℕ) → AreBreaks bs → record_at bs ≡ Ok None
unfolding record_at
end_again bs are = ap record_or_end (skip_all bs are)

-- the only fault of reading a record is Malformed
or_end_fault : (bs : List ℕ) (fault : LoadFault) → record_or_end bs ≡ Err fault → fault ≡ Malformed
or_end_fault bs fault is = grind (arith, nat_tests)

-- what is no record is Malformed
pub record_fault : (bs : List ℕ) (fault : LoadFault) → record_at bs ≡ Err fault → fault ≡ Malformed
unfolding record_at
record_fault bs fault is = or_end_fault (skip_breaks bs) fault is

-- a record takes at least a byte
pub record_shorter : (bs : List ℕ) (e : Entry) (rest : List ℕ)
    → record_at bs ≡ Ok (Some (e, rest)) → length rest < length bs
record_shorter bs e rest is =
    let h = record_taken bs e rest is in
    let end = colon ∷ (h.digits ++ (colon ∷ (e.value ++ rest))) in
    let value = colon ∷ (e.value ++ rest) in
    let front = length-append h.breaks (h.key ++ end) in
    let behind = length-append h.digits value in
    omega (arith, ap length h.spelled, front, length-append h.key end, behind, length-append e.value rest)
