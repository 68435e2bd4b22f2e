-- The clue part of a Towers description: what is read is written so, and what is written so is read.
use Rattle.std.proofs.lemmas.Bool.Decides.{nat_tests}
use Rattle.std.proofs.Common.{◌≡◌, ◌≢◌, ℕ, ◌+◌, ◌*◌, ◌<◌, ◌≤◌, true, List, [], ◌∷◌, length, map, Ok, refl, sym, ap, ◌∙◌, subst, arith}
use Rattle.std.specs.List.{AllByRecursion, list_all, join_with_byte}
use Rattle.std.proofs.lemmas.List.{length-map}
use Rattle.std.proofs.lemmas.List.Splits.{join_with_byte-slice_split}
use Rattle.std.proofs.lemmas.Bool.{and_parts, and_from, ne_eqb}
use Rattle.byte_text.specs.Cuts.{Lacks}
use Rattle.byte_text.proofs.CutLaws.{lacks_join, pieces_join}
use Rattle.byte_text.proofs.ReadingLaws.{bind_taken, bind_again}
use Rattle.byte_text.specs.Bytes.{digit_zero, comma, slash}
use Rattle.game_texts.specs.declared.id_fault.IdFault.TheVariants.{BadClue}
use Rattle.game_texts.specs.IdFaults.{exactly}
use Rattle.towers_game.specs.TowersText.{clue_field, clue_part, fields, is_clue_field, clue_in, clues_in, clues_at}
use Rattle.game_texts.specs.Laws.Exactly.{exactly_taken, exactly_again}
use Rattle.game_texts.specs.Laws.Refusals.{refused_else}

-- the field of a clue that is there is its digit
clue_field_some : (clue : ℕ) → clue ≢ 0 → clue_field clue ≡ (digit_zero + clue) ∷ []
clue_field_some clue some = rw (ne_eqb clue 0 some) refl

-- a field that is read is the one of its clue, which is at most the width
field_taken : (w : ℕ) (f : List ℕ) → is_clue_field w f ≡ true → (clue_field (clue_in f) ≡ f) × (clue_in f ≤ w)
field_taken w f is = grind (arith, nat_tests, clue_field_some)

-- the field of a clue up to the width is read as that clue
field_again : (w clue : ℕ) → clue ≤ w → (is_clue_field w (clue_field clue) ≡ true) × (clue_in (clue_field clue) ≡ clue)
field_again w clue within = grind (arith, nat_tests)

-- fields that are read are those of their clues, which are at most the width
fields_taken : (w : ℕ) (fs : List (List ℕ)) → list_all (is_clue_field w) fs ≡ true
    → (map clue_field (map clue_in fs) ≡ fs) × AllByRecursion (λ clue. clue ≤ w) (map clue_in fs)
fields_taken w [] all = (refl, tt)
fields_taken w (f ∷ fs) all =
    let tests = and_parts (is_clue_field w f) (list_all (is_clue_field w) fs) all in
    let one = field_taken w f tests.0 in
    let more = fields_taken w fs tests.1 in
    let whole : clue_field (clue_in f) ∷ map clue_field (map clue_in fs) ≡ f ∷ fs =
    let e = one.0 in let es = more.0 in cc in
    (whole, (one.1, more.1))

-- the fields of clues up to the width are read as those clues
fields_again : (w : ℕ) (clues : List ℕ) → AllByRecursion (λ clue. clue ≤ w) clues
    → (list_all (is_clue_field w) (map clue_field clues) ≡ true) × (map clue_in (map clue_field clues) ≡ clues)
fields_again w [] within = (refl, refl)
fields_again w (clue ∷ clues) within =
    let one = field_again w clue within.0 in
    let more = fields_again w clues within.1 in
    let whole : clue_in (clue_field clue) ∷ map clue_in (map clue_field clues) ≡ clue ∷ clues =
    let e = one.1 in let es = more.1 in cc in
    (and_from _ _ one.0 more.0, whole)

-- no field has a byte that is not a digit
field_lacks : (c clue : ℕ) → c < digit_zero + 1 → Lacks c (clue_field clue)
field_lacks c clue small = grind (arith, nat_tests)

-- no fields of clues have a byte that is not a digit
fields_lack : (c : ℕ) (clues : List ℕ) → c < digit_zero + 1 → AllByRecursion (Lacks c) (map clue_field clues)
fields_lack c [] small = tt
fields_lack c (clue ∷ clues) small = (field_lacks c clue small, fields_lack c clues small)

-- a clue part has no comma
pub clue_part_lacks_comma : (clues : List ℕ) → Lacks comma (clue_part clues)
clue_part_lacks_comma clues =
    lacks_join comma slash (map clue_field clues) (omega arith) (fields_lack comma clues (omega arith))

-- clues that are read are those that the text spells, one for each place and none above the width
pub clues_taken : (w : ℕ) (part clues : List ℕ) → clues_at w part ≡ Ok clues
    → (part ≡ clue_part clues) × (length clues ≡ 4 * w) × AllByRecursion (λ clue. clue ≤ w) clues
unfolding clues_at
clues_taken w part clues read =
    let steps = bind_taken (exactly (4 * w) (fields part)) (clues_in w) clues read in
    let (same, count) = exactly_taken (4 * w) (fields part) steps.value steps.gives in
    let (readable, said) =
    refused_else (list_all (is_clue_field w) steps.value) (Ok (map clue_in steps.value)) BadClue clues steps.rest in
    let clues_are : map clue_in steps.value ≡ clues = cc in
    let (fields_are, within) = fields_taken w steps.value readable in
    let written : map clue_field clues ≡ fields part = ap (map clue_field) (sym clues_are) ∙ (fields_are ∙ sym same) in
    let joined : clue_part clues ≡ part = ap (join_with_byte slash) written ∙ join_with_byte-slice_split slash part in
    let lengths : length clues ≡ length steps.value = ap length (sym clues_are) ∙ length-map steps.value clue_in in
    (sym joined, lengths ∙ (ap length (sym same) ∙ count), subst (AllByRecursion (λ clue. clue ≤ w)) clues_are within)

-- a clue part of as many clues as there are places, none above the width, is read as these clues
pub clues_again : (w : ℕ) (clues : List ℕ) → 0 < w → length clues ≡ 4 * w → AllByRecursion (λ clue. clue ≤ w) clues
    → clues_at w (clue_part clues) ≡ Ok clues
unfolding clues_at
clues_again w clues some count within =
    let fs = map clue_field clues in
    let lengths : length fs ≡ length clues = length-map clues clue_field in
    let pieces : fields (clue_part clues) ≡ fs =
    pieces_join slash fs (omega arith) (fields_lack slash clues (omega arith)) in
    let right = fields_again w clues within in
    let counts : exactly (4 * w) (fields (clue_part clues)) ≡ Ok fs =
    ap (exactly (4 * w)) pieces ∙ exactly_again (4 * w) fs (lengths ∙ count) in
    let ones : clues_in w fs ≡ Ok clues = rw right.0 (ap Ok right.1) in
    bind_again (exactly (4 * w) (fields (clue_part clues))) (clues_in w) fs counts ∙ ones
