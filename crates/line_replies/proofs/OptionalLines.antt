-- Lines of which some are left out: the text tells which there are, where each line tells its place.
use Rattle.std.proofs.Common.{◌≡◌, ◌≢◌, ℕ, zero, suc, ◌+◌, ◌<◌, ◌≤◌, List, [], ◌∷◌, ◌++◌, Option, Some, None, ◌==◌, true, false, if◌then◌else◌, length, eqb-true, refl, sym, ap, ◌∙◌, subst, arith, inl, inr}
use Rattle.std.specs.List.{range_with_len, flat_map}
use Rattle.std.proofs.lemmas.Bool.{cases_eq}
use Rattle.std.proofs.lemmas.List.{append_assoc}
use Rattle.byte_text.specs.Cuts.{Lacks}
use Rattle.byte_text.specs.Bytes.{line_feed}
use Rattle.line_replies.specs.BoardTexts.{lines_or}

-- a line, or nothing
abbrev pub line_or_none : Option (List ℕ) → List ℕ
line_or_none None = []
line_or_none (Some content) = content ++ line_feed ∷ []

-- of two texts the part before the first of a byte is the same, and so is the part behind
pub cut_same : (c : ℕ) (xs ys rest more : List ℕ) → Lacks c xs → Lacks c ys → xs ++ c ∷ rest ≡ ys ++ c ∷ more → (xs ≡ ys) × (rest ≡ more)
cut_same c [] [] rest more one other same = (refl, cc)
cut_same c [] (y ∷ ys) rest more one other same = let e : y ≡ c = cc in absurd (other.0 e)
cut_same c (x ∷ xs) [] rest more one other same = let e : x ≡ c = cc in absurd (one.0 e)
cut_same c (x ∷ xs) (y ∷ ys) rest more one other same =
    let heads : x ≡ y = cc in
    let tails : xs ++ c ∷ rest ≡ ys ++ c ∷ more = cc in
    let both = cut_same c xs ys rest more one.1 other.1 tails in
    (λ i. heads i ∷ both.0 i, both.1)

-- the content of a line lacks a byte
abbrev pub LacksIn : ℕ → Option (List ℕ) → Type 0
LacksIn c None = Unit {0}
LacksIn c (Some content) = Lacks c content

-- if two texts lack a byte, so does one after the other
pub lacks_on : (c : ℕ) (xs ys : List ℕ) → Lacks c xs → Lacks c ys → Lacks c (xs ++ ys)
lacks_on c [] ys one other = other
lacks_on c (x ∷ xs) ys one other = (one.0, lacks_on c xs ys one.1 other)

-- if the content of a line lacks a byte other than LF, so does the text of the line
line_lacks : (c : ℕ) → line_feed ≢ c → (line : Option (List ℕ)) → LacksIn c line → Lacks c (line_or_none line)
line_lacks c feed None lacks = tt
line_lacks c feed (Some content) lacks = lacks_on c content (line_feed ∷ []) lacks (feed, tt)

pub lines_lack : (c : ℕ) → line_feed ≢ c → (f : ℕ → Option (List ℕ)) (a n : ℕ) → ((k : ℕ) → k < a + n → LacksIn c (f k))
    → Lacks c (flat_map (λ k. line_or_none (f k)) (range_with_len a n))
lines_lack c feed f a zero lacks = tt
lines_lack c feed f a (suc n) lacks =
    lacks_on c (line_or_none (f a)) (flat_map (λ k. line_or_none (f k)) (range_with_len (a + 1) n))
    (line_lacks c feed (f a) (lacks a (omega arith))) (lines_lack c feed f (a + 1) n (λ k below. lacks k (omega (arith, below))))

-- a list of length 0 is empty
pub empty_list : (xs : List ℕ) → (length xs == 0) ≡ true → xs ≡ []
empty_list [] is = refl
empty_list (x ∷ xs) is = let none = eqb-true (length (x ∷ xs)) 0 is in absurd (omega (arith, none))

-- if two texts of lines, or of a sentence where there is no line, are the same, so are the lines
pub lines_or_same : (c : ℕ) (sentence L M : List ℕ) → (Lacks c (sentence ++ line_feed ∷ []) → ⊥) → Lacks c L → Lacks c M
    → lines_or sentence L ≡ lines_or sentence M → L ≡ M
lines_or_same c sentence L M has one other same =
    elim (length L == 0) as (λ t. (length L == 0) ≡ t → (if t then sentence ++ line_feed ∷ [] else L) ≡ lines_or sentence M → L ≡ M) [
      | true ↦ λ none first.
          elim (length M == 0) as (λ t. (length M == 0) ≡ t → sentence ++ line_feed ∷ [] ≡ (if t then sentence ++ line_feed ∷ [] else M) → L ≡ M) [
            | true ↦ λ no_more second. empty_list L none ∙ sym (empty_list M no_more)
            | false ↦ λ some second. absurd (has (subst (λ (xs : List ℕ). Lacks c xs) (sym second) other))
          ] refl first
      | false ↦ λ some first.
          elim (length M == 0) as (λ t. (length M == 0) ≡ t → L ≡ (if t then sentence ++ line_feed ∷ [] else M) → L ≡ M) [
            | true ↦ λ none second. absurd (has (subst (λ (xs : List ℕ). Lacks c xs) second one))
            | false ↦ λ more second. second
          ] refl first
    ] refl same

module _ (f g : ℕ → Option (List ℕ)) (top : ℕ) (f_plain : (k : ℕ) → k < top → LacksIn line_feed (f k))
    (g_plain : (k : ℕ) → k < top → LacksIn line_feed (g k))
    (apart : (j k : ℕ) (content : List ℕ) → j < top → k < top → f j ≡ Some content → g k ≡ Some content → j ≡ k) where
  -- where a line with this content stands, from a place on
  abbrev Stands : (ℕ → Option (List ℕ)) → ℕ → List ℕ → Type 0
  Stands h a content = (j : ℕ) × (a ≤ j) × (j < top) × (h j ≡ Some content)

  stands_later : (h : ℕ → Option (List ℕ)) (a : ℕ) (content : List ℕ) → Stands h (a + 1) content → Stands h a content
  stands_later h a content (j, low, inside, there) = (j, omega (arith, low), inside, there)

  nothing_cut : (content rest : List ℕ) → [] ≡ content ++ line_feed ∷ rest → ⊥
  nothing_cut [] rest same = cc
  nothing_cut (x ∷ content) rest same = cc

  -- the first line of a text stands at this place, or after it
  stands_by : (h : ℕ → Option (List ℕ)) (a : ℕ) (content rest others : List ℕ) (line : Option (List ℕ)) → a < top → h a ≡ line
      → LacksIn line_feed line → Lacks line_feed content → line_or_none line ++ others ≡ content ++ line_feed ∷ rest
      → (others ≡ content ++ line_feed ∷ rest → Stands h (a + 1) content) → Stands h a content
  stands_by h a content rest others None inside is plain lacks same go = stands_later h a content (go same)
  stands_by h a content rest others (Some first) inside is plain lacks same go =
      let cut = cut_same line_feed first content others rest plain lacks (sym (append_assoc first (line_feed ∷ []) others) ∙ same) in
      (a, omega arith, inside, is ∙ ap Some cut.0)

  -- the first line of a text of such lines stands at one of the places
  first_stands : (h : ℕ → Option (List ℕ)) (a n : ℕ) (content rest : List ℕ) → a + n ≤ top → ((k : ℕ) → k < top → LacksIn line_feed (h k))
      → Lacks line_feed content → flat_map (λ k. line_or_none (h k)) (range_with_len a n) ≡ content ++ line_feed ∷ rest → Stands h a content
  first_stands h a zero content rest within plain lacks same = absurd (nothing_cut content rest same)
  first_stands h a (suc n) content rest within plain lacks same =
      stands_by h a content rest (flat_map (λ k. line_or_none (h k)) (range_with_len (a + 1) n)) (h a) (omega (arith, within)) refl
      (plain a (omega (arith, within))) lacks same
      (λ later. first_stands h (a + 1) n content rest (omega (arith, within)) plain lacks later)

  -- if two texts are the same, so are their first lines and the texts behind these
  heads_same : (a n : ℕ) (one other : Option (List ℕ)) → a + suc n ≤ top → f a ≡ one → g a ≡ other → LacksIn line_feed one
      → LacksIn line_feed other
      → line_or_none one ++ flat_map (λ k. line_or_none (f k)) (range_with_len (a + 1) n)
      ≡ line_or_none other ++ flat_map (λ k. line_or_none (g k)) (range_with_len (a + 1) n)
      → (f a ≡ g a) × (flat_map (λ k. line_or_none (f k)) (range_with_len (a + 1) n) ≡ flat_map (λ k. line_or_none (g k)) (range_with_len (a + 1) n))
  heads_same a n None None within one_is other_is x_plain y_plain same = (one_is ∙ sym other_is, same)
  heads_same a n (Some x) (Some y) within one_is other_is x_plain y_plain same =
      let ones = flat_map (λ k. line_or_none (f k)) (range_with_len (a + 1) n) in
      let others = flat_map (λ k. line_or_none (g k)) (range_with_len (a + 1) n) in
      let cut = cut_same line_feed x y ones others x_plain y_plain
      (sym (append_assoc x (line_feed ∷ []) ones) ∙ same ∙ append_assoc y (line_feed ∷ []) others) in
      (one_is ∙ ap Some cut.0 ∙ sym other_is, cut.1)
  heads_same a n None (Some y) within one_is other_is x_plain y_plain same =
      let others = flat_map (λ k. line_or_none (g k)) (range_with_len (a + 1) n) in
      let (j, above, inside, there) = first_stands f (a + 1) n y others (omega (arith, within)) f_plain y_plain
      (same ∙ append_assoc y (line_feed ∷ []) others) in
      let at = apart j a y inside (omega (arith, within)) there other_is in
      absurd (omega (arith, at, above))
  heads_same a n (Some x) None within one_is other_is x_plain y_plain same =
      let ones = flat_map (λ k. line_or_none (f k)) (range_with_len (a + 1) n) in
      let (j, above, inside, there) = first_stands g (a + 1) n x ones (omega (arith, within)) g_plain x_plain
      (sym same ∙ append_assoc x (line_feed ∷ []) ones) in
      let at = apart a j x (omega (arith, within)) inside one_is there in
      absurd (omega (arith, at, above))

  -- if two texts are the same, so is the line of each place
  pub each_line : (a n : ℕ) → a + n ≤ top
      → flat_map (λ k. line_or_none (f k)) (range_with_len a n) ≡ flat_map (λ k. line_or_none (g k)) (range_with_len a n)
      → (k : ℕ) → a ≤ k → k < a + n → f k ≡ g k
  each_line a zero within same k low high = absurd (omega arith)
  each_line a (suc n) within same k low high =
      let both = heads_same a n (f a) (g a) within refl refl (f_plain a (omega (arith, within))) (g_plain a (omega (arith, within))) same in
      elim (cases_eq k a) [
        | inl here ↦ subst (λ (j : ℕ). f j ≡ g j) (sym here) both.0
        | inr other ↦ each_line (a + 1) n (omega (arith, within)) both.1 k (omega (arith, other)) (omega arith)
      ]
