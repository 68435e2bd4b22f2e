-- The lines that are cut byte by byte are those that LF separates.
use Rattle.std.proofs.Common.{◌≡◌, ℕ, ◌-◌, ◌==◌, true, false, if◌then◌else◌, Some, List, [], ◌∷◌, ◌++◌, length, map, take, refl, sym, ap, ◌∙◌, append_assoc, append-nil, arith}
use Rattle.std.proofs.Math.Seq.{take-append_seam}
use Rattle.std.proofs.lemmas.List.{length_push}
use Rattle.std.proofs.lemmas.Bool.Decides.{nat_tests}
use Rattle.line_replies.specs.Lines.{Line, onto, segments, unless_long, as_line, all_lines, ended_lines}
use Rattle.puzzle_cli.specs.Inner.LineBuffer.{pushed, ended_from, last_from}

-- ---- one list of bytes after another

pub ended_from-append : (part : Line) (xs ys : List ℕ)
    → ended_from part (xs ++ ys) ≡ ended_from part xs ++ ended_from (last_from part xs) ys
ended_from-append part [] ys = refl
ended_from-append part (b ∷ xs) ys =
    elim (b == 10) as (λ t. (if t then as_line part ∷ ended_from (Some []) (xs ++ ys) else ended_from (pushed part b) (xs ++ ys))
    ≡ (if t then as_line part ∷ ended_from (Some []) xs else ended_from (pushed part b) xs)
    ++ ended_from (if t then last_from (Some []) xs else last_from (pushed part b) xs) ys)
    [ true ↦ ap (λ l. as_line part ∷ l) (ended_from-append (Some []) xs ys) | false ↦ ended_from-append (pushed part b) xs ys ]

-- the part of a line after two texts is the part after the second, which goes on from that after the first
pub last_from-append : (part : Line) (xs ys : List ℕ) → last_from part (xs ++ ys) ≡ last_from (last_from part xs) ys
last_from-append part [] ys = refl
last_from-append part (b ∷ xs) ys =
    elim (b == 10) as (λ t. (if t then last_from (Some []) (xs ++ ys) else last_from (pushed part b) (xs ++ ys))
    ≡ last_from (if t then last_from (Some []) xs else last_from (pushed part b) xs) ys)
    [ true ↦ last_from-append (Some []) xs ys | false ↦ last_from-append (pushed part b) xs ys ]

-- ---- the plain meaning

-- the segments, with a front before the first
abbrev join : List ℕ → List (List ℕ) → List (List ℕ)
join front [] = front ∷ []
join front (segment ∷ rest) = (front ++ segment) ∷ rest

-- pieces between line ends, as lines
abbrev lines_of : List (List ℕ) → List Line
lines_of ps = map (λ segment. as_line (unless_long segment)) ps

-- no front before the first segment leaves the segments as they are
join-segments : (bytes : List ℕ) → join [] (segments bytes) ≡ segments bytes
join-segments [] = refl
join-segments (b ∷ bs) =
    elim (b == 10) as (λ t. join [] (if t then [] ∷ segments bs else onto b (segments bs))
    ≡ (if t then [] ∷ segments bs else onto b (segments bs)))
    [ true ↦ refl | false ↦ elim (segments bs) as (λ ps. join [] (onto b ps) ≡ onto b ps) [ [] ↦ refl | p ∷ ps ↦ refl ] ]

-- a byte before the first segment is the last byte of the front before it
join-onto : (front : List ℕ) (b : ℕ) (ps : List (List ℕ)) → join front (onto b ps) ≡ join (front ++ b ∷ []) ps
join-onto front b [] = refl
join-onto front b (p ∷ ps) = ap (λ l. l ∷ ps) (sym (append_assoc front (b ∷ []) p))

pushed-short : (front : List ℕ) (b : ℕ) → pushed (unless_long front) b ≡ unless_long (front ++ b ∷ [])
pushed-short front b = rw (length_push front b) (grind (arith, nat_tests))

lines_of-join : (front bytes : List ℕ)
    → lines_of (join front (segments bytes)) ≡ ended_from (unless_long front) bytes ++ as_line (last_from (unless_long front) bytes) ∷ []
lines_of-join front [] = ap (λ l. as_line (unless_long l) ∷ []) (append-nil front)
lines_of-join front (b ∷ bs) =
    elim (b == 10) as (λ t. lines_of (join front (if t then [] ∷ segments bs else onto b (segments bs)))
    ≡ (if t then as_line (unless_long front) ∷ ended_from (Some []) bs else ended_from (pushed (unless_long front) b) bs)
    ++ as_line (if t then last_from (Some []) bs else last_from (pushed (unless_long front) b) bs) ∷ []) [
      | true ↦ ap (λ l. as_line (unless_long l) ∷ lines_of (segments bs)) (append-nil front)
          ∙ ap (λ l. as_line (unless_long front) ∷ l) (ap lines_of (sym (join-segments bs)) ∙ lines_of-join [] bs)
      | false ↦ ap lines_of (join-onto front b (segments bs)) ∙ lines_of-join (front ++ b ∷ []) bs
          ∙ ap (λ part. ended_from part bs ++ as_line (last_from part bs) ∷ []) (sym (pushed-short front b))
    ]

-- the lines of some bytes are those that ended, and the last
pub all_lines-by-parts : (bytes : List ℕ) → all_lines bytes ≡ ended_from (Some []) bytes ++ as_line (last_from (Some []) bytes) ∷ []
all_lines-by-parts bytes = ap lines_of (sym (join-segments bytes)) ∙ lines_of-join [] bytes

-- all but the last of a list of lines and one line are the list
front-push : (lines : List Line) (line : Line) → take (length (lines ++ line ∷ []) - 1) (lines ++ line ∷ []) ≡ lines
front-push lines line =
    let n : length (lines ++ line ∷ []) - 1 ≡ length lines = omega (arith, length_push lines line) in
    ap (λ k. take k (lines ++ line ∷ [])) n ∙ take-append_seam lines (line ∷ [])

-- the lines that LF ended are those that are cut byte by byte
pub ended_lines-by-parts : (bytes : List ℕ) → ended_lines bytes ≡ ended_from (Some []) bytes
ended_lines-by-parts bytes =
    ap (λ l. take (length l - 1) l) (all_lines-by-parts bytes)
    ∙ front-push (ended_from (Some []) bytes) (as_line (last_from (Some []) bytes))
