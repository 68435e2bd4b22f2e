-- The lines of a reply, cut off its front one by one, and texts byte by byte.
use Rattle.std.proofs.Common.{◌≡◌, ◌≢◌, ℕ, suc, ◌+◌, ◌-◌, ◌<◌, ◌≤◌, ◌==◌, true, false, if◌then◌else◌, List, [], ◌∷◌, ◌++◌, length, map, take, get_or, encode_utf8, sym, ap, ap₂, refl, subst, ◌∙◌, append_assoc, append-nil, arith}
use Rattle.std.specs.Prelude.{IsAscii}
use Rattle.std.proofs.lemmas.List.{take_more}
use Rattle.std.proofs.lemmas.Str.{encode_ascii}
use Rattle.std.proofs.lemmas.Bool.Decides.{nat_tests}
use Rattle.byte_text.specs.Cuts.{Lacks}
use Rattle.line_replies.specs.Lines.{onto, segments}
use Rattle.serde_json.specs.Data.{Data}
use Rattle.json.specs.Written.{Written}
use Rattle.json_replies.specs.Texts.{latin_text, lines_of, text_data}
use Rattle.json_replies.specs.WrittenData.{Follow}
use Rattle.json_replies.proofs.WrittenData.{more_follow, none_follow}

some_onto : (b : ℕ) (ps : List (List ℕ)) → 1 ≤ length (onto b ps)
some_onto b [] = omega arith
some_onto b (p ∷ ps) = omega arith

-- a text has at least one segment
pub some_segments : (bytes : List ℕ) → 1 ≤ length (segments bytes)
some_segments [] = omega arith
some_segments (b ∷ bs) =
    elim (b == 10) as (λ t. 1 ≤ length (if t then [] ∷ segments bs else onto b (segments bs)))
    [ true ↦ omega arith | false ↦ some_onto b (segments bs) ]

other : (b : ℕ) → b ≢ 10 → (b == 10) ≡ false
other b apart = grind (arith, nat_tests)

-- the segments of a line, its LF and a rest are the line and the segments of the rest
segments-front : (line rest : List ℕ) → Lacks 10 line → segments (line ++ 10 ∷ rest) ≡ line ∷ segments rest
segments-front [] rest lacks = refl
segments-front (b ∷ bs) rest lacks =
    ap (λ t. if t then [] ∷ segments (bs ++ 10 ∷ rest) else onto b (segments (bs ++ 10 ∷ rest))) (other b lacks.0)
    ∙ ap (onto b) (segments-front bs rest lacks.1)

-- a text without LF is its only segment
segments-whole : (line : List ℕ) → Lacks 10 line → segments line ≡ line ∷ []
segments-whole [] lacks = refl
segments-whole (b ∷ bs) lacks =
    ap (λ t. if t then [] ∷ segments bs else onto b (segments bs)) (other b lacks.0) ∙ ap (onto b) (segments-whole bs lacks.1)

take_front : (p : List ℕ) (ps : List (List ℕ)) → 1 ≤ length ps → take (length (p ∷ ps) - 1) (p ∷ ps) ≡ p ∷ take (length ps - 1) ps
take_front p ps some = let n : length (p ∷ ps) - 1 ≡ suc (length ps - 1) = omega arith in ap (λ k. take k (p ∷ ps)) n

-- the lines of a line, its LF and a rest are the line and the lines of the rest
pub lines_of-front : (line rest : List ℕ) → Lacks 10 line → lines_of (line ++ 10 ∷ rest) ≡ line ∷ lines_of rest
lines_of-front line rest lacks =
    ap (λ ps. take (length ps - 1) ps) (segments-front line rest lacks) ∙ take_front line (segments rest) (some_segments rest)

-- a text without LF has no line that LF ends
pub lines_of-none : (line : List ℕ) → Lacks 10 line → lines_of line ≡ []
lines_of-none line lacks = ap (λ ps. take (length ps - 1) ps) (segments-whole line lacks)

-- once a line was written, all lines follow as soon as those behind it do
pub one_more_line : (line more rest : List ℕ) (all : List Data) (start old new : Written) → Lacks 10 line
    → rest ≡ line ++ 10 ∷ more → Follow (text_data line ∷ []) old new
    → ((end : Written) → Follow (map text_data (lines_of rest)) old end → Follow all start end)
    → (end : Written) → Follow (map text_data (lines_of more)) new end → Follow all start end
one_more_line line more rest all start old new lacks parts here before end after =
    before end (subst (λ ls. Follow (map text_data ls) old end) (sym (ap lines_of parts ∙ lines_of-front line more lacks))
    (more_follow (text_data line ∷ []) (map text_data (lines_of more)) old new end here after))

-- when no line is left, all were written
pub no_more_line : (rest : List ℕ) (all : List Data) (start last : Written) → Lacks 10 rest
    → ((end : Written) → Follow (map text_data (lines_of rest)) last end → Follow all start end) → Follow all start last
no_more_line rest all start last lacks before =
    before last (subst (λ ls. Follow (map text_data ls) last last) (sym (lines_of-none rest lacks)) (none_follow last))

-- a byte more at the end is a character more at the end of the text
latin-push : (xs : List ℕ) (b : ℕ) → latin_text (xs ++ b ∷ []) ≡ latin_text xs ++ encode_utf8 b
latin-push [] b = append-nil (encode_utf8 b)
latin-push (x ∷ xs) b =
    ap (λ l. encode_utf8 x ++ l) (latin-push xs b) ∙ sym (append_assoc (encode_utf8 x) (latin_text xs) (encode_utf8 b))

-- with one byte more, the text has one character more
pub one_more_byte : (bytes : List ℕ) (i : ℕ) → i < length bytes
    → latin_text (take (i + 1) bytes) ≡ latin_text (take i bytes) ++ encode_utf8 (get_or bytes i 0)
one_more_byte bytes i inside = ap latin_text (take_more bytes i 0 inside) ∙ latin-push (take i bytes) (get_or bytes i 0)

-- ASCII bytes are the text that they spell
pub latin_ascii : (bytes : List ℕ) → IsAscii bytes → latin_text bytes ≡ bytes
latin_ascii [] ascii = refl
latin_ascii (b ∷ bytes) ascii = ap₂ (λ (xs ys : List ℕ). xs ++ ys) (encode_ascii b (ascii 0)) (latin_ascii bytes (λ i. ascii (suc i)))
