-- The line of an object that was written, and what it reads as.
use Rattle.std.proofs.Common.{◌≡◌, ℕ, suc, ◌≤◌, List, [], ◌∷◌, ◌++◌, Some, None, option_and_then, refl, sym, ap, ap₂, ◌∙◌, append-nil, arith}
use Rattle.std.specs.Prelude.{max}
use Rattle.json.specs.Lex.{tokens}
use Rattle.json.specs.Print.{print}
use Rattle.json.specs.Json as json
use Rattle.json.specs.Tree as tree
use Rattle.json.specs.Tree.{json_tokens}
use Rattle.json.specs.Written.{Written}
use Rattle.json.proofs.Printed.Trees.{value-json_tokens}
use Rattle.serde_json.specs.Data.{Data, null, boolean, number, string, array, object, Items, no_items, item, Members, no_members, member, depth, items_depth, members_depth}
use Rattle.serde_json.specs.Read.{of_json, max_depth}
use Rattle.serde_json.specs.Written.{outline, items_outline, members_outline, compact_text}
use Rattle.serde_json.proofs.Texts.{print-outline}
use Rattle.json_replies.specs.declared.further_line.FurtherLine.{FurtherLine}
use Rattle.json_replies.specs.declared.further_line.FurtherLine.TheVariants.{Board, Completable, Hint, HintMarks, Grade, Solutions, Spare, SpareBy}
use Rattle.json_replies.specs.FurtherLines.{further_key, further_data, is_last_key}
use Rattle.json_replies.specs.ObjectLines.{IsShallow, IsLineOfData}
use Rattle.json_replies.specs.Inner.ObjectMembers.{reply_list, further_list}
use Rattle.json_replies.specs.WrittenData.{Follow, data_tokens}
use Rattle.json_replies.specs.Inner.WrittenData.{as_members}
use Rattle.json_replies.specs.Laws.Spellings.{either, told_whole, lines_fit}
use Rattle.json_replies.proofs.WrittenData.{one_tokens, put_all}

mutual
  depth-outline : (d : Data) → tree.depth (outline d) ≡ depth d
  depth-outline null = refl
  depth-outline (boolean b) = refl
  depth-outline (number n) = refl
  depth-outline (string s) = refl
  depth-outline (array ds) = ap (λ n. suc n) (depth-items ds)
  depth-outline (object ms) = ap (λ n. suc n) (depth-members ms)

  depth-items : (ds : Items) → tree.items_depth (items_outline ds) ≡ items_depth ds
  depth-items no_items = refl
  depth-items (item d ds) = ap₂ max (depth-outline d) (depth-items ds)

  depth-members : (ms : Members) → tree.members_depth (members_outline ms) ≡ members_depth ms
  depth-members no_members = refl
  depth-members (member k d ms) = ap₂ max (depth-outline d) (depth-members ms)

-- data of at most 8 levels are not deeper than the deepest that is read
shallow : (d : Data) → IsShallow 8 d → tree.depth (outline d) ≤ max_depth
shallow d fits =
    let flat = (told_whole 8 d fits).1 in
    omega (arith, depth-outline d, flat)

-- the tokens of data that are not too deep are read as these data
value-outline : (d : Data) (text : List ℕ) → IsShallow 8 d → tokens text ≡ json_tokens (outline d)
    → json.value max_depth (tokens text) ≡ Some (outline d, [])
value-outline d text fits same =
    ap (json.value max_depth) (same ∙ sym (append-nil (json_tokens (outline d))))
    ∙ value-json_tokens (outline d) max_depth [] (shallow d fits)

-- if data alone were written, what was written and LF are the line of these data
pub line_of : {d : Data} {start end : Written} {bytes : List ℕ} → start.before ≡ [] → start.tokens ≡ []
    → Follow (d ∷ []) start end → bytes ≡ (end.before ++ print end.tokens) ++ 10 ∷ []
    → tokens (print end.tokens) ≡ end.tokens → IsShallow 8 d → IsLineOfData d bytes
line_of {d} {start} {end} no_text no_token follow is back fits =
    let all : end.tokens ≡ json_tokens (outline d) =
    follow.adds ∙ ap (λ ts. ts ++ data_tokens (d ∷ [])) no_token ∙ one_tokens d in
    let text : end.before ++ print end.tokens ≡ compact_text d =
    ap₂ (λ b ts. b ++ print ts) (follow.stays ∙ no_text) all ∙ print-outline d in
    let same : tokens (compact_text d) ≡ json_tokens (outline d) =
    ap tokens (sym (print-outline d)) ∙ sym (ap (λ ts. tokens (print ts)) all) ∙ back ∙ all in
    record {
      text = is ∙ ap (λ l. l ++ 10 ∷ []) text;
      reads = ap (λ v. option_and_then of_json (option_and_then (λ p. json.if_last p.0 p.1) v))
          (value-outline d (compact_text d) fits same) ∙ follow.reads.0;
    }

-- the members with an answer are in the order of their keys, and are those of the answer's object
pub further_in_order : (which : FurtherLine) (answer session : Data)
    → (put_all (further_list which answer session) no_members ≡ as_members (further_list which answer session))
    × (object (as_members (further_list which answer session)) ≡ further_data which answer session)
further_in_order Board answer session = (refl, refl)
further_in_order Completable answer session = (refl, refl)
further_in_order Hint answer session = (refl, refl)
further_in_order HintMarks answer session = (refl, refl)
further_in_order Grade answer session = (refl, refl)
further_in_order Solutions answer session = (refl, refl)
further_in_order Spare answer session = (refl, refl)
further_in_order (SpareBy grade) answer session = (refl, refl)

-- an answer keeps the object from being too deep
pub further_fits : (which : FurtherLine) (answer session : Data) → IsShallow 7 answer → IsShallow 7 session
    → IsShallow 8 (object (as_members (further_list which answer session)))
further_fits which answer session told fits =
    let common = reply_list None [] session in
    let own : List ℕ × Data = (further_key which, answer) in
    let lines = lines_fit 6 [] in
    either (λ l. IsShallow 8 (object (as_members l))) (is_last_key which) (common ++ own ∷ []) (own ∷ common)
    (tt, (lines, (fits, (told, tt)))) (told, (tt, (lines, (fits, tt))))
