-- The consequences of writing data token by token.
use Rattle.std.proofs.Common.{◌≡◌, ℕ, ◌<◌, ◌^◌, List, [], ◌∷◌, ◌++◌, ℤ, pos, negsuc, SFits, w8, Some, Ok, option_map, option_and_then, refl, sym, ap, ◌∙◌, append_assoc, append-nil, arith, decimal, ◌+◌, map, take, subst}
use Rattle.std.specs.List.{flat_map, range_with_len}
use Rattle.std.specs.Fmt.{signed_decimal}
use Rattle.std.proofs.lemmas.Grind.{flat_map-append}
use Rattle.std.proofs.lemmas.List.{map-append}
use Rattle.line_replies.proofs.Ranges.{flat_map_onto}
use Rattle.json.specs.Token.{Token, begin_array, end_array, begin_object, end_object, key, number as number_token}
use Rattle.json.specs.Tree.{json_tokens, items_tokens, members_tokens}
use Rattle.json.specs.Written.{Written, Writes}
use Rattle.serde_json.specs.Data.{Data, Members, number, array, object, item, no_members, put}
use Rattle.serde_json.specs.Find.{of_integer}
use Rattle.serde_json.specs.Read.{of_json, of_items, of_members}
use Rattle.serde_json.specs.View.{items_of}
use Rattle.serde_json.specs.Written.{outline, items_outline, members_outline}
use Rattle.serde_json.proofs.Numbers.{number_of-decimal, number_of-negative}
use Rattle.json_replies.specs.Counts.{count_data}
use Rattle.json_replies.specs.WrittenData.{data_tokens, AllRead, Follow}
use Rattle.json_replies.specs.Inner.WrittenData.{as_members, member_tokens, AllMembersRead, MembersFollow}

-- the tokens of one value alone
pub one_tokens : (d : Data) → data_tokens (d ∷ []) ≡ json_tokens (outline d)
one_tokens d = append-nil (json_tokens (outline d))

all_read : (xs ys : List Data) → AllRead xs → AllRead ys → AllRead (xs ++ ys)
all_read [] ys first more = more
all_read (x ∷ xs) ys first more = (first.0, all_read xs ys first.1 more)

-- nothing follows where nothing was written
pub none_follow : (w : Written) → Follow [] w w
none_follow w = record { stays = refl; adds = sym (append-nil w.tokens); reads = tt }

-- if data follow, and then more data, all of them follow
pub more_follow : (xs ys : List Data) (a b c : Written) → Follow xs a b → Follow ys b c → Follow (xs ++ ys) a c
more_follow xs ys a b c first more = record {
  stays = more.stays ∙ first.stays;
  adds = more.adds ∙ ap (λ ts. ts ++ data_tokens ys) first.adds ∙ append_assoc a.tokens (data_tokens xs) (data_tokens ys)
      ∙ ap (λ ts. a.tokens ++ ts) (sym (flat_map-append (λ d. json_tokens (outline d)) xs ys));
  reads = all_read xs ys first.reads more.reads;
}

-- if the one token of some data was written, these data follow
pub token_follows : (d : Data) (t : Token) (old new : Written) → json_tokens (outline d) ≡ t ∷ [] → of_json (outline d) ≡ Some d
    → new.before ≡ old.before → new.tokens ≡ old.tokens ++ t ∷ [] → Follow (d ∷ []) old new
token_follows d t old new is reads stays adds = record {
  stays = stays;
  adds = adds ∙ ap (λ ts. old.tokens ++ ts) (sym (one_tokens d ∙ is));
  reads = (reads, tt);
}

-- a count follows, if its token was written
pub count_follows : {E : Type 0} {u : Unit {0}} {n : ℕ} {old new : Written} → n < 2 ^ 64 → Writes {E = E} (Ok u) old new (number_token (decimal n))
    → Follow (count_data n ∷ []) old new
count_follows {n = n} fits written =
    token_follows (count_data n) (number_token (decimal n)) _ _ refl (ap (option_map number) (number_of-decimal n fits)) written.room.0 written.ok

-- an integer reads as itself
integer_reads : (z : ℤ) → SFits w8 z → of_json (outline (number (of_integer z))) ≡ Some (number (of_integer z))
integer_reads (pos n) fits = ap (option_map number) (number_of-decimal n (grind arith))
integer_reads (negsuc n) fits = ap (option_map number) (number_of-negative n (grind arith))

-- an integer has one token, its decimal with its sign
integer_tokens : (z : ℤ) → json_tokens (outline (number (of_integer z))) ≡ number_token (signed_decimal z) ∷ []
integer_tokens (pos n) = refl
integer_tokens (negsuc n) = refl

-- an integer follows, if its token was written
pub integer_follows : {E : Type 0} {u : Unit {0}} {z y : ℤ} {old new : Written} → SFits w8 z → y ≡ z → Writes {E = E} (Ok u) old new (number_token (signed_decimal y))
    → Follow (number (of_integer z) ∷ []) old new
integer_follows {z = z} {old = old} fits same written =
    token_follows (number (of_integer z)) (number_token (signed_decimal z)) _ _ (integer_tokens z) (integer_reads z fits) written.room.0
    (written.ok ∙ ap (λ x. old.tokens ++ number_token (signed_decimal x) ∷ []) same)

-- ---- lists

-- the tokens of a list are those of its data and the closing bracket
list_tokens : (ds : List Data) → items_tokens (items_outline (items_of ds)) ≡ data_tokens ds ++ end_array ∷ []
list_tokens [] = refl
list_tokens (d ∷ ds) = ap (λ ts. json_tokens (outline d) ++ ts) (list_tokens ds) ∙ sym (append_assoc (json_tokens (outline d)) (data_tokens ds) (end_array ∷ []))

-- a list of data that read as themselves is read as these data
list_reads : (ds : List Data) → AllRead ds → of_items (items_outline (items_of ds)) ≡ Some (items_of ds)
list_reads [] reads = refl
list_reads (d ∷ ds) reads =
    ap (option_and_then (λ e. option_map (item e) (of_items (items_outline (items_of ds))))) reads.0 ∙ ap (option_map (item d)) (list_reads ds reads.1)

-- a list follows, if its data follow between two brackets
pub list_follows : {E : Type 0} {u v : Unit {0}} {ds : List Data} {old opened filled new : Written} → Writes {E = E} (Ok u) old opened begin_array
    → Follow ds opened filled → Writes {E = E} (Ok v) filled new end_array → Follow (array (items_of ds) ∷ []) old new
list_follows {ds = ds} {old = old} opens follow closes = record {
  stays = closes.room.0 ∙ follow.stays ∙ opens.room.0;
  adds = closes.ok ∙ ap (λ ts. ts ++ end_array ∷ []) (follow.adds ∙ ap (λ ts. ts ++ data_tokens ds) opens.ok)
      ∙ append_assoc (old.tokens ++ begin_array ∷ []) (data_tokens ds) (end_array ∷ [])
      ∙ append_assoc old.tokens (begin_array ∷ []) (data_tokens ds ++ end_array ∷ [])
      ∙ ap (λ ts. old.tokens ++ begin_array ∷ ts) (sym (list_tokens ds))
      ∙ ap (λ ts. old.tokens ++ ts) (sym (one_tokens (array (items_of ds))));
  reads = (ap (option_map array) (list_reads ds follow.reads), tt);
}

-- if the data of some numbers of a range follow, and then those of the next, the data of one number more do
pub range_follows : (f : ℕ → List Data) (a m n j : ℕ) {more : List Data} {start old new : Written} → n ≡ m + 1 → a + m ≡ j → more ≡ f j
    → Follow (flat_map f (range_with_len a m)) start old → Follow more old new → Follow (flat_map f (range_with_len a n)) start new
range_follows f a m n j {more} {start} {old} {new} next last is before after =
    let xs = flat_map f (range_with_len a m) in
    subst (λ ds. Follow ds start new) (flat_map_onto f [] xs (xs ++ more) a m n j next last refl (ap (λ l. xs ++ l) is))
    (more_follow xs more start old new before after)

-- if the data of some items of a list follow, and then those of the next, the data of one item more do
pub item_follows : {A : Type 0} (f : A → Data) (xs : List A) (i : ℕ) {x y : A} {d : Data} {start old new : Written} → take (i + 1) xs ≡ take i xs ++ x ∷ []
    → y ≡ x → d ≡ f y → Follow (map f (take i xs)) start old → Follow (d ∷ []) old new → Follow (map f (take (i + 1) xs)) start new
item_follows f xs i {x} {d = d} {start} {old} {new} next same is before after =
    subst (λ ds. Follow ds start new)
    (ap (λ (e : Data). map f (take i xs) ++ e ∷ []) (is ∙ ap f same) ∙ sym (ap (map f) next ∙ map-append f (take i xs) (x ∷ [])))
    (more_follow (map f (take i xs)) (d ∷ []) start old new before after)

-- ---- objects

-- if a key was written, and then its value, the member follows
pub key_follows : {E : Type 0} {u : Unit {0}} {k : List ℕ} {d : Data} {old keyed new : Written} → Writes {E = E} (Ok u) old keyed (key k)
    → Follow (d ∷ []) keyed new → MembersFollow ((k, d) ∷ []) old new
key_follows {k = k} {d = d} {old = old} keyed follow = record {
  stays = follow.stays ∙ keyed.room.0;
  adds = follow.adds ∙ ap (λ ts. ts ++ data_tokens (d ∷ [])) keyed.ok ∙ append_assoc old.tokens (key k ∷ []) (data_tokens (d ∷ []));
  reads = (follow.reads.0, tt);
}

-- if a member follows, it follows with equal data in place of its own
pub member_is : {k : List ℕ} {d e : Data} {old new : Written} → d ≡ e → MembersFollow ((k, d) ∷ []) old new → MembersFollow ((k, e) ∷ []) old new
member_is {k} {old = old} {new = new} is follow = subst (λ (e : Data). MembersFollow ((k, e) ∷ []) old new) is follow

all_members_read : (xs ys : List (List ℕ × Data)) → AllMembersRead xs → AllMembersRead ys → AllMembersRead (xs ++ ys)
all_members_read [] ys first more = more
all_members_read (x ∷ xs) ys first more = (first.0, all_members_read xs ys first.1 more)

-- if members follow, and then more members, all of them follow
pub more_members : {xs ys : List (List ℕ × Data)} {a b c : Written} → MembersFollow xs a b → MembersFollow ys b c → MembersFollow (xs ++ ys) a c
more_members {xs} {ys} {a} first more = record {
  stays = more.stays ∙ first.stays;
  adds = more.adds ∙ ap (λ ts. ts ++ member_tokens ys) first.adds ∙ append_assoc a.tokens (member_tokens xs) (member_tokens ys)
      ∙ ap (λ ts. a.tokens ++ ts) (sym (flat_map-append (λ m. key m.0 ∷ json_tokens (outline m.1)) xs ys));
  reads = all_members_read xs ys first.reads more.reads;
}

-- the members, put one by one among those before them
abbrev pub put_all : List (List ℕ × Data) → Members → Members
put_all [] before = before
put_all (m ∷ ms) before = put_all ms (put m.0 m.1 before)

-- members of which the data read as themselves are read, put one by one among those before them
object_reads : (ms : List (List ℕ × Data)) (before : Members) → AllMembersRead ms
    → of_members (members_outline (as_members ms)) before ≡ Some (put_all ms before)
object_reads [] before reads = refl
object_reads (m ∷ ms) before reads =
    ap (option_and_then (λ e. of_members (members_outline (as_members ms)) (put m.0 e before))) reads.0
    ∙ object_reads ms (put m.0 m.1 before) reads.1

-- the tokens of an object are those of its members and the closing brace
object_tokens : (ms : List (List ℕ × Data)) → members_tokens (members_outline (as_members ms)) ≡ member_tokens ms ++ end_object ∷ []
object_tokens [] = refl
object_tokens (m ∷ ms) =
    ap (λ ts. key m.0 ∷ (json_tokens (outline m.1) ++ ts)) (object_tokens ms)
    ∙ ap (λ ts. key m.0 ∷ ts) (sym (append_assoc (json_tokens (outline m.1)) (member_tokens ms) (end_object ∷ [])))

-- an object follows, if its members follow between two braces and their keys are in order
pub object_follows : {E : Type 0} {u v : Unit {0}} (ms : List (List ℕ × Data)) {old opened filled new : Written} → put_all ms no_members ≡ as_members ms
    → Writes {E = E} (Ok u) old opened begin_object → MembersFollow ms opened filled → Writes {E = E} (Ok v) filled new end_object
    → Follow (object (as_members ms) ∷ []) old new
object_follows ms {old} ordered opens follow closes = record {
  stays = closes.room.0 ∙ follow.stays ∙ opens.room.0;
  adds = closes.ok ∙ ap (λ ts. ts ++ end_object ∷ []) (follow.adds ∙ ap (λ ts. ts ++ member_tokens ms) opens.ok)
      ∙ append_assoc (old.tokens ++ begin_object ∷ []) (member_tokens ms) (end_object ∷ [])
      ∙ append_assoc old.tokens (begin_object ∷ []) (member_tokens ms ++ end_object ∷ [])
      ∙ ap (λ ts. old.tokens ++ begin_object ∷ ts) (sym (object_tokens ms))
      ∙ ap (λ ts. old.tokens ++ ts) (sym (one_tokens (object (as_members ms))));
  reads = (ap (option_map object) (object_reads ms no_members follow.reads ∙ ap Some ordered), tt);
}
