-- The table of keys: each is written in eight bytes and read as itself, and headers are told apart by their names.
use Rattle.std.proofs.Common.{arith}
use Rattle.std.proofs.lemmas.Bool.Decides.{nat_tests}
use Rattle.std.proofs.Common.{◌≡◌, Bool, true, false, ◌==◌, ◌&&◌, not, ℕ, List, [], ◌∷◌, length, refl}
use Rattle.std.proofs.lemmas.Bool.{and_parts, not-true, eqb-false}
use Rattle.std.proofs.lemmas.Slice.Eq.{bytes_eq-Decides}
use Rattle.byte_text.specs.Bytes.{colon}
use Rattle.byte_text.specs.Cuts.{Lacks}
use Rattle.play_save.specs.declared.key.HeaderKey.{HeaderKey}
use Rattle.play_save.specs.declared.key.Key.{Key}
use Rattle.play_save.specs.declared.key.Key.TheVariants.{Header, Other}
use Rattle.play_save.specs.Records.{begins_with_break, unpadded}
use Rattle.play_save.specs.Keys.{key_name, padded, key_of, same_header}

-- whether the key is a header's or a state's
abbrev pub is_known : Key → Bool
is_known Other = false
is_known _ = true

-- whether none of the bytes is a colon
pub free_of_colon : List ℕ → Bool
free_of_colon [] = true
free_of_colon (b ∷ bs) = not (b == colon) && free_of_colon bs

-- bytes that pass the test have no colon
pub free_lacks : (bs : List ℕ) → free_of_colon bs ≡ true → Lacks colon bs
unfolding free_of_colon
free_lacks [] free = tt
free_lacks (b ∷ bs) free =
    let both = and_parts (not (b == colon)) (free_of_colon bs) free in
    (eqb-false b colon (not-true (b == colon) both.0), free_lacks bs both.1)

-- A key that is written has eight bytes, without a colon and a line break in front, and is read as itself.
pub record IsKey (k : Key) : Type 0 where
  pub eight : length (padded (key_name k)) ≡ 8
  pub colon_free : free_of_colon (padded (key_name k)) ≡ true
  pub no_break : begins_with_break (padded (key_name k)) ≡ false
  pub name_again : key_name k ≡ unpadded (padded (key_name k))
  pub key_again : key_of (key_name k) ≡ k

-- `IsKey` holds of known keys. (A clause at one key of a pair has the last clause computed for the other.)
pub is_key : (k : Key) → is_known k ≡ true → IsKey k
unfolding free_of_colon key_of
is_key k known = grind (arith, nat_tests)

-- headers of the same name are the same
pub same_key : (j k : HeaderKey) → same_header j k ≡ true → j ≡ k
same_key j k same = grind (arith, nat_tests, bytes_eq-Decides, is_key)

-- a header has its own name
pub own_key : (k : HeaderKey) → same_header k k ≡ true
own_key k = (bytes_eq-Decides (key_name (Header k)) (key_name (Header k))).1 refl
