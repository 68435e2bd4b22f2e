-- The first byte of a text, at the front of a buffer.
use Rattle.std.proofs.Common.{◌≡◌, ℕ, false, ◌==◌, List, [], ◌∷◌, ◌++◌, length, take, set}

pub first_byte : (buffer text rest : List ℕ) (byte : ℕ) → false ≡ (length buffer == 0) → text ≡ byte ∷ rest
    → text ≡ take 1 (set buffer 0 byte) ++ rest
first_byte [] text rest byte some is = cc
first_byte (b ∷ bs) text rest byte some is = is
