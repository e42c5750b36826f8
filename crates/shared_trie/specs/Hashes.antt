-- Hashes of rows: which they are matters for speed alone, and only that a row has one is ever used.
use Rattle.std.specs.Prelude.{ℕ, ◌+◌, ◌*◌, ◌/◌, ◌%◌, ◌^◌, List, [], ◌∷◌}
use Rattle.std.specs.Int.RustNames.{bit_and, bit_xor}

-- a hash with one part more
unfoldable pub mixed : ℕ → ℕ → ℕ
mixed hash part = ((hash + part) % 2 ^ 64) * 0x9E37_79B9_7F4A_7C15 % 2 ^ 64

-- a hash in half as many bits
unfoldable pub folded : ℕ → ℕ
folded hash = bit_xor (hash / 2 ^ 32) (bit_and hash 0xFFFF_FFFF)

-- a hash with these children more
abbrev pub hash_from : ℕ → List (ℕ × ℕ) → ℕ
hash_from hash [] = hash
hash_from hash (child ∷ children) = hash_from (mixed hash (64 * child.1 + child.0)) children

-- the hash of a row with the list of deltas, by its number, and these children
abbrev pub hash_of : ℕ → List (ℕ × ℕ) → ℕ
hash_of list children = folded (hash_from (mixed 0 list) children)
