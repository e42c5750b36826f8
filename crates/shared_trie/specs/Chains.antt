-- Numbers in chains by their hashes: hashes fall into buckets, and each number knows the one before it in its bucket.
use Rattle.std.specs.Prelude.{◌≡◌, ◌≢◌, ℕ, ◌-◌, ◌<◌, ◌≤◌, ◌^◌, Option, None, Some, List, length, slice_index}
use Rattle.std.specs.Int.RustNames.{bit_and}

-- the bucket of the hash among so many
abbrev pub bucket_in : ℕ → ℕ → ℕ
bucket_in buckets hash = bit_and hash (buckets - 1)

-- the number is the last below the bound with the hash, where one has it
abbrev pub IsLastWith : List ℕ → ℕ → ℕ → Option ℕ → Type 0
IsLastWith hashes hash bound None = (k : ℕ) → k < bound → slice_index hashes k ≢ hash
IsLastWith hashes hash bound (Some number) =
    (number < bound) × (slice_index hashes number ≡ hash) × ((k : ℕ) → number < k → k < bound → slice_index hashes k ≢ hash)

-- the place is one more than the last number below the bound whose hash is in the bucket, or 0 where there is none
pub record IsLastIn (buckets : ℕ) (hashes : List ℕ) (bucket bound place : ℕ) : Type 0 where
  pub below : place ≤ bound
  pub has : 0 < place → bucket_in buckets (slice_index hashes (place - 1)) ≡ bucket
  pub none_after : (k : ℕ) → place ≤ k → k < bound → bucket_in buckets (slice_index hashes k) ≢ bucket

-- each bucket has its last number, and each number the one before it in its bucket
pub record AreChained (heads hashes befores : List ℕ) : Type 0 where
  pub few : length hashes < 2 ^ 32
  pub count : length befores ≡ length hashes
  pub bucketed : 0 < length hashes → 0 < length heads
  pub firsts : (bucket : ℕ) → bucket < length heads → IsLastIn (length heads) hashes bucket (length hashes) (slice_index heads bucket)
  pub each : (k : ℕ) → k < length hashes
      → IsLastIn (length heads) hashes (bucket_in (length heads) (slice_index hashes k)) k (slice_index befores k)
