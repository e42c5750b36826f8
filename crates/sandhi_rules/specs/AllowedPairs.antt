-- Pairs of letters by look-up: at the place of each two codes stands whether they are one of the pairs (own).
use Rattle.std.specs.Prelude.{◌≡◌, ℕ, ◌+◌, ◌*◌, ◌<◌, ◌↔◌, Bool, false, List, length, slice_index_or, Contains, IsTrue}

-- for each two codes there is one entry, which tells whether they are one of the pairs
pub record AreAllowed (pairs : List (ℕ × ℕ)) (allowed : List Bool) : Type 0 where
  pub count : length allowed ≡ 51 * 51
  pub each : (x y : ℕ) → x < 51 → y < 51 → IsTrue (slice_index_or allowed (51 * x + y) false) ↔ Contains pairs (x, y)
