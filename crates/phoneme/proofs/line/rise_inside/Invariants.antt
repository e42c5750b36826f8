-- The places before the index rise and lie inside, and the last of them is kept.
use Rattle.std.proofs.Common.{◌≡◌, ℕ, ◌+◌, ◌<◌, get_or}
use Rattle.phoneme.proofs.line.rise_inside.Given as goal

abbrev pub invariant-loop-place : goal.invariant-loop-place
invariant-loop-place l =
    ((k : ℕ) → k + 1 < l.place-index → get_or l.places k 0 < get_or l.places (k + 1) 0)
    × ((k d : ℕ) → k < l.place-index → (0 < get_or l.places k d) × (get_or l.places k d < l.len))
    × ((k : ℕ) → k + 1 ≡ l.place-index → get_or l.places k 0 ≡ l.last)
    × (l.place-index ≡ 0 → l.last ≡ 0)
