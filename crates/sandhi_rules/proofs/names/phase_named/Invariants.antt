-- No name so far has these bytes.
use Rattle.std.proofs.Common.{◌≡◌, ℕ, ◌<◌, false, map, get_or, []}
use Rattle.std.specs.Str.{bytes_eq}
use Rattle.std.specs.String.{string_bytes}
use Rattle.sandhi_rules.proofs.names.phase_named.Given as goal

abbrev pub invariant-loop-phase : goal.invariant-loop-phase
invariant-loop-phase l = (k : ℕ) → k < l.phase → bytes_eq l.name (get_or (map string_bytes l.names) k []) ≡ false
