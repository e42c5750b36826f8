-- The phases so far are those with the names so far.
use Rattle.std.proofs.Common.{◌≡◌, Some, List, ℕ, map, Bor, Global}
use Rattle.std.specs.String.{string_bytes}
use Rattle.phase_sets.specs.ListedPhases.{nothing_listed}
use Rattle.phase_sets.proofs.ListedNames.{listed_on}
use Rattle.phase_sets.proofs.listed.phases_listed.Given as goal

abbrev pub invariant-loop-name : goal.invariant-loop-name
invariant-loop-name l = record {
  can : (goal.iterator-loop-name).can_next l.name-iterator;
  finite : (goal.iterator-loop-name).is_finite l.name-iterator;
  listed : listed_on (map (string_bytes {Z = Global}) l.names) nothing_listed (map (λ (x : Bor (List ℕ)). x.now) l.yielded) ≡ Some l.listed;
}
