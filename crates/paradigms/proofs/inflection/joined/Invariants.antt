-- The entries so far, and those of the lists that are left, are those of all.
use Rattle.std.proofs.Common.{◌≡◌, ◌++◌}
use Rattle.std.specs.List.{flat_map}
use Rattle.paradigms.proofs.inflection.joined.Given as goal

abbrev pub invariant-loop-part : goal.invariant-loop-part
invariant-loop-part l = l.entries.items ++ flat_map (λ part. part.items) l.part-iterator.rest.items ≡ flat_map (λ part. part.items) l.fn.parts.items
