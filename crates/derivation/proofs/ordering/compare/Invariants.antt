-- The steps before the index have the same keys, so the rests decide.
use Rattle.std.proofs.Common.{◌≡◌, drop}
use Rattle.segmentation_definitions.specs.Listings.{compare_key_lists}
use Rattle.derivation.specs.Steps.{keys_of}
use Rattle.derivation.proofs.ordering.compare.Given as goal

abbrev pub invariant-loop-i : goal.invariant-loop-i
invariant-loop-i l =
    compare_key_lists (keys_of (drop l.i l.a)) (keys_of (drop l.i l.b)) ≡ compare_key_lists (keys_of l.a) (keys_of l.b)
