-- What is first found among the links that are left is what is first found among all.
use Rattle.std.proofs.Common.{◌≤◌, drop, length}
use Rattle.std.specs.Prelude.{Option}
use Rattle.segmentation_definitions.specs.Overlaps.{Overlap}
use Rattle.joiner.specs.Joining.{IsFirstFound}
use Rattle.joiner.proofs.overlapping.first_overlap.Given as goal

abbrev pub invariant-loop-link : goal.invariant-loop-link
invariant-loop-link l = record {
  before : l.before ≤ length l.rules.rules;
  first : (found : Option Overlap) → IsFirstFound l.rules l.before (drop l.link-index l.links) found → IsFirstFound l.rules 0 l.links found;
}
