-- The first overlaps of the phases so far are there.
use Rattle.std.proofs.Common.{◌<◌}
use Rattle.trie_text_definitions.specs.TrieForms.{phases_of}
use Rattle.segmentation_definitions.specs.Overlaps.{IsOverlap}
use Rattle.strictness.specs.Appending.{AppendsFirst}
use Rattle.strictness.proofs.listing.overlaps.Given as goal

abbrev pub invariant-loop-phase : goal.invariant-loop-phase
invariant-loop-phase l =
    AppendsFirst (λ x. IsOverlap (record { rules = l.fn.rules; phases = phases_of l.fn.store }) x × (x.phase < l.phase)) l.initial.found l.found
