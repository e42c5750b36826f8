-- The choices so far are allowed.
use Rattle.std.proofs.Common.{ℕ, ◌<◌, length, get_or}
use Rattle.segmentation_definitions.specs.Items.{Choice}
use Rattle.segmentation_definitions.specs.LocalTests.{AllowsChoice}
use Rattle.derivation.specs.Steps.{placed_with}
use Rattle.reader_choices.proofs.allowing.allows_each.Given as goal

abbrev pub invariant-loop-choice : goal.invariant-loop-choice
invariant-loop-choice l =
    (k : ℕ) (d : Choice) → k < l.choice-index
    → AllowsChoice l.rules (length l.line.letters) l.is_first (placed_with l.rules l.line.letters l.lead l.step) (get_or l.choices k d).kept (get_or l.choices k d).item
