-- What is printed and what is left to print are together the overlaps.
use Rattle.std.proofs.Common.{◌≡◌, ◌++◌, string_bytes, drop}
use Rattle.run_definitions.specs.Overlaps.{printed_overlaps}
use Rattle.commands.proofs.check.push_overlaps.Given as goal

abbrev pub invariant-loop-overlap : goal.invariant-loop-overlap
invariant-loop-overlap l =
    string_bytes l.output ++ printed_overlaps l.rules (drop l.overlap-index l.overlaps)
    ≡ string_bytes l.fn.output ++ printed_overlaps l.rules l.overlaps
