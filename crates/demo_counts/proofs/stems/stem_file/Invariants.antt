-- The bytes so far are the records of the stems so far.
use Rattle.std.proofs.Common.{◌≡◌, take}
use Rattle.std.specs.List.{flat_map}
use Rattle.demo_definitions.specs.SourceTexts.{stem_record}
use Rattle.demo_counts.proofs.stems.stem_file.Given as goal

abbrev pub invariant-loop-stem : goal.invariant-loop-stem
invariant-loop-stem l = l.bytes.items ≡ flat_map stem_record (take l.stem-index l.stems)
