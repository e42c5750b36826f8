-- Whether all rise is told by what is left.
use Rattle.std.proofs.Common.{◌≡◌, length, map}
use Rattle.form_tags.specs.Analyses.{text_delta}
use Rattle.lexicon_definitions.specs.Deltas.{compare_deltas}
use Rattle.trie_text_definitions.specs.LimitedRules.{rises}
use Rattle.lexicon_file.proofs.rows.deltas_rise.Given as goal

abbrev pub decreases-loop-rest : goal.decreases-loop-rest
decreases-loop-rest l = length l.rest

abbrev pub invariant-loop-rest : goal.invariant-loop-rest
invariant-loop-rest l = rises compare_deltas (map text_delta l.rest) ≡ rises compare_deltas (map text_delta l.fn.deltas)
