-- The analyses so far are those of the deltas so far, put in one after another.
use Rattle.std.proofs.Common.{◌≡◌, [], map, take}
use Rattle.list_laws.specs.RisingSets.{with_elements}
use Rattle.lexicon_definitions.specs.Analyses.{compare_analyses}
use Rattle.lexicon_definitions.specs.Deltas.{analysis_by}
use Rattle.form_tags.specs.Analyses.{text_analysis, text_delta}
use Rattle.shared_trie.proofs.analyses.analyses_by_deltas.Given as goal

abbrev pub invariant-loop-delta : goal.invariant-loop-delta
invariant-loop-delta l =
    map text_analysis l.analyses.items
    ≡ with_elements compare_analyses [] (map (analysis_by l.form) (map text_delta (take l.delta-index l.deltas)))
