-- The values so far are the texts of the analyses so far.
use Rattle.std.proofs.Common.{◌≡◌, map, take}
use Rattle.serde_json.specs.Data.{string}
use Rattle.serde_json.specs.View.{view}
use Rattle.session_definitions.specs.PrintedSummaries.{printed_analysis}
use Rattle.form_tags.specs.Analyses.{text_analysis}
use Rattle.annotation.proofs.values.tags_value.Given as goal

abbrev pub invariant-loop-analysis : goal.invariant-loop-analysis
invariant-loop-analysis l =
    map view l.list.items ≡ map string (map printed_analysis (map text_analysis (take l.analysis-index l.analyses)))
