-- What is left at the end rises.
use Rattle.std.proofs.Common.{◌∙◌, map, sym, arith}
use Rattle.std.proofs.lemmas.List.{length-map}
use Rattle.form_tags.specs.Analyses.{text_delta}
use Rattle.lexicon_definitions.specs.Deltas.{compare_deltas}
use Rattle.lexicon_file.proofs.RisingLemmas.{short_rises}
use Rattle.lexicon_file.proofs.rows.deltas_rise.Goals as goal

pub returns : goal.returns
returns c =
    let long = length-map c.loop-rest.rest.now text_delta in
    let few = c.in_default.len_below in
    sym (short_rises compare_deltas (map text_delta c.loop-rest.rest.now) (omega (arith, long, few))) ∙ c.loop-rest.invariant
