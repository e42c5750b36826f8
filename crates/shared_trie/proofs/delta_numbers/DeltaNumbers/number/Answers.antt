-- The delta that is added is that of the analysis.
use Rattle.std.proofs.Common.{◌≡◌, ◌-◌, ℕ, List, length, sym, subst}
use Rattle.std.specs.Prelude.{slice_range}
use Rattle.std.proofs.lemmas.Result.{IfOk-weaker}
use Rattle.form_tags.specs.Analyses.{text_analysis}
use Rattle.lexicon_definitions.specs.Deltas.{Delta, IsDelta}
use Rattle.shared_trie.specs.DeltaNumbers.{delta_of}
use Rattle.shared_trie.proofs.DeltaListings.{least_delta}
use Rattle.shared_trie.proofs.delta_numbers.DeltaNumbers.number.Goals as goal

pub returns-in-None-clause-ok : goal.returns-in-None-clause-ok
returns-in-None-clause-ok c =
    let form = c.args.form.now in
    let stem = c.as_slice-stem.result.now in
    let shared = c.shared_len-shared.result in
    let analysis = text_analysis c.args.analysis.now in
    let delta : Delta = record { cut = length form - shared; append = slice_range stem shared (length stem); tag = analysis.tag } in
    let is : IsDelta form analysis delta =
    subst (λ (letters : List ℕ). IsDelta form (record { stem = letters; tag = analysis.tag }) delta) c.as_slice-stem.ensures.value
    (least_delta form stem analysis.tag shared c.shared_len-shared.ensures.in_form c.shared_len-shared.ensures.in_stem c.shared_len-shared.ensures.same c.shared_len-shared.ensures.differ) in
    IfOk-weaker c.add.result (λ number. delta_of c.add.new.self number ≡ delta) (λ number. IsDelta form analysis (delta_of c.add.new.self number))
    (λ number e. subst (IsDelta form analysis) (sym e) is) c.add.ensures.ok
