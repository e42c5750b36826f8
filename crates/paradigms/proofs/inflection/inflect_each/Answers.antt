-- Each thread meets a stem that is known of, and what it answers stands at the stem's place.
use Rattle.std.proofs.Common.{Vec, Global, ◌∙◌}
use Rattle.std.specs.Result.{IfOk}
use Rattle.rayon.proofs.ToStd.{slice-AllZip}
use Rattle.form_tags.specs.declared.entry.Entry.{Entry}
use Rattle.paradigms.specs.Parts.{IsPartOf}
use Rattle.paradigms.proofs.InflectionLemmas.{stem_ready, gathered}
use Rattle.paradigms.proofs.inflection.inflect_each.Goals as goal

pub collect-requires-clause-ready : goal.collect-requires-clause-ready
collect-requires-clause-ready g c κs within =
    rw (c.with_min_len.ensures.base, c.map.ensures.base, c.map.ensures.f)
    (λ k d inside x is. (stem_ready c.args.tables.now c.args.stems.now c.par_iter.result.slice.now c.par_iter.ensures c.requires k d x.now inside is, λ y p. tt))

pub returns : goal.returns
returns g c =
    let chain = c.in_ok-collect.ensures in
    let whole = rw c.with_min_len.ensures.base at chain.1 in
    let given = rw (c.map.ensures.base, c.map.ensures.f) at whole in
    gathered (λ (parts : Vec (Vec Entry Global) Global). parts.items) (IsPartOf c.args.tables.now) c.args.stems.now chain.0 c.in_ok-collect.field-0
    (slice-AllZip given.0 c.args.stems.now (given.1 ∙ c.par_iter.ensures) (λ stem result. IfOk result (IsPartOf c.args.tables.now stem)) chain.0 given.2) chain.2
