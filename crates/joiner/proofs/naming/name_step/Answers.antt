-- What is found of the step's phase, form and rule decides what it names.
use Rattle.std.proofs.Common.{◌≡◌, Some, None, Ok, Err, ◌∙◌, subst}
use Rattle.chain_definitions.specs.ChainFaults as faults
use Rattle.chain_definitions.specs.ChainFaults.{Why}
use Rattle.chain_definitions.specs.ChainTexts.{WrittenStep}
use Rattle.chain_definitions.specs.ChainReadings.{step_named}
use Rattle.joiner.specs.Triples.{change_of}
use Rattle.joiner.proofs.LinksNamed.{phase_told, no_phase, no_form, no_rule, is_named}
use Rattle.joiner.proofs.naming.name_step.Goals as goal

pub returns-in_default : goal.returns-in_default
returns-in_default c =
    let lexicon = c.args.lexicon.now.lexicon in
    let parts : WrittenStep = record { form = record { letters = c.form.inside.letters; name = c.form.inside.name.items }; change = change_of c.written.inside.change } in
    let is : parts ≡ c.args.written = (λ i. record { form = c.form.view_is i; change = change_of c.written.inside.change }) ∙ c.written.view_is in
    subst (λ (step : WrittenStep). step_named lexicon step ≡ Err faults.Phase) is
    (no_phase lexicon parts
    (phase_told lexicon.rules c.rules-rules.result.now _ parts.form.name c.as_slice.result.now None c.in_default.ensures.named c.phases.ensures c.rules-rules.ensures.value
    c.as_slice.ensures.value))

pub returns-then-not-has_form : goal.returns-then-not-has_form
returns-then-not-has_form c =
    let lexicon = c.args.lexicon.now.lexicon in
    let parts : WrittenStep = record { form = record { letters = c.form.inside.letters; name = c.form.inside.name.items }; change = change_of c.written.inside.change } in
    let is : parts ≡ c.args.written = (λ i. record { form = c.form.view_is i; change = change_of c.written.inside.change }) ∙ c.written.view_is in
    subst (λ (step : WrittenStep). step_named lexicon step ≡ Err faults.Form) is
    (no_form lexicon parts c.in-Some.phase
    (phase_told lexicon.rules c.rules-rules.result.now _ parts.form.name c.as_slice.result.now (Some c.in-Some.phase) c.in-Some.ensures.named c.phases.ensures
    c.rules-rules.ensures.value c.as_slice.ensures.value) c.has_form.result c.has_form.ensures c.if-not-has_form.true)

pub returns-in-None : goal.returns-in-None
returns-in-None c =
    let lexicon = c.args.lexicon.now.lexicon in
    let parts : WrittenStep = record { form = record { letters = c.form.inside.letters; name = c.form.inside.name.items }; change = change_of c.written.inside.change } in
    let is : parts ≡ c.args.written = (λ i. record { form = c.form.view_is i; change = change_of c.written.inside.change }) ∙ c.written.view_is in
    subst (λ (step : WrittenStep). step_named lexicon step ≡ Err faults.Rule) is
    (no_rule lexicon parts c.in-Some.phase
    (phase_told lexicon.rules c.rules-rules.result.now _ parts.form.name c.as_slice.result.now (Some c.in-Some.phase) c.in-Some.ensures.named c.phases.ensures
    c.rules-rules.ensures.value c.as_slice.ensures.value) c.has_form.result c.has_form.ensures c.if-not-has_form.false
    (c.in-None.ensures lexicon.rules c.requires))

pub returns : goal.returns
returns c =
    let lexicon = c.args.lexicon.now.lexicon in
    let parts : WrittenStep = record { form = record { letters = c.form.inside.letters; name = c.form.inside.name.items }; change = change_of c.written.inside.change } in
    let is : parts ≡ c.args.written = (λ i. record { form = c.form.view_is i; change = change_of c.written.inside.change }) ∙ c.written.view_is in
    subst (λ (step : WrittenStep). step_named lexicon step ≡ Ok (record { phase = c.in-Some.phase; form = c.form.inside.letters; rule = c.in-Some-rule_number.rule })) is
    (is_named lexicon parts c.in-Some.phase
    (phase_told lexicon.rules c.rules-rules.result.now _ parts.form.name c.as_slice.result.now (Some c.in-Some.phase) c.in-Some.ensures.named c.phases.ensures
    c.rules-rules.ensures.value c.as_slice.ensures.value) c.has_form.result c.has_form.ensures c.if-not-has_form.false c.in-Some-rule_number.rule
    (c.in-Some-rule_number.ensures lexicon.rules c.requires))
