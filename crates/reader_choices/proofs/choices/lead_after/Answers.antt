-- The lead that steps leave is the v of the last one's rule.
use Rattle.std.proofs.Common.{◌≡◌, ◌∙◌, ◌-◌, ◌<◌, [], length, refl, sym, ap, arith}
use Rattle.std.proofs.lemmas.Option.{get_or_from_slice_get, slice_get_within}
use Rattle.lexicon_definitions.specs.Rules.{Rule}
use Rattle.lexicon_definitions.specs.Lexicons.{rule_of}
use Rattle.reader_choices.proofs.StandingSteps.{lead_of_last, no_lead_unchanged}
use Rattle.reader_choices.proofs.choices.lead_after.Goals as goal

pub returns-in-Some-rule : goal.returns-in-Some-rule
returns-in-Some-rule c =
    let steps = c.args.before.now in
    let i = length steps - 1 in
    let last = c.in-Some.last.now in
    let within : i < length steps = slice_get_within steps i last (sym c.in-Some.ensures.value) in
    let is = get_or_from_slice_get steps i last last (sym c.in-Some.ensures.value) in
    c.as_slice.ensures.value
    ∙ ap (λ (rule : Rule). rule.v) (c.rule-in-Some-rule.view_is ∙ c.in-Some-rule.ensures.some)
    ∙ ap (λ step. (rule_of c.args.rules.now step.rule).v) (sym is)
    ∙ sym (lead_of_last c.args.rules.now steps i [] last (omega arith))

pub returns-in-None : goal.returns-in-None
returns-in-None c =
    let steps = c.args.before.now in
    let i = length steps - 1 in
    let last = c.in-Some.last.now in
    let within : i < length steps = slice_get_within steps i last (sym c.in-Some.ensures.value) in
    let is = get_or_from_slice_get steps i last last (sym c.in-Some.ensures.value) in
    let unchanged : last.rule ≡ 0 = c.in-None.ensures.none.0 refl in
    sym (no_lead_unchanged c.args.rules.now last.rule unchanged)
    ∙ ap (λ step. (rule_of c.args.rules.now step.rule).v) (sym is)
    ∙ sym (lead_of_last c.args.rules.now steps i [] last (omega arith))
