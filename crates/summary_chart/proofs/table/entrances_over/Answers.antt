-- Each entrance that is pushed stands in the next column.
use Rattle.std.proofs.Common.{◌≡◌, ℕ, ◌+◌, ◌∷◌, ◌++◌, [], ap, ◌∙◌, subst, sym, arith}
use Rattle.text_definitions.specs.Letters.{IsLetter}
use Rattle.derivation.specs.declared.entrance.Entrance.TheVariants.{Start, Lead as ByLead}
use Rattle.summary_chart.proofs.TableColumns.{AreColumns, no_columns, one_more, lead_stands, start_stands, one_letter_more, all_columns}
use Rattle.summary_chart.proofs.table.entrances_over.Goals.{in-Some+in_ok-push-3, in_default}
use Rattle.summary_chart.proofs.table.entrances_over.Goals as goal

pub loop-place-init : goal.loop-place-init
loop-place-init c =
    let none : c.reserve.new.self.items ≡ [] = cc in
    subst (AreColumns c.args.leads 0) (sym none) (no_columns c.args.leads)

pub loop-place-preserved : goal.loop-place-preserved
loop-place-preserved c =
    let pushed : c.push.new.self.items ≡ c.loop-place.entrances.items ++ ByLead c.loop-place.place ∷ [] = c.in_ok-push.ensures.items in
    subst (AreColumns c.args.leads (c.loop-place.place + 1)) (sym pushed)
    (one_more c.args.leads c.loop-place.place c.loop-place.entrances.items (ByLead c.loop-place.place) c.loop-place.invariant
    (lead_stands c.args.leads c.loop-place.place c.loop-place-test.true))

pub loop-code-init : goal.loop-code-init
loop-code-init c =
    let pushed : c.push-2.new.self.items ≡ c.loop-place.entrances.items ++ Start ∷ [] = c.in_ok-push-2.ensures.items in
    let all : c.loop-place.place ≡ c.args.leads = omega (arith, c.loop-place.auto.place-end, c.loop-place-test.false) in
    let leads = subst (λ (n : ℕ). AreColumns c.args.leads n c.loop-place.entrances.items) all c.loop-place.invariant in
    subst (AreColumns c.args.leads (c.args.leads + 1)) (sym pushed)
    (one_more c.args.leads c.args.leads c.loop-place.entrances.items Start leads (start_stands c.args.leads))

pub loop-code-preserved : goal.loop-code-preserved
loop-code-preserved c =
    let code = c.loop-code.code in
    let is : IsLetter code = omega (arith, c.loop-code.auto.code, c.loop-code-test.true) in
    elim c.match-new.branch [
      | in-Some+in_ok-push-3 w ↦
          let same : w.in-Some.letter ≡ code = w.in-Some.ensures.value in
          subst (AreColumns c.args.leads (c.args.leads + (code + 1))) (sym (ap (λ v. v.items) w.entrances-is ∙ w.in_ok-push-3.ensures.items))
          (one_letter_more c.args.leads code w.in-Some.letter c.loop-code.entrances.items c.loop-code.invariant same (subst IsLetter (sym same) is))
      | in_default w ↦ absurd (cc (w.in_default.ensures.some.1 is))
    ]

pub returns : goal.returns
returns c =
    all_columns c.args.leads (c.args.leads + c.loop-code.code) c.loop-code.entrances.items
    (omega (arith, c.loop-code.auto.code-end (omega arith), c.loop-code-test.false)) c.loop-code.invariant
