-- One state after another.
use Rattle.std.proofs.Common.{◌≡◌, inl, inr, ◌<◌, Some, None, length, sym, ◌∙◌, ap, arith}
use Rattle.std.proofs.lemmas.Option.{same_Some}
use Rattle.phase_automaton.specs.Automata.{next_state}
use Rattle.summary_chart.proofs.StateMoves.{led_more}
use Rattle.summary_chart.proofs.state_steps.states_after.Goals as goal

pub loop-number-preserved-in-Some-number : goal.loop-number-preserved-in-Some-number
loop-number-preserved-in-Some-number c number =
    let first = c.in-Some.number in
    let next : next_state c.args.automaton.now (Some first) c.args.phase ≡ Some c.in-Some-number.next = cc in
    let below : first < length c.args.automaton.now.states = omega (arith, c.if-from-states.true, c.states.ensures.count) in
    led_more c.args.automaton.now c.args.phase c.args.set c.loop-number.after c.with-after.result c.loop-number.rest c.in-Some.others first number
    (c.loop-number.invariant number) c.in-Some.ensures (
      λ has. elim ((c.with-after.ensures number).0 has) [ inl old ↦ inl old | inr same ↦ inr (below, next ∙ ap Some (sym same)) ],
      λ there. (c.with-after.ensures number).1 (elim there [ inl old ↦ inl old | inr (within, some) ↦ inr (same_Some number c.in-Some-number.next (sym some ∙ next)) ]),
    )

pub loop-number-preserved-in_default-number : goal.loop-number-preserved-in_default-number
loop-number-preserved-in_default-number c number =
    let next : next_state c.args.automaton.now (Some c.in-Some.number) c.args.phase ≡ None = cc in
    led_more c.args.automaton.now c.args.phase c.args.set c.loop-number.after c.loop-number.after c.loop-number.rest c.in-Some.others c.in-Some.number number
    (c.loop-number.invariant number) c.in-Some.ensures
    (λ has. inl has, λ there. elim there [ inl has ↦ has | inr (within, some) ↦ absurd (cc (next, some)) ])

pub loop-number-preserved : goal.loop-number-preserved
loop-number-preserved c number =
    let past = c.if-from-states.false in
    let count = c.states.ensures.count in
    led_more c.args.automaton.now c.args.phase c.args.set c.loop-number.after c.loop-number.after c.loop-number.rest c.in-Some.others c.in-Some.number number
    (c.loop-number.invariant number) c.in-Some.ensures
    (λ has. inl has, λ there. elim there [ inl has ↦ has | inr (within, some) ↦ absurd (omega (arith, within, past, count)) ])
