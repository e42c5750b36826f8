-- One state after another.
use Rattle.std.proofs.Common.{◌≡◌, inl, inr, ℕ, Some, subst, arith}
use Rattle.phase_automaton.specs.Automata.{next_state}
use Rattle.summary_chart.specs.StateSets.{IsStateOf}
use Rattle.summary_chart.proofs.StateMoves.{kept_more}
use Rattle.summary_chart.proofs.state_steps.states_into.Goals.{else-from-states-via-then-from-states+else-leads_into, else-from-states-via-else-from-states}
use Rattle.summary_chart.proofs.state_steps.states_into.Goals as goal

pub loop-number-preserved : goal.loop-number-preserved
loop-number-preserved c number =
    let LeadsIn = λ (n : ℕ). (to : ℕ) × (next_state c.args.automaton.now (Some n) c.args.phase ≡ Some to) × IsStateOf c.args.automaton.now c.args.targets to in
    kept_more c.args.automaton.now LeadsIn c.args.set c.loop-number.into c.loop-number.into c.loop-number.rest c.in-Some.others c.in-Some.number number
    (c.loop-number.invariant number) c.in-Some.ensures (
      λ has. inl has,
      λ there. elim there [
        | inl has ↦ has
        | inr (same, within, leads) ↦ elim c.else-from-states.branch [
          | else-from-states-via-then-from-states+else-leads_into w ↦
              let yes = w.leads_into.ensures.1 (subst LeadsIn same leads) in
              let no = w.if-leads_into.false in
              absurd (cc (yes, no))
          | else-from-states-via-else-from-states w ↦
              let past = w.if-from-states.false in
              let count = c.states.ensures.count in
              absurd (omega (arith, past, count, within, same))
        ]
      ],
    )
