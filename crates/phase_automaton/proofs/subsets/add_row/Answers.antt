-- The lemmas on sets and rows, at the next phase.
use Rattle.std.proofs.Common.{◌≡◌, ◌+◌, ◌++◌, ◌∷◌, [], sym, ap, ◌∙◌, arith, append_assoc, subst}
use Rattle.std.proofs.lemmas.Result.{err_from_is_err_and}
use Rattle.std.proofs.lemmas.List.{length_push}
use Rattle.lexicon_definitions.specs.GrammarFaults.{States}
use Rattle.phase_automaton.specs.Subsets.{IsSetStep, HasMoreSets, StandsFor}
use Rattle.phase_automaton.proofs.FaultCases.{if_fault_weaker}
use Rattle.phase_automaton.proofs.SubsetSteps.{next_has, reached_next, finds_extends, finds_states, finds_stands, extends_more, row_more, more_sets}
use Rattle.phase_automaton.proofs.subsets.add_row.Goals as goal

pub returns-in_err-state-clause-fault : goal.returns-in_err-state-clause-fault
returns-in_err-state-clause-fault c =
    let p = err_from_is_err_and c.from_residual.result c.from_residual.ensures.1 in
    let has = next_has c.args.positions.now c.args.set c.followers-followers.result c.with_phase.result c.loop-phase.phase c.requires.closed c.followers-followers.ensures c.with_phase.ensures in
    rw (p.1, p.2)
    (if_fault_weaker c.in_err-state.field-0.0 _ (λ fault. (fault ≡ States) × HasMoreSets c.args.positions.now)
    (λ fault h. (
      h.0,
      more_sets c.args.positions.now c.loop-phase.sets.items c.with_phase.result c.loop-phase.invariant.states (sym c.loop-phase.sets.ok.0 ∙ h.1) h.2
          (reached_next c.args.positions.now c.args.set c.with_phase.result c.loop-phase.phase c.requires.set has h.2.some),
    ))
    c.in_err-state.ensures.fault)

pub loop-phase-preserved : goal.loop-phase-preserved
loop-phase-preserved c =
    let positions = c.args.positions.now in
    let old = c.loop-phase.sets.items in
    let new = c.state_for.new.sets.items in
    let phase = c.loop-phase.phase in
    let state = c.in_ok-state.state in
    let found = c.in_ok-state.ensures.ok in
    let row = c.loop-phase.invariant.row in
    let has = next_has c.args.positions.now c.args.set c.followers-followers.result c.with_phase.result c.loop-phase.phase c.requires.closed c.followers-followers.ensures c.with_phase.ensures in
    let extends = finds_extends old new c.with_phase.result state found in
    let stands = finds_stands old new c.with_phase.result state (IsSetStep c.args.positions.now c.args.set c.loop-phase.phase) found has in
    record {
      states = finds_states c.args.positions.now old new c.with_phase.result state found c.loop-phase.invariant.states (omega (arith, c.state_for.ensures.few, c.state_for.new.sets.ok.0))
          (reached_next c.args.positions.now c.args.set c.with_phase.result c.loop-phase.phase c.requires.set has);
      extends = extends_more c.args.sets.now.items old new c.loop-phase.invariant.extends extends;
      row = (
        row.0 ++ state ∷ [],
        c.in_ok-push.ensures.items ∙ (ap (λ s. s ++ state ∷ []) row.1 ∙ append_assoc c.args.steps.now.items row.0 (state ∷ [])),
        length_push row.0 state ∙ ap (λ n. n + 1) row.2,
        row_more c.args.positions.now old new c.args.set row.0 state extends row.3
            (subst (λ k. StandsFor new state (IsSetStep c.args.positions.now c.args.set k)) (sym row.2) stands),
      );
    }
