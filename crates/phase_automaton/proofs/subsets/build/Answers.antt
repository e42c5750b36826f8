-- The lemmas on rows, at the next set.
use Rattle.std.proofs.Common.{◌≡◌, ℕ, ◌+◌, ◌<◌, ◌↔◌, ◌∷◌, [], IsTrue, length, get_or, sym, ap, ◌∙◌, arith, subst}
use Rattle.std.proofs.lemmas.List.{length_push, get_or_read}
use Rattle.std.proofs.lemmas.Grind.{common_steps}
use Rattle.phase_automaton.specs.declared.position_set.PositionSet.{PositionSet}
use Rattle.phase_automaton.specs.PositionSets.{HasPosition}
use Rattle.phase_automaton.specs.Automata.{StateMachine}
use Rattle.phase_automaton.specs.Subsets.{set_at, AreStates, AddsRow, IsSubsetMachine}
use Rattle.phase_automaton.proofs.SubsetSteps.{first_states}
use Rattle.phase_automaton.proofs.SubsetTables.{AreRows, AreEnds, no_rows, rows_more, ends_more, all_rows}
use Rattle.phase_automaton.proofs.MachineTables.{machine_phases}
use Rattle.phase_automaton.proofs.subsets.build.Goals as goal

pub rows-init : goal.rows-init
rows-init c =
    let one : c.push.new.self.items ≡ c.only.result ∷ [] = grind (arith, common_steps) in
    let none : length c.new-accepting.result.items ≡ 0 = ap length c.new-accepting.ensures.items in
    record {
      states = subst (λ s. AreStates c.args.positions.now s) (sym one) (first_states c.args.positions.now c.only.result c.only.ensures);
      count = omega (arith, none);
      rows = subst (λ n. AreRows c.args.positions.now c.args.phases c.push.new.self.items c.new-steps.result.items n) (sym none)
          (no_rows c.args.positions.now c.args.phases c.push.new.self.items c.new-steps.result.items c.new-steps.ensures.items);
      ends = λ i h. absurd (omega (arith, none, h));
    }

pub rows-preserved : goal.rows-preserved
rows-preserved c =
    let old = c.rows.sets.items in
    let new = c.add_row.new.sets.items in
    let accepting = c.rows.accepting.items in
    let within : length c.rows.accepting.items < length c.rows.sets.items =
    omega (arith, c.rows.accepting.ok.0, c.rows.sets.ok.0, c.len.ensures, c.len-in-rows.ensures, c.rows-test.true) in
    let at : c.len-in-rows-2.result ≡ length c.rows.accepting.items = omega (arith, c.rows.accepting.ok.0, c.len-in-rows-2.ensures) in
    let set : set_at c.rows.sets.items (length c.rows.accepting.items) ≡ c.index-set.result.now =
    sym (get_or_read c.rows.sets.items (length c.rows.accepting.items) c.index-set.result.now within
    (c.index-set.ensures ∙ ap (λ n. get_or c.rows.sets.items n c.index-set.result.now) at) (record { bits = 0 })) in
    let pushed = c.in_ok-push-2.ensures.items in
    let count : length c.push-in-rows.new.self.items ≡ length c.rows.accepting.items + 1 = ap length pushed ∙ length_push c.rows.accepting.items c.meets.result in
    let extends = c.in_ok-add_row.ensures.extends in
    record {
      states = c.in_ok-add_row.ensures.states;
      count = omega (arith, count, within, extends.longer);
      rows = subst (λ n. AreRows c.args.positions.now c.args.phases c.add_row.new.sets.items c.add_row.new.steps.items n) (sym count)
          (rows_more c.args.positions.now c.args.phases c.rows.sets.items c.add_row.new.sets.items c.rows.steps.items c.add_row.new.steps.items (length c.rows.accepting.items)
          within extends
          (subst (λ (s : PositionSet). AddsRow c.args.positions.now c.add_row.new.sets.items s c.rows.steps.items c.add_row.new.steps.items c.args.phases) (sym set) c.in_ok-add_row.ensures.row)
          c.rows.invariant.rows);
      ends = subst (λ items. AreEnds c.args.ends c.add_row.new.sets.items items) (sym pushed)
          (ends_more c.args.ends c.rows.sets.items c.add_row.new.sets.items c.rows.accepting.items c.meets.result within extends
          (subst (λ (s : PositionSet). IsTrue c.meets.result ↔ ((position : ℕ) × HasPosition s position × HasPosition c.args.ends position)) (sym set) c.meets.ensures)
          c.rows.invariant.ends);
    }

pub returns-clause-machine : goal.returns-clause-machine
returns-clause-machine c =
    let items = c.rows.accepting.items in
    let count : length c.rows.accepting.items ≡ length c.rows.sets.items =
    omega (arith, c.rows.accepting.ok.0, c.rows.sets.ok.0, c.len.ensures, c.len-in-rows.ensures, c.rows-test.false, c.rows.invariant.count) in
    subst (λ m. IsSubsetMachine c.args.positions.now c.args.ends m) (sym c.new.ensures)
    (all_rows c.args.positions.now c.args.ends c.rows.sets.items _ c.rows.invariant.states count c.rows.invariant.rows c.rows.invariant.ends)

pub returns-clause-phases : goal.returns-clause-phases
returns-clause-phases c = ap (λ (m : StateMachine). m.phases) c.new.ensures ∙ machine_phases _
