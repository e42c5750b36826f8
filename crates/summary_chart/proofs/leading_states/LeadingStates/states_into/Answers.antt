-- All states that are reached by the phase are targets, or each state of the set that leads by it is looked at (`StateMoves`).
use Rattle.std.proofs.Common.{◌≡◌, ℕ, get_or, ap, arith}
use Rattle.std.proofs.lemmas.Bool.Decides.{nat_tests}
use Rattle.summary_chart.proofs.StateMoves.{into_all, into_by_them}
use Rattle.summary_chart.proofs.leading_states.LeadingStates.states_into.Goals as goal

pub returns-then-eq : goal.returns-then-eq
returns-then-eq c =
    let machine = c.args.automaton.now in
    let phase = c.args.phase in
    let same : c.intersection-wanted.result.bits ≡ (get_or c.args.self.now.reached phase (record { bits = 0 })).bits = grind (arith, nat_tests) in
    into_all machine phase c.args.set _ c.intersection-from.result (λ number. c.requires.leading.leads phase number c.requires.phase) c.intersection-from.ensures
    _ (λ number. c.requires.leading.reaches phase number c.requires.phase) c.args.targets c.intersection-wanted.result c.intersection-wanted.ensures
    (ap (λ (bits : ℕ). record { bits = bits }) same) c.states-states.ensures.machine

pub returns : goal.returns
returns c number =
    let machine = c.args.automaton.now in
    let phase = c.args.phase in
    let them = into_by_them machine phase c.args.set _ c.intersection-from.result (λ number. c.requires.leading.leads phase number c.requires.phase) c.intersection-from.ensures
    c.args.targets number in
    (λ has. them.0 ((c.states_into.ensures number).0 has), λ into. (c.states_into.ensures number).1 (them.1 into))
