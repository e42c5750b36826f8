-- The step is in the row with the state's number, which leads to a state of the table.
use Rattle.std.proofs.Common.{◌≡◌, ℕ, ◌+◌, ◌*◌, ◌<◌, Option, None, List, length, get_or, sym, ap, ◌∙◌, subst, arith}
use Rattle.std.proofs.lemmas.List.{get_or_read}
use Rattle.std.proofs.lemmas.Nat.{mul-add-lt}
use Rattle.phase_automaton.specs.Automata.{IsStateIn}
use Rattle.phase_automaton.proofs.MachineTables.{seen_phases, seen_below, seen_in, seen_next}
use Rattle.phase_automaton.proofs.automaton.Automaton.step.Goals as goal

-- what is read at an index is the step of the number that the index was made of
read_step : (steps : List (Option ℕ)) (from number phases phase : ℕ) (read : Option ℕ) → from ≡ number → number * phases + phase < length steps
    → read ≡ get_or steps (from * phases + phase) read → read ≡ get_or steps (number * phases + phase) None
read_step steps from number phases phase read same inside is =
    get_or_read steps (number * phases + phase) read inside (is ∙ ap (λ n. get_or steps (n * phases + phase) read) same) None

pub index-requires : goal.index-requires
index-requires c =
    let below = seen_below _ c.args.self.now c.self.view_is c.args.state c.in-Some.number (sym c.number.ensures ∙ c.in-Some.is) c.requires.state in
    let phases = seen_phases _ c.args.self.now c.self.view_is in
    let inside = mul-add-lt c.in-Some.number c.self.inside.phases c.args.phase (length c.self.inside.accepting.items) below
    (omega (arith, phases, c.requires.phase)) in
    let at = ap (λ n. n * c.self.inside.phases + c.args.phase) c.from.ensures in
    omega (arith, inside, at, c.self.invariant.rows, c.self.inside.steps.ok.0)

pub returns-clause-next : goal.returns-clause-next
returns-clause-next c =
    let some = sym c.number.ensures ∙ c.in-Some.is in
    let below = seen_below _ c.args.self.now c.self.view_is c.args.state c.in-Some.number some c.requires.state in
    let phases = seen_phases _ c.args.self.now c.self.view_is in
    let inside = mul-add-lt c.in-Some.number c.self.inside.phases c.args.phase (length c.self.inside.accepting.items) below
    (omega (arith, phases, c.requires.phase)) in
    read_step c.self.inside.steps.items c.from.result c.in-Some.number c.self.inside.phases c.args.phase c.index.result.now c.from.ensures
    (omega (arith, inside, c.self.invariant.rows)) c.index.ensures
    ∙ seen_next _ c.args.self.now c.self.view_is c.args.state c.in-Some.number some c.args.phase below c.requires.phase

pub returns-clause-within : goal.returns-clause-within
returns-clause-within c =
    let some = sym c.number.ensures ∙ c.in-Some.is in
    let below = seen_below _ c.args.self.now c.self.view_is c.args.state c.in-Some.number some c.requires.state in
    let phases = seen_phases _ c.args.self.now c.self.view_is in
    let inside = mul-add-lt c.in-Some.number c.self.inside.phases c.args.phase (length c.self.inside.accepting.items) below
    (omega (arith, phases, c.requires.phase)) in
    let read = read_step c.self.inside.steps.items c.from.result c.in-Some.number c.self.inside.phases c.args.phase c.index.result.now c.from.ensures
    (omega (arith, inside, c.self.invariant.rows)) c.index.ensures in
    subst (λ s. IsStateIn c.args.self.now s) (sym read)
    (seen_in _ c.args.self.now c.self.view_is (get_or c.self.inside.steps.items (c.in-Some.number * c.self.inside.phases + c.args.phase) None)
    (c.self.invariant.within (c.in-Some.number * c.self.inside.phases + c.args.phase)))
