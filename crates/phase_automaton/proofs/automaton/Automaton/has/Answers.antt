-- A number is a state's where it is that of a row.
use Rattle.std.proofs.Common.{sym, ◌∙◌, arith}
use Rattle.std.proofs.lemmas.Bool.{ltb-true, lt-ltb}
use Rattle.phase_automaton.proofs.MachineTables.{seen_below, seen_number}
use Rattle.phase_automaton.proofs.automaton.Automaton.has.Goals as goal

pub returns-in-Some : goal.returns-in-Some
returns-in-Some c =
    let some = sym c.number.ensures ∙ c.in-Some.is in (
      (λ h.
          let below = ltb-true c.from.result c.len.result h in
          seen_number _ c.args.self.now c.self.view_is c.args.state c.in-Some.number some
          (omega (arith, below, c.from.ensures, c.len.ensures, c.self.inside.accepting.ok.0))),
      (λ h.
          let below = seen_below _ c.args.self.now c.self.view_is c.args.state c.in-Some.number some h in
          lt-ltb c.from.result c.len.result (omega (arith, below, c.from.ensures, c.len.ensures, c.self.inside.accepting.ok.0))),
    )
