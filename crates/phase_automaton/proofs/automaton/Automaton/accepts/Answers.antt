-- The row with the state's number says whether it ends words.
use Rattle.std.proofs.Common.{false, get_or, sym, ap, ◌∙◌, arith}
use Rattle.std.proofs.lemmas.List.{get_or_read}
use Rattle.phase_automaton.proofs.MachineTables.{seen_below, seen_accepting}
use Rattle.phase_automaton.proofs.automaton.Automaton.accepts.Goals as goal

pub index-requires : goal.index-requires
index-requires c =
    let below = seen_below _ c.args.self.now c.self.view_is c.args.state c.in-Some.number (sym c.number.ensures ∙ c.in-Some.is) c.requires in
    omega (arith, below, c.from.ensures, c.self.inside.accepting.ok.0)

pub returns-in-Some : goal.returns-in-Some
returns-in-Some c =
    let some = sym c.number.ensures ∙ c.in-Some.is in
    let below = seen_below _ c.args.self.now c.self.view_is c.args.state c.in-Some.number some c.requires in
    let items = c.self.inside.accepting.items in
    get_or_read items c.in-Some.number c.index.result.now below (c.index.ensures ∙ ap (λ n. get_or items n c.index.result.now) c.from.ensures) false
    ∙ seen_accepting _ c.args.self.now c.self.view_is c.args.state c.in-Some.number some below
