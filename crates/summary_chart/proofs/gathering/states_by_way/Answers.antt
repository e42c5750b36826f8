-- As the way tells, its key ends the line, or leads on to one set of the table.
use Rattle.std.proofs.Common.{ℕ, ◌↔◌, subst}
use Rattle.phase_automaton.specs.Automata.{StateMachine}
use Rattle.search_frames.specs.Frames.{numbered_of}
use Rattle.search_frames.specs.WaysFrom.{key_of_way}
use Rattle.summary_chart.specs.StateSets.{HasState, LeadsInto}
use Rattle.summary_chart.proofs.FurtherKeys.{further_on}
use Rattle.summary_chart.proofs.WayKeys.{way_may_lead}
use Rattle.summary_chart.proofs.gathering.states_by_way.Goals as goal

pub returns-in-LeadsOn : goal.returns-in-LeadsOn
returns-in-LeadsOn c =
    let searched = c.args.site.lexicon.now in
    let line = c.args.site.line.now in
    let choices = c.args.site.choices.now in
    let place = c.args.site.place.now in
    let may = way_may_lead searched line choices (numbered_of searched place) c.args.way.now c.in-LeadsOn.at c.in-LeadsOn.entrance c.requires.way c.in-LeadsOn.is in
    let into = subst (λ (machine : StateMachine). (number : ℕ) → HasState c.states_into.result number ↔ LeadsInto machine c.args.states c.args.way.now.key.phase c.get.result number)
    c.automaton-automaton.ensures.value c.states_into.ensures in
    further_on searched line choices c.args.table.now place c.args.states (key_of_way c.args.way.now) c.in-LeadsOn.at c.in-LeadsOn.entrance
    c.get.result c.states_into.result may c.get.ensures.entrance c.get.ensures.set into
