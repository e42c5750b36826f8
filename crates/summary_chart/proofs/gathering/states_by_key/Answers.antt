-- As the letters tell, the key is refused, ends the line, or leads on to one set of the table.
use Rattle.std.proofs.Common.{ℕ, ◌↔◌, length, subst}
use Rattle.phase_automaton.specs.Automata.{StateMachine}
use Rattle.derivation.specs.Steps.{key_meant}
use Rattle.summary_chart.specs.StateSets.{HasState, IsAcceptedBy, LeadsInto}
use Rattle.summary_chart.specs.Spreading.{leads_in}
use Rattle.summary_chart.proofs.FurtherKeys.{further_ends, further_neither, further_on}
use Rattle.summary_chart.proofs.TablePlaces.{has_set}
use Rattle.summary_chart.proofs.gathering.states_by_key.Goals as goal

pub get-requires : goal.get-requires
get-requires c =
    let may = c.in-LeadsOn.ensures.exact in
    has_set (leads_in c.args.here.site.lexicon.now) (length c.args.here.site.line.now.letters) c.args.table.now c.in-LeadsOn.at c.in-LeadsOn.entrance c.requires.table may.within may.over

pub returns-in-Refused : goal.returns-in-Refused
returns-in-Refused c =
    further_neither c.args.here.site.lexicon.now c.args.here.site.line.now c.args.here.site.choices.now c.args.table.now c.args.here.site.place.now c.args.states (key_meant c.args.key)
    c.empty.result c.in-Refused.ensures.exact c.empty.ensures.none

pub returns-in-Ends : goal.returns-in-Ends
returns-in-Ends c =
    let accepted = subst (λ (machine : StateMachine). (number : ℕ) → HasState c.accepted_states.result number ↔ IsAcceptedBy machine c.args.states c.args.key.phase number)
    c.automaton-automaton.ensures.value c.accepted_states.ensures in
    further_ends c.args.here.site.lexicon.now c.args.here.site.line.now c.args.here.site.choices.now c.args.table.now c.args.here.site.place.now c.args.states (key_meant c.args.key)
    c.accepted_states.result c.in-Ends.ensures.exact accepted

pub returns-in-LeadsOn : goal.returns-in-LeadsOn
returns-in-LeadsOn c =
    let into = subst (λ (machine : StateMachine). (number : ℕ) → HasState c.states_into.result number ↔ LeadsInto machine c.args.states c.args.key.phase c.get.result number)
    c.automaton-automaton.ensures.value c.states_into.ensures in
    further_on c.args.here.site.lexicon.now c.args.here.site.line.now c.args.here.site.choices.now c.args.table.now c.args.here.site.place.now c.args.states (key_meant c.args.key) c.in-LeadsOn.at c.in-LeadsOn.entrance
    c.get.result c.states_into.result c.in-LeadsOn.ensures.exact c.get.ensures.entrance c.get.ensures.set into
