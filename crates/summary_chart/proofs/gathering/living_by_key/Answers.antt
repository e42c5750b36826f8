-- As the letters tell, the key is refused, ends the line, or leads on to one set of the table (`LivingVisits`).
use Rattle.std.proofs.Common.{ℕ, ◌↔◌, IsTrue, Some, length, subst}
use Rattle.phase_automaton.specs.Automata.{StateMachine, is_accepting}
use Rattle.derivation.specs.Steps.{key_meant}
use Rattle.summary_chart.specs.StateSets.{HasState}
use Rattle.summary_chart.specs.Spreading.{leads_in}
use Rattle.summary_chart.proofs.LivingVisits.{living_ends, living_neither, living_on}
use Rattle.summary_chart.proofs.TablePlaces.{has_set}
use Rattle.summary_chart.proofs.gathering.living_by_key.Goals as goal

pub get-requires : goal.get-requires
get-requires c =
    let may = c.in-LeadsOn.ensures.exact in
    has_set (leads_in c.args.here.site.lexicon.now) (length c.args.here.site.line.now.letters) c.args.table.now c.in-LeadsOn.at c.in-LeadsOn.entrance c.requires.table may.within may.over

pub returns-in-Refused : goal.returns-in-Refused
returns-in-Refused c =
    living_neither c.args.here.site.lexicon.now c.args.here.site.line.now c.args.here.site.choices.now c.args.here.site.place.now c.args.table.now (key_meant c.args.key)
    c.empty.result c.in-Refused.ensures.exact c.empty.ensures.none

pub returns-in-Ends : goal.returns-in-Ends
returns-in-Ends c =
    let accepting = subst (λ (machine : StateMachine). (number : ℕ) → HasState c.accepting_states.result number ↔ IsTrue (is_accepting machine (Some number)))
    c.automaton.ensures.value c.accepting_states.ensures in
    living_ends c.args.here.site.lexicon.now c.args.here.site.line.now c.args.here.site.choices.now c.args.here.site.place.now c.args.table.now (key_meant c.args.key)
    c.accepting_states.result c.in-Ends.ensures.exact accepting

pub returns-in-LeadsOn : goal.returns-in-LeadsOn
returns-in-LeadsOn c =
    living_on c.args.here.site.lexicon.now c.args.here.site.line.now c.args.here.site.choices.now c.args.here.site.place.now c.args.table.now (key_meant c.args.key)
    c.get.result c.in-LeadsOn.at c.in-LeadsOn.entrance c.in-LeadsOn.ensures.exact c.get.ensures.entrance c.get.ensures.set
