-- Where the key leads on to as the letters tell, just the states were put in to which those of the set lead.
use Rattle.std.proofs.Common.{ℕ, ◌↔◌, length, subst}
use Rattle.phase_automaton.specs.Automata.{StateMachine}
use Rattle.search_frames.specs.Frames.{numbered_of}
use Rattle.search_frames.specs.WaysFrom.{key_of_way}
use Rattle.summary_chart.specs.StateSets.{HasState, IsLedTo}
use Rattle.summary_chart.specs.Spreading.{leads_in}
use Rattle.summary_chart.proofs.TablePlaces.{has_set, grown_at}
use Rattle.summary_chart.proofs.SpreadKeys.{spreads_one}
use Rattle.summary_chart.proofs.WayKeys.{way_may_lead}
use Rattle.summary_chart.proofs.spreading.spread_way.Goals as goal

pub add-requires : goal.add-requires
add-requires c =
    let searched = c.args.site.lexicon.now in
    let line = c.args.site.line.now in
    let here = numbered_of searched c.args.site.place.now in
    let may = way_may_lead searched line c.args.site.choices.now here c.args.way.now c.in-LeadsOn.at c.in-LeadsOn.entrance c.requires.way c.in-LeadsOn.is in
    has_set (leads_in searched) (length line.letters) c.args.table.now c.in-LeadsOn.at c.in-LeadsOn.entrance c.requires.table may.within may.over

pub returns-in-LeadsOn-clause-spreads : goal.returns-in-LeadsOn-clause-spreads
returns-in-LeadsOn-clause-spreads c =
    let searched = c.args.site.lexicon.now in
    let line = c.args.site.line.now in
    let choices = c.args.site.choices.now in
    let place = c.args.site.place.now in
    let set = c.args.states in
    let may = way_may_lead searched line choices (numbered_of searched place) c.args.way.now c.in-LeadsOn.at c.in-LeadsOn.entrance c.requires.way c.in-LeadsOn.is in
    let led = subst (λ (machine : StateMachine). (number : ℕ) → HasState c.states_after.result number ↔ IsLedTo machine set c.args.way.now.key.phase number)
    c.automaton.ensures.value c.states_after.ensures in
    spreads_one searched line choices place set (key_of_way c.args.way.now) c.in-LeadsOn.at c.in-LeadsOn.entrance
    may c.states_after.result c.args.table.now c.add.new.self c.add.ensures.entrance c.requires.table led
    (grown_at c.in-LeadsOn.at c.in-LeadsOn.entrance c.states_after.result c.args.table.now c.add.new.self c.add.ensures.changes c.add.ensures.added)
