-- The phase's front is put to one of the fronts before or after them (`AlikeLists`).
use Rattle.std.proofs.Common.{◌≡◌, ◌⊎◌, ◌↔◌, ◌+◌, ◌<◌, List, length, sym, ap, subst}
use Rattle.std.proofs.lemmas.List.{get_or_read}
use Rattle.search_frames.specs.Frames.{numbered_of}
use Rattle.summary_chart.specs.AlikeFronts.{AreOnwardFronts, DoAlike, front_at}
use Rattle.summary_chart.specs.declared.alike.AlikeFront.{AlikeFront}
use Rattle.summary_chart.specs.declared.state_set.StateSet.{StateSet}
use Rattle.summary_chart.specs.StateSets.{HasState}
use Rattle.summary_chart.proofs.AlikeLists.{no_front, with_front, with_states}
use Rattle.summary_chart.proofs.alike.add_onward.Goals as goal

pub returns-in-Some-clause-fronts : goal.returns-in-Some-clause-fronts
returns-in-Some-clause-fronts g c =
    let searched = c.args.site.lexicon.now in
    let choices = c.args.site.choices.now in
    let fronts = c.args.fronts.now.items in
    let one = c.args.one in
    let number = c.in-Some.number in
    let known = c.index-known.result.now in
    let found = subst (λ (list : List AlikeFront). (number < length list) × DoAlike searched choices (front_at list number).front one.front) c.as_slice.ensures.value
    c.in-Some.ensures.found in
    let read : known ≡ front_at fronts number = get_or_read fronts number known found.0 c.index-known.ensures no_front in
    with_states searched c.args.site.line.now choices (numbered_of searched c.args.site.place.now) c.args.states one c.requires.first c.requires.after fronts c.requires.so_far
    number found.0 found.1 (record { front = known.front; states = c.union.result }) (ap (λ (f : AlikeFront). f.front) read)
    (λ to. subst (λ (states : StateSet). HasState c.union.result to ↔ (HasState states to ⊎ HasState one.states to)) (ap (λ (f : AlikeFront). f.states) read) (c.union.ensures to))

pub returns-in_ok-push-in-None-clause-fronts : goal.returns-in_ok-push-in-None-clause-fronts
returns-in_ok-push-in-None-clause-fronts g c =
    let searched = c.args.site.lexicon.now in
    let line = c.args.site.line.now in
    let choices = c.args.site.choices.now in
    let here = numbered_of searched c.args.site.place.now in
    subst (AreOnwardFronts searched line choices here c.args.states (c.args.one.front.phase + 1)) (sym {A = List AlikeFront} c.in_ok-push-in-None.ensures.items)
    (with_front searched line choices here c.args.states c.args.one c.requires.first c.requires.after c.args.fronts.now.items c.requires.so_far)
