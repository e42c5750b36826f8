-- The states are put to the front that was found, or the front comes after the others.
use Rattle.std.proofs.Common.{◌⊎◌, ◌↔◌, ◌<◌, inl, inr, refl, List, length, ap, subst}
use Rattle.std.proofs.lemmas.List.{get_or_read}
use Rattle.summary_chart.specs.AlikeFronts.{DoAlike, front_at}
use Rattle.summary_chart.specs.declared.alike.AlikeFront.{AlikeFront}
use Rattle.summary_chart.specs.declared.state_set.StateSet.{StateSet}
use Rattle.summary_chart.specs.StateSets.{HasState}
use Rattle.summary_chart.proofs.AlikeLists.{no_front}
use Rattle.summary_chart.proofs.longer.add_longer.Goals as goal

pub returns-in_ok-push-in-None : goal.returns-in_ok-push-in-None
returns-in_ok-push-in-None c = inl c.in_ok-push-in-None.ensures.items

pub returns-in-Some : goal.returns-in-Some
returns-in-Some c =
    let fronts = c.args.fronts.now.items in
    let one = c.args.one in
    let number = c.in-Some.number in
    let known = c.index-known.result.now in
    let found = subst (λ (list : List AlikeFront). (number < length list) × DoAlike c.args.site.lexicon.now c.args.site.choices.now (front_at list number).front one.front)
    c.as_slice.ensures.value c.in-Some.ensures in
    let read = get_or_read fronts number known found.0 c.index-known.ensures no_front in
    inr (
      number,
      record { front = known.front; states = c.union.result },
      found.0,
      found.1,
      refl,
      ap (λ (f : AlikeFront). f.front) read,
      λ to. subst (λ (states : StateSet). HasState c.union.result to ↔ (HasState states to ⊎ HasState one.states to)) (ap (λ (f : AlikeFront). f.states) read) (c.union.ensures to),
    )
