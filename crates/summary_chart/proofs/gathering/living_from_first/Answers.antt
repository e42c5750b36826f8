-- Phases whose forms do the same have the same living states (`AlikeKeys`); what was found for a phase is put after the others.
use Rattle.std.proofs.Common.{◌≡◌, inl, inr, ℕ, ◌<◌, List, length, All, refl, sym, ap, subst, ◌∙◌, arith}
use Rattle.std.proofs.lemmas.List.{get_or_default}
use Rattle.std.proofs.lemmas.List.Elements.{All-push}
use Rattle.text_definitions.specs.Lines.{Line}
use Rattle.segmentation_definitions.specs.Items.{Choice}
use Rattle.annotated_trie.specs.Searched.{SearchedLexicon, IsSearchedLexicon}
use Rattle.search_frames.specs.Configurations.{NumberedConfiguration}
use Rattle.search_frames.specs.Frames.{numbered_of}
use Rattle.summary_chart.specs.declared.alike.AlikeFront.{AlikeFront}
use Rattle.summary_chart.specs.declared.site.Front.{Front}
use Rattle.summary_chart.specs.declared.state_set.StateSet.{StateSet}
use Rattle.summary_chart.specs.declared.table.Table.{Table}
use Rattle.summary_chart.specs.AlikeFronts.{DoAlike, DoesAs, IsLivingFront, front_at}
use Rattle.summary_chart.specs.Onward.{AreLivingBy}
use Rattle.summary_chart.specs.Spreading.{IsInPhase}
use Rattle.summary_chart.specs.Summaries.{key_with}
use Rattle.summary_chart.proofs.AlikeKeys.{does_alike, may_end_alike, may_lead_alike}
use Rattle.summary_chart.proofs.gathering.living_from_first.Goals as goal

-- after the states that live after the one phase, the line goes on by keys of the other, and after no others
living_alike : (searched : SearchedLexicon) (line : Line) (choices : List Choice) (here : NumberedConfiguration) (table : Table) → IsSearchedLexicon searched
    → (front : Front) (one other : ℕ) → front.taken ≡ 0 → DoesAs searched line choices here front one → DoesAs searched line choices here front other → (living : StateSet)
    → AreLivingBy searched line choices here table (IsInPhase one) living → AreLivingBy searched line choices here table (IsInPhase other) living
living_alike searched line choices here table is front one other none as_one as_other living are number = (
  λ has.
      let lives = (are number).0 has in
      let key = lives.0 in (
        key_with other key.taken key.rule,
        refl,
        elim lives.2 [
          | inl ends ↦ inl (may_end_alike searched line choices here is front one other as_one as_other key lives.1 (omega (arith, none)) ends.0, ends.1)
          | inr leads ↦ inr (leads.0, leads.1, may_lead_alike searched line choices here is front one other as_one as_other key lives.1 (omega (arith, none)) leads.0 leads.1 leads.2, leads.3)
        ],
      ),
  λ lives.
      let key = lives.0 in
      (are number).1 (
        key_with one key.taken key.rule,
        refl,
        elim lives.2 [
          | inl ends ↦ inl (may_end_alike searched line choices here is front other one as_other as_one key lives.1 (omega (arith, none)) ends.0, ends.1)
          | inr leads ↦ inr (leads.0, leads.1, may_lead_alike searched line choices here is front other one as_other as_one key lives.1 (omega (arith, none)) leads.0 leads.1 leads.2, leads.3)
        ],
      ),
)

pub returns-in-Some-clause-living : goal.returns-in-Some-clause-living
returns-in-Some-clause-living g c =
    let searched = c.args.here.site.lexicon.now in
    let line = c.args.here.site.line.now in
    let choices = c.args.here.site.choices.now in
    let here = numbered_of searched c.args.here.site.place.now in
    let table = c.args.table.now in
    let first = c.args.first.now in
    let fronts = c.args.room.now.fronts.items in
    let number = c.in-Some.number in
    let none : AlikeFront = record { front = record { phase = 0; taken = 0; node = 0 }; states = record { bits = 0 } } in
    let found = subst (λ (some : List AlikeFront). (number < length some) × DoAlike searched choices (front_at some number).front first) c.as_slice.ensures.value
    c.in-Some.ensures.found in
    let known = front_at fronts number in
    let same : c.index.result.now ≡ known = c.index.ensures ∙ get_or_default fronts number c.index.result.now none found.0 in
    let is : IsLivingFront searched line choices here table known = c.requires.fronts number none found.0 in
    subst (λ (one : AlikeFront). AreLivingBy searched line choices here table (IsInPhase first.phase) one.states) (sym same)
    (living_alike searched line choices here table c.requires.here.site.searched known.front known.front.phase first.phase is.first.taken is.first.own
    (does_alike searched line choices here known.front first first.phase found.1 c.requires.first.own) known.states is.living)

pub returns-in_err-living-clause-steps : goal.returns-in_err-living-clause-steps
returns-in_err-living-clause-steps g c most few =
    let count = ap length c.as_slice.ensures.value in
    let more = c.living_in_phase.ensures.steps most few in
    omega (arith, c.alike_at.ensures.steps, count, more)

pub returns-clause-fronts : goal.returns-clause-fronts
returns-clause-fronts g c =
    let searched = c.args.here.site.lexicon.now in
    let IsOne = IsLivingFront searched c.args.here.site.line.now c.args.here.site.choices.now (numbered_of searched c.args.here.site.place.now) c.args.table.now in
    subst (λ (some : List AlikeFront). All IsOne some) (sym c.in_ok-push.ensures.items)
    (All-push IsOne c.args.room.now.fronts.items (record { front = c.args.first.now; states = c.in_ok-living.living }) c.requires.fronts
    (record { first = c.requires.first; living = c.in_ok-living.ensures.living }))

pub returns-clause-steps : goal.returns-clause-steps
returns-clause-steps g c most few =
    let count = ap length c.as_slice.ensures.value in
    let more = c.living_in_phase.ensures.steps most few in
    omega (arith, c.alike_at.ensures.steps, count, more)
