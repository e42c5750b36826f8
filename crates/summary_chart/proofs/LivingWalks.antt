-- What lives from a front on: what a walk on from it gave, where walks are shared; what lives at the front and from the next one on; and
-- nothing, where no front is left.
use Rattle.std.proofs.Common.{◌⊎◌, inl, inr, ℕ, ◌+◌, ◌↔◌, Bool, IsTrue, None, List, sym, subst, arith}
use Rattle.std.proofs.lemmas.Bool.{cases_lt}
use Rattle.text_definitions.specs.Lines.{Line}
use Rattle.segmentation_definitions.specs.Items.{Choice}
use Rattle.annotated_trie.specs.Searched.{SearchedLexicon}
use Rattle.search_frames.specs.declared.ahead.Ahead.{Ahead}
use Rattle.search_frames.specs.declared.configuration.Configuration.{Configuration}
use Rattle.search_frames.specs.Ahead.{IsAhead, MayBegin}
use Rattle.search_frames.specs.Configurations.{rules_in}
use Rattle.search_frames.specs.Frames.{numbered_of}
use Rattle.search_frames.proofs.AheadTests.{near_if_stands}
use Rattle.summary_chart.specs.declared.site.Front.{Front}
use Rattle.summary_chart.specs.declared.site.SiteAhead.{SiteAhead}
use Rattle.summary_chart.specs.declared.state_set.StateSet.{StateSet}
use Rattle.summary_chart.specs.declared.table.Table.{Table}
use Rattle.summary_chart.specs.declared.walk_memo.Walked.{Walked}
use Rattle.summary_chart.specs.declared.walk_memo.WalkMemo.{WalkMemo}
use Rattle.summary_chart.specs.Fronts.{IsFrontAt, IsNextFront}
use Rattle.summary_chart.specs.Onward.{AreLivingBy}
use Rattle.summary_chart.specs.Sites.{IsSiteAhead}
use Rattle.summary_chart.specs.Spreading.{IsAtFront, IsInPhase}
use Rattle.summary_chart.specs.StateSets.{HasState}
use Rattle.summary_chart.specs.Walked.{AreWalksLiving, FitWithLetter, IsFromFront, IsKept, IsWalkLiving, IsWalkOf, LivesOnWalk}
use Rattle.summary_chart.proofs.LivingVisits.{lives_possible, lives_stands}
use Rattle.summary_chart.proofs.WalkedFronts.{lives_on_walk}

-- ---- front by front, from the longest to the shortest

module _ (searched : SearchedLexicon) (line : Line) (choices : List Choice) (place : Configuration) (table : Table) (phase : ℕ) where
  -- no key of the phase takes as many letters as the next front, which is none
  pub no_longer_lives : (ahead : Ahead) → IsAhead (rules_in searched) line place.at (numbered_of searched place).entrance ahead → (count : ℕ)
      → IsNextFront searched line (numbered_of searched place) phase ahead.limit count None → (empty : StateSet) → ((number : ℕ) → HasState empty number → ⊥)
      → AreLivingBy searched line choices (numbered_of searched place) table (IsFromFront phase count) empty
  no_longer_lives ahead is count none empty nothing number = (
    λ has. absurd (nothing number has),
    λ lives.
        let key = lives.0 in
        let near = near_if_stands searched line choices (numbered_of searched place) key ahead is (lives_stands searched line choices place table key number lives.2) in
        let low = none key (lives_possible searched line choices place table key number lives.2) lives.1.0 near in
        let long = lives.1.1 in
        absurd (omega (arith, low, long)),
  )

  -- a front, and those that are longer
  pub front_lives : (taken : ℕ) (longer here both : StateSet)
      → AreLivingBy searched line choices (numbered_of searched place) table (IsFromFront phase (taken + 1)) longer
      → AreLivingBy searched line choices (numbered_of searched place) table (IsAtFront phase taken) here
      → ((number : ℕ) → HasState both number ↔ (HasState longer number ⊎ HasState here number))
      → AreLivingBy searched line choices (numbered_of searched place) table (IsFromFront phase taken) both
  front_lives taken longer here both after at union number = (
    λ has. elim ((union number).0 has) [
      | inl more ↦
          let lives = (after number).0 more in
          let long = lives.1.1 in
          (lives.0, (lives.1.0, omega (arith, long)), lives.2)
      | inr now ↦
          let lives = (at number).0 now in
          let same = lives.1.1 in
          (lives.0, (lives.1.0, omega (arith, same)), lives.2)
    ],
    λ lives.
        let key = lives.0 in
        let long = lives.1.1 in
        (union number).1 (elim (cases_lt taken key.taken) [
          | inl above ↦ inl ((after number).1 (key, (lives.1.0, omega (arith, above)), lives.2))
          | inr least ↦ inr ((at number).1 (key, (lives.1.0, omega (arith, least, long)), lives.2))
        ]),
  )

  -- all fronts of the phase
  pub all_fronts_live : (living : StateSet) → AreLivingBy searched line choices (numbered_of searched place) table (IsFromFront phase 0) living
      → AreLivingBy searched line choices (numbered_of searched place) table (IsInPhase phase) living
  all_fronts_live living are number = (
    λ has. let lives = (are number).0 has in (lives.0, lives.1.0, lives.2),
    λ lives. (are number).1 (lives.0, (lives.1, omega arith), lives.2),
  )

-- ---- walks

module _ (here : SiteAhead) (is : IsSiteAhead here) (table : Table) (front : Front) (shares : Bool) (states : StateSet) (walked : Walked)
    (at_front : IsFrontAt here.site.lexicon.now here.site.line.now (numbered_of here.site.lexicon.now here.site.place.now) front.phase front.taken front.node)
    (begins : MayBegin (numbered_of here.site.lexicon.now here.site.place.now).entrance front.phase) (fits : IsTrue shares → FitWithLetter here)
    (of : IsWalkOf here front shares states walked) where
  -- the states that the walk gave live from the front on
  pub living_known : IsWalkLiving here.site.lexicon.now here.site.line.now table walked
      → AreLivingBy here.site.lexicon.now here.site.line.now here.site.choices.now (numbered_of here.site.lexicon.now here.site.place.now) table
      (IsFromFront front.phase front.taken) states
  living_known are number =
      let lives = lives_on_walk here front walked.walk table is at_front of.from (fits of.shared) of.some begins number in
      let had = subst (λ (s : StateSet). HasState s number ↔ LivesOnWalk here.site.lexicon.now here.site.line.now table walked.walk number) of.gave (are number) in
      (λ has. lives.0 (had.0 has), λ by. had.1 (lives.1 by))

  -- and those that live from the front on may be kept as those that the walk gave
  pub walk_living : AreLivingBy here.site.lexicon.now here.site.line.now here.site.choices.now (numbered_of here.site.lexicon.now here.site.place.now) table
      (IsFromFront front.phase front.taken) states
      → IsWalkLiving here.site.lexicon.now here.site.line.now table walked
  walk_living are number =
      let lives = lives_on_walk here front walked.walk table is at_front of.from (fits of.shared) of.some begins number in
      subst (λ (s : StateSet). HasState s number ↔ LivesOnWalk here.site.lexicon.now here.site.line.now table walked.walk number) (sym of.gave)
      (λ has. lives.1 ((are number).0 has), λ on. (are number).1 (lives.0 on))

-- what is kept lives, where it did before and each walk that is new does
pub walks_live : (searched : SearchedLexicon) (line : Line) (table : Table) (old new : WalkMemo) (IsNew : Walked → Type 0)
    → ((walked : Walked) → IsKept new walked → IsKept old walked ⊎ IsNew walked) → AreWalksLiving searched line table old
    → ((walked : Walked) → IsNew walked → IsWalkLiving searched line table walked) → AreWalksLiving searched line table new
walks_live searched line table old new IsNew keeps are is walked kept = elim (keeps walked kept) [
  | inl before ↦ are walked before
  | inr now ↦ is walked now
]
