-- A key with which a path begins ends the line or leads on, so it is possible; none begins with one that is refused, nor with one that
-- leads to where a guide says false.
use Rattle.std.proofs.Common.{◌≡◌, ℕ, ◌⊎◌, inl, inr, Bool, false, Option, List, [], ◌∷◌, refl, sym, ◌∙◌, subst}
use Rattle.text_definitions.specs.Lines.{Line, IsLine}
use Rattle.segmentation_definitions.specs.Items.{Choice}
use Rattle.segmentation_definitions.specs.Listings.{Key}
use Rattle.listing_laws.specs.Ways.{IsPath}
use Rattle.answer_paths.specs.Following.{MayStand}
use Rattle.derivation.specs.declared.entrance.Entrance.{Entrance as ProgramEntrance}
use Rattle.annotated_trie.specs.Searched.{SearchedLexicon, IsSearchedLexicon}
use Rattle.search_frames.specs.declared.configuration.Configuration.{Configuration}
use Rattle.search_frames.specs.declared.testing.Test.{Test}
use Rattle.search_frames.specs.declared.testing.Test.TheVariants as test
use Rattle.search_frames.specs.Configurations.{NumberedConfiguration, IsPossible, LeadsOn, Ends, ways_in}
use Rattle.search_frames.specs.Guided.{IsGuideOf}
use Rattle.search_frames.specs.Reached.{IsReached}
use Rattle.search_frames.specs.FirstKeys.{IsJudged}
use Rattle.search_frames.specs.Tests.{IsRefused, IsTestOf, LeadsTo}
use Rattle.search_frames.specs.Turns.{BeginsPath}
use Rattle.search_frames.proofs.ConfigurationPaths.{guide_says}
use Rattle.search_frames.proofs.ConfigurationRanks.{possible_if_leads, possible_if_ends, not_both}
use Rattle.search_frames.proofs.LeadingTo.{leads_from}

module _ (searched : SearchedLexicon) (line : Line) (choices : List Choice) (here : NumberedConfiguration) (key : Key) where
  -- a key with which a path begins ends the line or leads on
  pub begins_cases : BeginsPath searched line choices here key → Ends searched line choices here key ⊎ LeadsOn searched line choices here key
  begins_cases ([], ends) = inl ends
  begins_cases (later ∷ keys, (next, (leads, same), path)) = inr leads

  -- so it is possible
  pub begins_possible : BeginsPath searched line choices here key → IsPossible searched line here key
  begins_possible begins = elim (begins_cases begins) [
    | inl ends ↦ possible_if_ends searched line choices here key ends
    | inr leads ↦ possible_if_leads searched line choices here key leads
  ]

  -- and may stand there
  pub begins_stands : BeginsPath searched line choices here key → MayStand searched.lexicon line choices here.at here.entrance key
  begins_stands begins = elim (begins_cases begins) [
    | inl ends ↦ ends.stands
    | inr leads ↦ leads.stands
  ]

  -- a key that is refused begins no path
  pub refused_begins : IsRefused searched line choices here key → BeginsPath searched line choices here key → ⊥
  refused_begins refused begins = elim (begins_cases begins) [
    | inl ends ↦ refused.ends ends
    | inr leads ↦ refused.leads_on leads
  ]

  -- so what the test of a key answers that does not lead on is what the key is judged to do
  pub judged_unless_leads : (says : ℕ → ProgramEntrance → Option ℕ → Bool) (does : Test) → ((next : Configuration) → does ≡ test.LeadsOn next → ⊥)
      → IsTestOf searched line choices here key does → IsJudged searched line choices says here key does
  judged_unless_leads says test.Refused not_on told = refused_begins told
  judged_unless_leads says test.Ends not_on told = told
  judged_unless_leads says (test.LeadsOn next) not_on told = absurd (not_on next refl)

  -- nor does one that leads to where the guide says false
  pub dead_begins : (covers : ℕ → ProgramEntrance → Option ℕ → Type 0) (says : ℕ → ProgramEntrance → Option ℕ → Bool) (next : Configuration)
      → IsSearchedLexicon searched → IsLine line → IsGuideOf searched line choices covers says → IsReached searched line choices here
      → LeadsTo searched line choices here key next → says next.at next.entrance next.state ≡ false → BeginsPath searched line choices here key → ⊥
  dead_begins covers says next is line_is guide reached leads dead ([], ends) = not_both searched line choices here key ends leads.leads_on
  dead_begins covers says next is line_is guide reached leads dead (later ∷ keys, (mid, (leads_on, same), path)) =
      let led = leads_from searched line choices here key next leads is reached in
      let from = subst (λ h. IsPath (ways_in searched line choices) h (later ∷ keys)) (same ∙ sym leads.is) path in
      let live = guide_says searched line choices covers says next is guide leads.within line_is led.reached (later ∷ keys) from in
      cc
