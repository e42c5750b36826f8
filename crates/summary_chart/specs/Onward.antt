-- What keys of a place do as far as the letters of the line, the blanks and the choices tell, whatever the grammar's state there: where they
-- lead on to with states that come after them, and after which states the line goes further by them (own).
use Rattle.std.specs.Prelude.{◌≡◌, ◌<◌, ◌⊎◌, ◌↔◌, ℕ, IsTrue, Bool, Some, List, []}
use Rattle.text_definitions.specs.Lines.{Line}
use Rattle.segmentation_definitions.specs.Items.{Choice}
use Rattle.segmentation_definitions.specs.Listings.{Key}
use Rattle.derivation.specs.declared.entrance.Entrance.{Entrance}
use Rattle.phase_automaton.specs.Automata.{is_accepting}
use Rattle.annotated_trie.specs.Searched.{SearchedLexicon}
use Rattle.search_frames.specs.Ahead.{MayBegin}
use Rattle.search_frames.specs.Configurations.{NumberedConfiguration, IsPossible, rules_in}
use Rattle.search_frames.specs.Frames.{IsConfigurationIn, numbered_of}
use Rattle.search_frames.specs.LetterTests.{DoAsRules, MayEndLine, MayLeadTo}
use Rattle.search_frames.specs.declared.configuration.Configuration.{Configuration}
use Rattle.summary_chart.specs.declared.site.SiteAhead.{SiteAhead}
use Rattle.summary_chart.specs.declared.spreading.Onward.{Onward}
use Rattle.summary_chart.specs.declared.state_set.StateSet.{StateSet}
use Rattle.summary_chart.specs.declared.table.Table.{Table}
use Rattle.summary_chart.specs.Effects.{DoSame}
use Rattle.summary_chart.specs.Sites.{IsSiteAhead}
use Rattle.summary_chart.specs.Spreading.{place_with}
use Rattle.summary_chart.specs.StateSets.{HasState}
use Rattle.summary_chart.specs.Summaries.{key_with}
use Rattle.summary_chart.specs.Tables.{IsIn}

-- a form of the phase may be entered at the place
pub record IsOnward (onward : Onward) (phase : ℕ) : Type 0 where
  pub here : IsSiteAhead onward.here
  pub begins : MayBegin (numbered_of onward.here.site.lexicon.now onward.here.site.place.now).entrance phase

-- the key may lead on to this place, which has one of the states
pub record PutsAt (searched : SearchedLexicon) (line : Line) (choices : List Choice) (here : NumberedConfiguration) (after : StateSet) (key : Key)
    (next : Configuration) : Type 0 where
  pub leads : MayLeadTo searched line choices here key next.at next.entrance
  pub number : ℕ
  pub has : HasState after number
  pub is : next.state ≡ Some number

-- of possible keys of the phase that take so many letters and whose rules do the same, one may lead on to a place where another may
abbrev pub LeadSame : SearchedLexicon → Line → List Choice → NumberedConfiguration → ℕ → ℕ → Type 0
LeadSame searched line choices here phase taken = (one other at : ℕ) (entrance : Entrance) → DoSame (rules_in searched) one other → 0 < one → 0 < other
    → IsPossible searched line here (key_with phase taken one)
    → MayLeadTo searched line choices here (key_with phase taken other) at entrance → MayLeadTo searched line choices here (key_with phase taken one) at entrance

-- whichever its rule, each key that takes so many letters does at the place what its rule does, with this Bool to say whether the line may end
-- there; or no choice is made, and so does each key whose form may be entered
abbrev pub DoAsRulesIfEntered : SiteAhead → ℕ → Bool → Type 0
DoAsRulesIfEntered here taken may_end =
    let site = here.site in
    DoAsRules site.lexicon.now site.line.now site.choices.now (numbered_of site.lexicon.now site.place.now) taken may_end
    ⊎ ((site.choices.now ≡ []) × (may_end ≡ here.ahead.may_end))

-- the places to which a key that is told by this may lead on were added to the table with each of the states, and no others
pub record Puts (searched : SearchedLexicon) (line : Line) (choices : List Choice) (here : NumberedConfiguration) (after : StateSet)
    (IsTold : Key → Type 0) (old new : Table) : Type 0 where
  pub keeps : (place : Configuration) → IsIn old place → IsIn new place
  pub adds : (key : Key) (next : Configuration) → IsTold key → PutsAt searched line choices here after key next → IsIn new next
  pub only : (place : Configuration) → IsConfigurationIn searched line place → IsIn new place
      → IsIn old place ⊎ ((key : Key) × IsTold key × PutsAt searched line choices here after key place)

abbrev pub SpreadsOnward : Onward → (Key → Type 0) → Table → Table → Type 0
SpreadsOnward onward =
    let site = onward.here.site in
    Puts site.lexicon.now site.line.now site.choices.now (numbered_of site.lexicon.now site.place.now) onward.after

-- after its phase with this state, the key may end the line, or may lead on to a place of the table
abbrev pub LivesByKey : SearchedLexicon → Line → List Choice → NumberedConfiguration → Table → Key → ℕ → Type 0
LivesByKey searched line choices here table key number =
    (MayEndLine searched line choices here key × IsTrue (is_accepting searched.machine (Some number)))
    ⊎ ((at : ℕ) × (entrance : Entrance) × MayLeadTo searched line choices here key at entrance × IsIn table (place_with at entrance number))

-- these are the states after which a key that is told by this does so
abbrev pub AreLivingBy : SearchedLexicon → Line → List Choice → NumberedConfiguration → Table → (Key → Type 0) → StateSet → Type 0
AreLivingBy searched line choices here table IsTold living =
    (number : ℕ) → HasState living number ↔ ((key : Key) × IsTold key × LivesByKey searched line choices here table key number)

-- those after which such a key does so were put to those before
abbrev pub LivesMore : SearchedLexicon → Line → List Choice → NumberedConfiguration → Table → (Key → Type 0) → StateSet → StateSet → Type 0
LivesMore searched line choices here table IsTold old new =
    (number : ℕ) → HasState new number ↔ (HasState old number ⊎ ((key : Key) × IsTold key × LivesByKey searched line choices here table key number))
