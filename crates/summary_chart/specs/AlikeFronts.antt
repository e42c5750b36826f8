-- Phases whose forms do the same from a place, so that one walk serves them (own).
use Rattle.std.specs.Prelude.{◌≡◌, ◌<◌, ◌⊎◌, ℕ, [], List, length, slice_index_or, All, Option, Some, None}
use Rattle.text_definitions.specs.Lines.{Line}
use Rattle.segmentation_definitions.specs.Items.{Choice}
use Rattle.segmentation_definitions.specs.Listings.{Key}
use Rattle.annotated_trie.specs.AlikePhases.{IsAlike}
use Rattle.annotated_trie.specs.Searched.{SearchedLexicon}
use Rattle.search_frames.specs.Ahead.{MayBegin}
use Rattle.search_frames.specs.Configurations.{NumberedConfiguration, IsPossible, rules_in}
use Rattle.summary_chart.specs.declared.alike.AlikeFront.{AlikeFront}
use Rattle.summary_chart.specs.declared.site.Front.{Front}
use Rattle.summary_chart.specs.declared.state_set.StateSet.{StateSet}
use Rattle.summary_chart.specs.declared.table.Table.{Table}
use Rattle.summary_chart.specs.Fronts.{IsFrontAt}
use Rattle.summary_chart.specs.Onward.{AreLivingBy}
use Rattle.summary_chart.specs.Spreading.{IsInPhase}
use Rattle.summary_chart.specs.StateSets.{HasState, IsLedTo}

-- no choice is made, the fronts take as many letters and have one node, and no rule tells their phases apart
pub record DoAlike (searched : SearchedLexicon) (choices : List Choice) (one other : Front) : Type 0 where
  pub free : choices ≡ []
  pub taken : one.taken ≡ other.taken
  pub node : one.node ≡ other.node
  pub alike : IsAlike (rules_in searched) one.phase other.phase

-- forms of the phase do from the front on what those of the front's phase do: they may be entered at the place, what the rule before supplies
-- and the letters of the front lead to its node in their trie too, and theirs is the front's phase, or no choice is made and no rule tells the
-- two apart
pub record DoesAs (searched : SearchedLexicon) (line : Line) (choices : List Choice) (here : NumberedConfiguration) (front : Front) (phase : ℕ) : Type 0 where
  pub begins : MayBegin here.entrance phase
  pub leads : IsFrontAt searched line here phase front.taken front.node
  pub alike : (phase ≡ front.phase) ⊎ ((choices ≡ []) × IsAlike (rules_in searched) front.phase phase)

-- the front takes no letter, and is one of its phase
pub record IsFirst (searched : SearchedLexicon) (line : Line) (choices : List Choice) (here : NumberedConfiguration) (front : Front) : Type 0 where
  pub taken : front.taken ≡ 0
  pub own : DoesAs searched line choices here front front.phase

-- the front is that of the phase; or no form of the phase may be entered at the place
abbrev pub IsBegun : SearchedLexicon → Line → List Choice → NumberedConfiguration → ℕ → Option Front → Type 0
IsBegun searched line choices here phase None =
    (key : Key) → IsPossible searched line here key → MayBegin here.entrance key.phase → key.phase ≡ phase → ⊥
IsBegun searched line choices here phase (Some front) = (front.phase ≡ phase) × IsFirst searched line choices here front

-- forms of the phase do what those of the front's phase do, and all states to which those of the set lead by the phase stand with the front
pub record IsCovered (searched : SearchedLexicon) (line : Line) (choices : List Choice) (here : NumberedConfiguration) (set : StateSet) (one : AlikeFront)
    (phase : ℕ) : Type 0 where
  pub does : DoesAs searched line choices here one.front phase
  pub states : (to : ℕ) → IsLedTo searched.machine set phase to → HasState one.states to

-- each state that stands with the front is one to which some state of the set leads by a phase that the front covers
pub record IsOnwardFront (searched : SearchedLexicon) (line : Line) (choices : List Choice) (here : NumberedConfiguration) (set : StateSet) (one : AlikeFront) : Type 0 where
  pub first : IsFirst searched line choices here one.front
  pub only : (to : ℕ) → HasState one.states to → (phase : ℕ) × IsCovered searched line choices here set one phase × IsLedTo searched.machine set phase to

abbrev pub front_at : List AlikeFront → ℕ → AlikeFront
front_at fronts number = slice_index_or fronts number (record { front = record { phase = 0; taken = 0; node = 0 }; states = record { bits = 0 } })

-- one of the first so many fronts covers the phase
abbrev pub IsCoveredBy : SearchedLexicon → Line → List Choice → NumberedConfiguration → StateSet → List AlikeFront → ℕ → ℕ → Type 0
IsCoveredBy searched line choices here set fronts count phase =
    (number : ℕ) × (number < count) × IsCovered searched line choices here set (front_at fronts number) phase

-- each phase below this one to which a state of the set leads, and of which some form is possible and may be entered, is covered
pub record AreOnwardFronts (searched : SearchedLexicon) (line : Line) (choices : List Choice) (here : NumberedConfiguration) (set : StateSet) (below : ℕ)
    (fronts : List AlikeFront) : Type 0 where
  pub each : All (IsOnwardFront searched line choices here set) fronts
  pub all : (key : Key) (to : ℕ) → key.phase < below → IsPossible searched line here key → MayBegin here.entrance key.phase
      → IsLedTo searched.machine set key.phase to → IsCoveredBy searched line choices here set fronts (length fronts) key.phase

-- the states that stand with the front are just those after which some key of its phase ends the line or leads on to a place of the table
pub record IsLivingFront (searched : SearchedLexicon) (line : Line) (choices : List Choice) (here : NumberedConfiguration) (table : Table) (one : AlikeFront) : Type 0 where
  pub first : IsFirst searched line choices here one.front
  pub living : AreLivingBy searched line choices here table (IsInPhase one.front.phase) one.states
