-- The fronts of forms at a place gone over letter by letter: those that take so many letters, each for all phases whose forms do the same from it
-- on, with the states that come after these (own).
use Rattle.std.specs.Prelude.{◌≡◌, ℕ, ◌+◌, ◌<◌, ◌≤◌, ◌⊎◌, ◌↔◌, ◌++◌, ◌∷◌, [], Some, List, length, slice_set, All}
use Rattle.segmentation_definitions.specs.Items.{Choice}
use Rattle.segmentation_definitions.specs.Listings.{Key}
use Rattle.annotated_trie.specs.Searched.{SearchedLexicon}
use Rattle.search_frames.specs.declared.configuration.Configuration.{Configuration}
use Rattle.search_frames.specs.Frames.{IsConfigurationIn, numbered_of}
use Rattle.summary_chart.specs.declared.alike.AlikeFront.{AlikeFront}
use Rattle.summary_chart.specs.declared.site.SiteAhead.{SiteAhead}
use Rattle.summary_chart.specs.declared.state_set.StateSet.{StateSet}
use Rattle.summary_chart.specs.declared.table.Table.{Table}
use Rattle.summary_chart.specs.declared.walk_memo.Walk.{Walk}
use Rattle.summary_chart.specs.AlikeFronts.{DoAlike, DoesAs, front_at}
use Rattle.summary_chart.specs.Spreading.{IsLedOnTo}
use Rattle.summary_chart.specs.StateSets.{HasState, IsLedTo}
use Rattle.summary_chart.specs.Tables.{IsIn}
use Rattle.summary_chart.specs.Walked.{IsWalkFrom, IsWalkSpread}

-- forms of the phase do what those of the front's phase do
abbrev pub DoesAsOne : SiteAhead → AlikeFront → ℕ → Type 0
DoesAsOne here one =
    DoesAs here.site.lexicon.now here.site.line.now here.site.choices.now (numbered_of here.site.lexicon.now here.site.place.now) one.front

-- a front at the place, of a phase of which forms may be entered there, that goes no further than the limit
pub record IsFrontHere (here : SiteAhead) (one : AlikeFront) : Type 0 where
  pub own : DoesAsOne here one one.front.phase
  pub near : here.site.place.now.at + one.front.taken ≤ here.ahead.limit

-- each state that stands with the front is one to which some state of the set leads by a phase whose forms do what those of the front's phase do
abbrev pub IsLedFront : SiteAhead → StateSet → AlikeFront → Type 0
IsLedFront here set one = (to : ℕ) → HasState one.states to
    → (phase : ℕ) × DoesAsOne here one phase × IsLedTo here.site.lexicon.now.machine set phase to

-- the states were put to one of the fronts from which on forms do the same, or the front with them was put after the others
abbrev pub IsUnited : SearchedLexicon → List Choice → List AlikeFront → AlikeFront → List AlikeFront → Type 0
IsUnited searched choices old one new =
    (new ≡ old ++ one ∷ [])
    ⊎ ((number : ℕ) × (united : AlikeFront) × (number < length old) × DoAlike searched choices (front_at old number).front one.front
    × (new ≡ slice_set old number united) × (united.front ≡ (front_at old number).front)
    × ((to : ℕ) → HasState united.states to ↔ (HasState (front_at old number).states to ⊎ HasState one.states to)))

-- the key leads on from a state of the set to the place
abbrev pub LedFrom : SiteAhead → StateSet → Key → Configuration → Type 0
LedFrom here = IsLedOnTo here.site.lexicon.now here.site.line.now here.site.choices.now here.site.place.now.at here.site.place.now.entrance

-- one of the fronts, from this number on, is left to be gone over with the place's state for the key, which takes as many letters or more
pub record IsLeftTo (here : SiteAhead) (fronts : List AlikeFront) (from : ℕ) (key : Key) (next : Configuration) : Type 0 where
  pub number : ℕ
  pub above : from ≤ number
  pub there : number < length fronts
  pub longer : (front_at fronts number).front.taken ≤ key.taken
  pub does : DoesAsOne here (front_at fronts number) key.phase
  pub to : ℕ
  pub is : next.state ≡ Some to
  pub has : HasState (front_at fronts number).states to

-- these fronts take so many letters, and where a key leads on to from a state of the set is in the table, or is left to one of them
pub record AreLevel (here : SiteAhead) (set : StateSet) (taken : ℕ) (table : Table) (fronts : List AlikeFront) : Type 0 where
  pub each : All (λ one. one.front.taken ≡ taken) fronts
  pub led : All (IsLedFront here set) fronts
  pub all : (key : Key) (next : Configuration) → LedFrom here set key next → IsIn table next ⊎ IsLeftTo here fronts 0 key next

-- the table has what it had, and besides only where some key leads on to from a state of the set
pub record SpreadsOnly (here : SiteAhead) (set : StateSet) (old new : Table) : Type 0 where
  pub keeps : (place : Configuration) → IsIn old place → IsIn new place
  pub only : (place : Configuration) → IsConfigurationIn here.site.lexicon.now here.site.line.now place → IsIn new place
      → IsIn old place ⊎ ((key : Key) × LedFrom here set key place)

-- what is met on a walk on from the front, which takes a letter, was spread with the states that stand with it
abbrev pub IsSpreadOn : SiteAhead → Table → AlikeFront → Type 0
IsSpreadOn here table one = 0 < one.front.taken → (from : Walk) → IsWalkFrom here one.front from
    → IsWalkSpread here.site.lexicon.now here.site.line.now table (record { walk = from; states = one.states })
