-- Where keys lead on to from a place of the line with a set of states, and which of the states go further (own).
use Rattle.std.specs.Prelude.{◌≡◌, ℕ, ◌⊎◌, ◌↔◌, Some, List, Contains}
use Rattle.text_definitions.specs.Lines.{Line}
use Rattle.lexicon_definitions.specs.Leads.{Lead, leads_of}
use Rattle.segmentation_definitions.specs.Items.{Choice}
use Rattle.segmentation_definitions.specs.Listings.{Key}
use Rattle.derivation.specs.declared.entrance.Entrance.{Entrance}
use Rattle.phase_automaton.specs.Automata.{StateMachine}
use Rattle.annotated_trie.specs.Searched.{SearchedLexicon}
use Rattle.search_frames.specs.declared.configuration.Configuration.{Configuration}
use Rattle.search_frames.specs.Configurations.{NumberedConfiguration, Ends, rules_in}
use Rattle.search_frames.specs.Frames.{IsConfigurationIn, numbered_of}
use Rattle.search_frames.specs.Tests.{LeadsTo}
use Rattle.summary_chart.specs.declared.state_set.StateSet.{StateSet}
use Rattle.summary_chart.specs.declared.table.Table.{Table}
use Rattle.summary_chart.specs.StateSets.{HasState, IsStateOf, IsLedTo}
use Rattle.summary_chart.specs.Tables.{IsIn}

-- the leads of the lexicon's rules
abbrev pub leads_in : SearchedLexicon → List Lead
leads_in searched = leads_of (rules_in searched).rules

-- the place after so many letters, entered so, with the state of this number
abbrev pub place_with : ℕ → Entrance → ℕ → Configuration
place_with at entrance number = record { at = at; entrance = entrance; state = Some number }

-- and where a search stands there
abbrev pub standing_with : SearchedLexicon → ℕ → Entrance → ℕ → NumberedConfiguration
standing_with searched at entrance number = numbered_of searched (place_with at entrance number)

-- the key leads on to the place from one of the states
abbrev pub IsLedOnTo : SearchedLexicon → Line → List Choice → ℕ → Entrance → StateSet → Key → Configuration → Type 0
IsLedOnTo searched line choices at entrance set key next =
    (number : ℕ) × IsStateOf searched.machine set number × LeadsTo searched line choices (standing_with searched at entrance number) key next

-- the places to which a key leads on that is told by this were added to the table, and no others
pub record Spreads (searched : SearchedLexicon) (line : Line) (choices : List Choice) (at : ℕ) (entrance : Entrance) (set : StateSet)
    (IsTold : Key → Type 0) (old new : Table) : Type 0 where
  pub keeps : (place : Configuration) → IsIn old place → IsIn new place
  pub adds : (key : Key) (next : Configuration) → IsTold key → IsLedOnTo searched line choices at entrance set key next
      → IsIn new next
  pub only : (place : Configuration) → IsConfigurationIn searched line place → IsIn new place
      → IsIn old place ⊎ ((key : Key) × IsTold key × IsLedOnTo searched line choices at entrance set key place)

-- the key ends the line, or leads on to a place of the table
abbrev pub GoesFurtherBy : SearchedLexicon → Line → List Choice → Table → NumberedConfiguration → Key → Type 0
GoesFurtherBy searched line choices table here key =
    Ends searched line choices here key
    ⊎ ((next : Configuration) × LeadsTo searched line choices here key next × IsIn table next)

-- some key that is told by this does so
abbrev pub GoesFurther : SearchedLexicon → Line → List Choice → Table → NumberedConfiguration → (Key → Type 0) → Type 0
GoesFurther searched line choices table here IsTold = (key : Key) × IsTold key × GoesFurtherBy searched line choices table here key

-- these are the states of the set from which such a key goes further
abbrev pub AreGoingFurther : SearchedLexicon → Line → List Choice → Table → ℕ → Entrance → StateSet → (Key → Type 0) → StateSet → Type 0
AreGoingFurther searched line choices table at entrance set IsTold result =
    (number : ℕ) → HasState result number
    ↔ (IsStateOf searched.machine set number × GoesFurther searched line choices table (standing_with searched at entrance number) IsTold)

-- every key is told
abbrev pub EveryKey : Key → Type 0
EveryKey key = Unit {0}

-- only this one is
abbrev pub OnlyKey : Key → Key → Type 0
OnlyKey key other = other ≡ key

-- one of this phase; of those, one with this number of letters; and of those, one with one of these rules
abbrev pub IsInPhase : ℕ → Key → Type 0
IsInPhase phase key = key.phase ≡ phase

abbrev pub IsAtFront : ℕ → ℕ → Key → Type 0
IsAtFront phase taken key = (key.phase ≡ phase) × (key.taken ≡ taken)

abbrev pub IsByRule : ℕ → ℕ → List ℕ → Key → Type 0
IsByRule phase taken rules key = (key.phase ≡ phase) × (key.taken ≡ taken) × Contains rules key.rule

-- one of a phase to which some state of the set leads
abbrev pub IsLedByPhase : StateMachine → StateSet → Key → Type 0
IsLedByPhase machine set key = (number : ℕ) × IsLedTo machine set key.phase number

-- the states of the set from which such a key goes further were put to those before
abbrev pub GathersMore : SearchedLexicon → Line → List Choice → Table → ℕ → Entrance → StateSet → (Key → Type 0) → StateSet → StateSet → Type 0
GathersMore searched line choices table at entrance set IsTold old new =
    (number : ℕ) → HasState new number
    ↔ (HasState old number
    ⊎ (IsStateOf searched.machine set number × GoesFurther searched line choices table (standing_with searched at entrance number) IsTold))
