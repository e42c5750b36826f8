-- A walk over the forms of a phase, letter by letter in the trie: with which leads a form may begin, and which overlaps are to come.
use Rattle.std.specs.Prelude.{◌≡◌, ◌≢◌, ℕ, ◌+◌, ◌<◌, ◌≤◌, ◌⊎◌, Some, List, [], ◌++◌, length, slice_index_or, All, Contains}
use Rattle.std.specs.Ordering.{nat_cmp}
use Rattle.std.specs.List.Sorted.{IsStrictlySortedBy}
use Rattle.lexicon_definitions.specs.Rules.{HasPhase}
use Rattle.lexicon_definitions.specs.Leads.{Lead, leads_of}
use Rattle.lexicon_definitions.specs.Lexicons.{RuleSet}
use Rattle.lexicon_definitions.specs.Tries.{Row, IsTrie, row_of, walk}
use Rattle.segmentation_definitions.specs.Overlaps.{Overlap}
use Rattle.strictness.specs.Matches.{IsInForm, AreLettersOf}
use Rattle.strictness.specs.declared.phase_walk.PhaseWalk.{PhaseWalk}

-- one of the words begins with the other
abbrev pub Agree : List ℕ → List ℕ → Type 0
Agree v front = ((rest : List ℕ) × (front ≡ v ++ rest)) ⊎ ((rest : List ℕ) × (v ≡ front ++ rest))

-- the lead at this place
abbrev pub lead_at : RuleSet → ℕ → Lead
lead_at rules place = slice_index_or (leads_of rules.rules) place (record { v = []; after = 0 })

-- the lead at this place may come before the phase, its v agrees with the front, and the front is shorter than v and so many letters more
pub record MayBegin (rules : RuleSet) (phase longest : ℕ) (front : List ℕ) (place : ℕ) : Type 0 where
  pub there : place < length (leads_of rules.rules)
  pub precedes : HasPhase (lead_at rules place).after phase
  pub agrees : Agree (lead_at rules place).v front
  pub near : length front < length (lead_at rules place).v + longest

-- numbers below the bound, rising, among which are all that have the property
pub record AreWithin (P : ℕ → Type 0) (bound : ℕ) (numbers : List ℕ) : Type 0 where
  pub rising : IsStrictlySortedBy nat_cmp numbers
  pub within : All (λ number. number < bound) numbers
  pub complete : (number : ℕ) → P number → Contains numbers number

-- what holds of a walk: its rules by letters are those of the rules, no u is longer than it says, and it goes in a trie
pub record IsWalk (w : PhaseWalk) : Type 0 where
  pub letters : AreLettersOf w.rules.now w.letters.now
  pub longest : All (λ rule. length rule.u ≤ w.longest) w.rules.now.rules
  pub trie : IsTrie w.store.now

-- the word leads from the node to one at which a form ends
pub record LeadsToForm (rows : List Row) (node : ℕ) (word : List ℕ) : Type 0 where
  pub reached : ℕ
  pub walked : walk rows node word ≡ Some reached
  pub ends : (row_of rows reached).deltas ≢ []

-- an overlap in the front, where a form ends at the node
abbrev pub IsOwn : RuleSet → List Row → ℕ → List ℕ → ℕ → Overlap → Type 0
IsOwn rules rows phase front node overlap = IsInForm rules phase front overlap × ((row_of rows node).deltas ≢ [])

-- an overlap in a form that begins with the front and goes on from the node
pub record IsBelow (rules : RuleSet) (rows : List Row) (phase : ℕ) (front : List ℕ) (node : ℕ) (overlap : Overlap) : Type 0 where
  pub rest : List ℕ
  pub form_is : overlap.form ≡ front ++ rest
  pub leads : LeadsToForm rows node rest
  pub in_form : IsInForm rules phase overlap.form overlap
