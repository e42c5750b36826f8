-- The letters that deltas put at a place before a node: a delta puts a letter where it begins to cut, if it appends some.
use Rattle.std.specs.Prelude.{◌≡◌, ℕ, ◌+◌, ◌<◌, ◌≤◌, ◌⊎◌, ◌↔◌, List, ◌∷◌, length, slice_index}
use Rattle.lexicon_definitions.specs.Deltas.{Delta}
use Rattle.lexicon_definitions.specs.Tries.{Row, HasSuffix}
use Rattle.trie_checks.specs.NumberSets.{HasNumber}

-- the delta puts the letter so many letters before the form's end
pub record PutsLetter (before letter : ℕ) (delta : Delta) : Type 0 where
  pub cut : delta.cut ≡ before
  pub rest : List ℕ
  pub begins : delta.append ≡ letter ∷ rest

-- a delta below the node puts the letter so many letters before the node
pub record IsPut (rows : List Row) (node before letter : ℕ) : Type 0 where
  pub word : List ℕ
  pub delta : Delta
  pub has : HasSuffix rows node word delta
  pub puts : PutsLetter (length word + before) letter delta

-- the set has the letters that are put so many letters before the node
abbrev pub IsSetPut : List Row → ℕ → ℕ → ℕ → Type 0
IsSetPut rows node before set = (letter : ℕ) → HasNumber set letter ↔ IsPut rows node before letter

-- the sets are those of all nodes
pub record AreSetsPut (rows : List Row) (before : ℕ) (sets : List ℕ) : Type 0 where
  pub count : length sets ≡ length rows
  pub each : (node : ℕ) → node < length rows → IsSetPut rows node before (slice_index sets node)

-- no delta puts a letter more than so many letters before a node
pub record NonePutAbove (rows : List Row) (farthest : ℕ) : Type 0 where
  pub none : (node before letter : ℕ) → node < length rows → farthest < before → IsPut rows node before letter → ⊥

-- a set of places, counted from 0 at the letter before a node, allows this one: it has it, or the place is too far for such a set
abbrev pub Allows : ℕ → ℕ → Type 0
Allows places place = (64 ≤ place) ⊎ HasNumber places place

-- letters are put only at places before the node that the set allows; it may allow more
abbrev pub AllowsAll : List Row → ℕ → ℕ → Type 0
AllowsAll rows node places = (place letter : ℕ) → IsPut rows node (place + 1) letter → Allows places place

-- the sets allow the places of the first nodes, so many of them
pub record ArePlaces (rows : List Row) (count : ℕ) (places : List ℕ) : Type 0 where
  pub length_is : length places ≡ count
  pub each : (node : ℕ) → node < count → AllowsAll rows node (slice_index places node)
