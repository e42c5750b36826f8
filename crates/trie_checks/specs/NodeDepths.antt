-- After how many letters a node may stand, so that each delta below it cuts no more letters than the form has, and leaves a stem of lawful
-- length.
use Rattle.std.specs.Prelude.{◌≡◌, ℕ, ◌+◌, ◌-◌, ◌<◌, ◌≤◌, ◌^◌, ◌↔◌, List, length, slice_index}
use Rattle.lexicon_definitions.specs.declared.limits.TheConstants.{MOST_FORM_LETTERS}
use Rattle.lexicon_definitions.specs.Deltas.{Delta}
use Rattle.lexicon_definitions.specs.Tries.{Row, HasSuffix}

-- so many letters a form needs: those that the delta cuts off, and one that is left where none is appended
abbrev pub letters_needed : Delta → ℕ
letters_needed delta = delta.cut + (1 - length delta.append)

-- a form with so many letters or more has too long a stem
abbrev pub letters_end : Delta → ℕ
letters_end delta = MOST_FORM_LETTERS + delta.cut + 1 - length delta.append

-- where so many letters come before the node, each form through it has the letters that its deltas need
abbrev pub HasLettersAfter : List Row → ℕ → ℕ → Type 0
HasLettersAfter rows node before =
    (word : List ℕ) (delta : Delta) → HasSuffix rows node word delta → letters_needed delta ≤ length word + before

-- where so many letters come before the node, no form through it has too long a stem
abbrev pub HasShortStemsAfter : List Row → ℕ → ℕ → Type 0
HasShortStemsAfter rows node before =
    (word : List ℕ) (delta : Delta) → HasSuffix rows node word delta → length word + before < letters_end delta

-- the node may stand after `least` letters or more, and after fewer than `end`; the end is told only as far as a node can stand, since there
-- are fewer than 2^32 nodes
pub record IsDepth (rows : List Row) (node least end : ℕ) : Type 0 where
  pub from_least : (before : ℕ) → (least ≤ before) ↔ HasLettersAfter rows node before
  pub below_end : (before : ℕ) → before + node < 2 ^ 32 → (before < end) ↔ HasShortStemsAfter rows node before

-- for each node the number of letters after which it may stand at least
pub record HasLeast (rows : List Row) (least : List ℕ) : Type 0 where
  pub count : length least ≡ length rows
  pub each : (node : ℕ) → node < length rows → (before : ℕ) → (slice_index least node ≤ before) ↔ HasLettersAfter rows node before

-- by these numbers the node may stand after no letters
abbrev pub MayBegin : List ℕ → List ℕ → ℕ → Type 0
MayBegin least ends node = (slice_index least node ≡ 0) × (0 < slice_index ends node)

-- these are the depths of the first nodes, so many of them
pub record AreDepths (rows : List Row) (count : ℕ) (least ends : List ℕ) : Type 0 where
  pub least_count : length least ≡ count
  pub ends_count : length ends ≡ count
  pub each : (node : ℕ) → node < count → IsDepth rows node (slice_index least node) (slice_index ends node)
