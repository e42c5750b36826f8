-- What a chain is joined to: the one word that it derives, or its first overlap (after Huet 2005; answers are own).
use Rattle.std.specs.Prelude.{◌≡◌, ℕ, ◌≤◌, ◌⊎◌, ◌↔◌, Bool, IsTrue, List, [], ◌∷◌, length}
use Rattle.text_definitions.specs.declared.limits.TheConstants.{MOST_LINE_LETTERS}
use Rattle.lexicon_definitions.specs.Lexicons.{Lexicon, IsPhaseWord}
use Rattle.segmentation_definitions.specs.Derivations.{Step, phases_of, Derives}
use Rattle.segmentation_definitions.specs.Overlaps.{IsOverlap}

-- a chain is joined to a word, of which answer says whether the chain is one of its answers; or two rules overlap in a form
-- of a phase, the one before it and the one after it
pub data Joined : Type 0 where
  Text : (word : List ℕ) → (answer : Bool) → Joined
  Overlap : (phase : ℕ) → (form : List ℕ) → (before after : ℕ) → Joined

-- the step's form is an overlap of the rule before it, which has this number, and the rule after it
abbrev pub IsOverlapAfter : Lexicon → ℕ → Step → Type 0
IsOverlapAfter lexicon before step =
    IsOverlap lexicon (record { phase = step.phase; form = step.form; before = before; after = step.rule })

-- this is the first overlap along the steps, the first of which comes after the rule with this number
abbrev pub IsFirstOverlap : Lexicon → ℕ → List Step → Joined → Type 0
IsFirstOverlap lexicon before [] joined = ⊥
IsFirstOverlap lexicon before (step ∷ steps) joined =
    (IsOverlapAfter lexicon before step × (joined ≡ Overlap step.phase step.form before step.rule))
    ⊎ ((IsOverlapAfter lexicon before step → ⊥) × IsFirstOverlap lexicon step.rule steps joined)

-- the word is no longer than a line may be, and the phases are a word of the grammar
abbrev pub MakesAnswer : Lexicon → List Step → List ℕ → Type 0
MakesAnswer lexicon steps word = (length word ≤ MOST_LINE_LETTERS) × IsPhaseWord lexicon.rules (phases_of steps)

-- the chain is joined to this: it derives the word, or this is its first overlap
abbrev pub IsJoinedTo : Lexicon → List Step → Joined → Type 0
IsJoinedTo lexicon steps (Text word answer) =
    Derives lexicon steps word × (IsTrue answer ↔ MakesAnswer lexicon steps word)
IsJoinedTo lexicon steps (Overlap phase form before after) =
    IsFirstOverlap lexicon 0 steps (Overlap phase form before after)
