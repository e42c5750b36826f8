-- What comes of writing the note of a line and choices: its text where there is exactly one answer (own).
use Rattle.std.specs.Prelude.{◌≡◌, ℕ, List, [], ◌∷◌}
use Rattle.text_definitions.specs.Lines.{Line}
use Rattle.lexicon_definitions.specs.Lexicons.{Lexicon}
use Rattle.segmentation_definitions.specs.Derivations.{Step}
use Rattle.segmentation_definitions.specs.Items.{Choice}
use Rattle.segmentation_definitions.specs.Answers.{IsAnswer}
use Rattle.segmentation_definitions.specs.Listings.{BeforeFirst, AtAnswer, IsNext, Key, keys_of}
use Rattle.note_definitions.specs.Notes.{IsOnlyAnswer}
use Rattle.note_definitions.specs.NoteTexts.{text_of_note}

-- the text of the note; or there is no answer; or there are several, of which these are the keys of the first two
pub data Outcome : Type 0 where
  Written : (text : List ℕ) → Outcome
  NoAnswer : Outcome
  Several : (first second : List Key) → Outcome

-- what comes of writing the note: its text where there is one answer, NoAnswer where there is none, and where there are
-- several the keys of the first and of the next after it
abbrev pub IsOutcome : Lexicon → Line → List Choice → Outcome → Type 0
IsOutcome lexicon line choices (Written text) =
    (steps : List Step) × IsOnlyAnswer lexicon line choices steps
    × (text ≡ text_of_note lexicon (record { line = line; choices = choices; steps = steps }))
IsOutcome lexicon line choices NoAnswer = (steps : List Step) → IsAnswer lexicon line choices steps → ⊥
IsOutcome lexicon line choices (Several first second) =
    (left : List Step) × (right : List Step) × IsNext lexicon line choices BeforeFirst left
    × IsNext lexicon line choices (AtAnswer left) right
    × (first ≡ keys_of lexicon.rules left) × (second ≡ keys_of lexicon.rules right)

-- what comes of writing the note where these are all answers, in their order
abbrev pub outcome_of : Lexicon → Line → List Choice → List (List Step) → Outcome
outcome_of lexicon line choices [] = NoAnswer
outcome_of lexicon line choices (steps ∷ []) =
    Written (text_of_note lexicon (record { line = line; choices = choices; steps = steps }))
outcome_of lexicon line choices (first ∷ second ∷ answers) =
    Several (keys_of lexicon.rules first) (keys_of lexicon.rules second)
