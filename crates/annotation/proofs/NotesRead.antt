-- What the bytes tell decides what they are read as, call by call: each call tells a part of it, or a fault with which nothing more
-- is told.
use Rattle.std.proofs.Common.{◌≡◌, ℕ, ◌≤◌, Bool, true, false, cond, inl, inr, Option, Some, None, Result, Ok, Err, List, [], ◌∷◌, map, IsUtf8, refl, sym, ◌∙◌, ap, subst, arith}
use Rattle.std.specs.Str.{is_utf8}
use Rattle.std.proofs.lemmas.Str.{is_utf8-from_IsUtf8, IsUtf8-from_is_utf8}
use Rattle.serde_json.specs.Data.{Data, string, depth, items_depth}
use Rattle.serde_json.specs.Read.{read, max_depth}
use Rattle.serde_json.specs.View.{view, items_of}
use Rattle.serde_json.specs.declared.value.Value.{Value}
use Rattle.text_definitions.specs.Lines.{Line}
use Rattle.lexicon_definitions.specs.Lexicons.{Lexicon}
use Rattle.segmentation_definitions.specs.Derivations.{Step}
use Rattle.segmentation_definitions.specs.Listings.{Key}
use Rattle.segmentation_definitions.specs.Items.{Placed, Choice, placed}
use Rattle.bookmark_definitions.specs.BookmarkTexts.{text_of_choice}
use Rattle.derivation.specs.declared.step.Step.{Step as ProgramStep}
use Rattle.derivation.specs.Steps.{steps_of}
use Rattle.note_definitions.specs.NoteFaults as faults
use Rattle.note_definitions.specs.NoteFaults.{Why}
use Rattle.note_definitions.specs.Notes.{Note, IsOnlyAnswer}
use Rattle.note_definitions.specs.NoteOutcomes.{Several, IsOutcome}
use Rattle.note_definitions.specs.NoteTexts.{tags_of, segment_of, value_of_note}
use Rattle.note_definitions.specs.NoteReadings.{Told, value_of_bytes, told_with_value, told_by_bytes, IsReadAfterTold, IsNoteRead}
use Rattle.note_definitions.proofs.OnlyAnswers.{none_after_only}
use Rattle.annotation.specs.Answers.{AreOnly}
use Rattle.annotation.specs.Readings.{IsNoteReadAs, IsReadOr, IsToldAs, AreStepsTold, IsReadBack, told_of, why_of, note_of}
use Rattle.annotation.specs.declared.note.Note.{Note as ProgramNote}
use Rattle.annotation.specs.declared.told.Told.{Told as ProgramTold}
use Rattle.annotation.specs.declared.read_error.ReadNoteError.{ReadNoteError}
use Rattle.annotation.specs.declared.read_error.ReadNoteError.TheVariants.{Fault, Memory}
use Rattle.annotation.specs.declared.read_error.NoteWhy.TheVariants.{Segments}

-- ---- the value of the bytes

pub value_told : (bytes : List ℕ) (value : Data) → IsUtf8 bytes → read bytes ≡ Some value → value_of_bytes bytes ≡ Some value
value_told bytes value utf8 h = ap (λ (test : Bool). cond test (read bytes) None) (is_utf8-from_IsUtf8 bytes utf8) ∙ h

refused_if : (bytes : List ℕ) (test : Bool) → is_utf8 bytes ≡ test → (IsUtf8 bytes → read bytes ≡ None) → cond test (read bytes) None ≡ None
refused_if bytes false e h = refl
refused_if bytes true e h = h (IsUtf8-from_is_utf8 bytes e)

pub no_value_told : (bytes : List ℕ) → (IsUtf8 bytes → read bytes ≡ None) → value_of_bytes bytes ≡ None
no_value_told bytes h = refused_if bytes (is_utf8 bytes) refl h

-- ---- several answers

-- where there are several answers, none is the only one
pub several_not_one : (lexicon : Lexicon) (line : Line) (choices : List Choice) (first second : List Key) → IsOutcome lexicon line choices (Several first second)
    → (steps : List Step) → IsOnlyAnswer lexicon line choices steps → ⊥
several_not_one lexicon line choices first second h steps only = none_after_only lexicon line choices steps h.0 h.1 only h.2 h.3

-- ---- the depth of a note's value

texts_flat : (them : List (List ℕ)) → items_depth (items_of (map string them)) ≡ 0
texts_flat [] = refl
texts_flat (text ∷ them) = omega (arith, texts_flat them)

segment_shallow : (lexicon : Lexicon) (p : Placed) → depth (segment_of lexicon p) ≤ 2
segment_shallow lexicon p = omega (arith, texts_flat (tags_of lexicon p))

segments_shallow : (lexicon : Lexicon) (ps : List Placed) → items_depth (items_of (map (segment_of lexicon) ps)) ≤ 2
segments_shallow lexicon [] = omega arith
segments_shallow lexicon (p ∷ ps) = omega (arith, segment_shallow lexicon p, segments_shallow lexicon ps)

pub note_shallow : (lexicon : Lexicon) (note : Note) → depth (value_of_note lexicon note) ≤ max_depth
unfolding value_of_note
note_shallow lexicon note =
    omega (arith, texts_flat (map text_of_choice note.choices), segments_shallow lexicon (placed lexicon.rules note.steps))

-- ---- what is read

module _ (lexicon : Lexicon) (bytes : List ℕ) where
  -- after what the bytes tell
  read_after : (told : Result Told Why) (result : Result Note Why) → told_by_bytes lexicon bytes ≡ told → IsReadAfterTold lexicon told result
      → IsNoteRead lexicon bytes result
  read_after told result e h = subst (λ (t : Result Told Why). IsReadAfterTold lexicon t result) (sym e) h

  told_by : (value : Option Data) → value_of_bytes bytes ≡ value → told_by_bytes lexicon bytes ≡ told_with_value lexicon value
  unfolding told_by_bytes
  told_by value e = ap (told_with_value lexicon) e

  -- no JSON text, or want of memory
  pub no_value : (error : ReadNoteError) → IsReadOr {A = Data} {B = Value} faults.Json (Err error) (value_of_bytes bytes) view
      → IsNoteReadAs lexicon bytes (Err error)
  no_value (Fault why) h = read_after (Err faults.Json) (Err (why_of why)) (told_by None h.1) (ap Err h.0)
  no_value Memory h = tt

  module _ (value : Data) (value_is : value_of_bytes bytes ≡ Some value) where
    -- a fault of the shape, the text or the choices, or want of memory
    pub not_told : (error : ReadNoteError)
        → IsToldAs {A = Told} {B = ProgramTold} (Err error) (told_with_value lexicon (Some value)) (told_of value)
        → IsNoteReadAs lexicon bytes (Err error)
    not_told (Fault why) h = read_after (Err (why_of why)) (Err (why_of why)) (told_by (Some value) value_is ∙ h) refl
    not_told Memory h = tt

    module _ (told : ProgramTold) (told_is : told_with_value lexicon (Some value) ≡ Ok (told_of value told)) where
      after_this : (result : Result Note Why) → IsReadAfterTold lexicon (Ok (told_of value told)) result → IsNoteRead lexicon bytes result
      after_this result h = read_after (Ok (told_of value told)) result (told_by (Some value) value_is ∙ told_is) h

      -- not exactly one answer, or want of memory
      pub not_one : (error : ReadNoteError) → AreStepsTold lexicon told.line told.choices (Err error) → IsNoteReadAs lexicon bytes (Err error)
      not_one (Fault why) h = after_this (Err (why_of why)) (inl (h.0, h.1))
      not_one Memory h = tt

      module _ (steps : List ProgramStep) (only : AreOnly lexicon told.line told.choices steps) where
        -- the note of what was told
        abbrev its_note : Note
        its_note = record { line = told.line; choices = told.choices; steps = steps_of lexicon.rules told.line.letters steps }

        pub other_value : (value ≡ value_of_note lexicon its_note → ⊥) → IsNoteReadAs lexicon bytes (Err (Fault Segments))
        other_value other =
            after_this (Err faults.Segments) (inr (refl, (steps_of lexicon.rules told.line.letters steps, only.answer, other)))

        pub its_value : value ≡ value_of_note lexicon its_note → IsNoteRead lexicon bytes (Ok its_note)
        its_value same = after_this (Ok its_note) (record { line = refl; choices = refl; answer = only.answer; value = same })

-- ---- what was written

abbrev note_with : Line → List Choice → List Step → Note
note_with line choices steps = record { line = line; choices = choices; steps = steps }

-- this note, as what is read
abbrev read_as : Line → List Choice → List Step → Result Note Why
read_as line choices steps = Ok (note_with line choices steps)

-- bytes that are read as a note of this line and these choices are read as nothing else
pub read_back : (lexicon : Lexicon) (line : Line) (choices : List Choice) (bytes : List ℕ) (steps : List Step) (result : Result ProgramNote ReadNoteError)
    → ((other : Result Note Why) → IsNoteRead lexicon bytes other → read_as line choices steps ≡ other)
    → IsNoteReadAs lexicon bytes result → IsReadBack line choices result
read_back lexicon line choices bytes steps (Ok note) one h =
    let same : read_as line choices steps ≡ Ok (note_of lexicon note) = one (Ok (note_of lexicon note)) h.read in
    let is : note_with line choices steps ≡ note_of lexicon note = cc in
    (ap (λ (n : Note). n.line) (sym is), ap (λ (n : Note). n.choices) (sym is))
read_back lexicon line choices bytes steps (Err (Fault why)) one h =
    let same : read_as line choices steps ≡ Err (why_of why) = one (Err (why_of why)) h in
    cc
read_back lexicon line choices bytes steps (Err Memory) one h = tt
