-- The value of a note has no float, so its text is the compact one.
use Rattle.std.proofs.Common.{◌≡◌, ℕ, Bool, true, false, ◌||◌, List, [], ◌∷◌, length, suc, map, refl, sym, ◌∙◌, ap}
use Rattle.serde_json.specs.Data.{Data, string, array}
use Rattle.serde_json.specs.View.{items_of}
use Rattle.serde_json.specs.Written.{has_float, items_have_float}
use Rattle.text_definitions.specs.Lines.{Line}
use Rattle.lexicon_definitions.specs.Lexicons.{Lexicon, RuleSet, rule_of}
use Rattle.segmentation_definitions.specs.Items.{Placed, Choice, placed}
use Rattle.bookmark_definitions.specs.BookmarkTexts.{text_of_line, text_of_choice}
use Rattle.note_definitions.specs.Notes.{Note}
use Rattle.note_definitions.specs.NoteTexts.{tags_of, texts, segment_of, value_of_note, text_of_note}
use Rattle.note_definitions.specs.NoteOutcomes.{Written, IsOutcome}
use Rattle.derivation.specs.declared.step.Step.{Step as ProgramStep}
use Rattle.derivation.specs.Steps.{StandIn, steps_from, steps_of, places_of}
use Rattle.derivation.proofs.PlacedSteps.{same_places}
use Rattle.annotation.specs.declared.written_note.WrittenNote.{WrittenNote}
use Rattle.annotation.specs.Answers.{AreOnly, IsCounted}
use Rattle.annotation.specs.Objects.{note_with}

no_float_in_texts : (them : List (List ℕ)) → items_have_float (items_of (map string them)) ≡ false
no_float_in_texts [] = refl
no_float_in_texts (text ∷ them) = no_float_in_texts them

no_float_before : (first rest : Bool) → first ≡ false → rest ≡ false → (first || rest) ≡ false
no_float_before true rest h k = h
no_float_before false rest h k = k

no_float_in_segment : (lexicon : Lexicon) (p : Placed) → has_float (segment_of lexicon p) ≡ false
no_float_in_segment lexicon p = no_float_before (items_have_float (items_of (map string (tags_of lexicon p)))) false (no_float_in_texts (tags_of lexicon p)) refl

no_float_in_segments : (lexicon : Lexicon) (ps : List Placed) → items_have_float (items_of (map (segment_of lexicon) ps)) ≡ false
no_float_in_segments lexicon [] = refl
no_float_in_segments lexicon (p ∷ ps) =
    no_float_before (has_float (segment_of lexicon p)) (items_have_float (items_of (map (segment_of lexicon) ps)))
    (no_float_in_segment lexicon p) (no_float_in_segments lexicon ps)

pub no_float_in_note : (lexicon : Lexicon) (note : Note) → has_float (value_of_note lexicon note) ≡ false
unfolding value_of_note
no_float_in_note lexicon note =
    no_float_before (items_have_float (items_of (map string (map text_of_choice note.choices)))) _ (no_float_in_texts (map text_of_choice note.choices))
    (no_float_before (items_have_float (items_of (map (segment_of lexicon) (placed lexicon.rules note.steps)))) false
    (no_float_in_segments lexicon (placed lexicon.rules note.steps)) refl)

-- the value of the note is made of the parts that were found
pub note_made : (lexicon : Lexicon) (line : Line) (choices : List Choice) (steps : List ProgramStep) (value a b : Data) (text : List ℕ)
    → StandIn lexicon.rules line.letters steps → value ≡ note_with a b text → a ≡ texts (map text_of_choice choices)
    → b ≡ array (items_of (map (segment_of lexicon) (places_of lexicon.rules line.letters [] steps))) → text ≡ text_of_line line
    → value ≡ value_of_note lexicon (record { line = line; choices = choices; steps = steps_of lexicon.rules line.letters steps })
unfolding value_of_note
note_made lexicon line choices steps value a b text stand is ha hb ht =
    let places = sym (same_places lexicon.rules line.letters steps stand) in
    let segments = hb ∙ ap (λ ps. array (items_of (map (segment_of lexicon) ps))) places in
    is ∙ (λ i. note_with (ha i) (segments i) (ht i))

-- the program has as many steps as the definitions
length-steps_from : (rules : RuleSet) (letters lead : List ℕ) (steps : List ProgramStep) → length (steps_from rules letters lead steps) ≡ length steps
length-steps_from rules letters lead [] = refl
length-steps_from rules letters lead (step ∷ steps) = ap suc (length-steps_from rules letters (rule_of rules step.rule).v steps)

-- and so is what comes of writing it
pub note_counted : (lexicon : Lexicon) (line : Line) (choices : List Choice) (steps : List ProgramStep) (note : WrittenNote)
    → AreOnly lexicon line choices steps
    → note.text.items ≡ text_of_note lexicon (record { line = line; choices = choices; steps = steps_of lexicon.rules line.letters steps })
    → note.segments ≡ length steps → IsCounted lexicon line choices note
note_counted lexicon line choices steps note are text count = record {
  steps = steps_of lexicon.rules line.letters steps;
  answer = are.answer;
  text = text;
  segments = count ∙ sym (length-steps_from lexicon.rules line.letters [] steps);
}

-- its text alone
pub text_alone : (lexicon : Lexicon) (line : Line) (choices : List Choice) (note : WrittenNote) → IsCounted lexicon line choices note
    → IsOutcome lexicon line choices (Written note.text.items)
text_alone lexicon line choices note is = (is.steps, is.answer, is.text)
