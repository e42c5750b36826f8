-- The text of a note is read back: its value is read, has the shape of a note, and its line and choices are read back as in a
-- bookmark; and so the value is that of the note.
use Rattle.std.proofs.Common.{◌≡◌, ◌≤◌, Bool, true, cond, Some, None, option_and_then, Result, Ok, List, [], ◌∷◌, length, map, refl, sym, ◌∙◌, ap, subst, arith}
use Rattle.std.specs.List.{AllByRecursion, list_all}
use Rattle.std.specs.Prelude.{nat_lt}
use Rattle.std.proofs.lemmas.Bool.{and_from, le-leb, lt-ltb}
use Rattle.std.proofs.lemmas.List.{length-map}
use Rattle.std.proofs.lemmas.List.Elements.{recursion_from_All}
use Rattle.lexicon_definitions.specs.Limits.{IsWithinLimits}
use Rattle.lexicon_definitions.specs.Lexicons.{Lexicon, IsLexicon}
use Rattle.segmentation_definitions.specs.declared.limits.TheConstants.{MOST_CHOICES}
use Rattle.segmentation_definitions.specs.Items.{Choice}
use Rattle.bookmark_definitions.specs.BookmarkTexts.{text_of_line, text_of_choice}
use Rattle.bookmark_definitions.specs.BookmarkReadings.{each_read, choice_of}
use Rattle.bookmark_definitions.proofs.JoinedTexts.{each_back}
use Rattle.bookmark_definitions.proofs.WrittenLines.{line_back}
use Rattle.bookmark_definitions.proofs.WrittenParts.{IsChoiceWithinBounds, choice_back}
use Rattle.note_definitions.specs.NoteFaults.{Why}
use Rattle.note_definitions.specs.Notes.{Note, IsChoiceOver, IsNote}
use Rattle.note_definitions.specs.NoteTexts.{value_of_note, text_of_note}
use Rattle.note_definitions.specs.NoteReadings.{Told, if_phases, choices_of, told_with_choices, told_with_line, told_with_parts, told_with_value, told_by_bytes, IsReadAfterTold, IsNoteRead}
use Rattle.note_definitions.proofs.WrittenValues.{value_read}
use Rattle.note_definitions.proofs.NoteValues.{note_bounded, note_plain, note_shallow}
use Rattle.note_definitions.proofs.NoteShapesWritten.{note_shaped}

-- ---- choices

within_bounds : (lexicon : Lexicon) (choices : List Choice) → AllByRecursion (IsChoiceOver lexicon) choices → AllByRecursion IsChoiceWithinBounds choices
within_bounds lexicon [] h = tt
within_bounds lexicon (choice ∷ choices) h = (h.0.item, within_bounds lexicon choices h.1)

have_phases : (lexicon : Lexicon) (choices : List Choice) → AllByRecursion (IsChoiceOver lexicon) choices
    → list_all (λ choice. nat_lt choice.item.phase (length lexicon.phases)) choices ≡ true
have_phases lexicon [] h = refl
have_phases lexicon (choice ∷ choices) h =
    and_from _ _ (lt-ltb choice.item.phase (length lexicon.phases) h.0.phase) (have_phases lexicon choices h.1)

choices_back : (lexicon : Lexicon) (choices : List Choice) → length choices ≤ MOST_CHOICES → AllByRecursion (IsChoiceOver lexicon) choices
    → choices_of lexicon (map text_of_choice choices) ≡ Some choices
choices_back lexicon choices few h =
    let texts = map text_of_choice choices in
    let test = le-leb (length texts) MOST_CHOICES (omega (arith, few, length-map choices text_of_choice)) in
    ap (λ (short : Bool). cond short (option_and_then (if_phases lexicon) (each_read choice_of texts)) None) test
    ∙ ap (option_and_then (if_phases lexicon)) (each_back choice_of text_of_choice IsChoiceWithinBounds choice_back choices (within_bounds lexicon choices h))
    ∙ ap (λ (over : Bool). cond over (Some choices) None) (have_phases lexicon choices h)

-- ---- the note

-- what the text of a note tells
abbrev told_of : Lexicon → Note → Told
told_of lexicon note = record { value = value_of_note lexicon note; line = note.line; choices = note.choices }

told_back : (lexicon : Lexicon) (note : Note) → IsLexicon lexicon → IsWithinLimits lexicon → IsNote lexicon note
    → told_by_bytes lexicon (text_of_note lexicon note) ≡ Ok (told_of lexicon note)
unfolding told_by_bytes
told_back lexicon note is limits h =
    let value = value_of_note lexicon note in
    let over = recursion_from_All (IsChoiceOver lexicon) note.choices h.choices in
    ap (told_with_value lexicon) (value_read value (note_plain lexicon note is limits h) (note_shallow lexicon note))
    ∙ ap (told_with_parts lexicon value) (note_shaped lexicon note (note_bounded lexicon note is limits h))
    ∙ ap (told_with_line lexicon value (record { text = text_of_line note.line; choices = map text_of_choice note.choices })) (line_back note.line h.line)
    ∙ ap (told_with_choices value note.line) (choices_back lexicon note.choices h.few_choices over)

pub note_back : (lexicon : Lexicon) (note : Note) → IsLexicon lexicon → IsWithinLimits lexicon → IsNote lexicon note
    → IsNoteRead lexicon (text_of_note lexicon note) (Ok note)
note_back lexicon note is limits h =
    subst (λ (told : Result Told Why). IsReadAfterTold lexicon told (Ok note)) (sym (told_back lexicon note is limits h))
    (record { line = refl; choices = refl; answer = h.answer; value = refl })
