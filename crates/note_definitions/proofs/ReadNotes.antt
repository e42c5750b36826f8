-- What is read is a note: each part passed its test, and is written as the text that was read.
use Rattle.std.proofs.Common.{◌≡◌, ℕ, ◌≤◌, Bool, true, false, cond, Option, Some, None, option_and_then, Result, Ok, Err, List, [], ◌∷◌, length, map, leb, refl, sym, ◌∙◌, ap, subst, arith}
use Rattle.std.specs.List.{AllByRecursion, list_all}
use Rattle.std.specs.Prelude.{nat_lt, All}
use Rattle.std.proofs.lemmas.Bool.{and_parts, leb-true, ltb-true}
use Rattle.std.proofs.lemmas.List.Elements.{All-from_recursion}
use Rattle.std.proofs.lemmas.Option.{cond_some}
use Rattle.serde_json.specs.Data.{Data}
use Rattle.text_definitions.specs.Lines.{Line, IsLine}
use Rattle.lexicon_definitions.specs.Lexicons.{Lexicon}
use Rattle.segmentation_definitions.specs.declared.limits.TheConstants.{MOST_CHOICES}
use Rattle.segmentation_definitions.specs.Items.{Choice}
use Rattle.bookmark_definitions.specs.BookmarkTexts.{text_of_choice}
use Rattle.bookmark_definitions.specs.BookmarkReadings.{each_read, line_of, choice_of}
use Rattle.bookmark_definitions.proofs.JoinedTexts.{each_tells}
use Rattle.bookmark_definitions.proofs.WrittenLines.{line_tells}
use Rattle.bookmark_definitions.proofs.WrittenParts.{IsChoiceWithinBounds, choice_tells}
use Rattle.note_definitions.specs.NoteFaults.{Why}
use Rattle.note_definitions.specs.Notes.{Note, IsChoiceOver, IsNote}
use Rattle.note_definitions.specs.NoteTexts.{value_of_note}
use Rattle.note_definitions.specs.NoteShapes.{NoteParts, parts_of_value}
use Rattle.note_definitions.specs.NoteReadings.{Told, if_phases, choices_of, told_with_choices, told_with_line, told_with_parts, told_with_value, told_by_bytes, value_of_bytes, IsReadAfterTold, IsNoteRead}

-- ---- choices

-- the choices, one by one
over_by_recursion : (lexicon : Lexicon) (choices : List Choice) → AllByRecursion IsChoiceWithinBounds choices
    → list_all (λ choice. nat_lt choice.item.phase (length lexicon.phases)) choices ≡ true → AllByRecursion (IsChoiceOver lexicon) choices
over_by_recursion lexicon [] bounds phases = tt
over_by_recursion lexicon (choice ∷ choices) bounds phases =
    let parts = and_parts (nat_lt choice.item.phase (length lexicon.phases)) _ phases in (
      record { item = bounds.0; phase = ltb-true choice.item.phase (length lexicon.phases) parts.0 },
      over_by_recursion lexicon choices bounds.1 parts.1,
    )

-- not too many choices, over the lexicon
record AreSound (lexicon : Lexicon) (choices : List Choice) : Type 0 where
  few : length choices ≤ MOST_CHOICES
  over : All (IsChoiceOver lexicon) choices

length-map_choices : (choices : List Choice) → length (map text_of_choice choices) ≡ length choices
length-map_choices [] = refl
length-map_choices (choice ∷ choices) = omega (arith, length-map_choices choices)

sound_by : (lexicon : Lexicon) (texts : List (List ℕ)) (read : Option (List Choice)) (choices : List Choice)
    → each_read choice_of texts ≡ read → length texts ≤ MOST_CHOICES → option_and_then (if_phases lexicon) read ≡ Some choices
    → AreSound lexicon choices
sound_by lexicon texts None choices e few h = absurd (cc)
sound_by lexicon texts (Some found) choices e few h =
    let passed = cond_some (list_all (λ choice. nat_lt choice.item.phase (length lexicon.phases)) found) found choices h in
    let told = each_tells choice_of text_of_choice IsChoiceWithinBounds choice_tells texts found e in
    let count = ap length told.0 ∙ length-map_choices found in
    subst (AreSound lexicon) passed.1 (record {
      few = omega (arith, few, count);
      over = All-from_recursion (IsChoiceOver lexicon) found (over_by_recursion lexicon found told.1 passed.0);
    })

sound_if : (lexicon : Lexicon) (texts : List (List ℕ)) (test : Bool) (choices : List Choice) → leb (length texts) MOST_CHOICES ≡ test
    → cond test (option_and_then (if_phases lexicon) (each_read choice_of texts)) None ≡ Some choices → AreSound lexicon choices
sound_if lexicon texts false choices e h = absurd (cc)
sound_if lexicon texts true choices e h =
    sound_by lexicon texts (each_read choice_of texts) choices refl (leb-true (length texts) MOST_CHOICES e) h

-- ---- what is told

-- what was told has this value, and its line and choices are sound
record IsSound (lexicon : Lexicon) (value : Option Data) (told : Told) : Type 0 where
  same_value : value ≡ Some told.value
  line : IsLine told.line
  choices : AreSound lexicon told.choices

by_choices : (lexicon : Lexicon) (value : Data) (line : Line) (texts : List (List ℕ)) (read : Option (List Choice)) (told : Told)
    → IsLine line → choices_of lexicon texts ≡ read → told_with_choices value line read ≡ Ok told → IsSound lexicon (Some value) told
by_choices lexicon value line texts None told is e h = absurd (cc)
by_choices lexicon value line texts (Some choices) told is e h =
    let same : record { value = value; line = line; choices = choices } ≡ told = cc in
    subst (IsSound lexicon (Some value)) same (record { same_value = refl; line = is; choices = sound_if lexicon texts (leb (length texts) MOST_CHOICES) choices refl e })

by_line : (lexicon : Lexicon) (value : Data) (parts : NoteParts) (read : Option Line) (told : Told)
    → line_of parts.text ≡ read → told_with_line lexicon value parts read ≡ Ok told → IsSound lexicon (Some value) told
by_line lexicon value parts None told e h = absurd (cc)
by_line lexicon value parts (Some line) told e h =
    by_choices lexicon value line parts.choices (choices_of lexicon parts.choices) told (line_tells parts.text line e).1 refl h

by_parts : (lexicon : Lexicon) (value : Data) (read : Option NoteParts) (told : Told)
    → told_with_parts lexicon value read ≡ Ok told → IsSound lexicon (Some value) told
by_parts lexicon value None told h = absurd (cc)
by_parts lexicon value (Some parts) told h = by_line lexicon value parts (line_of parts.text) told refl h

by_value : (lexicon : Lexicon) (read : Option Data) (told : Told) → told_with_value lexicon read ≡ Ok told → IsSound lexicon read told
by_value lexicon None told h = absurd (cc)
by_value lexicon (Some value) told h = by_parts lexicon value (parts_of_value value) told h

told_sound : (lexicon : Lexicon) (bytes : List ℕ) (told : Told) → told_by_bytes lexicon bytes ≡ Ok told
    → IsSound lexicon (value_of_bytes bytes) told
unfolding told_by_bytes
told_sound lexicon bytes told h = by_value lexicon (value_of_bytes bytes) told h

-- ---- what is read

-- a note, with the value that was read
pub record IsNoteWithValue (lexicon : Lexicon) (value : Option Data) (note : Note) : Type 0 where
  pub is : IsNote lexicon note
  pub same_value : value ≡ Some (value_of_note lexicon note)

note_by : (lexicon : Lexicon) (bytes : List ℕ) (read : Result Told Why) (note : Note) → told_by_bytes lexicon bytes ≡ read
    → IsReadAfterTold lexicon read (Ok note) → IsNoteWithValue lexicon (value_of_bytes bytes) note
note_by lexicon bytes (Err why) note e h = absurd (cc)
note_by lexicon bytes (Ok told) note e h =
    let sound = told_sound lexicon bytes told e in
    record {
      is = record {
        line = subst IsLine (sym h.line) sound.line;
        few_choices = subst (λ (choices : List Choice). length choices ≤ MOST_CHOICES) (sym h.choices) sound.choices.few;
        choices = subst (λ (choices : List Choice). All (IsChoiceOver lexicon) choices) (sym h.choices) sound.choices.over;
        answer = h.answer;
      };
      same_value = sound.same_value ∙ ap Some h.value;
    }

pub note_if_read : (lexicon : Lexicon) (bytes : List ℕ) (note : Note) → IsNoteRead lexicon bytes (Ok note)
    → IsNoteWithValue lexicon (value_of_bytes bytes) note
note_if_read lexicon bytes note h = note_by lexicon bytes (told_by_bytes lexicon bytes) note refl h
