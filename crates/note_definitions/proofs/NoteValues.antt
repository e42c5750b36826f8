-- The value of a note is plain and not deep: its numbers are small, its texts are UTF-8, and its members are in order.
use Rattle.std.proofs.Common.{◌≡◌, ℕ, ◌≤◌, List, [], ◌∷◌, map, IsUtf8, codes, refl, arith}
use Rattle.std.specs.List.{AllByRecursion}
use Rattle.std.proofs.lemmas.List.Elements.{recursion_from_All}
use Rattle.json.proofs.Printed.Utf8.{IsUtf8-are_ascii}
use Rattle.json.specs.Tree as tree
use Rattle.serde_json.specs.Data.{string}
use Rattle.serde_json.specs.Read.{max_depth}
use Rattle.serde_json.specs.View.{items_of}
use Rattle.serde_json.specs.Written.{outline, items_outline}
use Rattle.lexicon_definitions.specs.Limits.{IsWithinLimits}
use Rattle.lexicon_definitions.specs.Lexicons.{Lexicon, IsLexicon}
use Rattle.segmentation_definitions.specs.Items.{Placed, Choice, placed}
use Rattle.bookmark_definitions.specs.BookmarkTexts.{text_of_choice}
use Rattle.note_definitions.specs.Notes.{Note, IsNote, IsChoiceOver}
use Rattle.note_definitions.specs.NoteTexts.{tags_of, segment_of, value_of_note}
use Rattle.note_definitions.proofs.WrittenValues.{IsPlainValue, ArePlainItems}
use Rattle.note_definitions.proofs.PlacedBounds.{IsBounded, steps_bounded}
use Rattle.note_definitions.proofs.PlainTexts.{word_utf8, line_utf8, choice_utf8, name_utf8, tags_utf8}

-- ---- plain values

texts_plain : (them : List (List ℕ)) → AllByRecursion IsUtf8 them → ArePlainItems (items_of (map string them))
texts_plain [] h = tt
texts_plain (text ∷ them) h = (h.0, texts_plain them h.1)

segment_plain : (lexicon : Lexicon) (p : Placed) → IsLexicon lexicon → IsBounded lexicon p → IsPlainValue (segment_of lexicon p)
segment_plain lexicon p is h = (
  (
    IsUtf8-are_ascii (codes "at") refl,
    omega (arith, h.at),
    (
      IsUtf8-are_ascii (codes "form") refl,
      word_utf8 p.step.form,
      (
        IsUtf8-are_ascii (codes "lead") refl,
        omega (arith, h.lead),
        (
          IsUtf8-are_ascii (codes "phase") refl,
          name_utf8 lexicon p.step.phase is h.phase,
          (
            IsUtf8-are_ascii (codes "rule") refl,
            omega (arith, h.rule),
            (
              IsUtf8-are_ascii (codes "tags") refl,
              texts_plain (tags_of lexicon p) (tags_utf8 lexicon p is),
              (IsUtf8-are_ascii (codes "taken") refl, omega (arith, h.taken), tt),
            ),
          ),
        ),
      ),
    ),
  ),
  refl,
)

segments_plain : (lexicon : Lexicon) (ps : List Placed) → IsLexicon lexicon → AllByRecursion (IsBounded lexicon) ps
    → ArePlainItems (items_of (map (segment_of lexicon) ps))
segments_plain lexicon [] is h = tt
segments_plain lexicon (p ∷ ps) is h = (segment_plain lexicon p is h.0, segments_plain lexicon ps is h.1)

choices_utf8 : (lexicon : Lexicon) (choices : List Choice) → AllByRecursion (IsChoiceOver lexicon) choices
    → AllByRecursion IsUtf8 (map text_of_choice choices)
choices_utf8 lexicon [] h = tt
choices_utf8 lexicon (choice ∷ choices) h = (choice_utf8 choice h.0.item, choices_utf8 lexicon choices h.1)

-- ---- values that are not deep

texts_flat : (them : List (List ℕ)) → tree.items_depth (items_outline (items_of (map string them))) ≡ 0
texts_flat [] = refl
texts_flat (text ∷ them) = omega (arith, texts_flat them)

segment_shallow : (lexicon : Lexicon) (p : Placed) → tree.depth (outline (segment_of lexicon p)) ≤ 2
segment_shallow lexicon p = omega (arith, texts_flat (tags_of lexicon p))

segments_shallow : (lexicon : Lexicon) (ps : List Placed) → tree.items_depth (items_outline (items_of (map (segment_of lexicon) ps))) ≤ 2
segments_shallow lexicon [] = omega arith
segments_shallow lexicon (p ∷ ps) = omega (arith, segment_shallow lexicon p, segments_shallow lexicon ps)

-- ---- the value of a note

module _ (lexicon : Lexicon) (note : Note) where
  -- each step of the note's answer
  pub note_bounded : IsLexicon lexicon → IsWithinLimits lexicon → IsNote lexicon note → AllByRecursion (IsBounded lexicon) (placed lexicon.rules note.steps)
  note_bounded is limits h = steps_bounded lexicon note.line.letters note.steps is limits h.line.within_limit h.answer.answer.derives

  pub note_plain : IsLexicon lexicon → IsWithinLimits lexicon → IsNote lexicon note → IsPlainValue (value_of_note lexicon note)
  unfolding value_of_note
  note_plain is limits h = (
    (
      IsUtf8-are_ascii (codes "choices") refl,
      texts_plain (map text_of_choice note.choices) (choices_utf8 lexicon note.choices (recursion_from_All (IsChoiceOver lexicon) note.choices h.choices)),
      (
        IsUtf8-are_ascii (codes "segments") refl,
        segments_plain lexicon (placed lexicon.rules note.steps) is (note_bounded is limits h),
        (
          IsUtf8-are_ascii (codes "text") refl,
          line_utf8 note.line,
          (IsUtf8-are_ascii (codes "version") refl, omega arith, tt),
        ),
      ),
    ),
    refl,
  )

  pub note_shallow : tree.depth (outline (value_of_note lexicon note)) ≤ max_depth
  unfolding value_of_note
  note_shallow = omega (arith, texts_flat (map text_of_choice note.choices), segments_shallow lexicon (placed lexicon.rules note.steps))
