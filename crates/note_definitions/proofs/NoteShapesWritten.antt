-- The value of a note has the shape of one: each name is known and holds what it should, by computing; numbers are small.
use Rattle.std.proofs.Common.{◌≡◌, ℕ, ◌≤◌, Bool, true, cond, Some, None, List, [], ◌∷◌, map, leb, refl, ◌∙◌, ap, arith}
use Rattle.std.specs.List.{AllByRecursion}
use Rattle.std.proofs.lemmas.Bool.{and_from, le-leb}
use Rattle.serde_json.specs.Data.{string}
use Rattle.serde_json.specs.View.{items_of}
use Rattle.lexicon_definitions.specs.Lexicons.{Lexicon}
use Rattle.segmentation_definitions.specs.Items.{Placed, placed}
use Rattle.bookmark_definitions.specs.BookmarkTexts.{text_of_line, text_of_choice}
use Rattle.note_definitions.specs.declared.limits.TheConstants.{MOST_NOTE_NUMBER}
use Rattle.note_definitions.specs.Notes.{Note}
use Rattle.note_definitions.specs.NoteTexts.{tags_of, segment_of, value_of_note}
use Rattle.note_definitions.specs.NoteShapes.{NoteParts, with_text, texts_of, is_some_texts, is_segment, are_segments, parts_with, parts_of_value}
use Rattle.note_definitions.proofs.PlacedBounds.{IsBounded}

-- the texts of a list of texts
pub texts_back : (them : List (List ℕ)) → texts_of (items_of (map string them)) ≡ Some them
texts_back [] = refl
texts_back (text ∷ them) = ap (with_text text) (texts_back them)

small : (n : ℕ) → n ≤ 4000 → leb n MOST_NOTE_NUMBER ≡ true
small n h = le-leb n MOST_NOTE_NUMBER (omega (arith, h))

segment_shaped : (lexicon : Lexicon) (p : Placed) → IsBounded lexicon p → is_segment (segment_of lexicon p) ≡ true
segment_shaped lexicon p h =
    and_from _ _ (and_from _ _ (and_from _ _ (and_from _ _ (and_from _ _ (and_from _ _ (and_from _ _ refl
    (small p.at (omega (arith, h.at)))) refl) (small p.lead (omega (arith, h.lead)))) refl) (small p.step.rule (omega (arith, h.rule))))
    (ap is_some_texts (texts_back (tags_of lexicon p)))) (small p.taken (omega (arith, h.taken)))

segments_shaped : (lexicon : Lexicon) (ps : List Placed) → AllByRecursion (IsBounded lexicon) ps
    → are_segments (items_of (map (segment_of lexicon) ps)) ≡ true
segments_shaped lexicon [] h = refl
segments_shaped lexicon (p ∷ ps) h = and_from _ _ (segment_shaped lexicon p h.0) (segments_shaped lexicon ps h.1)

abbrev parts_of : Note → NoteParts
parts_of note = record { text = text_of_line note.line; choices = map text_of_choice note.choices }

pub note_shaped : (lexicon : Lexicon) (note : Note) → AllByRecursion (IsBounded lexicon) (placed lexicon.rules note.steps)
    → parts_of_value (value_of_note lexicon note) ≡ Some (record { text = text_of_line note.line; choices = map text_of_choice note.choices })
unfolding parts_of_value value_of_note
note_shaped lexicon note h =
    let test = and_from _ _ (and_from true _ refl (segments_shaped lexicon (placed lexicon.rules note.steps) h)) refl in
    ap (λ (shaped : Bool). cond shaped (parts_with (Some (text_of_line note.line)) (texts_of (items_of (map string (map text_of_choice note.choices))))) None) test
    ∙ ap (parts_with (Some (text_of_line note.line))) (texts_back (map text_of_choice note.choices))
