-- A file is read in one way: what it tells without a look at answers is a function of its bytes, and the rest goes by the cases.
use Rattle.std.proofs.Common.{◌≡◌, ℕ, inl, inr, Result, Ok, Err, List, sym, ◌∙◌, ap, subst}
use Rattle.text_definitions.specs.Lines.{Line}
use Rattle.lexicon_definitions.specs.Lexicons.{Lexicon}
use Rattle.segmentation_definitions.specs.Items.{Choice}
use Rattle.note_definitions.specs.NoteFaults.{Why}
use Rattle.note_definitions.specs.Notes.{Note, IsOnlyAnswer}
use Rattle.note_definitions.specs.NoteTexts.{value_of_note}
use Rattle.note_definitions.specs.NoteReadings.{Told, IsNoteTold, IsReadAfterTold, IsNoteRead, told_by_bytes}
use Rattle.note_definitions.proofs.OnlyAnswers.{one_only}

same_note : (left right : Note) → left.line ≡ right.line → left.choices ≡ right.choices → left.steps ≡ right.steps → left ≡ right
same_note left right e f g = λ i. record { line = e i; choices = f i; steps = g i }

-- the note that was told, with its parts as they were told
module _ (lexicon : Lexicon) (told : Told) where
  only_of_told : (note : Note) → IsNoteTold lexicon told note → IsOnlyAnswer lexicon told.line told.choices note.steps
  only_of_told note p =
      subst (λ (choices : List Choice). IsOnlyAnswer lexicon told.line choices note.steps) p.choices
      (subst (λ (line : Line). IsOnlyAnswer lexicon line note.choices note.steps) p.line p.answer)

  told_once : (left right : Note) → IsNoteTold lexicon told left → IsNoteTold lexicon told right → left ≡ right
  told_once left right p q =
      same_note left right (p.line ∙ sym q.line) (p.choices ∙ sym q.choices)
      (one_only lexicon told.line told.choices left.steps right.steps (only_of_told left p) (only_of_told right q))

  -- a note that was told has no fault
  no_fault : (note : Note) (why : Why) → IsNoteTold lexicon told note → IsReadAfterTold lexicon (Ok told) (Err why) → ⊥
  no_fault note why p h = elim h [
    | inl none ↦ none.1 note.steps (only_of_told note p)
    | inr other ↦
        let steps = one_only lexicon told.line told.choices note.steps other.1.0 (only_of_told note p) other.1.1 in
        let same : note ≡ record { line = told.line; choices = told.choices; steps = other.1.0 } =
        same_note note (record { line = told.line; choices = told.choices; steps = other.1.0 }) p.line p.choices steps in
        other.1.2 (p.value ∙ ap (value_of_note lexicon) same)
  ]

  one_fault : (left right : Why) → IsReadAfterTold lexicon (Ok told) (Err left) → IsReadAfterTold lexicon (Ok told) (Err right) → left ≡ right
  one_fault left right l r = elim l [
    | inl none ↦ elim r [ inl other ↦ none.0 ∙ sym other.0 | inr one ↦ absurd (none.1 one.1.0 one.1.1) ]
    | inr one ↦ elim r [ inl none ↦ absurd (none.1 one.1.0 one.1.1) | inr other ↦ one.0 ∙ sym other.0 ]
  ]

after_told : (lexicon : Lexicon) (told : Result Told Why) (left right : Result Note Why)
    → IsReadAfterTold lexicon told left → IsReadAfterTold lexicon told right → left ≡ right
after_told lexicon (Err why) left right l r = l ∙ sym r
after_told lexicon (Ok told) (Ok left) (Ok right) l r = ap Ok (told_once lexicon told left right l r)
after_told lexicon (Ok told) (Ok left) (Err right) l r = absurd (no_fault lexicon told left right l r)
after_told lexicon (Ok told) (Err left) (Ok right) l r = absurd (no_fault lexicon told right left r l)
after_told lexicon (Ok told) (Err left) (Err right) l r = ap Err (one_fault lexicon told left right l r)

pub read_once : (lexicon : Lexicon) (bytes : List ℕ) (left right : Result Note Why)
    → IsNoteRead lexicon bytes left → IsNoteRead lexicon bytes right → left ≡ right
read_once lexicon bytes left right l r = after_told lexicon (told_by_bytes lexicon bytes) left right l r
