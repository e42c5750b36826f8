-- All answers of a line under choices are a list, which tells whether there is one, none or several; and it is decided whether a JSON value is
-- that of a note, which has no numbers but unsigned ones. So bytes are read as a note or have a fault, and a bookmark has what is written of it.
use Rattle.std.proofs.Common.{◌≡◌, inl, inr, ℕ, List, [], ◌∷◌, map, Option, Some, None, Result, Ok, Err, refl, sym, ◌∙◌, ap, subst}
use Rattle.std.specs.Prelude.{codes}
use Rattle.std.proofs.lemmas.Bool.{cases_eq}
use Rattle.outside.specs.Files.{Files}
use Rattle.text_definitions.specs.Lines.{Line}
use Rattle.lexicon_definitions.specs.Lexicons.{Lexicon, IsLexicon}
use Rattle.segmentation_definitions.specs.Derivations.{Step}
use Rattle.segmentation_definitions.specs.Items.{Choice, Placed, placed}
use Rattle.segmentation_definitions.specs.Listings.{Cursor, BeforeFirst, keys_of}
use Rattle.segmentation_definitions.specs.PrintedAnswers.{output_line}
use Rattle.serde_json.specs.Data.{Data, null, boolean, number, unsigned, negative, float, string, array, object, Items, no_items, item, Members, no_members, member}
use Rattle.serde_json.specs.View.{items_of}
use Rattle.bookmark_definitions.specs.Bookmarks.{Bookmark}
use Rattle.bookmark_definitions.specs.BookmarkTexts.{text_of_choice}
use Rattle.bookmark_definitions.specs.BookmarkReadings.{bookmark_of_text}
use Rattle.session_definitions.specs.Replies.{IsCursorOfBookmark}
use Rattle.note_definitions.specs.NoteFaults.{Why, NotOnly, Segments}
use Rattle.note_definitions.specs.Notes.{Note, IsOnlyAnswer}
use Rattle.note_definitions.specs.NoteTexts.{tags_of, segment_of, value_of_note}
use Rattle.note_definitions.specs.NoteOutcomes as notes
use Rattle.note_definitions.specs.NoteOutcomes.{IsOutcome, outcome_of}
use Rattle.note_definitions.specs.NoteReadings.{Told, IsReadAfterTold, IsNoteRead, told_by_bytes}
use Rattle.note_definitions.proofs.OnlyAnswers.{none_after_only}
use Rattle.note_definitions.proofs.OneOutcome.{outcome_listed}
use Rattle.run_definitions.specs.Arguments.{FileWord}
use Rattle.run_definitions.specs.Ends.{Outcome, NoAnswer, Several, BadMark, outcome_over}
use Rattle.run_definitions.specs.AnnotateOutcomes.{printed_several, noted_outcome, IsNotedOutcome, OfOnly, OfNone, OfSeveral, IsMarkOutcome, OfNoMark, OfMark}
use Rattle.existence_laws.proofs.Decisions.{Decided, told_by, both, is_same_word}
use Rattle.existence_laws.proofs.ListingsThere.{listing_above}
use Rattle.existence_laws.proofs.SessionsThere.{has_cursor}

-- ---- values

-- the value has texts, unsigned numbers, lists and objects alone
abbrev mutual
  IsSimpleValue : Data → Type 0
  IsSimpleValue null = ⊥
  IsSimpleValue (boolean b) = ⊥
  IsSimpleValue (number (unsigned n)) = Unit {0}
  IsSimpleValue (number (negative z)) = ⊥
  IsSimpleValue (number (float x)) = ⊥
  IsSimpleValue (string s) = Unit {0}
  IsSimpleValue (array ds) = AreSimpleItems ds
  IsSimpleValue (object ms) = AreSimpleMembers ms

  AreSimpleItems : Items → Type 0
  AreSimpleItems no_items = Unit {0}
  AreSimpleItems (item d ds) = IsSimpleValue d × AreSimpleItems ds

  AreSimpleMembers : Members → Type 0
  AreSimpleMembers no_members = Unit {0}
  AreSimpleMembers (member k d ms) = IsSimpleValue d × AreSimpleMembers ms

number_parts : (m n : ℕ) → number (unsigned m) ≡ number (unsigned n) → m ≡ n
number_parts m n e = cc

string_parts : (s t : List ℕ) → string s ≡ string t → s ≡ t
string_parts s t e = cc

array_parts : (ds es : Items) → array ds ≡ array es → ds ≡ es
array_parts ds es e = cc

object_parts : (ms ns : Members) → object ms ≡ object ns → ms ≡ ns
object_parts ms ns e = cc

item_is : (d f : Data) (ds fs : Items) → (d ≡ f) × (ds ≡ fs) → item d ds ≡ item f fs
item_is d f ds fs h = let e = h.0 in let es = h.1 in cc

item_parts : (d f : Data) (ds fs : Items) → item d ds ≡ item f fs → (d ≡ f) × (ds ≡ fs)
item_parts d f ds fs e = (cc, cc)

member_is : (k l : List ℕ) (d f : Data) (ms ns : Members) → (k ≡ l) × ((d ≡ f) × (ms ≡ ns)) → member k d ms ≡ member l f ns
member_is k l d f ms ns h = let p = h.0 in let q = h.1.0 in let r = h.1.1 in cc

member_parts : (k l : List ℕ) (d f : Data) (ms ns : Members) → member k d ms ≡ member l f ns → (k ≡ l) × ((d ≡ f) × (ms ≡ ns))
member_parts k l d f ms ns e = (cc, (cc, cc))

-- whether a value is the simple one
mutual
  is_same_value : (value d : Data) → IsSimpleValue value → Decided (d ≡ value)
  is_same_value null d h = absurd h
  is_same_value (boolean b) d h = absurd h
  is_same_value (number (negative z)) d h = absurd h
  is_same_value (number (float x)) d h = absurd h
  is_same_value (number (unsigned n)) (number (unsigned m)) h = told_by (ap (λ x. number (unsigned x))) (number_parts m n) (cases_eq m n)
  is_same_value (number (unsigned n)) (number (negative z)) h = inr (λ e. cc)
  is_same_value (number (unsigned n)) (number (float x)) h = inr (λ e. cc)
  is_same_value (number (unsigned n)) null h = inr (λ e. cc)
  is_same_value (number (unsigned n)) (boolean b) h = inr (λ e. cc)
  is_same_value (number (unsigned n)) (string t) h = inr (λ e. cc)
  is_same_value (number (unsigned n)) (array ds) h = inr (λ e. cc)
  is_same_value (number (unsigned n)) (object ms) h = inr (λ e. cc)
  is_same_value (string s) (string t) h = told_by (ap string) (string_parts t s) (is_same_word t s)
  is_same_value (string s) null h = inr (λ e. cc)
  is_same_value (string s) (boolean b) h = inr (λ e. cc)
  is_same_value (string s) (number n) h = inr (λ e. cc)
  is_same_value (string s) (array ds) h = inr (λ e. cc)
  is_same_value (string s) (object ms) h = inr (λ e. cc)
  is_same_value (array ds) (array es) h = told_by (ap array) (array_parts es ds) (are_same_items ds es h)
  is_same_value (array ds) null h = inr (λ e. cc)
  is_same_value (array ds) (boolean b) h = inr (λ e. cc)
  is_same_value (array ds) (number n) h = inr (λ e. cc)
  is_same_value (array ds) (string t) h = inr (λ e. cc)
  is_same_value (array ds) (object ms) h = inr (λ e. cc)
  is_same_value (object ms) (object ns) h = told_by (ap object) (object_parts ns ms) (are_same_members ms ns h)
  is_same_value (object ms) null h = inr (λ e. cc)
  is_same_value (object ms) (boolean b) h = inr (λ e. cc)
  is_same_value (object ms) (number n) h = inr (λ e. cc)
  is_same_value (object ms) (string t) h = inr (λ e. cc)
  is_same_value (object ms) (array ds) h = inr (λ e. cc)

  are_same_items : (items ds : Items) → AreSimpleItems items → Decided (ds ≡ items)
  are_same_items no_items no_items h = inl refl
  are_same_items no_items (item d ds) h = inr (λ e. cc)
  are_same_items (item v vs) no_items h = inr (λ e. cc)
  are_same_items (item v vs) (item d ds) h =
      told_by (item_is d v ds vs) (item_parts d v ds vs) (both (is_same_value v d h.0) (are_same_items vs ds h.1))

  are_same_members : (members ms : Members) → AreSimpleMembers members → Decided (ms ≡ members)
  are_same_members no_members no_members h = inl refl
  are_same_members no_members (member k d ms) h = inr (λ e. cc)
  are_same_members (member l v vs) no_members h = inr (λ e. cc)
  are_same_members (member l v vs) (member k d ms) h =
      told_by (member_is k l d v ms vs) (member_parts k l d v ms vs)
      (both (is_same_word k l) (both (is_same_value v d h.0) (are_same_members vs ms h.1)))

-- ---- the value of a note

texts_simple : (texts : List (List ℕ)) → AreSimpleItems (items_of (map string texts))
texts_simple [] = tt
texts_simple (text ∷ texts) = (tt, texts_simple texts)

segments_simple : (lexicon : Lexicon) (places : List Placed) → AreSimpleItems (items_of (map (segment_of lexicon) places))
segments_simple lexicon [] = tt
segments_simple lexicon (p ∷ places) =
    ((tt, (tt, (tt, (tt, (tt, (texts_simple (tags_of lexicon p), (tt, tt))))))), segments_simple lexicon places)

note_simple : (lexicon : Lexicon) (note : Note) → IsSimpleValue (value_of_note lexicon note)
unfolding value_of_note
note_simple lexicon note =
    (texts_simple (map text_of_choice note.choices), (segments_simple lexicon (placed lexicon.rules note.steps), (tt, (tt, tt))))

module _ (lexicon : Lexicon) (is : IsLexicon lexicon) where
  -- ---- the answers of a line under choices

  module _ (line : Line) (choices : List Choice) where
    note_with : List Step → Note
    note_with steps = record { line = line; choices = choices; steps = steps }

    by_answers : (answers : List (List Step)) → IsOutcome lexicon line choices (outcome_of lexicon line choices answers)
        → Decided ((steps : List Step) × IsOnlyAnswer lexicon line choices steps)
    by_answers [] none = inr (λ h. none h.0 h.1.answer)
    by_answers (steps ∷ []) written = inl (written.0, written.1)
    by_answers (first ∷ second ∷ answers) several =
        inr (λ h. none_after_only lexicon line choices h.0 several.0 several.1 h.1 several.2 several.3)

    -- whether there is exactly one
    has_only_answer : Decided ((steps : List Step) × IsOnlyAnswer lexicon line choices steps)
    has_only_answer =
        let listing = listing_above lexicon line choices is BeforeFirst in
        by_answers listing.0 (outcome_listed lexicon line choices listing.0 listing.1)

    noted : (out : FileWord) (files : Files) (answers : List (List Step)) → IsOutcome lexicon line choices (outcome_of lexicon line choices answers)
        → (outcome : Outcome) × IsNotedOutcome lexicon line choices out files outcome
    unfolding note_with
    noted out files [] none = (outcome_over files (output_line (codes "no answer")) NoAnswer, OfNone none refl)
    noted out files (steps ∷ []) written =
        (noted_outcome lexicon (note_with written.0) out files, OfOnly written.0 written.1 refl)
    noted out files (first ∷ second ∷ answers) several = (
      outcome_over files (printed_several lexicon.rules several.0 several.1) (Several (keys_of lexicon.rules several.0) (keys_of lexicon.rules several.1)),
      OfSeveral several.0 several.1 several.2 several.3 refl,
    )

    -- what comes of writing the note is there
    pub outcome_there : (outcome : notes.Outcome) × IsOutcome lexicon line choices outcome
    outcome_there =
        let listing = listing_above lexicon line choices is BeforeFirst in
        (outcome_of lexicon line choices listing.0, outcome_listed lexicon line choices listing.0 listing.1)

    noted_there : (out : FileWord) (files : Files) → (outcome : Outcome) × IsNotedOutcome lexicon line choices out files outcome
    noted_there out files =
        let listing = listing_above lexicon line choices is BeforeFirst in
        noted out files listing.0 (outcome_listed lexicon line choices listing.0 listing.1)

  -- ---- what is read as a note

  after_there : (told : Result Told Why) → (result : Result Note Why) × IsReadAfterTold lexicon told result
  unfolding note_with
  after_there (Err why) = (Err why, refl)
  after_there (Ok told) = elim (has_only_answer told.line told.choices) [
    | inr none ↦ (Err NotOnly, inl (refl, λ steps only. none (steps, only)))
    | inl only ↦
        let note = note_with told.line told.choices only.0 in
        elim (is_same_value (value_of_note lexicon note) told.value (note_simple lexicon note)) [
          | inl same ↦ (Ok note, record { line = refl; choices = refl; answer = only.1; value = same })
          | inr differs ↦ (Err Segments, inr (refl, (only.0, only.1, differs)))
        ]
  ]

  -- a note, or the first fault
  pub note_read_there : (bytes : List ℕ) → (result : Result Note Why) × IsNoteRead lexicon bytes result
  note_read_there bytes = after_there (told_by_bytes lexicon bytes)

  -- ---- what is made of a bookmark

  of_one_mark : (other mark : Bookmark) → Some other ≡ Some mark → (cursor : Cursor) → IsCursorOfBookmark lexicon other cursor
      → IsCursorOfBookmark lexicon mark cursor
  of_one_mark other mark e cursor h = let same : other ≡ mark = cc in subst (λ (m : Bookmark). IsCursorOfBookmark lexicon m cursor) same h

  by_mark : (text : List ℕ) (out : FileWord) (files : Files) (read : Option Bookmark) → bookmark_of_text text ≡ read
      → (outcome : Outcome) × IsMarkOutcome lexicon text out files outcome
  by_mark text out files None e = (
    outcome_over files (output_line (codes "bad mark")) BadMark,
    OfNoMark (λ mark over. let f : None ≡ Some mark = sym e ∙ over.read in cc) refl,
  )
  by_mark text out files (Some mark) e = elim (has_cursor lexicon is mark) [
    | inl at ↦
        let outcome = noted_there mark.line mark.choices out files in
        (outcome.0, OfMark mark (record { read = e; cursor = at.0; is_cursor = at.1 }) outcome.1)
    | inr none ↦ (
      outcome_over files (output_line (codes "bad mark")) BadMark,
      OfNoMark (λ other over.
          let same : Some other ≡ Some mark = sym over.read ∙ e in
          none (over.cursor, of_one_mark other mark same over.cursor over.is_cursor)) refl,
    )
  ]

  pub mark_there : (text : List ℕ) (out : FileWord) (files : Files) → (outcome : Outcome) × IsMarkOutcome lexicon text out files outcome
  mark_there text out files = by_mark text out files (bookmark_of_text text) refl
