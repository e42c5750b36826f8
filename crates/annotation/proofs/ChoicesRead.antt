-- The choices of a note are read one after another: to read all texts and then to ask for the phases of all is to do both text by
-- text, by induction.
use Rattle.std.proofs.Common.{◌≡◌, ℕ, ◌+◌, ◌<◌, ◌≤◌, Bool, true, false, cond, ◌&&◌, Option, Some, None, option_map, option_and_then, Err, List, [], ◌∷◌, ◌++◌, length, take, drop, get_or, leb, refl, sym, ◌∙◌, ap, arith, add-one, length-append}
use Rattle.std.specs.List.{list_all}
use Rattle.std.specs.Prelude.{nat_lt}
use Rattle.std.proofs.lemmas.Bool.{le-leb}
use Rattle.std.proofs.lemmas.List.{take_more, take_all, map-append, length-map, take-append-drop}
use Rattle.std.proofs.Math.Seq.{drop-cons}
use Rattle.serde_json.specs.declared.value.Value.{Value}
use Rattle.lexicon_definitions.specs.Lexicons.{Lexicon}
use Rattle.segmentation_definitions.specs.declared.limits.TheConstants.{MOST_CHOICES}
use Rattle.segmentation_definitions.specs.Items.{Choice}
use Rattle.bookmark_definitions.specs.BookmarkReadings.{each_read, choice_of}
use Rattle.bookmarks.proofs.ListsRead.{one_read, one_refused}
use Rattle.note_definitions.specs.NoteFaults as faults
use Rattle.note_definitions.specs.NoteReadings.{if_phases, choices_of}
use Rattle.annotation.specs.Objects.{text_in, texts_in}
use Rattle.annotation.specs.Readings.{IsReadOr, if_phase, choice_over}
use Rattle.annotation.specs.declared.read_error.ReadNoteError.{ReadNoteError}
use Rattle.annotation.specs.declared.read_error.ReadNoteError.TheVariants.{Fault, Memory}

-- ---- phases text by text

-- one choice before others, where both parts are there
abbrev put_before : Option Choice → Option (List Choice) → Option (List Choice)
put_before first others = option_and_then (λ choice. option_map (λ choices. choice ∷ choices) others) first

no_others : (first : Option Choice) → None ≡ put_before first None
no_others None = refl
no_others (Some choice) = refl

if_both : (first rest : Bool) (choice : Choice) (choices : List Choice)
    → cond (first && rest) (Some (choice ∷ choices)) None ≡ put_before (cond first (Some choice) None) (cond rest (Some choices) None)
if_both false rest choice choices = refl
if_both true false choice choices = refl
if_both true true choice choices = refl

phases_before : (lexicon : Lexicon) (first : Option Choice) (others : Option (List Choice))
    → option_and_then (if_phases lexicon) (put_before first others)
    ≡ put_before (option_and_then (if_phase lexicon) first) (option_and_then (if_phases lexicon) others)
phases_before lexicon None others = refl
phases_before lexicon (Some choice) None = no_others (if_phase lexicon choice)
phases_before lexicon (Some choice) (Some choices) =
    if_both (nat_lt choice.item.phase (length lexicon.phases)) (list_all (λ other. nat_lt other.item.phase (length lexicon.phases)) choices) choice choices

over_all : (lexicon : Lexicon) (texts : List (List ℕ))
    → option_and_then (if_phases lexicon) (each_read choice_of texts) ≡ each_read (choice_over lexicon) texts
over_all lexicon [] = refl
over_all lexicon (text ∷ texts) =
    phases_before lexicon (choice_of text) (each_read choice_of texts) ∙ ap (put_before (choice_over lexicon text)) (over_all lexicon texts)

-- what is told of texts, by whether they are not too many
choices_if : (lexicon : Lexicon) (texts : List (List ℕ)) (few : Bool) (read : Option (List Choice)) → leb (length texts) MOST_CHOICES ≡ few
    → each_read (choice_over lexicon) texts ≡ read → choices_of lexicon texts ≡ cond few read None
choices_if lexicon texts few read e h = λ i. cond (e i) ((over_all lexicon texts ∙ h) i) None

abbrev nothing : Option (List Choice)
nothing = None

neither : (few : Bool) → cond few nothing nothing ≡ nothing
neither true = refl
neither false = refl

-- ---- a loop over the texts

-- the values up to a place are read as these choices, one of each
pub record AreReadUpTo (lexicon : Lexicon) (values : List Value) (at : ℕ) (choices : List Choice) : Type 0 where
  pub read : each_read (choice_over lexicon) (texts_in (take at values)) ≡ Some choices
  pub count : length choices ≡ at
  pub few : length choices ≤ MOST_CHOICES

-- a turn, with the value there and its text
module _ (lexicon : Lexicon) (values : List Value) (at : ℕ) (value : Value) (text : List ℕ) (choices : List Choice) (inside : at < length values)
    (value_is : value ≡ get_or values at value) (text_is : text ≡ text_in value) (so_far : AreReadUpTo lexicon values at choices) where
  next_value : drop at values ≡ value ∷ drop (at + 1) values
  next_value = drop-cons values at value inside ∙ (λ i. sym value_is i ∷ drop (sym (add-one at) i) values)

  texts_cut : texts_in (take at values) ++ text ∷ texts_in (drop (at + 1) values) ≡ texts_in values
  texts_cut =
      ap (λ (t : List ℕ). texts_in (take at values) ++ t ∷ texts_in (drop (at + 1) values)) text_is
      ∙ ap (λ (rest : List Value). texts_in (take at values) ++ texts_in rest) (sym next_value)
      ∙ sym (map-append text_in (take at values) (drop at values)) ∙ ap texts_in (take-append-drop at values)

  text_refused : choice_over lexicon text ≡ None → choices_of lexicon (texts_in values) ≡ None
  text_refused h =
      let texts = texts_in values in
      let none : each_read (choice_over lexicon) texts ≡ None =
      ap (each_read (choice_over lexicon)) (sym texts_cut)
      ∙ one_refused (choice_over lexicon) (texts_in (take at values)) text (texts_in (drop (at + 1) values)) choices so_far.read h in
      choices_if lexicon texts (leb (length texts) MOST_CHOICES) None refl none ∙ neither (leb (length texts) MOST_CHOICES)

  -- a text that is refused, or want of memory
  pub error_there : (error : ReadNoteError) → IsReadOr {A = Choice} {B = Choice} faults.Choice (Err error) (choice_over lexicon text) (λ choice. choice)
      → IsReadOr {A = List Choice} {B = List Choice} faults.Choice (Err error) (choices_of lexicon (texts_in values)) (λ all. all)
  error_there (Fault why) h = (h.0, text_refused h.1)
  error_there Memory h = tt

  pub one_more : (choice : Choice) (new : List Choice) → choice_over lexicon text ≡ Some choice → (length choices ≡ MOST_CHOICES → ⊥)
      → new ≡ choices ++ choice ∷ [] → AreReadUpTo lexicon values (at + 1) new
  one_more choice new h room is = record {
    read = ap (λ (vs : List Value). each_read (choice_over lexicon) (texts_in vs)) (take_more values at value inside)
        ∙ ap (each_read (choice_over lexicon)) (map-append text_in (take at values) (get_or values at value ∷ []))
        ∙ (λ i. each_read (choice_over lexicon) (texts_in (take at values) ++ text_in (sym value_is i) ∷ []))
        ∙ one_read (choice_over lexicon) (texts_in (take at values)) (text_in value) choices choice so_far.read
        (ap (choice_over lexicon) (sym text_is) ∙ h)
        ∙ ap (λ (all : List Choice). Some all) (sym is);
    count = omega (arith, ap length is, length-append choices (choice ∷ []), so_far.count);
    few = omega (arith, ap length is, length-append choices (choice ∷ []), so_far.few, room);
  }

-- after the last text
pub all_read : (lexicon : Lexicon) (values : List Value) (at : ℕ) (choices : List Choice) → length values ≤ at → AreReadUpTo lexicon values at choices
    → choices_of lexicon (texts_in values) ≡ Some choices
all_read lexicon values at choices past so_far =
    let short : length (texts_in values) ≤ MOST_CHOICES = omega (arith, length-map values text_in, past, so_far.count, so_far.few) in
    choices_if lexicon (texts_in values) true (Some choices) (le-leb (length (texts_in values)) MOST_CHOICES short)
    (ap (λ (vs : List Value). each_read (choice_over lexicon) (texts_in vs)) (sym (take_all at values past)) ∙ so_far.read)
