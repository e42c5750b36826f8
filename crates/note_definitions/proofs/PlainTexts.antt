-- The texts in a note are UTF-8, since their bytes are ASCII: words in SLP1 by the table of letters, numbers by their digits, and
-- names and tags by their own tests.
use Rattle.std.proofs.Common.{◌≡◌, ℕ, ◌-◌, ◌^◌, ◌<◌, inl, inr, Bool, true, false, cond, List, [], ◌∷◌, ◌++◌, length, map, decimal, IsUtf8, codes, refl, ap, arith}
use Rattle.std.specs.List.{AllByRecursion, join_with_byte}
use Rattle.std.specs.Prelude.{slice_index}
use Rattle.std.specs.Str.{bytes_eq}
use Rattle.std.proofs.lemmas.Bool.{cases_lt, and_from}
use Rattle.std.proofs.lemmas.Fmt.{IsAscii-decimal}
use Rattle.std.proofs.lemmas.List.{get_or_past}
use Rattle.std.proofs.lemmas.List.Elements.{recursion_from_All}
use Rattle.std.proofs.lemmas.Str.{IsUtf8-append, IsUtf8-nil, IsUtf8-from_ascii, IsUtf8-from_is_utf8}
use Rattle.json.proofs.Printed.Utf8.{IsUtf8-are_ascii}
use Rattle.text_definitions.specs.Spellings.{byte_of_letter}
use Rattle.text_definitions.specs.Slp1.{slp1_table, slp1_of_word}
use Rattle.text_definitions.specs.Lines.{Line}
use Rattle.text_definitions.proofs.Tables.{passes_at}
use Rattle.lexicon_definitions.specs.Analyses.{Analysis}
use Rattle.lexicon_definitions.specs.Lexicons.{Lexicon, Form, IsAnalysis, IsFormEntry, IsLexicon, forms_of}
use Rattle.lexicon_text_definitions.proofs.CleanBytes.{is_clean, IsClean, clean_utf8, clean_name, clean_tag}
use Rattle.segmentation_definitions.specs.Items.{Placed, Item, Choice, item_of}
use Rattle.segmentation_definitions.specs.PrintedAnswers.{name_of}
use Rattle.segmentation_definitions.proofs.Coverings.{forms_are_entries}
use Rattle.bookmark_definitions.specs.Bookmarks.{IsItemWithinBounds}
use Rattle.bookmark_definitions.specs.BookmarkTexts.{words_from, text_of_line, text_of_item, text_of_choice}
use Rattle.session_definitions.specs.PrintedSummaries.{analyses_among, analyses_of_item, printed_analysis}
use Rattle.note_definitions.specs.NoteTexts.{tags_of}

-- ---- words and numbers

letter_clean : (n : ℕ) → is_clean (byte_of_letter slp1_table n) ≡ true
unfolding slp1_table
letter_clean n = elim (cases_lt (n - 1) 50) [
  | inl below ↦ passes_at 50 (λ k. is_clean (slice_index slp1_table k)) refl (n - 1) below
  | inr above ↦ ap is_clean (get_or_past slp1_table (n - 1) 0 above)
]

word_clean : (word : List ℕ) → IsClean (map (byte_of_letter slp1_table) word)
word_clean [] = refl
word_clean (n ∷ word) = and_from _ _ (letter_clean n) (word_clean word)

pub word_utf8 : (word : List ℕ) → IsUtf8 (slp1_of_word word)
unfolding slp1_of_word
word_utf8 word = IsUtf8-from_is_utf8 _ (clean_utf8 _ (word_clean word))

number_utf8 : (n : ℕ) → n < 2 ^ 64 → IsUtf8 (decimal n)
number_utf8 n h = IsUtf8-from_ascii (decimal n) (IsAscii-decimal n h)

-- a byte that is ASCII before a text
byte_before : (byte : ℕ) (text : List ℕ) → IsUtf8 (byte ∷ []) → IsUtf8 text → IsUtf8 (byte ∷ text)
byte_before byte text h k = IsUtf8-append (byte ∷ []) text h k

-- ---- texts with a byte between

joined_utf8 : (byte : ℕ) (texts : List (List ℕ)) → IsUtf8 (byte ∷ []) → AllByRecursion IsUtf8 texts → IsUtf8 (join_with_byte byte texts)
joined_utf8 byte [] h t = IsUtf8-nil
joined_utf8 byte (text ∷ []) h t = t.0
joined_utf8 byte (text ∷ next ∷ texts) h t =
    IsUtf8-append text (byte ∷ join_with_byte byte (next ∷ texts)) t.0
    (byte_before byte (join_with_byte byte (next ∷ texts)) h (joined_utf8 byte (next ∷ texts) h t.1))

words_utf8 : (words : List (List ℕ)) → AllByRecursion IsUtf8 (map slp1_of_word words)
words_utf8 [] = tt
words_utf8 (word ∷ words) = (word_utf8 word, words_utf8 words)

pub line_utf8 : (line : Line) → IsUtf8 (text_of_line line)
line_utf8 line =
    joined_utf8 95 (map slp1_of_word (words_from 0 line.blanks line.letters)) (IsUtf8-are_ascii _ refl)
    (words_utf8 (words_from 0 line.blanks line.letters))

item_utf8 : (item : Item) → IsItemWithinBounds item → IsUtf8 (text_of_item item)
item_utf8 item h =
    joined_utf8 46 (decimal item.at ∷ decimal item.lead ∷ decimal item.phase ∷ slp1_of_word item.form ∷ []) (IsUtf8-are_ascii _ refl)
    (number_utf8 item.at (omega (arith, h.at)), (number_utf8 item.lead (omega (arith, h.lead)), (number_utf8 item.phase (omega (arith, h.phase)), (word_utf8 item.form, tt))))

signed_utf8 : (kept : Bool) (text : List ℕ) → IsUtf8 text → IsUtf8 (cond kept (codes "+") (codes "-") ++ text)
signed_utf8 true text h = byte_before 43 text (IsUtf8-are_ascii _ refl) h
signed_utf8 false text h = byte_before 45 text (IsUtf8-are_ascii _ refl) h

pub choice_utf8 : (choice : Choice) → IsItemWithinBounds choice.item → IsUtf8 (text_of_choice choice)
choice_utf8 choice h = signed_utf8 choice.kept (text_of_item choice.item) (item_utf8 choice.item h)

-- ---- names and tags

pub name_utf8 : (lexicon : Lexicon) (phase : ℕ) → IsLexicon lexicon → phase < length lexicon.phases → IsUtf8 (name_of lexicon.rules phase)
name_utf8 lexicon phase is below =
    IsUtf8-from_is_utf8 (name_of lexicon.rules phase)
    (clean_utf8 (name_of lexicon.rules phase) (clean_name (name_of lexicon.rules phase) (is.rules.names_are_names phase [] (omega (arith, below, is.count)))))

analysis_utf8 : (analysis : Analysis) → IsAnalysis analysis → IsUtf8 (printed_analysis analysis)
analysis_utf8 analysis h =
    IsUtf8-append (slp1_of_word analysis.stem ++ codes " ") analysis.tag
    (IsUtf8-append (slp1_of_word analysis.stem) (codes " ") (word_utf8 analysis.stem) (IsUtf8-are_ascii _ refl))
    (IsUtf8-from_is_utf8 analysis.tag (clean_utf8 analysis.tag (clean_tag analysis.tag h.tag)))

all_by_test : (P : Analysis → Type 0) (test : Bool) (xs ys : List Analysis) → AllByRecursion P xs → AllByRecursion P ys → AllByRecursion P (cond test xs ys)
all_by_test P true xs ys h k = h
all_by_test P false xs ys h k = k

among_are : (forms : List Form) (letters : List ℕ) → AllByRecursion IsFormEntry forms → AllByRecursion IsAnalysis (analyses_among forms letters)
among_are [] letters h = tt
among_are (form ∷ forms) letters h =
    all_by_test IsAnalysis (bytes_eq form.letters letters) form.analyses (analyses_among forms letters)
    (recursion_from_All IsAnalysis form.analyses h.0.analyses) (among_are forms letters h.1)

printed_utf8 : (analyses : List Analysis) → AllByRecursion IsAnalysis analyses → AllByRecursion IsUtf8 (map printed_analysis analyses)
printed_utf8 [] h = tt
printed_utf8 (analysis ∷ analyses) h = (analysis_utf8 analysis h.0, printed_utf8 analyses h.1)

pub tags_utf8 : (lexicon : Lexicon) (p : Placed) → IsLexicon lexicon → AllByRecursion IsUtf8 (tags_of lexicon p)
tags_utf8 lexicon p is =
    printed_utf8 (analyses_of_item lexicon (item_of p))
    (among_are (forms_of lexicon p.step.phase) p.step.form
    (recursion_from_All IsFormEntry (forms_of lexicon p.step.phase) (forms_are_entries lexicon p.step.phase is)))
