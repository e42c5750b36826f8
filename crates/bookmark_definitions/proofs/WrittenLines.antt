-- A line is read as it is written: its words are its letters cut at the blanks, and give the letters and the blanks back; by
-- induction on the words, and on the blanks.
use Rattle.std.proofs.Common.{◌≡◌, ℕ, suc, ◌+◌, ◌-◌, ◌<◌, ◌≤◌, Bool, true, false, cond, List, [], ◌∷◌, ◌++◌, length, get_or, map, eqb, leb, Option, Some, None, refl, sym, ◌∙◌, ap, subst, arith, append-nil, length-append}
use Rattle.std.specs.Prelude.{take, drop, option_and_then}
use Rattle.std.specs.List.{AllByRecursion, slice_split, join_with_byte, concat}
use Rattle.std.specs.List.Sorted.{IsStrictlyIncreasing}
use Rattle.std.proofs.lemmas.Bool.{leb-true, le-leb}
use Rattle.std.proofs.lemmas.List.{append_assoc, take_at, drop_at, take-append-drop, length-take-le, length-drop}
use Rattle.std.proofs.lemmas.List.Elements.{All-take, All-drop, recursion_from_All}
use Rattle.std.proofs.lemmas.List.Splits.{join_with_byte-slice_split, length-slice_split}
use Rattle.text_definitions.specs.declared.limits.TheConstants.{MOST_LINE_LETTERS}
use Rattle.text_definitions.specs.Letters.{IsLetter}
use Rattle.text_definitions.specs.Words.{IsWord}
use Rattle.text_definitions.specs.Lines.{Line, IsLine}
use Rattle.text_definitions.specs.LineTexts.{IsBegun}
use Rattle.text_definitions.specs.Slp1.{slp1_table, word_of_slp1, slp1_of_word}
use Rattle.text_definitions.proofs.SpelledLines.{begun_word, begun_none}
use Rattle.text_definitions.proofs.SpelledWords.{is_no_letter}
use Rattle.list_laws.proofs.Marks.{is_free}
use Rattle.bookmark_definitions.specs.BookmarkTexts.{words_from, text_of_line}
use Rattle.bookmark_definitions.specs.BookmarkReadings.{word_up_to, each_read, blanks_before, blanks_between, line_of_words, short_line, line_of}
use Rattle.bookmark_definitions.proofs.JoinedTexts.{split_joined, free_joined, each_tells, each_back, each_written}
use Rattle.bookmark_definitions.proofs.NumbersAndWords.{IsShortWord, word_tells, word_back, word_free}
use Rattle.std.proofs.lemmas.Option.{cond_some}

-- ---- words that are put together are cut again

cut_back : (place : ℕ) (first : List ℕ) (rest : List (List ℕ))
    → words_from place (blanks_before (place + length first) rest) (first ++ concat rest) ≡ first ∷ rest
cut_back place first [] = ap (λ (word : List ℕ). word ∷ []) (append-nil first)
cut_back place first (word ∷ rest) =
    let size : length first ≡ place + length first - place = omega arith in
    let front = take_at first (word ++ concat rest) (place + length first - place) size in
    let back = drop_at first (word ++ concat rest) (place + length first - place) size in
    (λ i. front i ∷ words_from (place + length first) (blanks_before (place + length first + length word) rest) (back i))
    ∙ ap (◌∷◌ first) (cut_back (place + length first) word rest)

-- ---- words that are put together are a line

more_words : (letters blanks : List ℕ) (words : List (List ℕ)) → 0 < length letters → IsBegun letters blanks
    → AllByRecursion (IsShortWord MOST_LINE_LETTERS) words → IsBegun (letters ++ concat words) (blanks ++ blanks_before (length letters) words)
more_words letters blanks [] some b w =
    subst (λ (l : List ℕ). IsBegun l (blanks ++ [])) (sym (append-nil letters)) (subst (λ (bs : List ℕ). IsBegun letters bs) (sym (append-nil blanks)) b)
more_words letters blanks ([] ∷ words) some b w = let none = w.0.not_empty in absurd (omega (arith, none))
more_words [] blanks ((next ∷ word) ∷ words) some b w = absurd (omega (arith, some))
more_words (letter ∷ letters) blanks ((next ∷ word) ∷ words) some b w =
    let one = begun_word (letter ∷ letters) blanks (next ∷ word) b w.0.word_itself in
    let size = length-append (letter ∷ letters) (next ∷ word) in
    let rest = more_words ((letter ∷ letters) ++ next ∷ word) (blanks ++ length (letter ∷ letters) ∷ []) words (omega (arith, size)) one w.1 in
    let at : (blanks ++ length (letter ∷ letters) ∷ []) ++ blanks_before (length ((letter ∷ letters) ++ next ∷ word)) words
    ≡ blanks ++ blanks_before (length (letter ∷ letters)) ((next ∷ word) ∷ words) =
    append_assoc blanks (length (letter ∷ letters) ∷ []) (blanks_before (length ((letter ∷ letters) ++ next ∷ word)) words)
    ∙ ap (λ (n : ℕ). blanks ++ length (letter ∷ letters) ∷ blanks_before n words) size in
    let all = append_assoc (letter ∷ letters) (next ∷ word) (concat words) in
    subst (λ (l : List ℕ). IsBegun l (blanks ++ blanks_before (length (letter ∷ letters)) ((next ∷ word) ∷ words))) all
    (subst (λ (bs : List ℕ). IsBegun (((letter ∷ letters) ++ next ∷ word) ++ concat words) bs) at rest)

words_begin : (first : List ℕ) (rest : List (List ℕ)) → AllByRecursion (IsShortWord MOST_LINE_LETTERS) (first ∷ rest)
    → IsBegun (first ++ concat rest) (blanks_before (length first) rest)
words_begin first rest w =
    more_words first [] rest w.0.not_empty (begun_word [] [] first begun_none w.0.word_itself) w.1

-- ---- what is read of a line's text

-- what the words of a line's text say of it
abbrev IsLineWith : List (List ℕ) → Line → Type 0
IsLineWith words line = (words_from 0 line.blanks line.letters ≡ words) × IsLine line

line_from_words : (words : List (List ℕ)) (line : Line) → 0 < length words → AllByRecursion (IsShortWord MOST_LINE_LETTERS) words
    → short_line (line_of_words words) ≡ Some line → IsLineWith words line
line_from_words [] line some w h = absurd (omega (arith, some))
line_from_words (first ∷ rest) line some w h =
    let found = cond_some (leb (length (first ++ concat rest)) MOST_LINE_LETTERS) (line_of_words (first ∷ rest)) line h in
    let short : length (first ++ concat rest) ≤ MOST_LINE_LETTERS = leb-true (length (first ++ concat rest)) MOST_LINE_LETTERS found.0 in
    let begun = words_begin first rest w in
    let positive : 0 < length first = w.0.not_empty in
    let from_start : 0 + length first ≡ length first = omega arith in
    let cut = subst (λ (n : ℕ). words_from 0 (blanks_before n rest) (first ++ concat rest) ≡ first ∷ rest) from_start (cut_back 0 first rest) in
    subst (IsLineWith (first ∷ rest)) found.1 (
      cut,
      record {
        word = begun.word;
        not_empty = omega (arith, positive, length-append first (concat rest));
        within_limit = short;
        rising = begun.rising;
        inside = begun.inside;
      },
    )

abbrev pieces_of : List ℕ → List (List ℕ)
pieces_of text = slice_split (λ byte. eqb byte 95) text

abbrev pub read_piece : List ℕ → Option (List ℕ)
read_piece piece = word_up_to MOST_LINE_LETTERS (word_of_slp1 piece)

some_piece : (text : List ℕ) → 0 < length (pieces_of text)
some_piece text = omega (arith, length-slice_split (λ byte. eqb byte 95) text)

length_map : (words : List (List ℕ)) → length (map slp1_of_word words) ≡ length words
length_map [] = refl
length_map (word ∷ words) = ap suc (length_map words)

line_by : (text : List ℕ) (words : Option (List (List ℕ))) (line : Line) → each_read read_piece (pieces_of text) ≡ words
    → option_and_then (λ words. short_line (line_of_words words)) words ≡ Some line → (text ≡ text_of_line line) × IsLine line
line_by text None line e h = absurd (cc)
line_by text (Some words) line e h =
    let each = each_tells read_piece slp1_of_word (IsShortWord MOST_LINE_LETTERS) (word_tells MOST_LINE_LETTERS) (pieces_of text) words e in
    let some : 0 < length words = omega (arith, some_piece text, ap length each.0, length_map words) in
    let found = line_from_words words line some each.1 h in
    (sym (join_with_byte-slice_split 95 text) ∙ ap (join_with_byte 95) each.0 ∙ ap (λ (ws : List (List ℕ)). join_with_byte 95 (map slp1_of_word ws)) (sym found.0), found.1)

-- what is read is a line, and this is its text
pub line_tells : (text : List ℕ) (line : Line) → line_of text ≡ Some line → (text ≡ text_of_line line) × IsLine line
line_tells text line h = line_by text (each_read read_piece (pieces_of text)) line refl h

-- ---- a line that is cut at its blanks

-- each of the blanks comes after the place and after those before it, and before the end
abbrev IsCutUp : ℕ → ℕ → List ℕ → Type 0
IsCutUp place end [] = Unit {0}
IsCutUp place end (blank ∷ blanks) = (place < blank) × (blank < end) × IsCutUp blank end blanks

rising_rest : (blank : ℕ) (blanks : List ℕ) → IsStrictlyIncreasing (blank ∷ blanks) → IsStrictlyIncreasing blanks
rising_rest blank blanks rises = λ k h.
    let next : suc k + 1 ≡ suc (k + 1) = omega arith in
    let inside : suc k + 1 < length (blank ∷ blanks) = omega (arith, h) in
    subst (λ (n : ℕ). get_or blanks k 0 < get_or (blank ∷ blanks) n 0) next (rises (suc k) inside)

cut_up : (place end : ℕ) (blanks : List ℕ) → IsStrictlyIncreasing blanks → (0 < length blanks → place < get_or blanks 0 0)
    → AllByRecursion (λ b. (0 < b) × (b < end)) blanks → IsCutUp place end blanks
cut_up place end [] rises first h = tt
cut_up place end (blank ∷ blanks) rises first h =
    let second : 0 < length blanks → blank < get_or blanks 0 0 = λ some.
    let next : 0 + 1 ≡ suc 0 = omega arith in
    let inside : 0 + 1 < length (blank ∷ blanks) = omega (arith, some) in
    subst (λ (n : ℕ). blank < get_or (blank ∷ blanks) n 0) next (rises 0 inside) in
    (first (omega arith), h.0.1, cut_up blank end blanks (rising_rest blank blanks rises) second h.1)

first_inside : (blanks : List ℕ) (end : ℕ) → AllByRecursion (λ b. (0 < b) × (b < end)) blanks → 0 < length blanks → 0 < get_or blanks 0 0
first_inside [] end h some = absurd (omega (arith, some))
first_inside (blank ∷ blanks) end h some = h.0.0

-- the letters come back
letters_back : (place : ℕ) (blanks letters : List ℕ) → concat (words_from place blanks letters) ≡ letters
letters_back place [] letters = append-nil letters
letters_back place (blank ∷ blanks) letters =
    ap (λ (rest : List ℕ). take (blank - place) letters ++ rest) (letters_back blank blanks (drop (blank - place) letters))
    ∙ take-append-drop (blank - place) letters

-- the blanks before all words but the first, which begins at the place
abbrev blanks_after : ℕ → List (List ℕ) → List ℕ
blanks_after place [] = []
blanks_after place (word ∷ words) = blanks_before (place + length word) words

first_blank : (place : ℕ) (blanks letters : List ℕ)
    → blanks_before place (words_from place blanks letters) ≡ place ∷ blanks_after place (words_from place blanks letters)
first_blank place [] letters = refl
first_blank place (blank ∷ blanks) letters = refl

blanks_back : (place end : ℕ) (blanks letters : List ℕ) → place + length letters ≡ end → IsCutUp place end blanks
    → blanks_after place (words_from place blanks letters) ≡ blanks
blanks_back place end [] letters size h = refl
blanks_back place end (blank ∷ blanks) letters size h =
    let inside : blank - place ≤ length letters = omega (arith, size, h.1) in
    let taken = length-take-le (blank - place) letters inside in
    let at : place + length (take (blank - place) letters) ≡ blank = omega (arith, taken, h.0) in
    let left : blank + length (drop (blank - place) letters) ≡ end = omega (arith, length-drop (blank - place) letters, size, h.0, h.1) in
    ap (λ (n : ℕ). blanks_before n (words_from blank blanks (drop (blank - place) letters))) at
    ∙ first_blank blank blanks (drop (blank - place) letters)
    ∙ ap (◌∷◌ blank) (blanks_back blank end blanks (drop (blank - place) letters) left h.2)

-- each word is one that is not empty
words_short : (place end : ℕ) (blanks letters : List ℕ) → place + length letters ≡ end → place < end → end ≤ MOST_LINE_LETTERS → IsWord letters
    → IsCutUp place end blanks → AllByRecursion (IsShortWord MOST_LINE_LETTERS) (words_from place blanks letters)
words_short place end [] letters size some most w h =
    (record { word_itself = w; not_empty = omega (arith, size, some); short = omega (arith, size, most) }, tt)
words_short place end (blank ∷ blanks) letters size some most w h =
    let inside : blank - place ≤ length letters = omega (arith, size, h.1) in
    let taken = length-take-le (blank - place) letters inside in
    let left : blank + length (drop (blank - place) letters) ≡ end = omega (arith, length-drop (blank - place) letters, size, h.0, h.1) in (
      record {
        word_itself = All-take IsLetter (blank - place) letters w;
        not_empty = omega (arith, taken, h.0);
        short = omega (arith, taken, h.1, most);
      },
      words_short blank end blanks (drop (blank - place) letters) left h.1 most (All-drop IsLetter (blank - place) letters w) h.2,
    )

some_words : (place : ℕ) (blanks letters : List ℕ) → 0 < length (words_from place blanks letters)
some_words place [] letters = omega arith
some_words place (blank ∷ blanks) letters = omega arith

between_from_start : (words : List (List ℕ)) → blanks_between words ≡ blanks_after 0 words
between_from_start [] = refl
between_from_start (word ∷ words) =
    let from_start : length word ≡ 0 + length word = omega arith in
    ap (λ (n : ℕ). blanks_before n words) from_start

-- the facts of a line's words
record HasWords (line : Line) : Type 0 where
  short : AllByRecursion (IsShortWord MOST_LINE_LETTERS) (words_from 0 line.blanks line.letters)
  same : line_of_words (words_from 0 line.blanks line.letters) ≡ line

words_of_line : (line : Line) → IsLine line → HasWords line
words_of_line line l =
    let inside = recursion_from_All (λ b. (0 < b) × (b < length line.letters)) line.blanks l.inside in
    let cut = cut_up 0 (length line.letters) line.blanks l.rising (first_inside line.blanks (length line.letters) inside) inside in
    let size : 0 + length line.letters ≡ length line.letters = omega arith in
    let letters = letters_back 0 line.blanks line.letters in
    let blanks = between_from_start (words_from 0 line.blanks line.letters) ∙ blanks_back 0 (length line.letters) line.blanks line.letters size cut in
    record {
      short = words_short 0 (length line.letters) line.blanks line.letters size l.not_empty l.within_limit l.word cut;
      same = λ i. record { letters = letters i; blanks = blanks i };
    }

-- the text of a line is free of each mark that is neither `_` nor a letter's byte
pub line_free : (mark : ℕ) → eqb 95 mark ≡ false → is_no_letter slp1_table mark ≡ true → (line : Line) → IsLine line → is_free mark (text_of_line line) ≡ true
line_free mark other none line l =
    let words = words_of_line line l in
    free_joined 95 mark other (map slp1_of_word (words_from 0 line.blanks line.letters))
    (each_written read_piece slp1_of_word (IsShortWord MOST_LINE_LETTERS) (λ text. is_free mark text ≡ true)
    (λ word w. word_free mark none word w.word_itself) (words_from 0 line.blanks line.letters) words.short)

no_letter_byte : is_no_letter slp1_table 95 ≡ true
unfolding slp1_table
no_letter_byte = refl

-- the text of a line is read as this line
pub line_back : (line : Line) → IsLine line → line_of (text_of_line line) ≡ Some line
line_back line l =
    let words = words_from 0 line.blanks line.letters in
    let has = words_of_line line l in
    let free = each_written read_piece slp1_of_word (IsShortWord MOST_LINE_LETTERS) (λ text. is_free 95 text ≡ true)
    (λ word w. word_free 95 no_letter_byte word w.word_itself) words has.short in
    let some : 0 < length (map slp1_of_word words) = omega (arith, some_words 0 line.blanks line.letters, length_map words) in
    let pieces = split_joined 95 (map slp1_of_word words) some free in
    let each = each_back read_piece slp1_of_word (IsShortWord MOST_LINE_LETTERS) (word_back MOST_LINE_LETTERS) words has.short in
    let within : leb (length line.letters) MOST_LINE_LETTERS ≡ true = le-leb (length line.letters) MOST_LINE_LETTERS l.within_limit in
    ap (λ (ps : List (List ℕ)). option_and_then (λ words. short_line (line_of_words words)) (each_read read_piece ps)) pieces
    ∙ ap (λ (found : Option (List (List ℕ))). option_and_then (λ words. short_line (line_of_words words)) found) each
    ∙ ap short_line has.same
    ∙ ap (λ (test : Bool). cond test (Some line) None) within
