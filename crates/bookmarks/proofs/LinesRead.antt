-- A line is read word by word: the letters and blanks so far are those of the words so far. Where there are too many letters,
-- whatever comes after them makes no line.
use Rattle.std.proofs.Common.{◌≡◌, ℕ, ◌+◌, ◌<◌, ◌≤◌, cond, List, [], ◌∷◌, ◌++◌, length, Option, Some, None, refl, sym, ◌∙◌, ap, subst, arith, append-nil, append_assoc, length-append}
use Rattle.std.specs.Prelude.{option_and_then}
use Rattle.std.specs.List.{AllByRecursion, concat}
use Rattle.std.proofs.lemmas.Bool.{le-leb, lt-leb}
use Rattle.text_definitions.specs.declared.limits.TheConstants.{MOST_LINE_LETTERS}
use Rattle.text_definitions.specs.Lines.{Line}
use Rattle.bookmark_definitions.specs.BookmarkReadings.{each_read, blanks_before, blanks_between, line_of_words, short_line, line_of}
use Rattle.bookmark_definitions.proofs.NumbersAndWords.{word_tells}
use Rattle.bookmarks.specs.Parts.{parts_at, blank_after}
use Rattle.bookmarks.proofs.ListsRead.{put_together, each_append, one_read, one_refused}
use Rattle.bookmark_definitions.proofs.WrittenLines.{read_piece}
use Rattle.std.proofs.lemmas.List.Folds.{concat-append}

-- the words of the pieces so far, with their letters and the blanks between them
pub record HasWords (pieces : List (List ℕ)) (letters blanks : List ℕ) : Type 0 where
  pub words : List (List ℕ)
  pub read : each_read read_piece pieces ≡ Some words
  pub some : AllByRecursion (λ word. 0 < length word) words
  pub letters_are : letters ≡ concat words
  pub blanks_are : blanks ≡ blanks_between words
  pub few : length letters ≤ MOST_LINE_LETTERS

-- ---- one word more

concat_more : (words : List (List ℕ)) (word : List ℕ) → concat (words ++ word ∷ []) ≡ concat words ++ word
concat_more [] word = append-nil word
concat_more (first ∷ words) word = ap (λ (rest : List ℕ). first ++ rest) (concat_more words word) ∙ sym (append_assoc first (concat words) word)

before_more : (place : ℕ) (words : List (List ℕ)) (word : List ℕ)
    → blanks_before place (words ++ word ∷ []) ≡ blanks_before place words ++ (place + length (concat words)) ∷ []
before_more place [] word = let at : place ≡ place + 0 = omega arith in ap (λ (n : ℕ). n ∷ []) at
before_more place (first ∷ words) word =
    let at : place + length first + length (concat words) ≡ place + length (first ++ concat words) =
    omega (arith, length-append first (concat words)) in
    ap (λ (bs : List ℕ). place ∷ bs) (before_more (place + length first) words word)
    ∙ ap (λ (n : ℕ). place ∷ blanks_before (place + length first) words ++ n ∷ []) at

after_some : (letters : List ℕ) → 0 < length letters → blank_after letters ≡ length letters ∷ []
after_some [] some = absurd (omega (arith, some))
after_some (letter ∷ letters) some = refl

between_more : (words : List (List ℕ)) (word : List ℕ) → AllByRecursion (λ w. 0 < length w) words
    → blanks_between (words ++ word ∷ []) ≡ blanks_between words ++ blank_after (concat words)
between_more [] word some = refl
between_more (first ∷ words) word some =
    let size = length-append first (concat words) in
    before_more (length first) words word
    ∙ ap (λ (n : ℕ). blanks_before (length first) words ++ n ∷ []) (sym size)
    ∙ ap (λ (bs : List ℕ). blanks_before (length first) words ++ bs) (sym (after_some (first ++ concat words) (omega (arith, size, some.0))))

some_more : (words : List (List ℕ)) (word : List ℕ) → AllByRecursion (λ w. 0 < length w) words → 0 < length word → AllByRecursion (λ w. 0 < length w) (words ++ word ∷ [])
some_more [] word some h = (h, tt)
some_more (first ∷ words) word some h = (some.0, some_more words word some.1 h)

pub word_added : (pieces : List (List ℕ)) (piece word old letters old_blanks blanks : List ℕ) → HasWords pieces old old_blanks → read_piece piece ≡ Some word
    → letters ≡ old ++ word → blanks ≡ old_blanks ++ blank_after old → length letters ≤ MOST_LINE_LETTERS → HasWords (pieces ++ piece ∷ []) letters blanks
word_added pieces piece word old letters old_blanks blanks has h letters_is blanks_is few =
    record {
      words = has.words ++ word ∷ [];
      read = one_read read_piece pieces piece has.words word has.read h;
      some = some_more has.words word has.some (word_tells MOST_LINE_LETTERS piece word h).1.not_empty;
      letters_are = letters_is ∙ ap (λ (w : List ℕ). w ++ word) has.letters_are ∙ sym (concat_more has.words word);
      blanks_are = blanks_is ∙ (λ i. has.blanks_are i ++ blank_after (has.letters_are i)) ∙ sym (between_more has.words word has.some);
      few = few;
    }

-- ---- what is read of the whole text

abbrev pub line_with : Option (List (List ℕ)) → Option Line
line_with words = option_and_then (λ words. short_line (line_of_words words)) words

pub piece_refused : (text : List ℕ) (pieces : List (List ℕ)) (piece : List ℕ) (more : List (List ℕ)) (letters blanks : List ℕ) → HasWords pieces letters blanks
    → pieces ++ piece ∷ more ≡ parts_at 95 text → read_piece piece ≡ None → line_of text ≡ None
piece_refused text pieces piece more letters blanks has cut h =
    ap (λ (ps : List (List ℕ)). line_with (each_read read_piece ps)) (sym cut)
    ∙ ap line_with (one_refused read_piece pieces piece more has.words has.read h)

too_long_by : (words : List (List ℕ)) (more : Option (List (List ℕ))) → MOST_LINE_LETTERS < length (concat words) → line_with (put_together (Some words) more) ≡ None
too_long_by words None many = refl
too_long_by words (Some others) many =
    let size = ap length (concat-append words others) ∙ length-append (concat words) (concat others) in
    ap (λ test. cond test (Some (line_of_words (words ++ others))) None)
    (lt-leb (length (concat (words ++ others))) MOST_LINE_LETTERS (omega (arith, size, many)))

pub too_long : (text : List ℕ) (pieces : List (List ℕ)) (piece : List ℕ) (more : List (List ℕ)) (word old letters blanks : List ℕ) → HasWords pieces old blanks
    → pieces ++ piece ∷ more ≡ parts_at 95 text → read_piece piece ≡ Some word → letters ≡ old ++ word → MOST_LINE_LETTERS < length letters → line_of text ≡ None
too_long text pieces piece more word old letters blanks has cut h letters_is many =
    let all = letters_is ∙ ap (λ (w : List ℕ). w ++ word) has.letters_are ∙ sym (concat_more has.words word) in
    let here : (pieces ++ piece ∷ []) ++ more ≡ pieces ++ piece ∷ more = append_assoc pieces (piece ∷ []) more in
    ap (λ (ps : List (List ℕ)). line_with (each_read read_piece ps)) (sym (here ∙ cut))
    ∙ ap line_with (each_append read_piece (pieces ++ piece ∷ []) more)
    ∙ ap (λ (words : Option (List (List ℕ))). line_with (put_together words (each_read read_piece more))) (one_read read_piece pieces piece has.words word has.read h)
    ∙ too_long_by (has.words ++ word ∷ []) (each_read read_piece more) (omega (arith, ap length all, many))

pub line_read : (text letters blanks : List ℕ) (pieces : List (List ℕ)) → HasWords pieces letters blanks → pieces ≡ parts_at 95 text
    → line_of text ≡ Some (record { letters = letters; blanks = blanks })
line_read text letters blanks pieces has cut =
    ap (λ (ps : List (List ℕ)). line_with (each_read read_piece ps)) (sym cut) ∙ ap line_with has.read
    ∙ ap (λ test. cond test (Some (line_of_words has.words)) None)
    (le-leb (length (concat has.words)) MOST_LINE_LETTERS (subst (λ (w : List ℕ). length w ≤ MOST_LINE_LETTERS) has.letters_are has.few))
    ∙ (λ i. Some (record { letters = sym has.letters_are i; blanks = sym has.blanks_are i }))
