-- The bookmark that a text is read as, if it is the text of one (own). The text is cut at `;`, its choices and keys at `,`, and
-- each of these at `.`.
use Rattle.std.specs.Prelude.{ℕ, ◌+◌, ◌*◌, ◌==◌, ◌&&◌, not, nat_le, Bool, true, false, if◌then◌else◌, Option, Some, None, option_map, option_and_then, Ok, List, [], ◌∷◌, length, codes}
use Rattle.std.specs.List.{slice_split, concat}
use Rattle.std.specs.Str.{bytes_eq, all_ascii_digits}
use Rattle.std.specs.Str.Parse.{digits_value}
use Rattle.text_definitions.specs.declared.limits.TheConstants.{MOST_LINE_LETTERS}
use Rattle.text_definitions.specs.Lines.{Line}
use Rattle.text_definitions.specs.Spellings.{Reading}
use Rattle.text_definitions.specs.Slp1.{word_of_slp1}
use Rattle.lexicon_definitions.specs.declared.limits.TheConstants.{MOST_RULES, MOST_RULE_LETTERS, MOST_FORM_LETTERS}
use Rattle.segmentation_definitions.specs.declared.limits.TheConstants.{LAST_ANSWER_NUMBER, MOST_CHOICES}
use Rattle.segmentation_definitions.specs.Items.{Item, Choice}
use Rattle.segmentation_definitions.specs.Listings.{Key}
use Rattle.bookmark_definitions.specs.Bookmarks.{Bookmark, last_phase}

-- ---- numbers, words and lists

-- a number has one digit or more, and no 0 before others
abbrev pub is_number : List ℕ → Bool
is_number [] = false
is_number (digit ∷ []) = all_ascii_digits (digit ∷ [])
is_number (first ∷ second ∷ rest) = not (first == 48) && all_ascii_digits (first ∷ second ∷ rest)

-- the number that the text writes, where it is no more than the greatest that may stand there
abbrev pub number_up_to : ℕ → List ℕ → Option ℕ
number_up_to most text =
    if is_number text && nat_le (digits_value 10 text) most then Some (digits_value 10 text) else None

-- the word, where it has 1 letter at least and not too many
abbrev pub word_up_to : ℕ → Reading → Option (List ℕ)
word_up_to most (Ok (letter ∷ word)) = if nat_le (length (letter ∷ word)) most then Some (letter ∷ word) else None
word_up_to most reading = None

-- what each of the texts is read as, where none of them is refused
abbrev pub each_read : {A : Type 0} → (List ℕ → Option A) → List (List ℕ) → Option (List A)
each_read read [] = Some []
each_read read (text ∷ texts) =
    option_and_then (λ first. option_map (λ others. first ∷ others) (each_read read texts)) (read text)

-- the parts of a list with `,` between them; an empty text is the empty list
abbrev pub parts_of_list : List ℕ → List (List ℕ)
parts_of_list [] = []
parts_of_list (byte ∷ text) = slice_split (λ mark. mark == 44) (byte ∷ text)

-- ---- the line

-- a blank before each of the words, the first of which begins at this place
abbrev pub blanks_before : ℕ → List (List ℕ) → List ℕ
blanks_before place [] = []
blanks_before place (word ∷ words) = place ∷ blanks_before (place + length word) words

-- a blank before each of the words but the first
abbrev pub blanks_between : List (List ℕ) → List ℕ
blanks_between [] = []
blanks_between (word ∷ words) = blanks_before (length word) words

-- the line that has these words one after another, with a blank between each two
abbrev pub line_of_words : List (List ℕ) → Line
line_of_words words = record { letters = concat words; blanks = blanks_between words }

-- the line, where it has not too many letters
abbrev pub short_line : Line → Option Line
short_line line = if nat_le (length line.letters) MOST_LINE_LETTERS then Some line else None

-- the line that a text writes: words in SLP1, none of them empty, with one `_` between each two
abbrev pub line_of : List ℕ → Option Line
line_of text =
    option_and_then (λ words. short_line (line_of_words words))
    (each_read (λ piece. word_up_to MOST_LINE_LETTERS (word_of_slp1 piece)) (slice_split (λ mark. mark == 95) text))

-- ---- the choices

-- the item with these parts, where all of them are read
abbrev pub item_with : Option ℕ → Option ℕ → Option ℕ → Option (List ℕ) → Option Item
item_with (Some at) (Some lead) (Some phase) (Some form) =
    Some (record { at = at; lead = lead; phase = phase; form = form })
item_with at lead phase form = None

-- the item that the fields write
abbrev pub item_of_fields : List (List ℕ) → Option Item
item_of_fields (at ∷ lead ∷ phase ∷ form ∷ []) =
    item_with (number_up_to MOST_LINE_LETTERS at) (number_up_to MOST_RULE_LETTERS lead) (number_up_to last_phase phase)
    (word_up_to MOST_FORM_LETTERS (word_of_slp1 form))
item_of_fields fields = None

-- the choice of what is read as an item
abbrev pub choice_with : Bool → List ℕ → Option Choice
choice_with kept text =
    option_map (λ item. record { kept = kept; item = item }) (item_of_fields (slice_split (λ mark. mark == 46) text))

-- the choice that a text writes: `+` or `-`, and an item
abbrev pub choice_of : List ℕ → Option Choice
choice_of [] = None
choice_of (sign ∷ text) =
    if sign == 43 then choice_with true text else (if sign == 45 then choice_with false text else None)

-- ---- the keys

-- the key with these parts, where all of them are read
abbrev pub key_with : Option ℕ → Option ℕ → Option ℕ → Option Key
key_with (Some phase) (Some taken) (Some rule) = Some (record { phase = phase; taken = taken; rule = rule })
key_with phase taken rule = None

-- the key that the fields write
abbrev pub key_of_fields : List (List ℕ) → Option Key
key_of_fields (phase ∷ taken ∷ rule ∷ []) =
    key_with (number_up_to last_phase phase) (number_up_to MOST_FORM_LETTERS taken) (number_up_to MOST_RULES rule)
key_of_fields fields = None

-- the key that a text writes
abbrev pub key_of_text : List ℕ → Option Key
key_of_text text = key_of_fields (slice_split (λ mark. mark == 46) text)

-- ---- the bookmark

-- there are no keys exactly where no answer was printed
abbrev pub has_keys_if_printed : ℕ → List Key → Bool
has_keys_if_printed printed [] = printed == 0
has_keys_if_printed printed (key ∷ keys) = not (printed == 0)

-- the bookmark, where its choices and keys are not too many, and it has no keys exactly where no answer was printed
abbrev pub if_bookmark : Bookmark → Option Bookmark
if_bookmark mark =
    if nat_le (length mark.choices) MOST_CHOICES && nat_le (length mark.keys) (2 * length mark.line.letters)
    && has_keys_if_printed mark.printed mark.keys
    then Some mark else None

-- the bookmark with these parts, where all of them are read
abbrev pub bookmark_with : Option Line → Option (List Choice) → Option ℕ → Option (List Key) → Option Bookmark
bookmark_with (Some line) (Some choices) (Some printed) (Some keys) =
    if_bookmark (record { line = line; choices = choices; printed = printed; keys = keys })
bookmark_with line choices printed keys = None

-- the bookmark that the fields write
abbrev pub bookmark_of_fields : List (List ℕ) → Option Bookmark
bookmark_of_fields (version ∷ line ∷ choices ∷ printed ∷ keys ∷ []) =
    if bytes_eq version (codes "1")
    then bookmark_with (line_of line) (each_read choice_of (parts_of_list choices)) (number_up_to LAST_ANSWER_NUMBER printed)
    (each_read key_of_text (parts_of_list keys))
    else None
bookmark_of_fields fields = None

-- the bookmark that a text is read as; None where it is the text of no bookmark
unfoldable pub bookmark_of_text : List ℕ → Option Bookmark
bookmark_of_text text = bookmark_of_fields (slice_split (λ mark. mark == 59) text)
