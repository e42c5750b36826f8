-- How long the text of a bookmark is, part by part: each number has few digits, each letter is a byte, and the blanks of a line rise
-- strictly inside it.
use Rattle.std.proofs.Common.{◌≡◌, ℕ, zero, suc, ◌+◌, ◌-◌, ◌*◌, ◌<◌, ◌≤◌, Bool, true, false, List, [], ◌∷◌, ◌++◌, length, map, take, drop, All, refl, ap, subst, arith}
use Rattle.std.specs.Prelude.{codes, if◌then◌else◌, slice_index}
use Rattle.std.specs.List.{join_with_byte}
use Rattle.std.specs.List.Sorted.{IsStrictlyIncreasing}
use Rattle.std.specs.Fmt.{decimal}
use Rattle.std.proofs.lemmas.Fmt.{length-decimal-le}
use Rattle.std.proofs.lemmas.List.{length-append, length-map, take-append-drop}
use Rattle.std.proofs.lemmas.List.Elements.{All-head, All-tail}
use Rattle.text_definitions.specs.Spellings.{byte_of_letter}
use Rattle.text_definitions.specs.Slp1.{slp1_table, slp1_of_word}
use Rattle.segmentation_definitions.specs.Items.{Item, Choice}
use Rattle.segmentation_definitions.specs.Listings.{Key}
use Rattle.bookmark_definitions.specs.Bookmarks.{Bookmark, IsBookmark, IsItemWithinBounds, IsKeyWithinBounds}
use Rattle.bookmark_definitions.specs.BookmarkTexts.{words_from, text_of_line, text_of_item, text_of_choice, text_of_key, text_of_bookmark}

-- ---- parts

word_length : (word : List ℕ) → length (slp1_of_word word) ≡ length word
unfolding slp1_of_word
word_length word = length-map word (byte_of_letter slp1_table)

-- a mark between two parts
joined_length : (mark : ℕ) (first second : List ℕ) → length (first ++ mark ∷ second) ≡ length first + length second + 1
joined_length mark first second = omega (arith, length-append first (mark ∷ second))

item_length : (item : Item) → IsItemWithinBounds item → length (text_of_item item) ≤ 74
item_length item is =
    let at = length-decimal-le 4 item.at (omega arith) (omega (arith, is.at)) (omega (arith, is.at)) in
    let lead = length-decimal-le 1 item.lead (omega arith) (omega (arith, is.lead)) (omega (arith, is.lead)) in
    let phase = length-decimal-le 2 item.phase (omega arith) (omega (arith, is.phase)) (omega (arith, is.phase)) in
    let last = joined_length 46 (decimal item.phase) (slp1_of_word item.form) in
    let third = joined_length 46 (decimal item.lead) (decimal item.phase ++ 46 ∷ slp1_of_word item.form) in
    let all = joined_length 46 (decimal item.at) (decimal item.lead ++ 46 ∷ (decimal item.phase ++ 46 ∷ slp1_of_word item.form)) in
    omega (arith, at, lead, phase, last, third, all, word_length item.form, is.short)

sign_length : (kept : Bool) → length (if kept then codes "+" else codes "-") ≡ 1
sign_length true = refl
sign_length false = refl

choice_length : (choice : Choice) → IsItemWithinBounds choice.item → length (text_of_choice choice) ≤ 75
choice_length choice is =
    omega (
      arith,
      length-append (if choice.kept then codes "+" else codes "-") (text_of_item choice.item),
      sign_length choice.kept,
      item_length choice.item is,
    )

key_length : (key : Key) → IsKeyWithinBounds key → length (text_of_key key) ≤ 10
key_length key is =
    let phase = length-decimal-le 2 key.phase (omega arith) (omega (arith, is.phase)) (omega (arith, is.phase)) in
    let taken = length-decimal-le 2 key.taken (omega arith) (omega (arith, is.taken)) (omega (arith, is.taken)) in
    let rule = length-decimal-le 4 key.rule (omega arith) (omega (arith, is.rule)) (omega (arith, is.rule)) in
    let last = joined_length 46 (decimal key.taken) (decimal key.rule) in
    let all = joined_length 46 (decimal key.phase) (decimal key.taken ++ 46 ∷ decimal key.rule) in
    omega (arith, phase, taken, rule, last, all)

-- ---- lists of parts

choices_length : (choices : List Choice) → All (λ (choice : Choice). IsItemWithinBounds choice.item) choices
    → length (join_with_byte 44 (map text_of_choice choices)) ≤ 76 * length choices
choices_length [] are = omega arith
choices_length (choice ∷ []) are =
    omega (arith, choice_length choice (All-head (λ (c : Choice). IsItemWithinBounds c.item) choice [] are))
choices_length (choice ∷ next ∷ choices) are =
    omega (
      arith,
      choice_length choice (All-head (λ (c : Choice). IsItemWithinBounds c.item) choice (next ∷ choices) are),
      joined_length 44 (text_of_choice choice) (join_with_byte 44 (map text_of_choice (next ∷ choices))),
      choices_length (next ∷ choices) (All-tail (λ (c : Choice). IsItemWithinBounds c.item) choice (next ∷ choices) are),
    )

keys_length : (keys : List Key) → All IsKeyWithinBounds keys → length (join_with_byte 44 (map text_of_key keys)) ≤ 11 * length keys
keys_length [] are = omega arith
keys_length (key ∷ []) are = omega (arith, key_length key (All-head IsKeyWithinBounds key [] are))
keys_length (key ∷ next ∷ keys) are =
    omega (
      arith,
      key_length key (All-head IsKeyWithinBounds key (next ∷ keys) are),
      joined_length 44 (text_of_key key) (join_with_byte 44 (map text_of_key (next ∷ keys))),
      keys_length (next ∷ keys) (All-tail IsKeyWithinBounds key (next ∷ keys) are),
    )

-- ---- the line

-- the words of a line have a byte for each letter, and a mark for each blank
words_length : (place : ℕ) (blanks letters : List ℕ)
    → length (join_with_byte 95 (map slp1_of_word (words_from place blanks letters))) ≡ length letters + length blanks
words_length place [] letters = omega (arith, word_length letters)
words_length place (blank ∷ []) letters =
    let cut = take (blank - place) letters in
    let rest = drop (blank - place) letters in
    omega (
      arith,
      joined_length 95 (slp1_of_word cut) (slp1_of_word rest),
      word_length cut,
      word_length rest,
      length-append cut rest,
      ap length (take-append-drop (blank - place) letters),
    )
words_length place (blank ∷ next ∷ blanks) letters =
    let cut = take (blank - place) letters in
    let rest = drop (blank - place) letters in
    omega (
      arith,
      joined_length 95 (slp1_of_word cut) (join_with_byte 95 (map slp1_of_word (words_from blank (next ∷ blanks) rest))),
      word_length cut,
      words_length blank (next ∷ blanks) rest,
      length-append cut rest,
      ap length (take-append-drop (blank - place) letters),
    )

-- numbers that rise from 1 on are no smaller than their places
at_least : (numbers : List ℕ) → IsStrictlyIncreasing numbers → (0 < length numbers → 0 < slice_index numbers 0) → (k : ℕ) → k < length numbers
    → k < slice_index numbers k
at_least numbers rising some zero within = some within
at_least numbers rising some (suc k) within =
    let same : k + 1 ≡ suc k = omega arith in
    let next = subst (λ (n : ℕ). slice_index numbers k < slice_index numbers n) same (rising k (omega (arith, within))) in
    omega (arith, at_least numbers rising some k (omega (arith, within)), next)

few_blanks : (blanks : List ℕ) (letters : ℕ) → IsStrictlyIncreasing blanks → All (λ b. (0 < b) × (b < letters)) blanks
    → length blanks ≤ letters
few_blanks [] letters rising inside = omega arith
few_blanks (blank ∷ blanks) letters rising inside =
    omega (
      arith,
      at_least (blank ∷ blanks) rising (λ some. (inside 0 0 some).0) (length blanks) (omega arith),
      (inside (length blanks) 0 (omega arith)).1,
    )

-- ---- the bookmark

pub bookmark_length : (mark : Bookmark) → IsBookmark mark → length (text_of_bookmark mark) < 65000
unfolding text_of_bookmark
bookmark_length mark is =
    let line = text_of_line mark.line in
    let choices = join_with_byte 44 (map text_of_choice mark.choices) in
    let printed = decimal mark.printed in
    let keys = join_with_byte 44 (map text_of_key mark.keys) in
    omega (
      arith,
      joined_length 59 printed keys,
      joined_length 59 choices (printed ++ 59 ∷ keys),
      joined_length 59 line (choices ++ 59 ∷ (printed ++ 59 ∷ keys)),
      joined_length 59 (codes "1") (line ++ 59 ∷ (choices ++ 59 ∷ (printed ++ 59 ∷ keys))),
      words_length 0 mark.line.blanks mark.line.letters,
      few_blanks mark.line.blanks (length mark.line.letters) is.line.rising is.line.inside,
      is.line.within_limit,
      choices_length mark.choices is.items,
      is.few_choices,
      length-decimal-le 16 mark.printed (omega arith) (omega (arith, is.printed)) (omega (arith, is.printed)),
      keys_length mark.keys is.keys,
      is.few_keys,
    )
