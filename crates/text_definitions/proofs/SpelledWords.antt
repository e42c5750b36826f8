-- Words in SLP1: what is read as a word is its spelling, by induction on the text; the spelling is free of any byte that no
-- letter has, by a test of each letter that the prover computes.
use Rattle.std.proofs.Common.{◌≡◌, ℕ, suc, ◌+◌, ◌-◌, ◌<◌, ◌<◌, ◌≤◌, Bool, true, false, cond, not, List, [], ◌∷◌, length, map, get_or, eqb, Option, Some, None, Ok, Err, arith, refl, sym, ◌∙◌, ap, subst}
use Rattle.std.specs.List.{AllByRecursion}
use Rattle.std.proofs.lemmas.Bool.{eqb-true, not-true}
use Rattle.std.proofs.lemmas.List.{length-map}
use Rattle.std.proofs.lemmas.List.Elements.{recursion_from_All, All-from_recursion}
use Rattle.text_definitions.specs.Letters.{IsLetter}
use Rattle.text_definitions.specs.Words.{IsWord}
use Rattle.text_definitions.specs.Spellings.{Reading, with_letter, letter_at, entry_from, letter_of_byte, word_of_bytes, byte_of_letter}
use Rattle.text_definitions.specs.Slp1.{slp1_table, word_of_slp1, slp1_of_word}
use Rattle.text_definitions.proofs.Tables.{passes_below, passes_at}
use Rattle.text_definitions.proofs.Bytes.{word-bytes}
use Rattle.list_laws.proofs.Marks.{is_free}

-- ---- what is read is spelled so

by_test : (code entry byte n : ℕ) (table : List ℕ) (test : Bool) → eqb entry byte ≡ test
    → (entry_from (code + 1) table byte ≡ Some n → (code + 1 ≤ n) × (get_or table (n - (code + 1)) 0 ≡ byte))
    → cond test (Some code) (entry_from (code + 1) table byte) ≡ Some n → (code ≤ n) × (get_or (entry ∷ table) (n - code) 0 ≡ byte)
by_test code entry byte n table true e later h =
    let same : code ≡ n = cc in
    let first : n - code ≡ 0 = omega arith in
    (omega arith, ap (λ k. get_or (entry ∷ table) k 0) first ∙ eqb-true entry byte e)
by_test code entry byte n table false e later h =
    let found = later h in
    let next : n - code ≡ suc (n - (code + 1)) = omega (arith, found.0) in
    (omega (arith, found.0), ap (λ k. get_or (entry ∷ table) k 0) next ∙ found.1)

entry_at : (code : ℕ) (table : List ℕ) (byte n : ℕ) → entry_from code table byte ≡ Some n → (code ≤ n) × (get_or table (n - code) 0 ≡ byte)
entry_at code [] byte n h = absurd (cc)
entry_at code (entry ∷ table) byte n h = by_test code entry byte n table (eqb entry byte) refl (entry_at (code + 1) table byte n) h

-- the byte of the letter that a byte spells is this byte
byte-letter : (table : List ℕ) (byte n : ℕ) → letter_of_byte table byte ≡ Some n → byte_of_letter table n ≡ byte
byte-letter table byte n h = (entry_at 1 table byte n h).1

by_rest : (table : List ℕ) (byte n : ℕ) (text word : List ℕ) (rest : Reading) → letter_of_byte table byte ≡ Some n
    → ((letters : List ℕ) → rest ≡ Ok letters → map (byte_of_letter table) letters ≡ text)
    → with_letter n rest ≡ Ok word → map (byte_of_letter table) word ≡ byte ∷ text
by_rest table byte n text word (Err fault) e later h = absurd (cc)
by_rest table byte n text word (Ok letters) e later h =
    let whole : n ∷ letters ≡ word = cc in
    let first = byte-letter table byte n e in
    let rest = later letters refl in
    ap (map (byte_of_letter table)) (sym whole) ∙ cc

by_letter : (table : List ℕ) (place byte : ℕ) (text word : List ℕ) (letter : Option ℕ) (rest : Reading) → letter_of_byte table byte ≡ letter
    → ((letters : List ℕ) → rest ≡ Ok letters → map (byte_of_letter table) letters ≡ text)
    → letter_at place letter rest ≡ Ok word → map (byte_of_letter table) word ≡ byte ∷ text
by_letter table place byte text word None rest e later h = absurd (cc)
by_letter table place byte text word (Some n) rest e later h = by_rest table byte n text word rest e later h

bytes-word : (table : List ℕ) (place : ℕ) (text word : List ℕ) → word_of_bytes (letter_of_byte table) place text ≡ Ok word → map (byte_of_letter table) word ≡ text
bytes-word table place [] word h = let none : [] ≡ word = cc in ap (map (byte_of_letter table)) (sym none)
bytes-word table place (byte ∷ text) word h =
    by_letter table place byte text word (letter_of_byte table byte) (word_of_bytes (letter_of_byte table) (place + 1) text) refl
    (bytes-word table (place + 1) text) h

-- what is read as a word is its spelling
pub spelled_from_read : (text word : List ℕ) → word_of_slp1 text ≡ Ok word → slp1_of_word word ≡ text
unfolding word_of_slp1 slp1_of_word
spelled_from_read text word h = bytes-word slp1_table 0 text word h

-- ---- what is read is a word

within_by : (code entry byte n : ℕ) (table : List ℕ) (test : Bool)
    → (entry_from (code + 1) table byte ≡ Some n → (code + 1 ≤ n) × (n < code + 1 + length table))
    → cond test (Some code) (entry_from (code + 1) table byte) ≡ Some n → (code ≤ n) × (n < code + length (entry ∷ table))
within_by code entry byte n table true later h = let same : code ≡ n = cc in (omega arith, omega arith)
within_by code entry byte n table false later h = let found = later h in (omega (arith, found.0), omega (arith, found.1))

within_table : (code : ℕ) (table : List ℕ) (byte n : ℕ) → entry_from code table byte ≡ Some n → (code ≤ n) × (n < code + length table)
within_table code [] byte n h = absurd (cc)
within_table code (entry ∷ table) byte n h = within_by code entry byte n table (eqb entry byte) (within_table (code + 1) table byte n) h

letters_rest : (n : ℕ) (word : List ℕ) (rest : Reading) → IsLetter n → ((letters : List ℕ) → rest ≡ Ok letters → AllByRecursion IsLetter letters)
    → with_letter n rest ≡ Ok word → AllByRecursion IsLetter word
letters_rest n word (Err fault) l later h = absurd (cc)
letters_rest n word (Ok letters) l later h = let whole : n ∷ letters ≡ word = cc in subst (AllByRecursion IsLetter) whole (l, later letters refl)

letters_by : (table : List ℕ) → length table ≡ 50 → (place byte : ℕ) (word : List ℕ) (letter : Option ℕ) (rest : Reading) → letter_of_byte table byte ≡ letter
    → ((letters : List ℕ) → rest ≡ Ok letters → AllByRecursion IsLetter letters) → letter_at place letter rest ≡ Ok word → AllByRecursion IsLetter word
letters_by table t place byte word None rest e later h = absurd (cc)
letters_by table t place byte word (Some n) rest e later h =
    let within = within_table 1 table byte n e in
    letters_rest n word rest (within.0, omega (arith, within.1)) later h

letters_of : (table : List ℕ) → length table ≡ 50 → (place : ℕ) (text word : List ℕ) → word_of_bytes (letter_of_byte table) place text ≡ Ok word → AllByRecursion IsLetter word
letters_of table t place [] word h = let none : [] ≡ word = cc in subst (AllByRecursion IsLetter) none tt
letters_of table t place (byte ∷ text) word h =
    letters_by table t place byte word (letter_of_byte table byte) (word_of_bytes (letter_of_byte table) (place + 1) text) refl
    (letters_of table t (place + 1) text) h

-- what is read as a word is one
pub word_from_read : (text word : List ℕ) → word_of_slp1 text ≡ Ok word → IsWord word
unfolding word_of_slp1 slp1_table
word_from_read text word h = All-from_recursion IsLetter word (letters_of slp1_table refl 0 text word h)

-- the spelling of a word is read as it
pub read_from_spelled : (text word : List ℕ) → IsWord word → text ≡ slp1_of_word word → word_of_slp1 text ≡ Ok word
unfolding word_of_slp1 slp1_of_word slp1_table
read_from_spelled text word w e = ap word_of_slp1 e ∙ word-bytes slp1_table refl 0 word (recursion_from_All IsLetter word w)

-- two words with the same spelling are the same
pub same_spelling : (left right : List ℕ) → IsWord left → IsWord right → slp1_of_word left ≡ slp1_of_word right → left ≡ right
same_spelling left right l r e =
    let first = read_from_spelled (slp1_of_word left) left l refl in
    let second = read_from_spelled (slp1_of_word left) right r e in
    cc

-- a word has as many letters as its spelling has bytes
pub length-spelling : (word : List ℕ) → length (slp1_of_word word) ≡ length word
unfolding slp1_of_word
length-spelling word = simp length-map

-- ---- which bytes it has not

-- no letter's byte is the mark
abbrev pub is_no_letter : List ℕ → ℕ → Bool
is_no_letter table mark = passes_below 50 (λ k. not (eqb (byte_of_letter table (k + 1)) mark))

pub free_word : (table : List ℕ) (mark : ℕ) → is_no_letter table mark ≡ true → (word : List ℕ) → AllByRecursion IsLetter word → is_free mark (map (byte_of_letter table) word) ≡ true
free_word table mark h [] w = refl
free_word table mark h (n ∷ word) w =
    let below : n - 1 < 50 = omega (arith, w.0.0, w.0.1) in
    let at : n - 1 + 1 ≡ n = omega (arith, w.0.0) in
    let test = passes_at 50 (λ k. not (eqb (byte_of_letter table (k + 1)) mark)) h (n - 1) below in
    let other : eqb (byte_of_letter table n) mark ≡ false = subst (λ k. eqb (byte_of_letter table k) mark ≡ false) at (not-true _ test) in
    ap (λ t. cond t false (is_free mark (map (byte_of_letter table) word))) other ∙ free_word table mark h word w.1

-- the four bytes at which lines are cut stand in no spelling: LF, the blank, `|` and `>`
pub free_of_line_end : (word : List ℕ) → IsWord word → is_free 10 (slp1_of_word word) ≡ true
unfolding slp1_of_word slp1_table
free_of_line_end word w = free_word slp1_table 10 refl word (recursion_from_All IsLetter word w)

pub free_of_blank : (word : List ℕ) → IsWord word → is_free 32 (slp1_of_word word) ≡ true
unfolding slp1_of_word slp1_table
free_of_blank word w = free_word slp1_table 32 refl word (recursion_from_All IsLetter word w)

pub free_of_bar : (word : List ℕ) → IsWord word → is_free 124 (slp1_of_word word) ≡ true
unfolding slp1_of_word slp1_table
free_of_bar word w = free_word slp1_table 124 refl word (recursion_from_All IsLetter word w)

pub free_of_sign : (word : List ℕ) → IsWord word → is_free 62 (slp1_of_word word) ≡ true
unfolding slp1_of_word slp1_table
free_of_sign word w = free_word slp1_table 62 refl word (recursion_from_All IsLetter word w)
