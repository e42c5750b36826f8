-- Schemes with one byte for each letter: what is read is a word, and is printed as the same text; by induction on the table and on the text.
use Rattle.std.proofs.Common.{◌≡◌, ℕ, suc, ◌+◌, ◌-◌, ◌<◌, ◌≤◌, cond, List, [], ◌∷◌, length, get_or, map, Option, Some, None, Ok, Err, inl, inr, arith, ap, ◌∙◌, sym, subst, refl}
use Rattle.std.specs.List.{AllByRecursion}
use Rattle.std.proofs.lemmas.Bool.Decides.{eqb_tells}
use Rattle.text_definitions.specs.Letters.{IsLetter}
use Rattle.text_definitions.specs.Spellings.{Reading, letter_at, entry_from, letter_of_byte, word_of_bytes, byte_of_letter}
use Rattle.std.proofs.lemmas.Option.{same_Some}

-- the place of an entry that is found, and the entry
pub record IsEntry (code : ℕ) (table : List ℕ) (byte n : ℕ) : Type 0 where
  pub low : code ≤ n
  pub high : n < code + length table
  pub is : get_or table (n - code) 0 ≡ byte

first_entry : (code entry : ℕ) (table : List ℕ) (byte n : ℕ) → code ≡ n → entry ≡ byte → IsEntry code (entry ∷ table) byte n
first_entry code entry table byte n at same =
    let none : n - code ≡ 0 = omega arith in
    record { low = omega arith; high = omega arith; is = ap (λ k. get_or (entry ∷ table) k 0) none ∙ same }

later_entry : (code entry : ℕ) (table : List ℕ) (byte n : ℕ) → IsEntry (code + 1) table byte n → IsEntry code (entry ∷ table) byte n
later_entry code entry table byte n found =
    let more : n - code ≡ suc (n - (code + 1)) = omega (arith, found.low) in
    record { low = omega (arith, found.low); high = omega (arith, found.high); is = ap (λ k. get_or (entry ∷ table) k 0) more ∙ found.is }

pub entry_found : (code : ℕ) (table : List ℕ) (byte n : ℕ) → entry_from code table byte ≡ Some n → IsEntry code table byte n
entry_found code [] byte n h = absurd (cc)
entry_found code (entry ∷ table) byte n h =
    elim (eqb_tells entry byte) [
      | inl same ↦ first_entry code entry table byte n (same_Some code n (sym (ap (λ b. cond b (Some code) (entry_from (code + 1) table byte)) same.0) ∙ h)) same.1
      | inr other ↦ later_entry code entry table byte n (entry_found (code + 1) table byte n (sym (ap (λ b. cond b (Some code) (entry_from (code + 1) table byte)) other.0) ∙ h))
    ]

-- a letter that a byte spells has this byte
byte_of_found : (table : List ℕ) (byte n : ℕ) → length table ≡ 50 → letter_of_byte table byte ≡ Some n → IsLetter n × (byte_of_letter table n ≡ byte)
byte_of_found table byte n fifty h =
    let found = entry_found 1 table byte n h in
    ((omega (arith, found.low), omega (arith, found.high)), found.is)

-- the word's letters are letters, and its bytes are the text
pub record Prints (table text word : List ℕ) : Type 0 where
  pub letters : AllByRecursion IsLetter word
  pub bytes : map (byte_of_letter table) word ≡ text

one_more : (table : List ℕ) (place byte : ℕ) (text : List ℕ) (found : Option ℕ) (rest : Reading) (word : List ℕ) → length table ≡ 50 → letter_of_byte table byte ≡ found → ((w : List ℕ) → rest ≡ Ok w → Prints table text w) → letter_at place found rest ≡ Ok word → Prints table (byte ∷ text) word
one_more table place byte text None rest word fifty is prints h = absurd (cc)
one_more table place byte text (Some n) (Err fault) word fifty is prints h = absurd (cc)
one_more table place byte text (Some n) (Ok w) word fifty is prints h =
    let whole : n ∷ w ≡ word = cc in
    let letter = byte_of_found table byte n fifty is in
    let rest = prints w refl in
    subst (Prints table (byte ∷ text)) whole (record {
      letters = (letter.0, rest.letters);
      bytes = ap (λ b. b ∷ map (byte_of_letter table) w) letter.1 ∙ ap (λ t. byte ∷ t) rest.bytes;
    })

-- what a text spells is printed as the text
pub read_is_printed : (table : List ℕ) → length table ≡ 50 → (place : ℕ) (text word : List ℕ) → word_of_bytes (letter_of_byte table) place text ≡ Ok word → Prints table text word
read_is_printed table fifty place [] word h = let empty : [] ≡ word = cc in subst (Prints table []) empty (record { letters = tt; bytes = refl })
read_is_printed table fifty place (byte ∷ text) word h =
    one_more table place byte text (letter_of_byte table byte) (word_of_bytes (letter_of_byte table) (place + 1) text) word fifty refl (read_is_printed table fifty (place + 1) text) h
