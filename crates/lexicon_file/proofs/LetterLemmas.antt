-- A text spells one letter where it is one byte of the table: its place there tells the letter's code.
use Rattle.std.proofs.Common.{◌≡◌, ℕ, suc, ◌+◌, ◌↔◌, Bool, true, false, cond, ltb, eqb, Option, Some, None, Ok, Err, List, [], ◌∷◌, length, get_or, refl, sym, ◌∙◌, ap, arith, true≢false}
use Rattle.std.specs.Prelude.{option_map, IsSome, IfSome}
use Rattle.std.specs.List.{position_from, position_or_len}
use Rattle.std.proofs.lemmas.Iterator.Adapters.{position_from-zero}
use Rattle.text_definitions.specs.Letters.{IsLetter}
use Rattle.text_definitions.specs.Spellings.{Reading, letter_at, entry_from, letter_of_byte, word_of_bytes}
use Rattle.text_definitions.specs.Slp1.{slp1_table, word_of_slp1}
use Rattle.lexicon_text_definitions.specs.FileSteps.{one_letter}
use Rattle.lexicon_file.specs.declared.letters.TheConstants.{SLP1}

-- ---- texts that are not one byte

two_by : (first second : Option ℕ) (rest : Reading) → one_letter (letter_at 0 first (letter_at 1 second rest)) ≡ None
two_by None second rest = refl
two_by (Some x) None rest = refl
two_by (Some x) (Some y) (Err fault) = refl
two_by (Some x) (Some y) (Ok word) = refl

pub not_one : (text : List ℕ) → (length text ≡ 1 → ⊥) → one_letter (word_of_slp1 text) ≡ None
unfolding word_of_slp1
not_one [] n = refl
not_one (byte ∷ []) n = absurd (n refl)
not_one (byte ∷ next ∷ text) n = two_by (letter_of_byte slp1_table byte) (letter_of_byte slp1_table next) (word_of_bytes (letter_of_byte slp1_table) 2 text)

-- ---- one byte

one_by : (letter : Option ℕ) → one_letter (letter_at 0 letter (Ok [])) ≡ letter
one_by None = refl
one_by (Some x) = refl

pub one_byte : (text : List ℕ) → length text ≡ 1 → one_letter (word_of_slp1 text) ≡ letter_of_byte slp1_table (get_or text 0 0)
unfolding word_of_slp1
one_byte [] one = absurd (omega (arith, one))
one_byte (byte ∷ []) one = one_by (letter_of_byte slp1_table byte)
one_byte (byte ∷ next ∷ text) one = absurd (omega (arith, one))

by_entry : (code : ℕ) (test : Bool) (found rest : Option ℕ) → found ≡ option_map suc rest → cond test (Some (suc code)) found ≡ option_map suc (cond test (Some code) rest)
by_entry code true found rest e = refl
by_entry code false found rest e = e

-- the code of an entry is one more than its place
entry_placed : (byte code : ℕ) (table : List ℕ) → entry_from (suc code) table byte ≡ option_map suc (position_from (λ entry. eqb entry byte) code table)
entry_placed byte code [] = refl
entry_placed byte code (entry ∷ table) =
    by_entry code (eqb entry byte) (entry_from (suc code + 1) table byte) (position_from (λ entry. eqb entry byte) (code + 1) table)
    (ap (λ n. entry_from n table byte) (omega arith) ∙ entry_placed byte (code + 1) table)

pub slp1_is : slp1_table ≡ SLP1
unfolding slp1_table
slp1_is = refl

-- where the byte is found in the table it spells the letter with the next number
pub letter_found : (byte : ℕ) (place : Option ℕ) → place ≡ cond (ltb (position_or_len (λ entry. eqb entry byte) SLP1) (length SLP1)) (Some (position_or_len (λ entry. eqb entry byte) SLP1)) None
    → letter_of_byte slp1_table byte ≡ option_map suc place
letter_found byte place e =
    ap (λ table. letter_of_byte table byte) slp1_is ∙ entry_placed byte 0 SLP1 ∙ ap (option_map suc) (sym (e ∙ position_from-zero (λ entry. eqb entry byte) SLP1))

pub letter_is : (letter : Option ℕ) (n : ℕ) → IsSome letter ↔ IsLetter n → IfSome letter (λ l. l ≡ n) → IsLetter n → letter ≡ Some n
letter_is None n some is h = absurd (true≢false (sym (some.1 h)))
letter_is (Some l) n some is h = ap Some is
