-- The bytes of stems and texts are few; what a test says of each of them is computed, and holds of the bytes that are drawn.
use Rattle.std.proofs.Common.{◌≡◌, ℕ, zero, suc, ◌<◌, ◌+◌, ◌%◌, Bool, true, Option, Some, None, is_some, Ok, List, [], ◌∷◌, ◌++◌, length, map, take, refl, subst, inl, inr, arith}
use Rattle.std.specs.Prelude.{◌==◌, codes, unwrap_or, slice_index}
use Rattle.std.specs.List.{list_any, list_all}
use Rattle.std.proofs.lemmas.Bool.{cases_Bool, and_parts, and_from, eqb-true}
use Rattle.text_definitions.specs.Spellings.{letter_of_byte, word_of_bytes, letter_at}
use Rattle.text_definitions.specs.Slp1.{slp1_table, word_of_slp1}
use Rattle.demo_definitions.specs.SourceContents.{letters_spelled}

-- the byte is one of those of stems and texts
abbrev pub is_demo_byte : ℕ → Bool
is_demo_byte byte = list_any (λ letter. letter == byte) (codes "kgcjtdpbmyaiuAeHno")

-- what a test says of each letter of a list holds of a byte that is one of them
pub passes : (test : ℕ → Bool) (letters : List ℕ) (byte : ℕ) → list_all test letters ≡ true
    → list_any (λ letter. letter == byte) letters ≡ true → test byte ≡ true
passes test [] byte all any = cc
passes test (letter ∷ letters) byte all any =
    let parts = and_parts (test letter) (list_all test letters) all in
    elim (cases_Bool (letter == byte)) [
      | inl same ↦ subst (λ b. test b ≡ true) (eqb-true letter byte same) parts.0
      | inr other ↦ passes test letters byte parts.1 (rw other at any)
    ]

-- a letter at a place within a list passes
pub passes_at : (test : ℕ → Bool) (letters : List ℕ) (at : ℕ) → list_all test letters ≡ true → at < length letters
    → test (slice_index letters at) ≡ true
passes_at test [] at all below = absurd (omega arith)
passes_at test (letter ∷ letters) zero all below = (and_parts (test letter) (list_all test letters) all).0
passes_at test (letter ∷ letters) (suc at) all below =
    passes_at test letters at (and_parts (test letter) (list_all test letters) all).1 (omega arith)

pub all_appended : (test : ℕ → Bool) (left right : List ℕ) → list_all test left ≡ true → list_all test right ≡ true → list_all test (left ++ right) ≡ true
all_appended test [] right l r = r
all_appended test (byte ∷ left) right l r =
    let parts = and_parts (test byte) (list_all test left) l in
    and_from (test byte) (list_all test (left ++ right)) parts.0 (all_appended test left right parts.1 r)

pub all_taken : (test : ℕ → Bool) (count : ℕ) (text : List ℕ) → list_all test text ≡ true → list_all test (take count text) ≡ true
all_taken test zero text h = refl
all_taken test (suc count) [] h = refl
all_taken test (suc count) (byte ∷ text) h =
    let parts = and_parts (test byte) (list_all test text) h in
    and_from (test byte) (list_all test (take count text)) parts.0 (all_taken test count text parts.1)

-- a remainder is below what is divided by
pub remainder_below : (count n : ℕ) → 0 < count → n % count < count
remainder_below count n some = omega arith

-- ---- the letters that they spell

-- the code of the letter that a byte spells
abbrev pub code_of : ℕ → ℕ
code_of byte = unwrap_or (letter_of_byte slp1_table byte) 0

some_code : (letter : Option ℕ) → is_some letter ≡ true → letter ≡ Some (unwrap_or letter 0)
some_code None h = cc
some_code (Some letter) h = refl

is_letter : (byte : ℕ) → is_demo_byte byte ≡ true → letter_of_byte slp1_table byte ≡ Some (code_of byte)
unfolding slp1_table
is_letter byte h = some_code (letter_of_byte slp1_table byte) (passes (λ b. is_some (letter_of_byte slp1_table b)) (codes "kgcjtdpbmyaiuAeHno") byte refl h)

word_from : (place : ℕ) (text : List ℕ) → list_all is_demo_byte text ≡ true
    → word_of_bytes (letter_of_byte slp1_table) place text ≡ Ok (map code_of text)
word_from place [] h = refl
word_from place (byte ∷ text) h =
    let parts = and_parts (is_demo_byte byte) (list_all is_demo_byte text) h in
    (λ i. letter_at place (is_letter byte parts.0 i) (word_from (place + 1) text parts.1 i))

-- the word of such a text has a letter for each byte
pub word_is : (text : List ℕ) → list_all is_demo_byte text ≡ true → word_of_slp1 text ≡ Ok (map code_of text)
unfolding word_of_slp1
word_is text h = word_from 0 text h

pub letters_are : (text : List ℕ) → list_all is_demo_byte text ≡ true → letters_spelled text ≡ map code_of text
unfolding letters_spelled
letters_are text h = rw (word_is text h) refl
