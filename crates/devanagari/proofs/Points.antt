-- The program's tables agree with those of the script: by tests of each code point of the block that the prover computes.
use Rattle.std.proofs.Common.{◌≡◌, ℕ, ◌+◌, ◌-◌, ◌<◌, ◌≤◌, Bool, true, false, cond, ◌&&◌, List, [], ◌∷◌, Some, None, inl, inr, nat_le, arith, ap, ◌∙◌, sym, refl}
use Rattle.std.proofs.lemmas.Bool.{false≢true, and_parts}
use Rattle.std.proofs.lemmas.Bool.Decides.{nat_tests, eqb_tells}
use Rattle.std.specs.List.{list_all}
use Rattle.text_definitions.specs.Spellings.{entry_from}
use Rattle.text_definitions.specs.Devanagari.{devanagari_table, devanagari_signs, Foreign, letter_or_sign}
use Rattle.text_definitions.proofs.Tables.{passes_below, passes_at}
use Rattle.latin_schemes.specs.Codes.{letter_by_code}
use Rattle.latin_schemes.proofs.Tables.{is_same, same_letter}
use Rattle.devanagari.specs.declared.point.TheConstants.{LETTERS, SIGNS}

abbrev letter_agrees : ℕ → Bool
letter_agrees k = is_same (letter_by_code LETTERS k) (entry_from 1 devanagari_table (k + 0x0900))

abbrev sign_agrees : ℕ → Bool
sign_agrees k = is_same (letter_by_code SIGNS k) (entry_from 2 devanagari_signs (k + 0x0900))

letters_agree : passes_below 128 letter_agrees ≡ true
unfolding devanagari_table
letters_agree = refl

signs_agree : passes_below 128 sign_agrees ≡ true
unfolding devanagari_signs
signs_agree = refl

-- a code point of the block has the letter that the table of codes has at its place
pub letter_in_block : (point : ℕ) → 0x0900 ≤ point → point ≤ 0x097F → letter_by_code LETTERS (point - 0x0900) ≡ entry_from 1 devanagari_table point
letter_in_block point low high =
    let at : point - 0x0900 + 0x0900 ≡ point = omega arith in
    same_letter _ _ (passes_at 128 letter_agrees letters_agree (point - 0x0900) (omega arith)) ∙ ap (entry_from 1 devanagari_table) at

-- and the vowel of which it is the sign
pub sign_in_block : (point : ℕ) → 0x0900 ≤ point → point ≤ 0x097F → letter_by_code SIGNS (point - 0x0900) ≡ entry_from 2 devanagari_signs point
sign_in_block point low high =
    let at : point - 0x0900 + 0x0900 ≡ point = omega arith in
    same_letter _ _ (passes_at 128 sign_agrees signs_agree (point - 0x0900) (omega arith)) ∙ ap (entry_from 2 devanagari_signs) at

-- whether the code point is one of the block
abbrev in_block : ℕ → Bool
in_block point = nat_le 0x0900 point && nat_le point 0x097F

-- a table whose entries all lie in the block has no other code point
no_entry : (point code : ℕ) (table : List ℕ) → in_block point ≡ false → list_all in_block table ≡ true → entry_from code table point ≡ None
no_entry point code [] outside inside = refl
no_entry point code (entry ∷ table) outside inside =
    let h = and_parts _ _ inside in
    let rest = entry_from (code + 1) table point in
    elim (eqb_tells entry point) [
      | inl same ↦ absurd (false≢true (sym outside ∙ ap in_block (sym same.1) ∙ h.0))
      | inr other ↦ ap (λ b. cond b (Some code) rest) other.0 ∙ no_entry point (code + 1) table outside h.1
    ]

no_letter : (point : ℕ) → in_block point ≡ false → entry_from 1 devanagari_table point ≡ None
unfolding devanagari_table
no_letter point outside = no_entry point 1 devanagari_table outside refl

no_sign : (point : ℕ) → in_block point ≡ false → entry_from 2 devanagari_signs point ≡ None
unfolding devanagari_signs
no_sign point outside = no_entry point 2 devanagari_signs outside refl

foreign : (point : ℕ) → in_block point ≡ false → letter_or_sign (entry_from 1 devanagari_table point) (entry_from 2 devanagari_signs point) ≡ Foreign
foreign point outside =
    ap (λ letter. letter_or_sign letter (entry_from 2 devanagari_signs point)) (no_letter point outside) ∙ ap (letter_or_sign None) (no_sign point outside)

-- a code point below the block stands in no table
pub foreign_below : (point : ℕ) → point < 0x0900 → letter_or_sign (entry_from 1 devanagari_table point) (entry_from 2 devanagari_signs point) ≡ Foreign
foreign_below point below = let outside : in_block point ≡ false = grind (arith, nat_tests) in foreign point outside

-- nor is one above it
pub foreign_above : (point : ℕ) → 0x097F < point → letter_or_sign (entry_from 1 devanagari_table point) (entry_from 2 devanagari_signs point) ≡ Foreign
foreign_above point above = let outside : in_block point ≡ false = grind (arith, nat_tests) in foreign point outside
