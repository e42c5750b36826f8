-- What is not UTF-8 is at fault in Devanagari before all else; any other text gives what its parts give.
use Rattle.std.proofs.Common.{◌≡◌, ℕ, true, cond, List, Err, inl, inr, ap, ◌∙◌, sym, subst, ◌⊎◌, refl}
use Rattle.std.specs.Str.{IsUtf8, is_utf8}
use Rattle.std.specs.Str.Lossy.{utf8_valid_len}
use Rattle.std.proofs.lemmas.Str.{is_utf8-from_IsUtf8, IsUtf8-from_is_utf8}
use Rattle.std.proofs.lemmas.Bool.{cases_Bool}
use Rattle.text_definitions.specs.Spellings.{NotUtf8}
use Rattle.text_definitions.specs.Schemes.{Devanagari}
use Rattle.text_definitions.specs.LineTexts.{Misspelled, parts_from, spelled_parts, line_within_limits, line_of_text}
use Rattle.text_line.specs.declared.scheme.Scheme.{Scheme}
use Rattle.text_line.specs.declared.scheme.Scheme.TheVariants as variants
use Rattle.text_line.specs.Values.{scheme_of}
use Rattle.text_line.specs.Pieces.{line_after, empty_line}

-- the text gives what its parts give
abbrev pub IsByParts : Scheme → List ℕ → Type 0
IsByParts scheme text =
    line_after (scheme_of scheme) empty_line (parts_from (scheme_of scheme) 0 0 text) ≡ line_of_text (scheme_of scheme) text

pub latin_by_parts : (scheme : Scheme) (text : List ℕ) → (scheme ≡ variants.Slp1) ⊎ ((scheme ≡ variants.Wx) ⊎ (scheme ≡ variants.Velthuis)) → IsByParts scheme text
unfolding line_of_text
latin_by_parts scheme text h =
    let P : Scheme → Type 0 = λ s. IsByParts s text in
    elim h [
      | inl slp1 ↦ subst P (sym slp1) refl
      | inr other ↦ elim other [ inl wx ↦ subst P (sym wx) refl | inr velthuis ↦ subst P (sym velthuis) refl ]
    ]

by_parts : (text : List ℕ) → is_utf8 text ≡ true → IsByParts variants.Devanagari text
unfolding line_of_text
by_parts text valid =
    sym (ap (λ b. line_within_limits (cond b (spelled_parts Devanagari text) (Err (NotUtf8 (utf8_valid_len text))))) valid)

pub valid_by_parts : (scheme : Scheme) (text : List ℕ) → scheme ≡ variants.Devanagari → IsUtf8 text → IsByParts scheme text
valid_by_parts scheme text is utf8 = subst (λ s. IsByParts s text) (sym is) (by_parts text (is_utf8-from_IsUtf8 text utf8))

broken : (text : List ℕ) (place : ℕ) → ¬ (IsUtf8 text) → place ≡ utf8_valid_len text → line_of_text Devanagari text ≡ Err (Misspelled (NotUtf8 place))
unfolding line_of_text
broken text place other at =
    elim (cases_Bool (is_utf8 text)) [
      | inl valid ↦ absurd (other (IsUtf8-from_is_utf8 text valid))
      | inr none ↦
          ap (λ b. line_within_limits (cond b (spelled_parts Devanagari text) (Err (NotUtf8 (utf8_valid_len text))))) none
          ∙ ap (λ p. Err (Misspelled (NotUtf8 p))) (sym at)
    ]

pub broken_is_fault : (scheme : Scheme) (text : List ℕ) (place : ℕ) → scheme ≡ variants.Devanagari → ¬ (IsUtf8 text) → place ≡ utf8_valid_len text → line_of_text (scheme_of scheme) text ≡ Err (Misspelled (NotUtf8 place))
broken_is_fault scheme text place is other at =
    subst (λ s. line_of_text (scheme_of s) text ≡ Err (Misspelled (NotUtf8 place))) (sym is) (broken text place other at)
