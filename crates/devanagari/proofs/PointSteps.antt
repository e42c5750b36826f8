-- One more code point of a text that is read, its fault, and the end: by the definition at the first code point of the rest.
use Rattle.std.proofs.Common.{◌≡◌, ℕ, ◌+◌, Bool, false, List, [], ◌∷◌, ◌++◌, length, Ok, Err, encode_utf8, arith, ap, ◌∙◌, sym, subst, cond, inl, inr}
use Rattle.std.specs.Str.{IsUtf8, is_utf8, chars}
use Rattle.std.specs.Str.Lossy.{utf8_valid_len}
use Rattle.std.proofs.lemmas.Str.{chars_past_char, chars-nil, is_utf8-from_IsUtf8, IsUtf8-from_is_utf8}
use Rattle.std.proofs.lemmas.Bool.{cases_Bool}
use Rattle.text_definitions.specs.Spellings.{Reading, NotUtf8, with_front}
use Rattle.text_definitions.specs.Devanagari.{close_with_a, word_of_points, word_of_devanagari}
use Rattle.latin_schemes.specs.Faults.{IsFaultOf}
use Rattle.latin_schemes.specs.declared.spell_error.SpellError.{SpellError}

pub reads_point : (old new : List ℕ) (bare after : Bool) (at before following point : ℕ) (text rest : List ℕ) → at ≡ before → text ≡ encode_utf8 point ++ rest → following ≡ before + length (encode_utf8 point) → IsUtf8 text → ((points : List ℕ) → with_front new (word_of_points (at + length (encode_utf8 point)) after points) ≡ with_front old (word_of_points at bare (point ∷ points))) → with_front new (word_of_points following after (chars rest)) ≡ with_front old (word_of_points before bare (chars text))
reads_point old new bare after at before following point text rest here begins moved utf8 took =
    let next : following ≡ at + length (encode_utf8 point) = omega arith in
    ap (λ p. with_front new (word_of_points p after (chars rest))) next
    ∙ took (chars rest)
    ∙ ap (λ p. with_front old (word_of_points p bare (point ∷ chars rest))) here
    ∙ ap (λ points. with_front old (word_of_points before bare points)) (sym (chars_past_char text rest point utf8 begins))

pub reads_fault : (error : SpellError) (old : List ℕ) (bare : Bool) (at before point : ℕ) (text rest : List ℕ) (whole : Reading) → at ≡ before → text ≡ encode_utf8 point ++ rest → IsUtf8 text → with_front old (word_of_points before bare (chars text)) ≡ whole → ((points : List ℕ) → IsFaultOf error (with_front old (word_of_points at bare (point ∷ points)))) → IsFaultOf error whole
reads_fault error old bare at before point text rest whole here begins utf8 so_far faults =
    let same =
    ap (λ p. with_front old (word_of_points p bare (point ∷ chars rest))) here
    ∙ ap (λ points. with_front old (word_of_points before bare points)) (sym (chars_past_char text rest point utf8 begins))
    ∙ so_far
    in
    subst (IsFaultOf error) same (faults (chars rest))

pub reads_end : (word : List ℕ) (bare : Bool) (place : ℕ) (rest : List ℕ) → length rest ≡ 0 → with_front word (word_of_points place bare (chars rest)) ≡ with_front word (close_with_a bare (Ok []))
reads_end word bare place [] h = ap (λ points. with_front word (word_of_points place bare points)) chars-nil
reads_end word bare place (byte ∷ rest) h = absurd (omega arith)

-- a text that is UTF-8 spells what its code points do
pub reads_text : (text : List ℕ) → IsUtf8 text → word_of_points 0 false (chars text) ≡ word_of_devanagari text
unfolding word_of_devanagari
reads_text text utf8 = sym (ap (λ b. cond b (word_of_points 0 false (chars text)) (Err (NotUtf8 (utf8_valid_len text)))) (is_utf8-from_IsUtf8 text utf8))

-- any other is at fault after its longest valid front
pub reads_broken : (text : List ℕ) (place : ℕ) → ¬ (IsUtf8 text) → place ≡ utf8_valid_len text → word_of_devanagari text ≡ Err (NotUtf8 place)
unfolding word_of_devanagari
reads_broken text place broken at =
    elim (cases_Bool (is_utf8 text)) [
      | inl valid ↦ absurd (broken (IsUtf8-from_is_utf8 text valid))
      | inr other ↦ ap (λ b. cond b (word_of_points 0 false (chars text)) (Err (NotUtf8 (utf8_valid_len text)))) other ∙ ap (λ p. Err (NotUtf8 p)) (sym at)
    ]
