-- A text that is UTF-8 spells what its composed text does, and any other is at fault after its longest valid front.
use Rattle.std.proofs.Common.{◌≡◌, ℕ, List, Err, ap, ◌∙◌, sym, cond, inl, inr}
use Rattle.std.specs.Str.{IsUtf8, is_utf8}
use Rattle.std.specs.Str.Lossy.{utf8_valid_len}
use Rattle.std.proofs.lemmas.Str.{is_utf8-from_IsUtf8, IsUtf8-from_is_utf8}
use Rattle.std.proofs.lemmas.Bool.{cases_Bool}
use Rattle.text_definitions.specs.Spellings.{NotUtf8}
use Rattle.more_scheme_definitions.specs.Iast.{composed, word_of_composed, word_of_iast}

pub reads_text : (text : List ℕ) → IsUtf8 text → word_of_composed (composed text) ≡ word_of_iast text
unfolding word_of_iast
reads_text text utf8 = sym (ap (λ b. cond b (word_of_composed (composed text)) (Err (NotUtf8 (utf8_valid_len text)))) (is_utf8-from_IsUtf8 text utf8))

pub reads_broken : (text : List ℕ) (place : ℕ) → ¬ (IsUtf8 text) → place ≡ utf8_valid_len text → word_of_iast text ≡ Err (NotUtf8 place)
unfolding word_of_iast
reads_broken text place broken at =
    elim (cases_Bool (is_utf8 text)) [
      | inl valid ↦ absurd (broken (IsUtf8-from_is_utf8 text valid))
      | inr other ↦ ap (λ b. cond b (word_of_composed (composed text)) (Err (NotUtf8 (utf8_valid_len text)))) other ∙ ap (λ p. Err (NotUtf8 p)) (sym at)
    ]
