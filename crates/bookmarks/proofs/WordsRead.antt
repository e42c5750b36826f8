-- A text that is read as a word has a byte for each letter, so its length is tested in place of the word's.
use Rattle.std.proofs.Common.{◌≡◌, ℕ, ◌<◌, ◌≤◌, Ok, List, length, Option, Some, None, refl, ◌∙◌, ap, subst, arith}
use Rattle.text_definitions.specs.Slp1.{word_of_slp1}
use Rattle.text_definitions.proofs.SpelledWords.{spelled_from_read, word_from_read, length-spelling}
use Rattle.bookmark_definitions.specs.BookmarkReadings.{word_up_to}
use Rattle.bookmark_definitions.proofs.NumbersAndWords.{IsShortWord, word_tells, word_back}

pub none_if_never : {A : Type 0} (told : Option A) → ((x : A) → told ≡ Some x → ⊥) → told ≡ None
none_if_never None never = refl
none_if_never (Some x) never = absurd (never x refl)

-- a text that is empty or too long writes no word
pub no_short_word : (most : ℕ) (text : List ℕ) → (0 < length text → length text ≤ most → ⊥) → word_up_to most (word_of_slp1 text) ≡ None
no_short_word most text never =
    none_if_never (word_up_to most (word_of_slp1 text)) (λ word h.
    let told = word_tells most text word h in
    let size = ap length told.0 ∙ length-spelling word in
    never (omega (arith, size, told.1.not_empty)) (omega (arith, size, told.1.short)))

pub short_word : (most : ℕ) (text word : List ℕ) → word_of_slp1 text ≡ Ok word → 0 < length text → length text ≤ most → word_up_to most (word_of_slp1 text) ≡ Some word
short_word most text word h some few =
    let spelled = spelled_from_read text word h in
    let size = ap length spelled in
    let same = length-spelling word in
    let is_short : IsShortWord most word =
    record { word_itself = word_from_read text word h; not_empty = omega (arith, size, same, some); short = omega (arith, size, same, few) } in
    subst (λ (t : List ℕ). word_up_to most (word_of_slp1 t) ≡ Some word) spelled (word_back most word is_short)
