-- What is read by longest spellings is a word: each letter that stands at a front is one, and the rest is by induction on the text.
use Rattle.std.proofs.Common.{◌≡◌, ℕ, zero, suc, ◌+◌, ◌-◌, Bool, true, false, cond, ◌&&◌, List, [], ◌∷◌, length, take, Option, Some, None, Ok, Err, is_some, eqb, ap, subst, refl}
use Rattle.std.specs.List.{AllByRecursion}
use Rattle.std.specs.Str.{is_utf8}
use Rattle.std.specs.Str.Lossy.{utf8_valid_len}
use Rattle.text_definitions.specs.Letters.{IsLetter}
use Rattle.text_definitions.specs.Spellings.{Reading, NotUtf8, with_letter}
use Rattle.text_definitions.specs.Longest.{or_shorter, front_letter, word_at, word_of_spellings}
use Rattle.more_scheme_definitions.specs.HarvardKyoto.{harvard_kyoto_letter, harvard_kyoto_front, word_of_harvard_kyoto}
use Rattle.more_scheme_definitions.specs.Iast.{iast_letter, iast_front, composed, word_of_composed, word_of_iast}
use Rattle.more_scheme_definitions.proofs.HarvardKyotoTable as of_harvard_kyoto
use Rattle.more_scheme_definitions.proofs.IastTable as of_iast

-- a reading that is a word has letters only
abbrev Reads : Reading → Type 0
Reads (Ok word) = AllByRecursion IsLetter word
Reads (Err fault) = Unit {0}

reads_letter : (n : ℕ) (rest : Reading) → IsLetter n → Reads rest → Reads (with_letter n rest)
reads_letter n (Ok word) l r = (l, r)
reads_letter n (Err fault) l r = tt

word_from : (reading : Reading) (word : List ℕ) → Reads reading → reading ≡ Ok word → AllByRecursion IsLetter word
word_from reading word r h = subst Reads h r

or_shorter_is : (found : Option ℕ) (len : ℕ) (shorter : Option (ℕ × ℕ)) (pair : ℕ × ℕ) → or_shorter found len shorter ≡ Some pair → (found ≡ Some pair.0 → IsLetter pair.0) → (shorter ≡ Some pair → IsLetter pair.0) → IsLetter pair.0
or_shorter_is None len shorter pair h f s = s h
or_shorter_is (Some m) len shorter pair h f s = let is : (m, len) ≡ pair = cc in f (ap (λ (p : ℕ × ℕ). Some p.0) is)

module _ (letter : List ℕ → Option ℕ) (is_letter : (bytes : List ℕ) (n : ℕ) → letter bytes ≡ Some n → IsLetter n) where
  front_is : (most : ℕ) (text : List ℕ) (pair : ℕ × ℕ) → front_letter letter most text ≡ Some pair → IsLetter pair.0
  front_is zero text pair h = absurd (cc)
  front_is (suc most) text pair h =
      or_shorter_is (letter (take (suc most) text)) (length (take (suc most) text)) (front_letter letter most text) pair h (is_letter (take (suc most) text) pair.0) (front_is most text pair)

reads_at : (place : ℕ) (found : Option (ℕ × ℕ)) (passed : Bool) (following : ℕ → Bool → Reading) → ((pair : ℕ × ℕ) → found ≡ Some pair → IsLetter pair.0) → ((inside : ℕ) (after : Bool) → Reads (following inside after)) → Reads (word_at place found passed following)
reads_at place None false following l r = tt
reads_at place None true following l r = r 0 false
reads_at place (Some pair) passed following l r = reads_letter pair.0 (following (pair.1 - 1) true) (l pair refl) (r (pair.1 - 1) true)

module _ (front : List ℕ → Option (ℕ × ℕ)) (is_letter : (text : List ℕ) (pair : ℕ × ℕ) → front text ≡ Some pair → IsLetter pair.0) where
  reads_spellings : (text : List ℕ) (place inside : ℕ) (spelled : Bool) → Reads (word_of_spellings front place inside spelled text)
  reads_spellings [] place inside spelled = tt
  reads_spellings (byte ∷ text) place (suc inside) spelled = reads_spellings text (place + 1) inside true
  reads_spellings (byte ∷ text) place zero spelled =
      reads_at place (front (byte ∷ text)) (spelled && eqb byte 95 && is_some (front text)) (λ inside after. word_of_spellings front (place + 1) inside after text) (is_letter (byte ∷ text)) (reads_spellings text (place + 1))

harvard_kyoto_front_is : (text : List ℕ) (pair : ℕ × ℕ) → harvard_kyoto_front text ≡ Some pair → IsLetter pair.0
unfolding harvard_kyoto_front
harvard_kyoto_front_is text pair h = front_is harvard_kyoto_letter of_harvard_kyoto.is_letter 2 text pair h

-- what Harvard-Kyoto reads is a word
pub harvard_kyoto_reads_words : (text word : List ℕ) → word_of_harvard_kyoto text ≡ Ok word → AllByRecursion IsLetter word
unfolding word_of_harvard_kyoto
harvard_kyoto_reads_words text word h = word_from (word_of_harvard_kyoto text) word (reads_spellings harvard_kyoto_front harvard_kyoto_front_is text 0 0 false) h

iast_front_is : (text : List ℕ) (pair : ℕ × ℕ) → iast_front text ≡ Some pair → IsLetter pair.0
unfolding iast_front
iast_front_is text pair h = front_is iast_letter of_iast.is_letter 4 text pair h

reads_composed : (text : List ℕ) → Reads (word_of_composed text)
unfolding word_of_composed
reads_composed text = reads_spellings iast_front iast_front_is text 0 0 false

-- what is read of composed characters is a word
pub composed_reads_words : (text word : List ℕ) → word_of_composed text ≡ Ok word → AllByRecursion IsLetter word
composed_reads_words text word h = word_from (word_of_composed text) word (reads_composed text) h

reads_if_valid : (valid : Bool) (reading : Reading) (place : ℕ) → Reads reading → Reads (cond valid reading (Err (NotUtf8 place)))
reads_if_valid true reading place r = r
reads_if_valid false reading place r = tt

-- what IAST reads is a word
pub iast_reads_words : (text word : List ℕ) → word_of_iast text ≡ Ok word → AllByRecursion IsLetter word
unfolding word_of_iast
iast_reads_words text word h =
    word_from (word_of_iast text) word (reads_if_valid (is_utf8 text) (word_of_composed (composed text)) (utf8_valid_len text) (reads_composed (composed text))) h
