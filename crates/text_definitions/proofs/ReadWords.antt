-- What a text spells is a word: each letter comes from a table, and the rest is by induction on the text.
use Rattle.std.proofs.Common.{◌≡◌, ℕ, zero, suc, ◌+◌, ◌-◌, ◌<◌, ◌≤◌, Bool, true, false, cond, ◌&&◌, ◌||◌, List, [], ◌∷◌, length, take, Option, Some, None, Ok, Err, is_some, eqb, encode_utf8, inl, inr, arith, ap, ◌∙◌, sym, subst, refl}
use Rattle.std.specs.List.{AllByRecursion}
use Rattle.std.specs.Str.{bytes_eq, is_utf8, chars}
use Rattle.std.specs.Str.Lossy.{utf8_valid_len}
use Rattle.std.proofs.lemmas.Bool.{cases_Bool}
use Rattle.text_definitions.specs.Letters.{IsLetter}
use Rattle.text_definitions.specs.Spellings.{Reading, NotUtf8, with_letter, entry_from}
use Rattle.text_definitions.specs.Longest.{spelling_from, or_shorter, front_letter, word_at, word_of_spellings}
use Rattle.text_definitions.specs.Velthuis.{velthuis_table, velthuis_capital, or_else, velthuis_letter, velthuis_front, word_of_velthuis}
use Rattle.text_definitions.specs.Devanagari.{devanagari_table, devanagari_signs, is_consonant, PointKind, Joiner, Virama, Letter, Sign, Foreign, letter_or_sign, kind_of_point, close_with_a, reading_at, word_of_points, word_of_devanagari}
use Rattle.text_definitions.proofs.PrintedBytes.{entry_found}
use Rattle.std.proofs.lemmas.Option.{same_Some}

-- a reading that is a word has letters only
abbrev Reads : Reading → Type 0
Reads (Ok word) = AllByRecursion IsLetter word
Reads (Err fault) = Unit {0}

reads_letter : (n : ℕ) (rest : Reading) → IsLetter n → Reads rest → Reads (with_letter n rest)
reads_letter n (Ok word) l r = (l, r)
reads_letter n (Err fault) l r = tt

word_from : (reading : Reading) (word : List ℕ) → Reads reading → reading ≡ Ok word → AllByRecursion IsLetter word
word_from reading word r h = subst Reads h r

spelling_found : (code : ℕ) (table : List (List ℕ)) (bytes : List ℕ) (n : ℕ) → spelling_from code table bytes ≡ Some n → (code ≤ n) × (n < code + length table)
spelling_found code [] bytes n h = absurd (cc)
spelling_found code (entry ∷ table) bytes n h =
    let rest = spelling_from (code + 1) table bytes in
    elim (cases_Bool (bytes_eq entry bytes)) [
      | inl same ↦ let is : code ≡ n = same_Some code n (sym (ap (λ b. cond b (Some code) rest) same) ∙ h) in (omega arith, omega arith)
      | inr other ↦ let later = spelling_found (code + 1) table bytes n (sym (ap (λ b. cond b (Some code) rest) other) ∙ h) in (omega (arith, later), omega (arith, later))
    ]

by_capital : (a i u : Bool) (n : ℕ) → cond a (Some 2) (cond i (Some 4) (cond u (Some 6) None)) ≡ Some n → IsLetter n
by_capital true i u n h = let is = same_Some 2 n h in (omega arith, omega arith)
by_capital false true u n h = let is = same_Some 4 n h in (omega arith, omega arith)
by_capital false false true n h = let is = same_Some 6 n h in (omega arith, omega arith)
by_capital false false false n h = absurd (cc)

of_either : (first second : Option ℕ) (n : ℕ) → or_else first second ≡ Some n → (first ≡ Some n → IsLetter n) → (second ≡ Some n → IsLetter n) → IsLetter n
of_either None second n h f s = s h
of_either (Some m) second n h f s = f h

velthuis_letter_is : (bytes : List ℕ) (n : ℕ) → velthuis_letter bytes ≡ Some n → IsLetter n
unfolding velthuis_table velthuis_capital velthuis_letter
velthuis_letter_is bytes n h =
    of_either (spelling_from 1 velthuis_table bytes) (velthuis_capital bytes) n h (λ e. let found = spelling_found 1 velthuis_table bytes n e in (omega (arith, found), omega (arith, found))) (λ e. by_capital _ _ _ n e)

or_shorter_is : (found : Option ℕ) (len : ℕ) (shorter : Option (ℕ × ℕ)) (pair : ℕ × ℕ) → or_shorter found len shorter ≡ Some pair → (found ≡ Some pair.0 → IsLetter pair.0) → (shorter ≡ Some pair → IsLetter pair.0) → IsLetter pair.0
or_shorter_is None len shorter pair h f s = s h
or_shorter_is (Some m) len shorter pair h f s = let is : (m, len) ≡ pair = cc in f (ap (λ (p : ℕ × ℕ). Some p.0) is)

front_is : (most : ℕ) (text : List ℕ) (pair : ℕ × ℕ) → front_letter velthuis_letter most text ≡ Some pair → IsLetter pair.0
front_is zero text pair h = absurd (cc)
front_is (suc most) text pair h =
    or_shorter_is (velthuis_letter (take (suc most) text)) (length (take (suc most) text)) (front_letter velthuis_letter most text) pair h (velthuis_letter_is (take (suc most) text) pair.0) (front_is most text pair)

reads_at : (place : ℕ) (found : Option (ℕ × ℕ)) (passed : Bool) (following : ℕ → Bool → Reading) → ((pair : ℕ × ℕ) → found ≡ Some pair → IsLetter pair.0) → ((inside : ℕ) (after : Bool) → Reads (following inside after)) → Reads (word_at place found passed following)
reads_at place None false following l r = tt
reads_at place None true following l r = r 0 false
reads_at place (Some pair) passed following l r = reads_letter pair.0 (following (pair.1 - 1) true) (l pair refl) (r (pair.1 - 1) true)

reads_spellings : (text : List ℕ) (place inside : ℕ) (spelled : Bool) → Reads (word_of_spellings velthuis_front place inside spelled text)
unfolding velthuis_front
reads_spellings [] place inside spelled = tt
reads_spellings (byte ∷ text) place (suc inside) spelled = reads_spellings text (place + 1) inside true
reads_spellings (byte ∷ text) place zero spelled =
    reads_at place (velthuis_front (byte ∷ text)) (spelled && eqb byte 95 && is_some (velthuis_front text)) (λ inside after. word_of_spellings velthuis_front (place + 1) inside after text) (front_is 3 (byte ∷ text)) (reads_spellings text (place + 1))

-- what Velthuis reads is a word
pub velthuis_reads_words : (text word : List ℕ) → word_of_velthuis text ≡ Ok word → AllByRecursion IsLetter word
unfolding word_of_velthuis
velthuis_reads_words text word h = word_from (word_of_velthuis text) word (reads_spellings text 0 0 false) h

-- the letter or the vowel that a code point is
abbrev IsKind : PointKind → Type 0
IsKind Joiner = Unit {0}
IsKind Virama = Unit {0}
IsKind (Letter letter) = IsLetter letter
IsKind (Sign vowel) = IsLetter vowel
IsKind Foreign = Unit {0}

kind_from : (letter sign : Option ℕ) → ((n : ℕ) → letter ≡ Some n → IsLetter n) → ((n : ℕ) → sign ≡ Some n → IsLetter n) → IsKind (letter_or_sign letter sign)
kind_from (Some n) sign l s = l n refl
kind_from None (Some n) l s = s n refl
kind_from None None l s = tt

kind_by : (joiner virama : Bool) (kind : PointKind) → IsKind kind → IsKind (cond joiner Joiner (cond virama Virama kind))
kind_by true virama kind k = tt
kind_by false true kind k = tt
kind_by false false kind k = k

kind_is : (point : ℕ) → IsKind (kind_of_point point)
unfolding devanagari_table devanagari_signs kind_of_point
kind_is point =
    kind_by (eqb point 0x200C || eqb point 0x200D) (eqb point 0x094D) _ (kind_from (entry_from 1 devanagari_table point) (entry_from 2 devanagari_signs point) (λ n e. let found = entry_found 1 devanagari_table point n e in (omega (arith, found.low), omega (arith, found.high))) (λ n e. let found = entry_found 2 devanagari_signs point n e in (omega (arith, found.low), omega (arith, found.high))))

reads_closed : (bare : Bool) (rest : Reading) → Reads rest → Reads (close_with_a bare rest)
reads_closed false rest r = r
reads_closed true rest r = let a : IsLetter 1 = (omega arith, omega arith) in reads_letter 1 rest a r

reads_kind : (place : ℕ) (bare : Bool) (kind : PointKind) (rest : Bool → Reading) → IsKind kind → ((after : Bool) → Reads (rest after)) → Reads (reading_at place bare kind rest)
reads_kind place bare Joiner rest k r = r bare
reads_kind place true Virama rest k r = r false
reads_kind place false Virama rest k r = tt
reads_kind place true (Sign vowel) rest k r = reads_letter vowel (rest false) k (r false)
reads_kind place false (Sign vowel) rest k r = tt
reads_kind place bare (Letter letter) rest k r = reads_closed bare _ (reads_letter letter (rest (is_consonant letter)) k (r (is_consonant letter)))
reads_kind place bare Foreign rest k r = tt

reads_points : (points : List ℕ) (place : ℕ) (bare : Bool) → Reads (word_of_points place bare points)
reads_points [] place bare = reads_closed bare (Ok []) tt
reads_points (point ∷ points) place bare =
    reads_kind place bare (kind_of_point point) (λ after. word_of_points (place + length (encode_utf8 point)) after points) (kind_is point) (reads_points points (place + length (encode_utf8 point)))

reads_if_valid : (valid : Bool) (reading : Reading) (place : ℕ) → Reads reading → Reads (cond valid reading (Err (NotUtf8 place)))
reads_if_valid true reading place r = r
reads_if_valid false reading place r = tt

-- what Devanagari reads is a word
pub devanagari_reads_words : (text word : List ℕ) → word_of_devanagari text ≡ Ok word → AllByRecursion IsLetter word
unfolding word_of_devanagari
devanagari_reads_words text word h =
    word_from (word_of_devanagari text) word (reads_if_valid (is_utf8 text) (word_of_points 0 false (chars text)) (utf8_valid_len text) (reads_points (chars text) 0 false)) h
