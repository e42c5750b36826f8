-- The steps of reading and printing in a scheme: those of reading by longest spellings, since no spelling begins with the separator.
use Rattle.std.proofs.Common.{◌≡◌, ℕ, ◌+◌, ◌<◌, ◌≤◌, Bool, true, false, not, cond, ◌&&◌, List, [], ◌∷◌, ◌++◌, length, get_or, take, drop, ◌-◌, Some, None, is_some, Err, eqb, ltb, ◌^◌, IsUtf8, encode_utf8_all, arith, ap, ◌∙◌, sym, subst, refl}
use Rattle.std.specs.Str.{chars}
use Rattle.std.proofs.lemmas.List.{take_rest}
use Rattle.std.proofs.lemmas.Bool.Decides.{nat_tests}
use Rattle.text_definitions.specs.Letters.{IsLetter}
use Rattle.text_definitions.specs.Spellings.{with_front, NotLetter, with_letter}
use Rattle.text_definitions.specs.Longest.{spelling_of_letter, has_length, word_of_spellings}
use Rattle.text_definitions.proofs.Readings.{with_front_none, with_front_push}
use Rattle.text_definitions.proofs.Longest.{at_begin, at_fault}
use Rattle.unicode_normalization.specs.Forms.{nfc}
use Rattle.more_scheme_definitions.specs.Iast.{composed}
use Rattle.more_scheme_definitions.proofs.ComposedLengths.{length-composed}
use Rattle.more_scheme_definitions.proofs.HarvardKyotoTable.{harvard_kyoto_keeps_first}
use Rattle.more_scheme_definitions.proofs.HarvardKyotoTable as of_harvard_kyoto
use Rattle.more_scheme_definitions.proofs.IastTable.{iast_keeps_first}
use Rattle.more_scheme_definitions.proofs.IastTable as of_iast
use Rattle.more_schemes.specs.Schemes.{table_in, letter_in, front_in}
use Rattle.more_schemes.specs.declared.scheme.Scheme.{Scheme}
use Rattle.more_schemes.specs.declared.scheme.Scheme.TheVariants.{HarvardKyoto, Iast}

-- no spelling begins with the separator
no_separator : (scheme : Scheme) (rest : List ℕ) → front_in scheme (95 ∷ rest) ≡ None
no_separator HarvardKyoto = of_harvard_kyoto.never
no_separator Iast = of_iast.never

-- whether the first spelling keeps its length before the second one
pub keeps_first : (scheme : Scheme) (n : ℕ) (first second : List ℕ) → IsLetter n → first ≡ spelling_of_letter (table_in scheme) n → 0 < length second → has_length (front_in scheme (first ++ second)) (length first) ≡ not (is_some (letter_in scheme (first ++ get_or second 0 0 ∷ [])))
keeps_first HarvardKyoto = harvard_kyoto_keeps_first
keeps_first Iast = iast_keeps_first

-- before the first letter nothing was read
pub reads_none : (scheme : Scheme) (text : List ℕ) → with_front [] (word_of_spellings (front_in scheme) 0 0 (ltb 0 0) text) ≡ word_of_spellings (front_in scheme) 0 0 false text
reads_none scheme text = with_front_none (word_of_spellings (front_in scheme) 0 0 false text)

after_some : (n : ℕ) → 0 < n → ltb 0 n ≡ true
after_some n h = grind (arith, nat_tests)

-- one more letter, where the text that is left from a place on is written as a slice has it
pub reads_more : (scheme : Scheme) (word text : List ℕ) (at begin : ℕ) (found : ℕ × ℕ) → at < length text → begin ≡ cond (ltb 0 at && eqb (get_or text at 0) 95) (at + 1) at → Some found ≡ front_in scheme (take (length text - begin) (drop begin text)) → (0 < found.1) × (found.1 ≤ length (take (length text - begin) (drop begin text))) → with_front word (word_of_spellings (front_in scheme) at 0 (ltb 0 at) (drop at text)) ≡ with_front (word ++ found.0 ∷ []) (word_of_spellings (front_in scheme) (begin + found.1) 0 (ltb 0 (begin + found.1)) (drop (begin + found.1) text))
reads_more scheme word text at begin found below is begins fits =
    let whole : take (length text - begin) (drop begin text) ≡ drop begin text = take_rest text begin in
    let there = ap (front_in scheme) (ap (λ p. drop p text) (sym is) ∙ sym whole) ∙ sym begins in
    let inside = subst (λ p. found.1 ≤ length (drop p text)) is (subst (λ t. found.1 ≤ length t) whole fits.1) in
    let step = at_begin (front_in scheme) (no_separator scheme) text at (ltb 0 at) found _ refl below there fits.0 inside in
    let rest = λ (p : ℕ). with_letter found.0 (word_of_spellings (front_in scheme) (p + found.1) 0 true (drop (p + found.1) text)) in
    let after = λ (b : Bool). word_of_spellings (front_in scheme) (begin + found.1) 0 b (drop (begin + found.1) text) in
    ap (with_front word) (step ∙ ap rest (sym is))
    ∙ sym (with_front_push word found.0 (after true))
    ∙ ap (λ b. with_front (word ++ found.0 ∷ []) (after b)) (sym (after_some (begin + found.1) (omega (arith, fits.0))))

-- a place where no spelling begins
pub reads_fault : (scheme : Scheme) (word text : List ℕ) (at begin : ℕ) → at < length text → begin ≡ cond (ltb 0 at && eqb (get_or text at 0) 95) (at + 1) at → None ≡ front_in scheme (take (length text - begin) (drop begin text)) → with_front word (word_of_spellings (front_in scheme) at 0 (ltb 0 at) (drop at text)) ≡ Err (NotLetter at)
reads_fault scheme word text at begin below is none =
    let there = ap (front_in scheme) (ap (λ p. drop p text) (sym is) ∙ sym (take_rest text begin)) ∙ sym none in
    ap (with_front word) (at_fault (front_in scheme) (no_separator scheme) text at (ltb 0 at) _ refl below there)

-- the places of a composed text fit into 32 bits
pub composed_fits : (text : List ℕ) → IsUtf8 text → length text < 2 ^ 28 → length (encode_utf8_all (nfc (chars text))) < 2 ^ 32
unfolding composed
composed_fits text utf8 short = omega (arith, length-composed text utf8)
