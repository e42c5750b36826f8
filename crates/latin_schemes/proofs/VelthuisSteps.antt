-- The steps of reading Velthuis: those of reading by longest spellings, since no spelling begins with the separator.
use Rattle.std.proofs.Common.{◌≡◌, ℕ, ◌+◌, ◌<◌, ◌≤◌, Bool, true, cond, ◌&&◌, List, [], ◌∷◌, ◌++◌, length, get_or, take, drop, ◌-◌, Some, None, Err, eqb, ltb, arith, ap, ◌∙◌, sym, subst, refl}
use Rattle.std.proofs.lemmas.List.{take_rest}
use Rattle.std.proofs.lemmas.Bool.Decides.{nat_tests}
use Rattle.text_definitions.specs.Spellings.{with_front, NotLetter, with_letter}
use Rattle.text_definitions.specs.Longest.{word_of_spellings}
use Rattle.text_definitions.specs.Velthuis.{velthuis_front, word_of_velthuis}
use Rattle.text_definitions.proofs.Readings.{with_front_none, with_front_push}
use Rattle.text_definitions.proofs.Longest.{at_begin, at_fault}
use Rattle.text_definitions.proofs.VelthuisTable.{no_separator}

-- before the first letter nothing was read
pub reads_none : (text : List ℕ) → with_front [] (word_of_spellings velthuis_front 0 0 (ltb 0 0) text) ≡ word_of_velthuis text
unfolding word_of_velthuis
reads_none text = with_front_none (word_of_velthuis text)

after_some : (n : ℕ) → 0 < n → ltb 0 n ≡ true
after_some n h = grind (arith, nat_tests)

-- one more letter, where the text that is left from a place on is written as a slice has it
pub reads_more : (word text : List ℕ) (at begin : ℕ) (found : ℕ × ℕ) → at < length text → begin ≡ cond (ltb 0 at && eqb (get_or text at 0) 95) (at + 1) at → Some found ≡ velthuis_front (take (length text - begin) (drop begin text)) → (0 < found.1) × (found.1 ≤ length (take (length text - begin) (drop begin text))) → with_front word (word_of_spellings velthuis_front at 0 (ltb 0 at) (drop at text)) ≡ with_front (word ++ found.0 ∷ []) (word_of_spellings velthuis_front (begin + found.1) 0 (ltb 0 (begin + found.1)) (drop (begin + found.1) text))
reads_more word text at begin found below is begins fits =
    let whole : take (length text - begin) (drop begin text) ≡ drop begin text = take_rest text begin in
    let there = ap velthuis_front (ap (λ p. drop p text) (sym is) ∙ sym whole) ∙ sym begins in
    let inside = subst (λ p. found.1 ≤ length (drop p text)) is (subst (λ t. found.1 ≤ length t) whole fits.1) in
    let step = at_begin velthuis_front no_separator text at (ltb 0 at) found _ refl below there fits.0 inside in
    let rest = λ (p : ℕ). with_letter found.0 (word_of_spellings velthuis_front (p + found.1) 0 true (drop (p + found.1) text)) in
    let after = λ (b : Bool). word_of_spellings velthuis_front (begin + found.1) 0 b (drop (begin + found.1) text) in
    ap (with_front word) (step ∙ ap rest (sym is))
    ∙ sym (with_front_push word found.0 (after true))
    ∙ ap (λ b. with_front (word ++ found.0 ∷ []) (after b)) (sym (after_some (begin + found.1) (omega (arith, fits.0))))

-- a place where no spelling begins
pub reads_fault : (word text : List ℕ) (at begin : ℕ) → at < length text → begin ≡ cond (ltb 0 at && eqb (get_or text at 0) 95) (at + 1) at → None ≡ velthuis_front (take (length text - begin) (drop begin text)) → with_front word (word_of_spellings velthuis_front at 0 (ltb 0 at) (drop at text)) ≡ Err (NotLetter at)
reads_fault word text at begin below is none =
    let there = ap velthuis_front (ap (λ p. drop p text) (sym is) ∙ sym (take_rest text begin)) ∙ sym none in
    ap (with_front word) (at_fault velthuis_front no_separator text at (ltb 0 at) _ refl below there)
