-- One step of reading a text by longest spellings: by the definition at the first byte, and by induction over the bytes inside a spelling.
use Rattle.std.proofs.Common.{◌≡◌, ℕ, zero, suc, ◌+◌, ◌-◌, ◌<◌, ◌≤◌, Bool, true, false, cond, ◌&&◌, List, [], ◌∷◌, length, get_or, drop, Option, Some, None, is_some, Err, eqb, arith, ap, ◌∙◌, sym, add-zero}
use Rattle.std.proofs.lemmas.List.{at_drop_more, drop-drop}
use Rattle.std.proofs.lemmas.Bool.{eqb-true}
use Rattle.text_definitions.specs.Spellings.{NotLetter, with_letter}
use Rattle.text_definitions.specs.Longest.{word_at, word_of_spellings}

second_true : (a b : Bool) → a && b ≡ true → b ≡ true
second_true true b h = h
second_true false b h = absurd (cc)

module _ (front : List ℕ → Option (ℕ × ℕ)) where
  -- the bytes inside a spelling are passed over
  past_inside : (inside place : ℕ) (text : List ℕ) → inside ≤ length text → word_of_spellings front place inside true text ≡ word_of_spellings front (place + inside) 0 true (drop inside text)
  past_inside zero place text h = ap (λ p. word_of_spellings front p 0 true text) (sym (add-zero place))
  past_inside (suc inside) place [] h = absurd (omega arith)
  past_inside (suc inside) place (byte ∷ text) h =
      let moved : place + 1 + inside ≡ place + suc inside = omega arith in
      past_inside inside (place + 1) text (omega arith) ∙ ap (λ p. word_of_spellings front p 0 true (drop inside text)) moved

  -- where a spelling begins, its letter is the first, and the rest stands after the spelling
  pub at_front : (place : ℕ) (text : List ℕ) (found : ℕ × ℕ) (spelled : Bool) → front text ≡ Some found → 0 < found.1 → found.1 ≤ length text → word_of_spellings front place 0 spelled text ≡ with_letter found.0 (word_of_spellings front (place + found.1) 0 true (drop found.1 text))
  at_front place [] found spelled begins some fits = absurd (omega arith)
  at_front place (byte ∷ text) found spelled begins some fits =
      let following = λ (inside : ℕ) (after : Bool). word_of_spellings front (place + 1) inside after text in
      let passed = spelled && eqb byte 95 && is_some (front text) in
      let one : 1 + (found.1 - 1) ≡ found.1 = omega arith in
      let moved : place + 1 + (found.1 - 1) ≡ place + found.1 = omega arith in
      ap (λ f. word_at place f passed following) begins
      ∙ ap (with_letter found.0) (past_inside (found.1 - 1) (place + 1) text (omega arith))
      ∙ ap (λ p. with_letter found.0 (word_of_spellings front p 0 true (drop (found.1 - 1) text))) moved
      ∙ ap (λ t. with_letter found.0 (word_of_spellings front (place + found.1) 0 true t)) (drop-drop (found.1 - 1) 1 (byte ∷ text) ∙ ap (λ k. drop k (byte ∷ text)) one)

  -- the same at a place of the text
  pub at_spelling : (text : List ℕ) (place : ℕ) (found : ℕ × ℕ) (spelled : Bool) → front (drop place text) ≡ Some found → 0 < found.1 → found.1 ≤ length (drop place text) → word_of_spellings front place 0 spelled (drop place text) ≡ with_letter found.0 (word_of_spellings front (place + found.1) 0 true (drop (place + found.1) text))
  at_spelling text place found spelled begins some fits =
      at_front place (drop place text) found spelled begins some fits
      ∙ ap (λ t. with_letter found.0 (word_of_spellings front (place + found.1) 0 true t)) (drop-drop found.1 place text)

  module _ (never : (rest : List ℕ) → front (95 ∷ rest) ≡ None) where
    -- what a place gives, whether it is a separator between two spellings or not
    at_byte : (text : List ℕ) (place : ℕ) (spelled : Bool) → place < length text → word_of_spellings front place 0 spelled (drop place text) ≡ word_at place (front (get_or text place 0 ∷ drop (place + 1) text)) (spelled && eqb (get_or text place 0) 95 && is_some (front (drop (place + 1) text))) (λ inside after. word_of_spellings front (place + 1) inside after (drop (place + 1) text))
    at_byte text place spelled below = at_drop_more (word_of_spellings front place 0 spelled) text place 0 below

    no_letter : (text : List ℕ) (place : ℕ) (spelled : Bool) → spelled && eqb (get_or text place 0) 95 ≡ true → front (get_or text place 0 ∷ drop (place + 1) text) ≡ None
    no_letter text place spelled sep =
        ap (λ b. front (b ∷ drop (place + 1) text)) (eqb-true _ 95 (second_true spelled _ sep)) ∙ never (drop (place + 1) text)

    -- where a spelling stands after a separator or at the place itself, its letter is the next
    pub at_begin : (text : List ℕ) (place : ℕ) (spelled : Bool) (found : ℕ × ℕ) (passed : Bool) → spelled && eqb (get_or text place 0) 95 ≡ passed → place < length text → front (drop (cond passed (place + 1) place) text) ≡ Some found → 0 < found.1 → found.1 ≤ length (drop (cond passed (place + 1) place) text) → word_of_spellings front place 0 spelled (drop place text) ≡ with_letter found.0 (word_of_spellings front (cond passed (place + 1) place + found.1) 0 true (drop (cond passed (place + 1) place + found.1) text))
    at_begin text place spelled found false sep below begins some fits = at_spelling text place found spelled begins some fits
    at_begin text place spelled found true sep below begins some fits =
        let following = λ (inside : ℕ) (after : Bool). word_of_spellings front (place + 1) inside after (drop (place + 1) text) in
        let here = front (get_or text place 0 ∷ drop (place + 1) text) in
        at_byte text place spelled below
        ∙ ap (λ f. word_at place f (spelled && eqb (get_or text place 0) 95 && is_some (front (drop (place + 1) text))) following) (no_letter text place spelled sep)
        ∙ ap (λ b. word_at place None (b && is_some (front (drop (place + 1) text))) following) sep
        ∙ ap (λ f. word_at place None (is_some f) following) begins
        ∙ at_spelling text (place + 1) found false begins some fits

    -- where no spelling begins there, the place is at fault
    pub at_fault : (text : List ℕ) (place : ℕ) (spelled passed : Bool) → spelled && eqb (get_or text place 0) 95 ≡ passed → place < length text → front (drop (cond passed (place + 1) place) text) ≡ None → word_of_spellings front place 0 spelled (drop place text) ≡ Err (NotLetter place)
    at_fault text place spelled false sep below none =
        let following = λ (inside : ℕ) (after : Bool). word_of_spellings front (place + 1) inside after (drop (place + 1) text) in
        at_byte text place spelled below
        ∙ ap (λ f. word_at place f (spelled && eqb (get_or text place 0) 95 && is_some (front (drop (place + 1) text))) following) (sym (at_drop_more front text place 0 below) ∙ none)
        ∙ ap (λ b. word_at place None (b && is_some (front (drop (place + 1) text))) following) sep
    at_fault text place spelled true sep below none =
        let following = λ (inside : ℕ) (after : Bool). word_of_spellings front (place + 1) inside after (drop (place + 1) text) in
        at_byte text place spelled below
        ∙ ap (λ f. word_at place f (spelled && eqb (get_or text place 0) 95 && is_some (front (drop (place + 1) text))) following) (no_letter text place spelled sep)
        ∙ ap (λ b. word_at place None (b && is_some (front (drop (place + 1) text))) following) sep
        ∙ ap (λ f. word_at place None (is_some f) following) none
