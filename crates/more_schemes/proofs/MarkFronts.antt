-- With which mark a text begins: the first byte tells it in Latin letters, and in Devanagari the three bytes of a danda or a digit, where
-- it has such, or else again the first.
use Rattle.std.proofs.Common.{◌≡◌, ℕ, ◌<◌, ◌≤◌, Bool, true, false, cond, ◌&&◌, List, [], ◌∷◌, ◌++◌, length, drop, get_or, Option, Some, None, codes, eqb, arith, ap, ◌∙◌, sym, refl}
use Rattle.std.proofs.lemmas.Bool.{eqb-true}
use Rattle.text_definitions.specs.LineTexts.{begins_with}
use Rattle.conversion_definitions.specs.Marks.{Mark, mark, kept, latin_marks, devanagari_marks, marks_to_latin, marks_to_devanagari, first_mark}
use Rattle.conversion_definitions.proofs.MarkBytes.{mark_bytes}

-- ---- Latin letters

pub latin_none : (text : List ℕ) → length text < 1 → None ≡ first_mark latin_marks text
unfolding mark_bytes
latin_none [] h = refl
latin_none (byte ∷ text) h = absurd (omega arith)

-- what the first byte tells of each text
pub by_first : (marks : List Mark) (found : Option (ℕ × List ℕ)) (text : List ℕ) → 0 < length text → ((rest : List ℕ) → found ≡ first_mark marks (get_or text 0 0 ∷ rest)) → found ≡ first_mark marks text
by_first marks found [] h f = absurd (omega arith)
by_first marks found (byte ∷ text) h f = f text

-- ---- Devanagari

first_mark_append : (xs ys : List Mark) (text : List ℕ) → first_mark ys text ≡ None → first_mark (xs ++ ys) text ≡ first_mark xs text
first_mark_append [] ys text h = h
first_mark_append (x ∷ xs) ys text h = ap (cond (begins_with x.is text) (Some (length x.is, x.becomes))) (first_mark_append xs ys text h)

skip : (b : Bool) (found : ℕ × List ℕ) (rest : Option (ℕ × List ℕ)) → b ≡ false → rest ≡ None → cond b (Some found) rest ≡ None
skip true found rest h e = absurd (cc)
skip false found rest h e = e

-- the text does not begin with E0 A5 and this byte, whichever it is
abbrev HasNoBlock : List ℕ → Type 0
HasNoBlock text = (third : ℕ) → begins_with (0xE0 ∷ 0xA5 ∷ third ∷ []) text ≡ false

devanagari_same : (text : List ℕ) → HasNoBlock text → first_mark devanagari_marks text ≡ first_mark latin_marks text
unfolding mark_bytes
devanagari_same text h =
    first_mark_append latin_marks (kept (codes "।॥०१२३४५६७८९")) text (skip _ _ _ (h 0xA4) (skip _ _ _ (h 0xA5) (skip _ _ _ (h 0xA6) (skip _ _ _ (h 0xA7) (skip _ _ _ (h 0xA8) (skip _ _ _ (h 0xA9) (skip _ _ _ (h 0xAA) (skip _ _ _ (h 0xAB) (skip _ _ _ (h 0xAC) (skip _ _ _ (h 0xAD) (skip _ _ _ (h 0xAE) (skip _ _ _ (h 0xAF) refl))))))))))))

to_latin_same : (text : List ℕ) → HasNoBlock text → first_mark marks_to_latin text ≡ first_mark latin_marks text
unfolding mark_bytes
to_latin_same text h =
    first_mark_append latin_marks (mark (codes "।") (codes "|") ∷ mark (codes "॥") (codes "||") ∷ mark (codes "०") (codes "0") ∷ mark (codes "१") (codes "1") ∷ mark (codes "२") (codes "2") ∷ mark (codes "३") (codes "3") ∷ mark (codes "४") (codes "4") ∷ mark (codes "५") (codes "5") ∷ mark (codes "६") (codes "6") ∷ mark (codes "७") (codes "7") ∷ mark (codes "८") (codes "8") ∷ mark (codes "९") (codes "9") ∷ []) text (skip _ (3, 124 ∷ []) _ (h 0xA4) (skip _ (3, 124 ∷ 124 ∷ []) _ (h 0xA5) (skip _ (3, 48 ∷ []) _ (h 0xa6) (skip _ (3, 49 ∷ []) _ (h 0xa7) (skip _ (3, 50 ∷ []) _ (h 0xa8) (skip _ (3, 51 ∷ []) _ (h 0xa9) (skip _ (3, 52 ∷ []) _ (h 0xaa) (skip _ (3, 53 ∷ []) _ (h 0xab) (skip _ (3, 54 ∷ []) _ (h 0xac) (skip _ (3, 55 ∷ []) _ (h 0xad) (skip _ (3, 56 ∷ []) _ (h 0xae) (skip _ (3, 57 ∷ []) _ (h 0xaf) refl))))))))))))

no_block_by : (first second : Bool) → (first ≡ true → second ≡ true → ⊥) → (rest : Bool) → first && (second && rest) ≡ false
no_block_by true true h rest = absurd (h refl refl)
no_block_by true false h rest = refl
no_block_by false second h rest = refl

short_block : (first second : Bool) → first && (second && false) ≡ false
short_block true true = refl
short_block true false = refl
short_block false second = refl

no_block : (text : List ℕ) → (3 ≤ length text → get_or text 0 0 ≡ 0xE0 → get_or text 1 0 ≡ 0xA5 → ⊥) → HasNoBlock text
no_block [] h third = refl
no_block (a ∷ []) h third = no_block_by (eqb a 0xE0) false (λ p q. absurd (cc)) false
no_block (a ∷ b ∷ []) h third = short_block (eqb a 0xE0) (eqb b 0xA5)
no_block (a ∷ b ∷ c ∷ text) h third =
    no_block_by (eqb a 0xE0) (eqb b 0xA5) (λ p q. h (omega arith) (eqb-true a 0xE0 p) (eqb-true b 0xA5 q)) (eqb c third && true)

-- by what the first bytes are
pub devanagari_first : (text : List ℕ) → (3 ≤ length text → get_or text 0 0 ≡ 0xE0 → get_or text 1 0 ≡ 0xA5 → ⊥) → first_mark latin_marks text ≡ first_mark devanagari_marks text
devanagari_first text h = sym (devanagari_same text (no_block text h))

pub to_latin_first : (text : List ℕ) → (3 ≤ length text → get_or text 0 0 ≡ 0xE0 → get_or text 1 0 ≡ 0xA5 → ⊥) → first_mark latin_marks text ≡ first_mark marks_to_latin text
to_latin_first text h = sym (to_latin_same text (no_block text h))

-- what the third byte tells of each text that begins with E0 A5
pub by_third : (marks : List Mark) (found : Option (ℕ × List ℕ)) (text : List ℕ) → 3 ≤ length text → get_or text 0 0 ≡ 0xE0 → get_or text 1 0 ≡ 0xA5
    → ((rest : List ℕ) → found ≡ first_mark marks (0xE0 ∷ 0xA5 ∷ get_or text 2 0 ∷ rest)) → found ≡ first_mark marks text
by_third marks found [] h p q f = absurd (omega arith)
by_third marks found (a ∷ []) h p q f = absurd (omega arith)
by_third marks found (a ∷ b ∷ []) h p q f = absurd (omega arith)
by_third marks found (a ∷ b ∷ c ∷ text) h p q f = f text ∙ ap (λ x. first_mark marks (x ∷ 0xA5 ∷ c ∷ text)) (sym p) ∙ ap (λ x. first_mark marks (a ∷ x ∷ c ∷ text)) (sym q)

-- ---- to Devanagari

pub to_devanagari_none : (text : List ℕ) → length text < 1 → None ≡ first_mark marks_to_devanagari text
unfolding mark_bytes
to_devanagari_none [] h = refl
to_devanagari_none (byte ∷ text) h = absurd (omega arith)

two_bars_by : (a b : ℕ) (text : List ℕ) → a ≡ 124 → b ≡ 124 → first_mark marks_to_devanagari (124 ∷ 124 ∷ text) ≡ first_mark marks_to_devanagari (a ∷ b ∷ text)
two_bars_by a b text p q = ap (λ x. first_mark marks_to_devanagari (x ∷ 124 ∷ text)) (sym p) ∙ ap (λ x. first_mark marks_to_devanagari (a ∷ x ∷ text)) (sym q)

-- two bars are a double danda
pub two_bars : (text : List ℕ) → 2 ≤ length text → get_or text 0 0 ≡ 124 → get_or text 1 0 ≡ 124 → Some (2, 0xE0 ∷ 0xA5 ∷ 0xA5 ∷ []) ≡ first_mark marks_to_devanagari text
unfolding mark_bytes
two_bars [] h p q = absurd (omega arith)
two_bars (a ∷ []) h p q = absurd (omega arith)
two_bars (a ∷ b ∷ text) h p q = two_bars_by a b text p q

no_bars : (text : List ℕ) → (2 ≤ length text → get_or text 0 0 ≡ 124 → get_or text 1 0 ≡ 124 → ⊥) → begins_with (124 ∷ 124 ∷ []) text ≡ false
no_bars [] h = refl
no_bars (a ∷ []) h = no_block_by (eqb a 124) false (λ p q. absurd (cc)) false
no_bars (a ∷ b ∷ text) h = no_block_by (eqb a 124) (eqb b 124) (λ p q. h (omega arith) (eqb-true a 124 p) (eqb-true b 124 q)) true

-- else the first byte tells it
pub one_sign : (text : List ℕ) → (2 ≤ length text → get_or text 0 0 ≡ 124 → get_or text 1 0 ≡ 124 → ⊥) → first_mark (drop 1 marks_to_devanagari) text ≡ first_mark marks_to_devanagari text
unfolding mark_bytes
one_sign text h = sym (ap (λ b. cond b (Some (2, 0xE0 ∷ 0xA5 ∷ 0xA5 ∷ [])) (first_mark (drop 1 marks_to_devanagari) text)) (no_bars text h))
