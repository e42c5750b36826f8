-- The tokens of a text read from its front, against their definition from its end: by recursion on the text.
use Rattle.std.proofs.Common.{◌≡◌, ℕ, Bool, true, false, cond, List, [], ◌∷◌, refl, sym, ap, ◌∙◌, subst}
use Rattle.std.proofs.lemmas.Bool.{eqb-true, cond-true, cond-false}
use Rattle.lexicon_definitions.specs.GrammarTexts.{is_name_byte, is_blank, begins_with_name_byte, Token, Word, symbol_of, with_name_byte, tokens_of}
use Rattle.phase_automaton.specs.Names.{first_name}
use Rattle.phase_automaton.proofs.NamesForward.{bool_cases, no_name}

-- a byte that may not stand in a name, before these tokens
abbrev pub with_other_byte : ℕ → List Token → List Token
with_other_byte byte tokens = cond (is_blank byte) tokens (symbol_of byte ∷ tokens)

-- the tokens that begin in the rest of a text, whether a name ends in front of it or not
abbrev pub tokens_after : Bool → List ℕ → List Token
tokens_after in_name [] = []
tokens_after true (byte ∷ text) =
    cond (is_name_byte byte) (tokens_after true text) (with_other_byte byte (tokens_after false text))
tokens_after false (byte ∷ text) =
    cond (is_name_byte byte) (Word (byte ∷ first_name text) ∷ tokens_after true text) (with_other_byte byte (tokens_after false text))

record Forward (text : List ℕ) : Type 0 where
  begun : begins_with_name_byte text ≡ true → tokens_of text ≡ Word (first_name text) ∷ tokens_after true text
  none : begins_with_name_byte text ≡ false → tokens_of text ≡ tokens_after true text

-- the definition puts the blank before the name
as_defined : {A : Type 0} (blank name : Bool) (x y z : A) → (blank ≡ true → name ≡ false)
    → cond blank x (cond name y z) ≡ cond name y (cond blank x z)
as_defined true true x y z h = let e = h refl in cc
as_defined true false x y z h = refl
as_defined false name x y z h = refl

is_32 : (byte : ℕ) → is_blank byte ≡ true → byte ≡ 32
is_32 byte e = eqb-true byte 32 e

blank_is_no_name : (byte : ℕ) → is_blank byte ≡ true → is_name_byte byte ≡ false
blank_is_no_name byte e = subst (λ b. is_name_byte b ≡ false) (sym (is_32 byte e)) refl

tokens_cons : (byte : ℕ) (text : List ℕ) → tokens_of (byte ∷ text)
    ≡ cond (is_name_byte byte) (with_name_byte byte (begins_with_name_byte text) (tokens_of text)) (with_other_byte byte (tokens_of text))
tokens_cons byte text =
    as_defined (is_blank byte) (is_name_byte byte) (tokens_of text) (with_name_byte byte (begins_with_name_byte text) (tokens_of text))
    (symbol_of byte ∷ tokens_of text) (blank_is_no_name byte)

from_forward : (text : List ℕ) → Forward text → tokens_after false text ≡ tokens_of text
from_forward [] f = refl
from_forward (byte ∷ text) f = bool_cases (is_name_byte byte)
    (λ e.
    cond-true (is_name_byte byte) (Word (byte ∷ first_name text) ∷ tokens_after true text) (with_other_byte byte (tokens_after false text)) e
    ∙ sym (f.begun e
    ∙ (ap (λ bytes. Word bytes ∷ tokens_after true (byte ∷ text)) (cond-true (is_name_byte byte) (byte ∷ first_name text) [] e)
    ∙ ap (λ tokens. Word (byte ∷ first_name text) ∷ tokens) (cond-true (is_name_byte byte) (tokens_after true text) (with_other_byte byte (tokens_after false text)) e))))
    (λ e.
    cond-false (is_name_byte byte) (Word (byte ∷ first_name text) ∷ tokens_after true text) (with_other_byte byte (tokens_after false text)) e
    ∙ sym (f.none e ∙ cond-false (is_name_byte byte) (tokens_after true text) (with_other_byte byte (tokens_after false text)) e))

with_first : (byte : ℕ) (text : List ℕ) → Forward text
    → with_name_byte byte (begins_with_name_byte text) (tokens_of text) ≡ Word (byte ∷ first_name text) ∷ tokens_after true text
with_first byte text f = bool_cases (begins_with_name_byte text)
    (λ e. rw e (rw (f.begun e) refl))
    (λ e. rw e (rw (f.none e, no_name text e) refl))

forward : (text : List ℕ) → Forward text
forward [] = record { begun = λ e. cc; none = λ e. refl }
forward (byte ∷ text) =
    let inner = forward text in
    record {
      begun = λ e.
          tokens_cons byte text
          ∙ (cond-true (is_name_byte byte) (with_name_byte byte (begins_with_name_byte text) (tokens_of text)) (with_other_byte byte (tokens_of text)) e
          ∙ (with_first byte text inner
          ∙ sym (ap (λ bytes. Word bytes ∷ tokens_after true (byte ∷ text)) (cond-true (is_name_byte byte) (byte ∷ first_name text) [] e)
          ∙ ap (λ tokens. Word (byte ∷ first_name text) ∷ tokens) (cond-true (is_name_byte byte) (tokens_after true text) (with_other_byte byte (tokens_after false text)) e))));
      none = λ e.
          tokens_cons byte text
          ∙ (cond-false (is_name_byte byte) (with_name_byte byte (begins_with_name_byte text) (tokens_of text)) (with_other_byte byte (tokens_of text)) e
          ∙ (ap (with_other_byte byte) (sym (from_forward text inner))
          ∙ sym (cond-false (is_name_byte byte) (tokens_after true text) (with_other_byte byte (tokens_after false text)) e)));
    }

pub tokens_are : (text : List ℕ) → tokens_after false text ≡ tokens_of text
tokens_are text = from_forward text (forward text)

-- a step of the loop
pub tokens_begin : (byte : ℕ) (text : List ℕ) → is_name_byte byte ≡ true
    → tokens_after false (byte ∷ text) ≡ Word (first_name (byte ∷ text)) ∷ tokens_after true text
tokens_begin byte text e =
    cond-true (is_name_byte byte) (Word (byte ∷ first_name text) ∷ tokens_after true text) (with_other_byte byte (tokens_after false text)) e
    ∙ sym (ap (λ bytes. Word bytes ∷ tokens_after true text) (cond-true (is_name_byte byte) (byte ∷ first_name text) [] e))

pub tokens_go_on : (byte : ℕ) (text : List ℕ) → is_name_byte byte ≡ true → tokens_after true (byte ∷ text) ≡ tokens_after true text
tokens_go_on byte text e = cond-true (is_name_byte byte) (tokens_after true text) (with_other_byte byte (tokens_after false text)) e

pub tokens_end : (byte : ℕ) (text : List ℕ) (in_name : Bool) → is_name_byte byte ≡ false
    → tokens_after in_name (byte ∷ text) ≡ with_other_byte byte (tokens_after false text)
tokens_end byte text true e = cond-false (is_name_byte byte) (tokens_after true text) (with_other_byte byte (tokens_after false text)) e
tokens_end byte text false e =
    cond-false (is_name_byte byte) (Word (byte ∷ first_name text) ∷ tokens_after true text) (with_other_byte byte (tokens_after false text)) e
