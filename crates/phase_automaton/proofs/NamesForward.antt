-- The names of a text read from its front, against their definition from its end: by recursion on the text.
use Rattle.std.proofs.Common.{◌≡◌, ℕ, ◌+◌, Bool, true, false, cond, Option, Some, None, List, [], ◌∷◌, ◌++◌, ◌⊎◌, inl, inr, append_assoc, map, refl, sym, ap, ◌∙◌, position, unwrap_or, subst}
use Rattle.std.specs.List.{list_any}
use Rattle.std.specs.Str.{bytes_eq}
use Rattle.lexicon_definitions.specs.GrammarTexts.{is_name_byte, begins_with_name_byte}
use Rattle.lexicon_definitions.specs.GrammarFaults.{PlacedName, names_from, with_first_byte, first_unknown}
use Rattle.phase_automaton.specs.declared.position.Position.{Position}
use Rattle.phase_automaton.specs.Names.{first_name, position_of_name}
use Rattle.phase_automaton.proofs.PhaseNumbers.{any_from_position, none_from_position}
use Rattle.std.proofs.lemmas.Bool.{cond-true, cond-false}

-- the names that begin in the rest of a text, at this place, whether a name ends in front of it or not
abbrev pub names_after : Bool → ℕ → List ℕ → List PlacedName
names_after in_name at [] = []
names_after true at (byte ∷ text) =
    cond (is_name_byte byte) (names_after true (at + 1) text) (names_after false (at + 1) text)
names_after false at (byte ∷ text) =
    cond (is_name_byte byte) (record { at = at; bytes = byte ∷ first_name text } ∷ names_after true (at + 1) text) (names_after false (at + 1) text)

pub bool_cases : (b : Bool) {P : Type 0} → (b ≡ true → P) → (b ≡ false → P) → P
bool_cases true f g = f refl
bool_cases false f g = g refl

-- a text that begins with a name, and one that does not
record Forward (at : ℕ) (text : List ℕ) : Type 0 where
  begun : begins_with_name_byte text ≡ true → names_from at text ≡ record { at = at; bytes = first_name text } ∷ names_after true at text
  none : begins_with_name_byte text ≡ false → names_from at text ≡ names_after true at text

pub no_name : (text : List ℕ) → begins_with_name_byte text ≡ false → first_name text ≡ []
no_name [] e = refl
no_name (byte ∷ text) e = cond-false (is_name_byte byte) (byte ∷ first_name text) [] e

from_forward : (at : ℕ) (text : List ℕ) → Forward at text → names_after false at text ≡ names_from at text
from_forward at [] f = refl
from_forward at (byte ∷ text) f = bool_cases (is_name_byte byte)
    (λ e.
    cond-true (is_name_byte byte) (record { at = at; bytes = byte ∷ first_name text } ∷ names_after true (at + 1) text) (names_after false (at + 1) text) e
    ∙ sym (f.begun e
    ∙ (ap (λ bytes. record { at = at; bytes = bytes } ∷ names_after true at (byte ∷ text)) (cond-true (is_name_byte byte) (byte ∷ first_name text) [] e)
    ∙ ap (λ names. record { at = at; bytes = byte ∷ first_name text } ∷ names) (cond-true (is_name_byte byte) (names_after true (at + 1) text) (names_after false (at + 1) text) e))))
    (λ e.
    cond-false (is_name_byte byte) (record { at = at; bytes = byte ∷ first_name text } ∷ names_after true (at + 1) text) (names_after false (at + 1) text) e
    ∙ sym (f.none e ∙ cond-false (is_name_byte byte) (names_after true (at + 1) text) (names_after false (at + 1) text) e))

with_first : (at byte : ℕ) (text : List ℕ) → Forward (at + 1) text
    → with_first_byte at byte (begins_with_name_byte text) (names_from (at + 1) text)
    ≡ record { at = at; bytes = byte ∷ first_name text } ∷ names_after true (at + 1) text
with_first at byte text f = bool_cases (begins_with_name_byte text)
    (λ e. rw e (rw (f.begun e) refl))
    (λ e. rw e (rw (f.none e, no_name text e) refl))

forward : (text : List ℕ) (at : ℕ) → Forward at text
forward [] at = record { begun = λ e. cc; none = λ e. refl }
forward (byte ∷ text) at =
    let inner = forward text (at + 1) in
    record {
      begun = λ e.
          cond-true (is_name_byte byte) (with_first_byte at byte (begins_with_name_byte text) (names_from (at + 1) text)) (names_from (at + 1) text) e
          ∙ (with_first at byte text inner
          ∙ sym (ap (λ bytes. record { at = at; bytes = bytes } ∷ names_after true at (byte ∷ text)) (cond-true (is_name_byte byte) (byte ∷ first_name text) [] e)
          ∙ ap (λ names. record { at = at; bytes = byte ∷ first_name text } ∷ names) (cond-true (is_name_byte byte) (names_after true (at + 1) text) (names_after false (at + 1) text) e)));
      none = λ e.
          cond-false (is_name_byte byte) (with_first_byte at byte (begins_with_name_byte text) (names_from (at + 1) text)) (names_from (at + 1) text) e
          ∙ (sym (from_forward (at + 1) text inner)
          ∙ sym (cond-false (is_name_byte byte) (names_after true (at + 1) text) (names_after false (at + 1) text) e));
    }

pub names_are : (text : List ℕ) (at : ℕ) → names_after false at text ≡ names_from at text
names_are text at = from_forward at text (forward text at)

-- a step of the loop, at a byte that begins a name and at one that does not
pub names_begin : (at byte : ℕ) (text : List ℕ) → is_name_byte byte ≡ true
    → names_after false at (byte ∷ text) ≡ record { at = at; bytes = first_name (byte ∷ text) } ∷ names_after true (at + 1) text
names_begin at byte text e =
    cond-true (is_name_byte byte) (record { at = at; bytes = byte ∷ first_name text } ∷ names_after true (at + 1) text) (names_after false (at + 1) text) e
    ∙ sym (ap (λ bytes. record { at = at; bytes = bytes } ∷ names_after true (at + 1) text) (cond-true (is_name_byte byte) (byte ∷ first_name text) [] e))

pub names_go_on : (at byte : ℕ) (text : List ℕ) → is_name_byte byte ≡ true
    → names_after true at (byte ∷ text) ≡ names_after true (at + 1) text
names_go_on at byte text e = cond-true (is_name_byte byte) (names_after true (at + 1) text) (names_after false (at + 1) text) e

pub names_end : (at byte : ℕ) (text : List ℕ) (in_name : Bool) → is_name_byte byte ≡ false
    → names_after in_name at (byte ∷ text) ≡ names_after false (at + 1) text
names_end at byte text true e = cond-false (is_name_byte byte) (names_after true (at + 1) text) (names_after false (at + 1) text) e
names_end at byte text false e =
    cond-false (is_name_byte byte) (record { at = at; bytes = byte ∷ first_name text } ∷ names_after true (at + 1) text) (names_after false (at + 1) text) e

-- ---- the loop that reads the positions
-- a name of a phase begins here
pub positions_begin : (names : List (List ℕ)) (items all : List Position) (at byte phase : ℕ) (rest text : List ℕ)
    → rest ≡ byte ∷ text → is_name_byte byte ≡ true → Some phase ≡ position (bytes_eq (first_name rest)) names
    → items ++ map (position_of_name names) (names_after false at rest) ≡ all
    → (items ++ record { phase = phase; follow = record { bits = 0 } } ∷ []) ++ map (position_of_name names) (names_after true (at + 1) text) ≡ all
positions_begin names items all at byte phase rest text is e found h =
    append_assoc items (record { phase = phase; follow = record { bits = 0 } } ∷ []) (map (position_of_name names) (names_after true (at + 1) text))
    ∙ (ap (λ n. items ++ record { phase = n; follow = record { bits = 0 } } ∷ map (position_of_name names) (names_after true (at + 1) text)) (ap (λ o. unwrap_or o 0) found)
    ∙ (ap (λ bytes. items ++ position_of_name names (record { at = at; bytes = bytes }) ∷ map (position_of_name names) (names_after true (at + 1) text)) (ap first_name is)
    ∙ (ap (λ ns. items ++ map (position_of_name names) ns) (sym (names_begin at byte text e))
    ∙ (ap (λ r. items ++ map (position_of_name names) (names_after false at r)) (sym is) ∙ h))))

pub known_begin : (names : List (List ℕ)) (unknown : Option ℕ) (at byte phase : ℕ) (rest text : List ℕ)
    → rest ≡ byte ∷ text → is_name_byte byte ≡ true → Some phase ≡ position (bytes_eq (first_name rest)) names
    → first_unknown names (names_after false at rest) ≡ unknown → first_unknown names (names_after true (at + 1) text) ≡ unknown
known_begin names unknown at byte phase rest text is e found h =
    sym (cond-true (list_any (bytes_eq (first_name (byte ∷ text))) names) (first_unknown names (names_after true (at + 1) text)) (Some at)
    (subst (λ r. list_any (bytes_eq (first_name r)) names ≡ true) is (any_from_position (bytes_eq (first_name rest)) names phase [] found)))
    ∙ (ap (first_unknown names) (sym (names_begin at byte text e))
    ∙ (ap (λ r. first_unknown names (names_after false at r)) (sym is) ∙ h))

-- a name of no phase begins here
pub unknown_begins : (names : List (List ℕ)) (unknown : Option ℕ) (at byte : ℕ) (rest text : List ℕ)
    → rest ≡ byte ∷ text → is_name_byte byte ≡ true → None ≡ position (bytes_eq (first_name rest)) names
    → first_unknown names (names_after false at rest) ≡ unknown → unknown ≡ Some at
unknown_begins names unknown at byte rest text is e none h =
    sym h
    ∙ (ap (λ r. first_unknown names (names_after false at r)) is
    ∙ (ap (first_unknown names) (names_begin at byte text e)
    ∙ cond-false (list_any (bytes_eq (first_name (byte ∷ text))) names) (first_unknown names (names_after true (at + 1) text)) (Some at)
    (subst (λ r. list_any (bytes_eq (first_name r)) names ≡ false) is (none_from_position (bytes_eq (first_name rest)) names [] none))))

-- no name begins here
pub none_begins : (at byte : ℕ) (rest text : List ℕ) (in_name now : Bool) → rest ≡ byte ∷ text → now ≡ is_name_byte byte
    → (now ≡ false) ⊎ ((now ≡ true) × (in_name ≡ true)) → names_after in_name at rest ≡ names_after now (at + 1) text
none_begins at byte rest text in_name now is e (inl n) =
    ap (names_after in_name at) is ∙ (names_end at byte text in_name (sym e ∙ n) ∙ ap (λ b. names_after b (at + 1) text) (sym n))
none_begins at byte rest text in_name now is e (inr y) =
    ap (λ b. names_after b at rest) y.1
    ∙ (ap (names_after true at) is ∙ (names_go_on at byte text (sym e ∙ y.0) ∙ ap (λ b. names_after b (at + 1) text) (sym y.0)))
