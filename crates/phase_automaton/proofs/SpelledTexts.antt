-- A text without a syntax fault has only names that a phase may have; and a text that spells an expression, with such names,
-- has no syntax fault. Both by recursion on the text, byte by byte: what the walk knows in front of a byte is what the tokens
-- that still come ask for.
use Rattle.std.proofs.Common.{◌≡◌, ℕ, ◌+◌, ◌-◌, ◌≤◌, ◌⊎◌, inl, inr, Bool, true, false, nat_lt, Some, None, List, [], ◌∷◌, length, refl, sym, ap, ◌∙◌, arith, subst}
use Rattle.std.specs.Prelude.{◌&&◌, ◌||◌, ◌==◌, not, All}
use Rattle.std.specs.List.{AllByRecursion, list_all}
use Rattle.std.proofs.lemmas.Bool.{false≢true, ltb-false, ltb-true, lt-ltb, and_parts, not-true, cond-true, cond-false, or_cases, and_right}
use Rattle.std.proofs.lemmas.List.Elements.{All-from_recursion, recursion_from_All}
use Rattle.lexicon_definitions.specs.Grammars.{Grammar}
use Rattle.lexicon_definitions.specs.GrammarTexts.{Token, Other, is_name_byte, is_blank, symbol_of, tokens_of}
use Rattle.lexicon_definitions.specs.GrammarFaults.{Walk, walk_start, is_small_letter, may_follow_item, may_stand, after_byte, fault_from, syntax_fault, PlacedName, names_from}
use Rattle.lexicon_definitions.specs.GrammarSyntax.{IsExpression}
use Rattle.lexicon_definitions.specs.Lexicons.{IsPhaseName}
use Rattle.lexicon_definitions.proofs.SpelledTokens.{tokens_stand, spelled_tokens_stand}
use Rattle.phase_automaton.specs.Names.{first_name}
use Rattle.phase_automaton.proofs.NamesForward.{bool_cases, names_after, names_are, names_begin, names_go_on, names_end}
use Rattle.phase_automaton.proofs.TokensForward.{with_other_byte, tokens_after, tokens_are, tokens_begin, tokens_go_on, tokens_end}
use Rattle.phase_automaton.proofs.Readings.{Symbol, blank, open_bracket, close_bracket, bar, star, plus, question, as_symbol, following, symbol_from, no_fault_step, name_walk, longer}

-- ---- bytes
-- what a byte that is of no name may be: one that may stand somewhere, or another, which is a token by itself
symbol_or_other : (byte : ℕ) → Symbol byte ⊎ ((is_blank byte ≡ false) × (symbol_of byte ≡ Other byte))
symbol_or_other byte = bool_cases (byte == 32)
    (λ e. inl (as_symbol 32 byte e blank))
    (λ no_blank. bool_cases (byte == 40)
    (λ e. inl (as_symbol 40 byte e open_bracket))
    (λ no_open. bool_cases (byte == 41)
    (λ e. inl (as_symbol 41 byte e close_bracket))
    (λ no_close. bool_cases (byte == 124)
    (λ e. inl (as_symbol 124 byte e bar))
    (λ no_bar. bool_cases (byte == 42)
    (λ e. inl (as_symbol 42 byte e star))
    (λ no_star. bool_cases (byte == 43)
    (λ e. inl (as_symbol 43 byte e plus))
    (λ no_plus. bool_cases (byte == 63)
    (λ e. inl (as_symbol 63 byte e question))
    (λ no_question. inr (no_blank, rw (no_open, no_close, no_bar, no_star, no_plus, no_question) refl))))))))

symbol_is_no_name : {byte : ℕ} → Symbol byte → is_name_byte byte ≡ false
symbol_is_no_name blank = refl
symbol_is_no_name open_bracket = refl
symbol_is_no_name close_bracket = refl
symbol_is_no_name bar = refl
symbol_is_no_name star = refl
symbol_is_no_name plus = refl
symbol_is_no_name question = refl

-- outside of a name the bytes that may stand are these
stands_outside : (walk : Walk) (byte : ℕ) → (is_name_byte byte && nat_lt 0 walk.name_length) ≡ false
    → may_stand walk byte ≡ (is_small_letter byte || is_blank byte || byte == 40 || may_follow_item walk byte)
stands_outside walk byte e =
    cond-false (is_name_byte byte && nat_lt 0 walk.name_length) (nat_lt walk.name_length 16)
    (is_small_letter byte || is_blank byte || byte == 40 || may_follow_item walk byte) e

stands_inside : (walk : Walk) (byte : ℕ) → is_name_byte byte ≡ true → nat_lt 0 walk.name_length ≡ true
    → may_stand walk byte ≡ nat_lt walk.name_length 16
stands_inside walk byte n e =
    cond-true (is_name_byte byte && nat_lt 0 walk.name_length) (nat_lt walk.name_length 16)
    (is_small_letter byte || is_blank byte || byte == 40 || may_follow_item walk byte) (rw (n, e) refl)

no_fault_more : (walk : Walk) (at byte : ℕ) (text : List ℕ) → may_stand walk byte ≡ true
    → fault_from (after_byte walk byte) (at + 1) text ≡ None → fault_from walk at (byte ∷ text) ≡ None
no_fault_more walk at byte text m e =
    cond-true (may_stand walk byte) (fault_from (after_byte walk byte) (at + 1) text) (Some at) m ∙ e

-- ---- names
-- a name of a phase, by its bytes
abbrev IsName : PlacedName → Type 0
IsName name = IsPhaseName name.bytes

name_bytes : (text : List ℕ) → list_all is_name_byte (first_name text) ≡ true
name_bytes [] = refl
name_bytes (byte ∷ text) = bool_cases (is_name_byte byte)
    (λ n. rw (cond-true (is_name_byte byte) (byte ∷ first_name text) [] n, n) (name_bytes text))
    (λ n. rw (cond-false (is_name_byte byte) (byte ∷ first_name text) [] n) refl)

-- of a byte of a name that may stand, where no name has begun
letter_begins : (walk : Walk) (byte : ℕ) → is_name_byte byte ≡ true → nat_lt 0 walk.name_length ≡ false → may_stand walk byte ≡ true
    → is_small_letter byte ≡ true
letter_begins walk byte n named m =
    elim (or_cases (is_small_letter byte || is_blank byte || byte == 40) (may_follow_item walk byte) (sym (stands_outside walk byte (and_right (is_name_byte byte) (nat_lt 0 walk.name_length) named)) ∙ m)) [
      | inl a ↦ elim (or_cases (is_small_letter byte || is_blank byte) (byte == 40) a) [
        | inl b ↦ elim (or_cases (is_small_letter byte) (is_blank byte) b) [
          | inl d ↦ d
          | inr d ↦ absurd (no_symbol (as_symbol 32 byte d blank))
        ]
        | inr b ↦ absurd (no_symbol (as_symbol 40 byte b open_bracket))
      ]
      | inr a ↦ absurd (no_symbol (following walk byte a))
    ]
  where
    no_symbol : Symbol byte → ⊥
    no_symbol s = false≢true (sym (symbol_is_no_name s) ∙ n)

first_is : (byte : ℕ) (text : List ℕ) → is_name_byte byte ≡ true → first_name (byte ∷ text) ≡ byte ∷ first_name text
first_is byte text n = cond-true (is_name_byte byte) (byte ∷ first_name text) [] n

-- the walk after a byte of a name
abbrev name_more : Walk → Walk
name_more walk = record { open_brackets = walk.open_brackets; needs_item = false; name_length = walk.name_length + 1 }

symbol_ends : (walk : Walk) {byte : ℕ} → Symbol byte → (after_byte walk byte).name_length ≡ 0
symbol_ends walk blank = refl
symbol_ends walk open_bracket = refl
symbol_ends walk close_bracket = refl
symbol_ends walk bar = refl
symbol_ends walk star = refl
symbol_ends walk plus = refl
symbol_ends walk question = refl

-- ---- a text without a fault has names of phases
-- the names that begin in the rest are names of phases, and one that has begun has 16 bytes at most
abbrev NamesStand : Bool → Walk → ℕ → List ℕ → Type 0
NamesStand in_name walk at text =
    AllByRecursion IsName (names_after in_name at text) × (in_name ≡ true → walk.name_length + length (first_name text) ≤ 16)

name_goes_on : (walk : Walk) (at byte : ℕ) (text : List ℕ) → is_name_byte byte ≡ true
    → NamesStand true (name_more walk) (at + 1) text → NamesStand true walk at (byte ∷ text)
name_goes_on walk at byte text n next = (
  subst (λ found. AllByRecursion IsName found) (sym (names_go_on at byte text n)) next.0,
  λ e. let more = next.1 refl in omega (arith, more, ap length (first_is byte text n)),
)

name_begins : (walk : Walk) (at byte : ℕ) (text : List ℕ) → is_name_byte byte ≡ true → nat_lt 0 walk.name_length ≡ false
    → may_stand walk byte ≡ true → NamesStand true (name_more walk) (at + 1) text → NamesStand false walk at (byte ∷ text)
name_begins walk at byte text n named m next =
    let more = next.1 refl in
    let is_name : IsPhaseName (byte ∷ first_name text) = (letter_begins walk byte n named m, omega (arith, more), name_bytes text) in (
      subst (λ found. AllByRecursion IsName found) (sym (names_begin at byte text n))
          (subst (λ bytes. IsPhaseName bytes) (sym (first_is byte text n)) is_name, next.0),
      λ e. cc,
    )

symbol_between : (in_name : Bool) (walk : Walk) (at byte : ℕ) (text : List ℕ) → is_name_byte byte ≡ false → walk.name_length ≤ 16
    → AllByRecursion IsName (names_after false (at + 1) text) → NamesStand in_name walk at (byte ∷ text)
symbol_between in_name walk at byte text n short next = (
  subst (λ found. AllByRecursion IsName found) (sym (names_end at byte text in_name n)) next,
  λ e. omega (arith, short, ap length (cond-false (is_name_byte byte) (byte ∷ first_name text) [] n)),
)

names_stand : (text : List ℕ) (walk : Walk) (at : ℕ) (in_name : Bool) → nat_lt 0 walk.name_length ≡ in_name → walk.name_length ≤ 16
    → fault_from walk at text ≡ None → NamesStand in_name walk at text
names_stand [] walk at in_name named short none = (tt, λ e. omega (arith, short))
names_stand (byte ∷ text) walk at in_name named short none =
    let f = no_fault_step walk at byte text none in
    bool_cases (is_name_byte byte)
    (λ n.
    let rest = ap (λ w. fault_from w (at + 1) text) (sym (name_walk walk byte n)) ∙ f.1 in
    letters in_name n f.0 named (λ room. names_stand text (name_more walk) (at + 1) true (longer walk.name_length) room rest))
    (λ n.
    let ends = symbol_ends walk (symbol_from walk byte n f.0) in
    symbol_between in_name walk at byte text n short
    (names_stand text (after_byte walk byte) (at + 1) false (ap (nat_lt 0) ends) (omega (arith, ends)) f.1).0)
  where
    letters : (in_name : Bool) → is_name_byte byte ≡ true → may_stand walk byte ≡ true → nat_lt 0 walk.name_length ≡ in_name
        → (walk.name_length + 1 ≤ 16 → NamesStand true (name_more walk) (at + 1) text) → NamesStand in_name walk at (byte ∷ text)
    letters true n m named next =
        let room = ltb-true walk.name_length 16 (sym (stands_inside walk byte n named) ∙ m) in
        name_goes_on walk at byte text n (next (omega (arith, room)))
    letters false n m named next =
        let none = ltb-false 0 walk.name_length named in
        name_begins walk at byte text n named m (next (omega (arith, none)))

pub names_of_phases : (text : List ℕ) → syntax_fault text ≡ None → All (λ name. IsPhaseName name.bytes) (names_from 0 text)
names_of_phases text none =
    All-from_recursion IsName (names_from 0 text)
    (subst (λ found. AllByRecursion IsName found) (names_are text 0) (names_stand text walk_start 0 false refl (omega arith) none).0)

-- ---- a text that spells an expression has no fault
-- what is known in the middle of a text
record Stands (in_name : Bool) (walk : Walk) (at : ℕ) (text : List ℕ) : Type 0 where
  tokens : tokens_stand walk.open_brackets walk.needs_item (tokens_after in_name text) ≡ true
  named : nat_lt 0 walk.name_length ≡ in_name
  name_is_item : in_name ≡ true → walk.needs_item ≡ false
  names : NamesStand in_name walk at text

-- a byte that may stand, and what is known after it
abbrev Goes : Bool → Walk → ℕ → ℕ → List ℕ → Type 0
Goes in_name walk at byte text = (may_stand walk byte ≡ true) × Stands in_name (after_byte walk byte) (at + 1) text

name_stands : (walk : Walk) (at byte : ℕ) (text : List ℕ) → is_name_byte byte ≡ true → Stands true walk at (byte ∷ text)
    → Goes true walk at byte text
name_stands walk at byte text n r =
    let room = r.names.1 refl in
    let longer_name = ap length (first_is byte text n) in
    let needs_none = r.name_is_item refl in (
      stands_inside walk byte n r.named ∙ lt-ltb walk.name_length 16 (omega (arith, room, longer_name)),
      subst (λ (w : Walk). Stands true w (at + 1) text) (sym (name_walk walk byte n))
          (record {
            tokens = ap (λ needs. tokens_stand walk.open_brackets needs (tokens_after true text)) (sym needs_none)
                ∙ (ap (tokens_stand walk.open_brackets walk.needs_item) (sym (tokens_go_on byte text n)) ∙ r.tokens);
            named = longer walk.name_length;
            name_is_item = λ e. refl;
            names = (
              subst (λ found. AllByRecursion IsName found) (names_go_on at byte text n) r.names.0,
              λ e. omega (arith, room, longer_name),
            );
          }),
    )

or_first : (a b c d : Bool) → a ≡ true → (a || b || c || d) ≡ true
or_first true b c d e = refl
or_first false b c d e = cc

first_stands : (walk : Walk) (at byte : ℕ) (text : List ℕ) → is_name_byte byte ≡ true → Stands false walk at (byte ∷ text)
    → Goes true walk at byte text
first_stands walk at byte text n r =
    let found = subst (λ found. AllByRecursion IsName found) (names_begin at byte text n) r.names.0 in
    let is_name : IsPhaseName (byte ∷ first_name text) = subst (λ bytes. IsPhaseName bytes) (first_is byte text n) found.0 in
    let none = ltb-false 0 walk.name_length r.named in (
      stands_outside walk byte (and_right (is_name_byte byte) (nat_lt 0 walk.name_length) r.named)
          ∙ or_first (is_small_letter byte) (is_blank byte) (byte == 40) (may_follow_item walk byte) is_name.0,
      subst (λ (w : Walk). Stands true w (at + 1) text) (sym (name_walk walk byte n))
          (record {
            tokens = ap (tokens_stand walk.open_brackets walk.needs_item) (sym (tokens_begin byte text n)) ∙ r.tokens;
            named = longer walk.name_length;
            name_is_item = λ e. refl;
            names = (found.1, λ e. let few = is_name.1 in omega (arith, none, few));
          }),
    )

and_true : (b : Bool) → b ≡ true → (b && true) ≡ true
and_true true e = refl
and_true false e = cc

-- what tokens tell of the symbol before them
symbol_stands : (walk : Walk) {byte : ℕ} (s : Symbol byte) (tokens : List Token)
    → tokens_stand walk.open_brackets walk.needs_item (with_other_byte byte tokens) ≡ true
    → (may_stand walk byte ≡ true) × (tokens_stand (after_byte walk byte).open_brackets (after_byte walk byte).needs_item tokens ≡ true)
symbol_stands walk blank tokens h = (refl, h)
symbol_stands walk open_bracket tokens h = (refl, h)
symbol_stands walk close_bracket tokens h = and_parts (not walk.needs_item && nat_lt 0 walk.open_brackets) (tokens_stand (walk.open_brackets - 1) false tokens) h
symbol_stands walk bar tokens h =
    let both = and_parts (not walk.needs_item) (tokens_stand walk.open_brackets true tokens) h in
    (and_true (not walk.needs_item) both.0, both.1)
symbol_stands walk star tokens h =
    let both = and_parts (not walk.needs_item) (tokens_stand walk.open_brackets false tokens) h in
    (and_true (not walk.needs_item) both.0, both.1)
symbol_stands walk plus tokens h =
    let both = and_parts (not walk.needs_item) (tokens_stand walk.open_brackets false tokens) h in
    (and_true (not walk.needs_item) both.0, both.1)
symbol_stands walk question tokens h =
    let both = and_parts (not walk.needs_item) (tokens_stand walk.open_brackets false tokens) h in
    (and_true (not walk.needs_item) both.0, both.1)

-- another byte is a token that may stand nowhere
other_falls : (open_brackets : ℕ) (needs_item : Bool) (byte : ℕ) (tokens : List Token) → is_blank byte ≡ false → symbol_of byte ≡ Other byte
    → tokens_stand open_brackets needs_item (with_other_byte byte tokens) ≡ false
other_falls open_brackets needs_item byte tokens no_blank other =
    ap (tokens_stand open_brackets needs_item) (cond-false (is_blank byte) tokens (symbol_of byte ∷ tokens) no_blank)
    ∙ ap (λ token. tokens_stand open_brackets needs_item (token ∷ tokens)) other

byte_between : (in_name : Bool) (walk : Walk) (at byte : ℕ) (text : List ℕ) → is_name_byte byte ≡ false → Stands in_name walk at (byte ∷ text)
    → Goes false walk at byte text
byte_between in_name walk at byte text n r =
    let tokens = ap (tokens_stand walk.open_brackets walk.needs_item) (sym (tokens_end byte text in_name n)) ∙ r.tokens in
    elim (symbol_or_other byte) [
      | inl s ↦
          let both = symbol_stands walk s (tokens_after false text) tokens in (
            both.0,
            record {
              tokens = both.1;
              named = ap (nat_lt 0) (symbol_ends walk s);
              name_is_item = λ e. cc;
              names = (subst (λ found. AllByRecursion IsName found) (names_end at byte text in_name n) r.names.0, λ e. cc);
            },
          )
      | inr o ↦ absurd (false≢true (sym (other_falls walk.open_brackets walk.needs_item byte (tokens_after false text) o.0 o.1) ∙ tokens))
    ]

step_stands : (in_name : Bool) (walk : Walk) (at byte : ℕ) (text : List ℕ) → is_name_byte byte ≡ true → Stands in_name walk at (byte ∷ text)
    → Goes true walk at byte text
step_stands true walk at byte text n r = name_stands walk at byte text n r
step_stands false walk at byte text n r = first_stands walk at byte text n r

no_fault : (text : List ℕ) (in_name : Bool) (walk : Walk) (at : ℕ) → Stands in_name walk at text → fault_from walk at text ≡ None
no_fault [] in_name walk at r =
    cond-false (walk.needs_item || nat_lt 0 walk.open_brackets) (Some at) None
    (not-true (walk.needs_item || nat_lt 0 walk.open_brackets) r.tokens)
no_fault (byte ∷ text) in_name walk at r = bool_cases (is_name_byte byte)
    (λ n.
    let s = step_stands in_name walk at byte text n r in
    no_fault_more walk at byte text s.0 (no_fault text true (after_byte walk byte) (at + 1) s.1))
    (λ n.
    let s = byte_between in_name walk at byte text n r in
    no_fault_more walk at byte text s.0 (no_fault text false (after_byte walk byte) (at + 1) s.1))

pub spelled_has_no_fault : (names : List (List ℕ)) (tree : Grammar) (text : List ℕ) → IsExpression names tree (tokens_of text)
    → All (λ name. IsPhaseName name.bytes) (names_from 0 text) → syntax_fault text ≡ None
spelled_has_no_fault names tree text spelled are_names =
    no_fault text false walk_start 0
    (record {
      tokens = ap (tokens_stand 0 true) (tokens_are text) ∙ spelled_tokens_stand names tree (tokens_of text) spelled;
      named = refl;
      name_is_item = λ e. cc;
      names = (
        subst (λ found. AllByRecursion IsName found) (sym (names_are text 0)) (recursion_from_All IsName (names_from 0 text) are_names),
        λ e. cc,
      );
    })
