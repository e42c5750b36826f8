-- A reader in the middle of a text without faults: by the byte that comes next, of those that may stand.
use Rattle.std.proofs.Common.{◌≡◌, ◌≢◌, ℕ, zero, suc, ◌+◌, ◌<◌, inl, inr, Bool, true, false, cond, nat_lt, Some, None, List, [], ◌∷◌, map, length, drop, get_or, refl, sym, ap, ◌∙◌, arith, subst}
use Rattle.std.specs.Prelude.{◌&&◌, ◌||◌, ◌==◌, not, nat_le}
use Rattle.std.proofs.lemmas.Bool.{false≢true, eqb-true, ltb-false, ltb-true, lt-ltb, and_parts, not-true, cond-true, cond-false, or_cases, or_parts, and_left}
use Rattle.lexicon_definitions.specs.Grammars.{Grammar, Name, AnyTimes, OnceOrMore, AtMostOnce}
use Rattle.lexicon_definitions.specs.GrammarTexts.{Level as OpenLevel, Word, is_name_byte, is_blank, symbol_of, tokens_of, empty_level, with_item, with_newest, after_token, after_tokens}
use Rattle.lexicon_definitions.specs.GrammarFaults.{Walk, walk_start, is_small_letter, may_follow_item, may_stand, after_symbol, after_byte, fault_from, syntax_fault, PlacedName, names_from}
use Rattle.phase_automaton.specs.declared.position.Position.{Position}
use Rattle.phase_automaton.specs.declared.reader.Reader.{Reader}
use Rattle.phase_automaton.specs.Names.{first_name, opening_position, position_of_name, positions_of}
use Rattle.std.proofs.lemmas.Nat.Bits.{bit_at-zero}
use Rattle.phase_automaton.specs.PositionSets.{HasPosition}
use Rattle.phase_automaton.specs.Pieces.{position_at, Follows}
use Rattle.phase_automaton.specs.Readers.{IsReader, CanRead}
use Rattle.phase_automaton.proofs.NamesForward.{bool_cases, names_after, names_are, names_begin, names_go_on, names_end}
use Rattle.phase_automaton.proofs.TokensForward.{with_other_byte, tokens_after, tokens_are, tokens_begin, tokens_go_on, tokens_end}

-- an item stands at the innermost level
abbrev pub HasItem : List OpenLevel → Type 0
HasItem [] = ⊥
HasItem (level ∷ levels) = level.items ≢ []

-- the reader stands in a text before this rest, and reads the levels that come at the end
pub record IsReading (names : List (List ℕ)) (all positions : List Position) (reader : Reader) (in_name : Bool) (rest : List ℕ)
    (end : List OpenLevel) : Type 0 where
  pub levels : List OpenLevel
  pub walk : Walk
  pub at : ℕ
  pub reads : IsReader all positions reader levels
  pub goes_on : after_tokens names (tokens_after in_name rest) levels ≡ end
  pub no_fault : fault_from walk at rest ≡ None
  pub item : walk.needs_item ≡ false → HasItem levels
  pub depth : length levels ≡ walk.open_brackets + 1
  pub named : nat_lt 0 walk.name_length ≡ in_name
  pub name_is_item : in_name ≡ true → walk.needs_item ≡ false
  pub left : drop reader.met all ≡ map (position_of_name names) (names_after in_name at rest)

-- ---- what a byte may be
pub no_fault_step : (walk : Walk) (at byte : ℕ) (text : List ℕ) → fault_from walk at (byte ∷ text) ≡ None
    → (may_stand walk byte ≡ true) × (fault_from (after_byte walk byte) (at + 1) text ≡ None)
no_fault_step walk at byte text e = bool_cases (may_stand walk byte)
    (λ m. (m, sym (cond-true (may_stand walk byte) (fault_from (after_byte walk byte) (at + 1) text) (Some at) m) ∙ e))
    (λ m. let never = sym (cond-false (may_stand walk byte) (fault_from (after_byte walk byte) (at + 1) text) (Some at) m) ∙ e in cc)

-- the bytes that may stand outside of names
pub data Symbol : ℕ → Type 0 where
  blank : Symbol 32
  open_bracket : Symbol 40
  close_bracket : Symbol 41
  bar : Symbol 124
  star : Symbol 42
  plus : Symbol 43
  question : Symbol 63

pub as_symbol : (known byte : ℕ) → (byte == known) ≡ true → Symbol known → Symbol byte
as_symbol known byte e s = subst (λ b. Symbol b) (sym (eqb-true byte known e)) s

pub following : (walk : Walk) (byte : ℕ) → may_follow_item walk byte ≡ true → Symbol byte
following walk byte h =
    elim (or_cases (byte == 124 || byte == 42 || byte == 43 || byte == 63) (byte == 41 && nat_lt 0 walk.open_brackets) (and_parts (not walk.needs_item) _ h).1) [
      | inl a ↦ elim (or_cases (byte == 124 || byte == 42 || byte == 43) (byte == 63) a) [
        | inl b ↦ elim (or_cases (byte == 124 || byte == 42) (byte == 43) b) [
          | inl d ↦ elim (or_cases (byte == 124) (byte == 42) d) [
            | inl e ↦ as_symbol 124 byte e bar
            | inr e ↦ as_symbol 42 byte e star
          ]
          | inr d ↦ as_symbol 43 byte d plus
        ]
        | inr b ↦ as_symbol 63 byte b question
      ]
      | inr a ↦ as_symbol 41 byte (and_parts (byte == 41) (nat_lt 0 walk.open_brackets) a).0 close_bracket
    ]

no_letter : (byte : ℕ) → is_name_byte byte ≡ false → is_small_letter byte ≡ true → ⊥
no_letter byte n e =
    let digits = (or_parts ((nat_le 97 byte && nat_le byte 122) || (nat_le 48 byte && nat_le byte 57)) (byte == 95) n).0 in
    let letters = (or_parts (nat_le 97 byte && nat_le byte 122) (nat_le 48 byte && nat_le byte 57) digits).0 in
    false≢true (sym letters ∙ e)

pub symbol_from : (walk : Walk) (byte : ℕ) → is_name_byte byte ≡ false → may_stand walk byte ≡ true → Symbol byte
symbol_from walk byte n m =
    let outside = sym (cond-false (is_name_byte byte && nat_lt 0 walk.name_length) (nat_lt walk.name_length 16)
    (is_small_letter byte || is_blank byte || byte == 40 || may_follow_item walk byte)
    (and_left (is_name_byte byte) (nat_lt 0 walk.name_length) n)) ∙ m in
    elim (or_cases (is_small_letter byte || is_blank byte || byte == 40) (may_follow_item walk byte) outside) [
      | inl a ↦ elim (or_cases (is_small_letter byte || is_blank byte) (byte == 40) a) [
        | inl b ↦ elim (or_cases (is_small_letter byte) (is_blank byte) b) [
          | inl d ↦ absurd (no_letter byte n d)
          | inr d ↦ as_symbol 32 byte d blank
        ]
        | inr b ↦ as_symbol 40 byte b open_bracket
      ]
      | inr a ↦ following walk byte a
    ]

-- ---- one symbol more
kept_item : (change : Grammar → Grammar) (items : List Grammar) → items ≢ [] → with_newest change items ≢ []
kept_item change [] h e = h refl
kept_item change (item ∷ items) h e = cc

pub record Step (names : List (List ℕ)) (byte : ℕ) (levels : List OpenLevel) (walk : Walk) (text : List ℕ) : Type 0 where
  pub can : CanRead (symbol_of byte) levels
  pub item : (after_byte walk byte).needs_item ≡ false → HasItem (after_token names (symbol_of byte) levels)
  pub depth : length (after_token names (symbol_of byte) levels) ≡ (after_byte walk byte).open_brackets + 1
  pub named : nat_lt 0 (after_byte walk byte).name_length ≡ false
  pub tokens : after_tokens names (with_other_byte byte (tokens_after false text)) levels
      ≡ after_tokens names (tokens_after false text) (after_token names (symbol_of byte) levels)

no_levels : {A : Type 0} (n : ℕ) → 0 ≡ n + 1 → A
no_levels n e = absurd (omega (arith, e))

pub close_parts : (walk : Walk) → may_stand walk 41 ≡ true → (walk.needs_item ≡ false) × (0 < walk.open_brackets)
close_parts walk m =
    let both = and_parts (not walk.needs_item) (nat_lt 0 walk.open_brackets) m in
    (not-true walk.needs_item both.0, ltb-true 0 walk.open_brackets both.1)

pub needed_none : (walk : Walk) → not walk.needs_item && true ≡ true → walk.needs_item ≡ false
needed_none walk m = not-true walk.needs_item (and_parts (not walk.needs_item) true m).0

pub step_of : (names : List (List ℕ)) {byte : ℕ} (s : Symbol byte) (levels : List OpenLevel) (walk : Walk) (text : List ℕ)
    → (walk.needs_item ≡ false → HasItem levels) → length levels ≡ walk.open_brackets + 1 → may_stand walk byte ≡ true
    → Step names byte levels walk text
step_of names blank [] walk text item depth m = no_levels walk.open_brackets depth
step_of names blank (level ∷ levels) walk text item depth m =
    record { can = tt; item = item; depth = depth; named = refl; tokens = refl }
step_of names open_bracket [] walk text item depth m = no_levels walk.open_brackets depth
step_of names open_bracket (level ∷ levels) walk text item depth m =
    record { can = tt; item = λ e. cc; depth = omega (arith, depth); named = refl; tokens = refl }
step_of names close_bracket [] walk text item depth m = no_levels walk.open_brackets depth
step_of names close_bracket (level ∷ []) walk text item depth m =
    absurd (let p = close_parts walk m in omega (arith, p.1, depth))
step_of names close_bracket (level ∷ outer ∷ levels) walk text item depth m =
    let p = close_parts walk m in
    record { can = item p.0; item = λ e k. cc; depth = omega (arith, p.1, depth); named = refl; tokens = refl }
step_of names bar [] walk text item depth m = no_levels walk.open_brackets depth
step_of names bar (level ∷ levels) walk text item depth m =
    record { can = item (needed_none walk m); item = λ e. cc; depth = depth; named = refl; tokens = refl }
step_of names star [] walk text item depth m = no_levels walk.open_brackets depth
step_of names star (level ∷ levels) walk text item depth m =
    record { can = tt; item = λ e. kept_item AnyTimes level.items (item (needed_none walk m)); depth = depth; named = refl; tokens = refl }
step_of names plus [] walk text item depth m = no_levels walk.open_brackets depth
step_of names plus (level ∷ levels) walk text item depth m =
    record { can = tt; item = λ e. kept_item OnceOrMore level.items (item (needed_none walk m)); depth = depth; named = refl; tokens = refl }
step_of names question [] walk text item depth m = no_levels walk.open_brackets depth
step_of names question (level ∷ levels) walk text item depth m =
    record { can = tt; item = λ e. kept_item AtMostOnce level.items (item (needed_none walk m)); depth = depth; named = refl; tokens = refl }

pub symbol_reading : (names : List (List ℕ)) (all old new : List Position) (before after : Reader) (in_name now : Bool) (byte : ℕ)
    (text : List ℕ) (end : List OpenLevel) → now ≡ false → is_name_byte byte ≡ false → after.met ≡ before.met
    → ((levels : List OpenLevel) → CanRead (symbol_of byte) levels → IsReader all old before levels
    → IsReader all new after (after_token names (symbol_of byte) levels))
    → IsReading names all old before in_name (byte ∷ text) end → IsReading names all new after now text end
symbol_reading names all old new before after in_name now byte text end now_is n met step r =
    let f = no_fault_step r.walk r.at byte text r.no_fault in
    let s = step_of names (symbol_from r.walk byte n f.0) r.levels r.walk text r.item r.depth f.0 in
    subst (λ b. IsReading names all new after b text end) (sym now_is)
    (record {
      levels = after_token names (symbol_of byte) r.levels;
      walk = after_byte r.walk byte;
      at = r.at + 1;
      reads = step r.levels s.can r.reads;
      goes_on = sym s.tokens ∙ (ap (λ tokens. after_tokens names tokens r.levels) (sym (tokens_end byte text in_name n)) ∙ r.goes_on);
      no_fault = f.1;
      item = s.item;
      depth = s.depth;
      named = s.named;
      name_is_item = λ e. cc;
      left = ap (λ k. drop k all) met ∙ (r.left ∙ ap (map (position_of_name names)) (names_end r.at byte text in_name n));
    })

-- ---- one byte of a name more
pub name_walk : (walk : Walk) (byte : ℕ) → is_name_byte byte ≡ true
    → after_byte walk byte ≡ record { open_brackets = walk.open_brackets; needs_item = false; name_length = walk.name_length + 1 }
name_walk walk byte e =
    cond-true (is_name_byte byte) (record { open_brackets = walk.open_brackets; needs_item = false; name_length = walk.name_length + 1 })
    (cond (is_blank byte) (record { open_brackets = walk.open_brackets; needs_item = walk.needs_item; name_length = 0 }) (after_symbol walk byte)) e

pub longer : (n : ℕ) → nat_lt 0 (n + 1) ≡ true
longer n = lt-ltb 0 (n + 1) (omega arith)

pub within_reading : (names : List (List ℕ)) (all positions : List Position) (reader : Reader) (now : Bool) (byte : ℕ)
    (text : List ℕ) (end : List OpenLevel) → now ≡ true → is_name_byte byte ≡ true
    → IsReading names all positions reader true (byte ∷ text) end → IsReading names all positions reader now text end
within_reading names all positions reader now byte text end now_is n r =
    let f = no_fault_step r.walk r.at byte text r.no_fault in
    subst (λ b. IsReading names all positions reader b text end) (sym now_is)
    (record {
      levels = r.levels;
      walk = record { open_brackets = r.walk.open_brackets; needs_item = false; name_length = r.walk.name_length + 1 };
      at = r.at + 1;
      reads = r.reads;
      goes_on = ap (λ tokens. after_tokens names tokens r.levels) (sym (tokens_go_on byte text n)) ∙ r.goes_on;
      no_fault = ap (λ w. fault_from w (r.at + 1) text) (sym (name_walk r.walk byte n)) ∙ f.1;
      item = λ e. r.item (r.name_is_item refl);
      depth = r.depth;
      named = longer r.walk.name_length;
      name_is_item = λ e. refl;
      left = r.left ∙ ap (map (position_of_name names)) (names_go_on r.at byte text n);
    })

-- ---- a name begins
-- the next position is that of the name
head_of_drop : {A : Type 0} (xs : List A) (n : ℕ) (y : A) (ys : List A) (d : A) → drop n xs ≡ y ∷ ys
    → (n < length xs) × (get_or xs n d ≡ y) × (drop (n + 1) xs ≡ ys)
head_of_drop [] zero y ys d e = cc
head_of_drop [] (suc n) y ys d e = cc
head_of_drop (x ∷ xs) zero y ys d e = (omega arith, cc, cc)
head_of_drop (x ∷ xs) (suc n) y ys d e =
    let h = head_of_drop xs n y ys d e in
    let k : suc n + 1 ≡ suc (n + 1) = omega arith in
    (omega (arith, h.0), h.1, ap (λ m. drop m (x ∷ xs)) k ∙ h.2)

next_name : (names : List (List ℕ)) (all positions : List Position) (reader : Reader) (byte : ℕ) (text : List ℕ) (end : List OpenLevel)
    → is_name_byte byte ≡ true → (r : IsReading names all positions reader false (byte ∷ text) end)
    → (reader.met < length all)
    × (position_at all reader.met ≡ position_of_name names (record { at = r.at; bytes = first_name (byte ∷ text) }))
    × (drop (reader.met + 1) all ≡ map (position_of_name names) (names_after true (r.at + 1) text))
next_name names all positions reader byte text end n r =
    head_of_drop all reader.met _ _ _ (r.left ∙ ap (map (position_of_name names)) (names_begin r.at byte text n))

pub name_within : (names : List (List ℕ)) (all positions : List Position) (reader : Reader) (byte : ℕ) (text : List ℕ) (end : List OpenLevel)
    → is_name_byte byte ≡ true → IsReading names all positions reader false (byte ∷ text) end → reader.met < length positions
name_within names all positions reader byte text end n r =
    let h = next_name names all positions reader byte text end n r in
    omega (arith, h.0, r.reads.count)

pub name_reading : (names : List (List ℕ)) (all old new : List Position) (before after : Reader) (now : Bool) (byte : ℕ)
    (text : List ℕ) (end : List OpenLevel) → now ≡ true → is_name_byte byte ≡ true → after.met ≡ before.met + 1
    → ((position : ℕ) → Follows all before.met position → ⊥)
    → ((level : OpenLevel) (levels : List OpenLevel) → ((position : ℕ) → Follows all before.met position → ⊥)
    → IsReader all old before (level ∷ levels)
    → IsReader all new after (with_item (Name (position_at all before.met).phase) level ∷ levels))
    → IsReading names all old before false (byte ∷ text) end → IsReading names all new after now text end
name_reading names all old new before after now byte text end now_is n met none step r =
    let f = no_fault_step r.walk r.at byte text r.no_fault in
    let next = next_name names all old before byte text end n r in
    go r.levels r.reads r.depth (ap (λ tokens. after_tokens names tokens r.levels) (sym (tokens_begin byte text n)) ∙ r.goes_on) next.1
  where
    go : (levels : List OpenLevel) → IsReader all old before levels → length levels ≡ r.walk.open_brackets + 1
        → after_tokens names (Word (first_name (byte ∷ text)) ∷ tokens_after true text) levels ≡ end
        → position_at all before.met ≡ position_of_name names (record { at = r.at; bytes = first_name (byte ∷ text) })
        → IsReading names all new after now text end
    go [] reads depth goes_on position = no_levels r.walk.open_brackets depth
    go (level ∷ levels) reads depth goes_on position =
        let f = no_fault_step r.walk r.at byte text r.no_fault in
        let next = next_name names all old before byte text end n r in
        subst (λ b. IsReading names all new after b text end) (sym now_is)
        (record {
          levels = with_item (Name (position_at all before.met).phase) level ∷ levels;
          walk = record { open_brackets = r.walk.open_brackets; needs_item = false; name_length = r.walk.name_length + 1 };
          at = r.at + 1;
          reads = step level levels none reads;
          goes_on = ap (λ (p : Position). after_tokens names (tokens_after true text) (with_item (Name p.phase) level ∷ levels)) position ∙ goes_on;
          no_fault = ap (λ w. fault_from w (r.at + 1) text) (sym (name_walk r.walk byte n)) ∙ f.1;
          item = λ e k. cc;
          depth = depth;
          named = longer r.walk.name_length;
          name_is_item = λ e. refl;
          left = ap (λ k. drop k all) met ∙ next.2;
        })

-- ---- the beginning and the end
pub start_reading : (names : List (List ℕ)) (text : List ℕ) (reader : Reader) → reader.met ≡ 1 → syntax_fault text ≡ None
    → IsReader (positions_of names text) (positions_of names text) reader (empty_level ∷ [])
    → IsReading names (positions_of names text) (positions_of names text) reader false text (after_tokens names (tokens_of text) (empty_level ∷ []))
start_reading names text reader met fault reads = record {
  levels = empty_level ∷ [];
  walk = walk_start;
  at = 0;
  reads = reads;
  goes_on = ap (λ tokens. after_tokens names tokens (empty_level ∷ [])) (tokens_are text);
  no_fault = fault;
  item = λ e. cc;
  depth = refl;
  named = refl;
  name_is_item = λ e. cc;
  left = ap (λ k. drop k (positions_of names text)) met ∙ ap (map (position_of_name names)) (sym (names_are text 0));
}

-- at the end one level stands open, and it has an item
pub record Ended (all positions : List Position) (reader : Reader) (end : List OpenLevel) : Type 0 where
  pub level : OpenLevel
  pub item : level.items ≢ []
  pub reads : IsReader all positions reader (level ∷ [])
  pub end_is : end ≡ level ∷ []

pub end_reading : (names : List (List ℕ)) (all positions : List Position) (reader : Reader) (in_name : Bool) (end : List OpenLevel)
    → IsReading names all positions reader in_name [] end → Ended all positions reader end
end_reading names all positions reader in_name end r =
    let none = ended (r.walk.needs_item || nat_lt 0 r.walk.open_brackets) r.at r.no_fault in
    let both = or_parts r.walk.needs_item (nat_lt 0 r.walk.open_brackets) none in
    go r.levels r.reads (r.item both.0) (omega (arith, r.depth, ltb-false 0 r.walk.open_brackets both.1)) (levels_end in_name r.levels r.goes_on)
  where
    ended : (b : Bool) (at : ℕ) → cond b (Some at) None ≡ None → b ≡ false
    ended true at e = cc
    ended false at e = refl

    levels_end : (in_name : Bool) (levels : List OpenLevel) → after_tokens names (tokens_after in_name []) levels ≡ end → end ≡ levels
    levels_end in_name levels e = sym e

    go : (levels : List OpenLevel) → IsReader all positions reader levels → HasItem levels → length levels ≡ 1 → end ≡ levels
        → Ended all positions reader end
    go [] reads item one is = absurd item
    go (level ∷ []) reads item one is = record { level = level; item = item; reads = reads; end_is = is }
    go (level ∷ outer ∷ levels) reads item one is = absurd (omega (arith, one))

-- nothing follows a position whose names were only read
mapped_follows : (names : List (List ℕ)) (found : List PlacedName) (k position : ℕ)
    → HasPosition (get_or (map (position_of_name names) found) k opening_position).follow position → ⊥
mapped_follows names [] k position h = let z = bit_at-zero position in omega (arith, h, z)
mapped_follows names (name ∷ found) zero position h = let z = bit_at-zero position in omega (arith, h, z)
mapped_follows names (name ∷ found) (suc k) position h = mapped_follows names found k position h

pub none_follows : (names : List (List ℕ)) (text : List ℕ) (before position : ℕ) → Follows (positions_of names text) before position → ⊥
none_follows names text zero position h = let z = bit_at-zero position in omega (arith, h, z)
none_follows names text (suc before) position h = mapped_follows names (names_from 0 text) before position h
