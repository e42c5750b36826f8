-- A text without a syntax fault spells its tree: byte by byte, what was read spells the levels that stand open.
use Rattle.std.proofs.Common.{◌≡◌, ℕ, ◌+◌, Bool, true, false, nat_lt, cond, Some, None, List, [], ◌∷◌, ◌++◌, length, refl, sym, ap, ◌∙◌, append_assoc, subst, arith}
use Rattle.std.specs.Prelude.{◌||◌}
use Rattle.std.proofs.lemmas.List.{append-nil}
use Rattle.std.proofs.lemmas.Bool.{ltb-false, or_parts}
use Rattle.lexicon_definitions.specs.Grammars.{Name, AnyTimes, OnceOrMore, AtMostOnce}
use Rattle.lexicon_definitions.specs.GrammarTexts.{Level as OpenLevel, Token, Word, Open, Close, Bar, Star, Plus, Question, is_name_byte, symbol_of, tokens_of, phase_named, empty_level, with_item, outermost_tree, after_token, after_tokens, grammar_of}
use Rattle.lexicon_definitions.specs.GrammarFaults.{Walk, walk_start, may_stand, after_byte, fault_from, syntax_fault}
use Rattle.lexicon_definitions.specs.GrammarSyntax.{IsExpression, name, any_times, once_or_more, at_most_once}
use Rattle.lexicon_definitions.proofs.GrammarSpelling.{LevelsSpell, level_expression, spell_item, spell_repetition, spell_open, spell_bar, spell_close}
use Rattle.phase_automaton.specs.Names.{first_name}
use Rattle.phase_automaton.proofs.NamesForward.{bool_cases}
use Rattle.phase_automaton.proofs.TokensForward.{with_other_byte, tokens_after, tokens_are, tokens_begin, tokens_go_on, tokens_end}
use Rattle.phase_automaton.proofs.Readings.{HasItem, Symbol, blank, open_bracket, close_bracket, bar, star, plus, question, symbol_from, no_fault_step, close_parts, needed_none, name_walk, step_of}

-- what is known in the middle of a text
record IsSpelling (names : List (List ℕ)) (in_name : Bool) (rest : List ℕ) (end : List OpenLevel) (all : List Token) : Type 0 where
  levels : List OpenLevel
  done : List Token
  walk : Walk
  at : ℕ
  spelled : LevelsSpell names levels done
  goes_on : after_tokens names (tokens_after in_name rest) levels ≡ end
  all_is : done ++ tokens_after in_name rest ≡ all
  no_fault : fault_from walk at rest ≡ None
  item : walk.needs_item ≡ false → HasItem levels
  depth : length levels ≡ walk.open_brackets + 1
  name_is_item : in_name ≡ true → walk.needs_item ≡ false

-- ---- a symbol
-- what was read with a symbol more; a blank is no symbol
record Spelled (names : List (List ℕ)) (byte : ℕ) (levels : List OpenLevel) (done : List Token) : Type 0 where
  more : List Token
  spelled : LevelsSpell names (after_token names (symbol_of byte) levels) more
  more_is : (tokens : List Token) → more ++ tokens ≡ done ++ with_other_byte byte tokens

symbol_spells : (names : List (List ℕ)) {byte : ℕ} (s : Symbol byte) (levels : List OpenLevel) (walk : Walk) (done : List Token)
    → (walk.needs_item ≡ false → HasItem levels) → length levels ≡ walk.open_brackets + 1 → may_stand walk byte ≡ true
    → LevelsSpell names levels done → Spelled names byte levels done
symbol_spells names s [] walk done item depth m h = absurd (omega (arith, depth))
symbol_spells names blank (level ∷ levels) walk done item depth m h =
    record { more = done; spelled = h; more_is = λ tokens. refl }
symbol_spells names open_bracket (level ∷ levels) walk done item depth m h =
    record {
      more = done ++ Open ∷ [];
      spelled = spell_open names (level ∷ levels) (λ e. cc) done h;
      more_is = λ tokens. append_assoc done (Open ∷ []) tokens;
    }
symbol_spells names close_bracket (level ∷ []) walk done item depth m h =
    absurd (let p = close_parts walk m in omega (arith, p.1, depth))
symbol_spells names close_bracket (level ∷ outer ∷ levels) walk done item depth m h =
    record {
      more = done ++ Close ∷ [];
      spelled = spell_close names level outer (item (close_parts walk m).0) levels done h;
      more_is = λ tokens. append_assoc done (Close ∷ []) tokens;
    }
symbol_spells names bar (level ∷ levels) walk done item depth m h =
    record {
      more = done ++ Bar ∷ [];
      spelled = spell_bar names level (item (needed_none walk m)) levels done h;
      more_is = λ tokens. append_assoc done (Bar ∷ []) tokens;
    }
symbol_spells names star (level ∷ levels) walk done item depth m h =
    record {
      more = done ++ Star ∷ [];
      spelled = spell_repetition names AnyTimes Star (λ tree tokens k. any_times k) level (item (needed_none walk m)) levels done h;
      more_is = λ tokens. append_assoc done (Star ∷ []) tokens;
    }
symbol_spells names plus (level ∷ levels) walk done item depth m h =
    record {
      more = done ++ Plus ∷ [];
      spelled = spell_repetition names OnceOrMore Plus (λ tree tokens k. once_or_more k) level (item (needed_none walk m)) levels done h;
      more_is = λ tokens. append_assoc done (Plus ∷ []) tokens;
    }
symbol_spells names question (level ∷ levels) walk done item depth m h =
    record {
      more = done ++ Question ∷ [];
      spelled = spell_repetition names AtMostOnce Question (λ tree tokens k. at_most_once k) level (item (needed_none walk m)) levels done h;
      more_is = λ tokens. append_assoc done (Question ∷ []) tokens;
    }

-- ---- one byte more
symbol_byte : (names : List (List ℕ)) (in_name : Bool) (byte : ℕ) (text : List ℕ) (end : List OpenLevel) (all : List Token)
    → is_name_byte byte ≡ false → IsSpelling names in_name (byte ∷ text) end all → IsSpelling names false text end all
symbol_byte names in_name byte text end all n r =
    let f = no_fault_step r.walk r.at byte text r.no_fault in
    let s = step_of names (symbol_from r.walk byte n f.0) r.levels r.walk text r.item r.depth f.0 in
    let d = symbol_spells names (symbol_from r.walk byte n f.0) r.levels r.walk r.done r.item r.depth f.0 r.spelled in
    record {
      levels = after_token names (symbol_of byte) r.levels;
      done = d.more;
      walk = after_byte r.walk byte;
      at = r.at + 1;
      spelled = d.spelled;
      goes_on = sym s.tokens ∙ (ap (λ tokens. after_tokens names tokens r.levels) (sym (tokens_end byte text in_name n)) ∙ r.goes_on);
      all_is = d.more_is (tokens_after false text) ∙ (ap (λ tokens. r.done ++ tokens) (sym (tokens_end byte text in_name n)) ∙ r.all_is);
      no_fault = f.1;
      item = s.item;
      depth = s.depth;
      name_is_item = λ e. cc;
    }

name_goes_on : (names : List (List ℕ)) (byte : ℕ) (text : List ℕ) (end : List OpenLevel) (all : List Token)
    → is_name_byte byte ≡ true → IsSpelling names true (byte ∷ text) end all → IsSpelling names true text end all
name_goes_on names byte text end all n r =
    let f = no_fault_step r.walk r.at byte text r.no_fault in
    record {
      levels = r.levels;
      done = r.done;
      walk = record { open_brackets = r.walk.open_brackets; needs_item = false; name_length = r.walk.name_length + 1 };
      at = r.at + 1;
      spelled = r.spelled;
      goes_on = ap (λ tokens. after_tokens names tokens r.levels) (sym (tokens_go_on byte text n)) ∙ r.goes_on;
      all_is = ap (λ tokens. r.done ++ tokens) (sym (tokens_go_on byte text n)) ∙ r.all_is;
      no_fault = ap (λ w. fault_from w (r.at + 1) text) (sym (name_walk r.walk byte n)) ∙ f.1;
      item = λ e. r.item (r.name_is_item refl);
      depth = r.depth;
      name_is_item = λ e. refl;
    }

name_begins : (names : List (List ℕ)) (byte : ℕ) (text : List ℕ) (end : List OpenLevel) (all : List Token)
    → is_name_byte byte ≡ true → IsSpelling names false (byte ∷ text) end all → IsSpelling names true text end all
name_begins names byte text end all n r =
    go r.levels r.spelled r.depth (ap (λ tokens. after_tokens names tokens r.levels) (sym (tokens_begin byte text n)) ∙ r.goes_on)
  where
    go : (levels : List OpenLevel) → LevelsSpell names levels r.done → length levels ≡ r.walk.open_brackets + 1
        → after_tokens names (Word (first_name (byte ∷ text)) ∷ tokens_after true text) levels ≡ end
        → IsSpelling names true text end all
    go [] spelled depth goes_on = absurd (omega (arith, depth))
    go (level ∷ levels) spelled depth goes_on =
        let f = no_fault_step r.walk r.at byte text r.no_fault in
        record {
          levels = with_item (Name (phase_named names (first_name (byte ∷ text)))) level ∷ levels;
          done = r.done ++ Word (first_name (byte ∷ text)) ∷ [];
          walk = record { open_brackets = r.walk.open_brackets; needs_item = false; name_length = r.walk.name_length + 1 };
          at = r.at + 1;
          spelled = spell_item names (Name (phase_named names (first_name (byte ∷ text)))) (Word (first_name (byte ∷ text)) ∷ []) (name (first_name (byte ∷ text))) level levels r.done spelled;
          goes_on = goes_on;
          all_is = append_assoc r.done (Word (first_name (byte ∷ text)) ∷ []) (tokens_after true text)
              ∙ (ap (λ tokens. r.done ++ tokens) (sym (tokens_begin byte text n)) ∙ r.all_is);
          no_fault = ap (λ w. fault_from w (r.at + 1) text) (sym (name_walk r.walk byte n)) ∙ f.1;
          item = λ e k. cc;
          depth = depth;
          name_is_item = λ e. refl;
        }

name_byte : (names : List (List ℕ)) (in_name : Bool) (byte : ℕ) (text : List ℕ) (end : List OpenLevel) (all : List Token)
    → is_name_byte byte ≡ true → IsSpelling names in_name (byte ∷ text) end all → IsSpelling names true text end all
name_byte names true byte text end all n r = name_goes_on names byte text end all n r
name_byte names false byte text end all n r = name_begins names byte text end all n r

-- ---- the end
end_spells : (names : List (List ℕ)) (in_name : Bool) (end : List OpenLevel) (all : List Token)
    → IsSpelling names in_name [] end all → IsExpression names (outermost_tree end) all
end_spells names in_name end all r =
    let none = not_open (r.walk.needs_item || nat_lt 0 r.walk.open_brackets) r.at r.no_fault in
    let both = or_parts r.walk.needs_item (nat_lt 0 r.walk.open_brackets) none in
    go r.levels (r.item both.0) (omega (arith, r.depth, ltb-false 0 r.walk.open_brackets both.1)) r.spelled (sym (same in_name r.levels r.goes_on))
  where
    not_open : (b : Bool) (at : ℕ) → cond b (Some at) None ≡ None → b ≡ false
    not_open true at e = cc
    not_open false at e = refl

    same : (in_name : Bool) (levels : List OpenLevel) → after_tokens names (tokens_after in_name []) levels ≡ end → levels ≡ end
    same in_name levels e = e

    all_done : (in_name : Bool) → r.done ++ tokens_after in_name [] ≡ all → r.done ≡ all
    all_done in_name e = sym (append-nil r.done) ∙ e

    go : (levels : List OpenLevel) → HasItem levels → length levels ≡ 1 → LevelsSpell names levels r.done → end ≡ levels
        → IsExpression names (outermost_tree end) all
    go [] item one spelled is = absurd item
    go (level ∷ []) item one spelled is =
        subst (λ tokens. IsExpression names (outermost_tree end) tokens) (all_done in_name r.all_is)
        (subst (λ levels. IsExpression names (outermost_tree levels) r.done) (sym is) (level_expression names level r.done item spelled))
    go (level ∷ outer ∷ levels) item one spelled is = absurd (omega (arith, one))

spells : (names : List (List ℕ)) (rest : List ℕ) (in_name : Bool) (end : List OpenLevel) (all : List Token)
    → IsSpelling names in_name rest end all → IsExpression names (outermost_tree end) all
spells names [] in_name end all r = end_spells names in_name end all r
spells names (byte ∷ text) in_name end all r = bool_cases (is_name_byte byte)
    (λ n. spells names text true end all (name_byte names in_name byte text end all n r))
    (λ n. spells names text false end all (symbol_byte names in_name byte text end all n r))

pub text_spells : (names : List (List ℕ)) (text : List ℕ) → syntax_fault text ≡ None → IsExpression names (grammar_of names text) (tokens_of text)
unfolding grammar_of
text_spells names text none =
    spells names text false (after_tokens names (tokens_of text) (empty_level ∷ [])) (tokens_of text)
    (record {
      levels = empty_level ∷ [];
      done = [];
      walk = walk_start;
      at = 0;
      spelled = refl;
      goes_on = ap (λ tokens. after_tokens names tokens (empty_level ∷ [])) (tokens_are text);
      all_is = tokens_are text;
      no_fault = none;
      item = λ e. cc;
      depth = refl;
      name_is_item = λ e. cc;
    })
