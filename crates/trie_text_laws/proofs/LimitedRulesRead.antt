-- The line of a rule of version 3 is taken: its fields have no blank, and its words and its sets of phases are read as they were written.
use Rattle.std.proofs.Common.{◌≡◌, ◌≢◌, ℕ, ◌+◌, Bool, true, false, cond, ◌||◌, Some, Ok, List, [], ◌∷◌, ◌++◌, length, AllPairs, eqb, refl, sym, ◌∙◌, ap}
use Rattle.std.specs.Prelude.{All, codes}
use Rattle.std.specs.List.{AllByRecursion, list_any, join_with_byte}
use Rattle.std.specs.Str.{is_utf8}
use Rattle.std.proofs.lemmas.Bool.{or_from, lt-leb, le-ltb}
use Rattle.std.proofs.lemmas.List.{append_assoc}
use Rattle.std.proofs.lemmas.List.Elements.{recursion_from_All}
use Rattle.list_laws.specs.EmptyLists.{is_empty}
use Rattle.list_laws.proofs.Booleans.{when_false}
use Rattle.list_laws.proofs.Marks.{is_free}
use Rattle.text_definitions.specs.Words.{IsWord}
use Rattle.text_definitions.specs.Slp1.{word_of_slp1, slp1_of_word}
use Rattle.text_definitions.proofs.SpelledWords.{read_from_spelled, free_of_bar, free_of_sign}
use Rattle.lexicon_definitions.specs.declared.limits.TheConstants.{MOST_RULES, MOST_RULE_LETTERS, MOST_LEADS}
use Rattle.lexicon_definitions.specs.Leads.{with_lead, leads_of}
use Rattle.lexicon_definitions.specs.Lexicons.{IsPhaseName}
use Rattle.lexicon_definitions.specs.Rules.{Rule, all_phases}
use Rattle.lexicon_text_definitions.specs.FileContents.{has_triple}
use Rattle.lexicon_text_definitions.specs.FileLines.{has_mark, Shape}
use Rattle.lexicon_text_definitions.proofs.LineCuts.{ended_line, split_at, split_none, line_with, shape_of_field, unmarked}
use Rattle.lexicon_text_definitions.proofs.LineSteps.{rule_field}
use Rattle.lexicon_text_definitions.proofs.LineTests.{free_name, test_from_others}
use Rattle.trie_text_definitions.specs.LimitedRules.{has_phase, names_from, phases_text, phases_after_text, limited_rule_line}
use Rattle.trie_text_definitions.specs.Versions.{Third}
use Rattle.trie_text_definitions.specs.VersionSteps.{Rules, Told, passes_limits, take_words, take_sets, take_shape, take_limited_rule, take_line}
use Rattle.trie_text_definitions.proofs.LimitedRuleSteps.{with_limited, MayLimited, IsAfterSet}
use Rattle.trie_text_definitions.proofs.NodeLinesApart.{listed_free}
use Rattle.trie_text_definitions.proofs.PhaseSets.{IsSetWithin}
use Rattle.trie_text_definitions.proofs.VersionLines.{MayCome, rule_is}
use Rattle.trie_text_laws.proofs.FrontLines.{taken_by, field_free_of_blank}
use Rattle.trie_text_laws.proofs.PhaseSetsRead.{set_back, after_back}

-- ---- the fields

module _ (P : List ℕ → Type 0) (phases : ℕ) where
  -- what each name has, each name of a set has
  pub names_of_set : (from : ℕ) (names : List (List ℕ)) → AllByRecursion P names → AllByRecursion P (names_from phases from names)
  names_of_set from [] h = tt
  names_of_set from (name ∷ names) h = by (has_phase phases from) (names_of_set (from + 1) names h.1)
    where
      by : (test : Bool) → AllByRecursion P (names_from phases (from + 1) names)
          → AllByRecursion P (cond test (name ∷ names_from phases (from + 1) names) (names_from phases (from + 1) names))
      by true rest = (h.0, rest)
      by false rest = rest

joined_free_of_blank : (texts : List (List ℕ)) → AllByRecursion (λ text. is_free 32 text ≡ true) texts → is_free 32 (join_with_byte 44 texts) ≡ true
joined_free_of_blank [] h = refl
joined_free_of_blank (text ∷ texts) h = listed_free 32 refl refl (text ∷ texts) h

names_free_of_blank : (names : List (List ℕ)) → AllByRecursion IsPhaseName names → AllByRecursion (λ text. is_free 32 text ≡ true) names
names_free_of_blank [] h = tt
names_free_of_blank (name ∷ names) h = (free_name 32 name refl h.0, names_free_of_blank names h.1)

module _ (names : List (List ℕ)) (each : All IsPhaseName names) where
  set_free_of_blank : (set : ℕ) → is_free 32 (phases_text names set) ≡ true
  set_free_of_blank set = by (eqb set (all_phases (length names)))
    where
      by : (test : Bool) → is_free 32 (cond test (codes "*") (join_with_byte 44 (names_from set 0 names))) ≡ true
      by true = refl
      by false = joined_free_of_blank (names_from set 0 names) (names_of_set (λ text. is_free 32 text ≡ true) set 0 names (names_free_of_blank names (recursion_from_All IsPhaseName names each)))

  after_free_of_blank : (v : List ℕ) (set : ℕ) → is_free 32 (phases_after_text names v set) ≡ true
  after_free_of_blank [] set = refl
  after_free_of_blank (letter ∷ v) set = set_free_of_blank set

-- ---- the rule

by_some : (word : List ℕ) → word ≢ [] → is_empty word ≡ false
by_some [] n = absurd (n refl)
by_some (letter ∷ word) n = refl

spelled : (word : List ℕ) → IsWord word → word_of_slp1 (slp1_of_word word) ≡ Ok word
spelled word w = read_from_spelled (slp1_of_word word) word w refl

unmarked_word : (word : List ℕ) → IsWord word → has_mark (slp1_of_word word) ≡ false
unmarked_word word w = unmarked (slp1_of_word word) (free_of_bar word w) (free_of_sign word w)

regrouped : (p a b c : List ℕ) (m n : ℕ) → ((((p ++ a) ++ m ∷ []) ++ b) ++ n ∷ []) ++ c ≡ p ++ (a ++ m ∷ (b ++ n ∷ c))
regrouped p a b c m n = simp append_assoc

module _ (told : Told) (rule : Rule) (m : MayLimited told rule) (each : All IsPhaseName told.front.names) (apart : AllPairs (λ left right. left ≢ right) told.front.names)
    (before : IsSetWithin (length told.front.names) rule.before) (after : IsAfterSet (length told.front.names) rule.v rule.after) where
  abbrev names : List (List ℕ)
  names = told.front.names

  abbrev shape : Shape
  shape = record { u = slp1_of_word rule.u; v = slp1_of_word rule.v; w = slp1_of_word rule.w }

  abbrev before_text : List ℕ
  before_text = phases_text names rule.before

  abbrev after_text : List ℕ
  after_text = phases_after_text names rule.v rule.after

  within_limits : passes_limits told.front.rules rule ≡ false
  within_limits =
      or_from _ _ (or_from _ _ (or_from _ _ (or_from _ _ (lt-leb MOST_RULES (length told.front.rules) m.few) (le-ltb MOST_LEADS (length (with_lead (leads_of told.front.rules) rule.v rule.after)) m.leads))
      (le-ltb MOST_RULE_LETTERS (length rule.u) m.short.u)) (le-ltb MOST_RULE_LETTERS (length rule.v) m.short.v)) (le-ltb MOST_RULE_LETTERS (length rule.w) m.short.w)

  takes_limited : take_limited_rule told (rule_field rule.u rule.v rule.w ∷ before_text ∷ after_text ∷ []) ≡ Ok (with_limited told rule)
  unfolding take_limited_rule
  takes_limited =
      ap (take_shape told before_text after_text) (shape_of_field shape (unmarked_word rule.u m.u_word) (unmarked_word rule.v m.v_word) (unmarked_word rule.w m.w_word))
      ∙ (λ i. take_sets told shape (set_back names each apart rule.before before i) (after_back names each apart rule.v rule.after after i))
      ∙ (λ i. take_words told rule.before rule.after (spelled rule.u m.u_word i) (spelled rule.v m.v_word i) (spelled rule.w m.w_word i))
      ∙ when_false (is_empty rule.u || is_empty rule.w) _ _ _ (or_from _ _ (by_some rule.u m.u_some) (by_some rule.w m.w_some))
      (when_false (passes_limits told.front.rules rule) _ _ _ within_limits
      (when_false (list_any (has_triple rule.u rule.v rule.w) told.front.rules) _ _ _ (test_from_others rule told.front.rules m.other) refl))

  pub takes_limited_rule_line : MayCome told Rules → is_utf8 (limited_rule_line names rule) ≡ true
      → take_line Third told (ended_line (limited_rule_line names rule)) ≡ Ok (with_limited told rule)
  takes_limited_rule_line f u =
      let field = rule_field rule.u rule.v rule.w in
      let rest = field ++ 32 ∷ (before_text ++ 32 ∷ after_text) in
      let is : limited_rule_line names rule ≡ line_with (codes "rule") (Some rest) =
      ap (λ (line : List ℕ). (((line ++ 32 ∷ []) ++ before_text) ++ 32 ∷ []) ++ after_text) (rule_is rule.u rule.v rule.w) ∙ regrouped (codes "rule ") field before_text after_text 32 32 in
      ap (λ bytes. take_line Third told (ended_line bytes)) is
      ∙ taken_by Third told (with_limited told rule) (line_with (codes "rule") (Some rest)) Rules (Some rest) f (sym (ap is_utf8 is) ∙ u) refl refl
      (ap (take_limited_rule told) (split_at 32 field (before_text ++ 32 ∷ after_text) (field_free_of_blank rule.u rule.v rule.w m.u_word m.v_word m.w_word)
      ∙ ap (◌∷◌ field) (split_at 32 before_text after_text (set_free_of_blank names each rule.before)
      ∙ ap (◌∷◌ before_text) (split_none 32 after_text (after_free_of_blank names each rule.v rule.after)))) ∙ takes_limited)
