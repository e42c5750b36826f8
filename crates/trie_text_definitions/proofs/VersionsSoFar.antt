-- What was told so far is lawful and spells the lines so far; so it is after each line that is taken, by the kind of the line.
use Rattle.std.proofs.Common.{◌≡◌, ◌≢◌, ◌↔◌, ℕ, ◌<◌, ◌≤◌, ◌^◌, Bool, true, eqb, Option, Some, None, List, [], ◌∷◌, ◌++◌, length, map, All, AllPairs, slice_index_or, codes, refl, sym, ◌∙◌, ap, arith}
use Rattle.std.specs.List.Sorted.{IsStrictlySortedBy}
use Rattle.std.proofs.Math.Pow.{ones_lt}
use Rattle.std.proofs.lemmas.Bool.{not-true, eqb-true, eqb-false}
use Rattle.std.proofs.lemmas.Nat.{pow_pos}
use Rattle.std.proofs.lemmas.List.{append_assoc, append-nil}
use Rattle.text_definitions.specs.Letters.{IsLetter}
use Rattle.lexicon_definitions.specs.declared.limits.TheConstants.{MOST_PHASES, MOST_RULES, MOST_LEADS}
use Rattle.lexicon_definitions.specs.Rules.{Rule, IsRule, IsUnlimited, unlimited_rule}
use Rattle.lexicon_definitions.specs.Leads.{Lead, with_lead, with_leads, leads_of}
use Rattle.lexicon_definitions.specs.Lexicons.{IsPhaseName, compare_pairs}
use Rattle.lexicon_definitions.specs.Limits.{IsShortRule}
use Rattle.lexicon_definitions.proofs.WrittenRules.{some_phases}
use Rattle.lexicon_definitions.proofs.UnlimitedRules.{after_within_by, after_none_by}
use Rattle.lexicon_text_definitions.specs.FileContents as first
use Rattle.lexicon_text_definitions.specs.FileLines.{fields_of}
use Rattle.lexicon_text_definitions.specs.LexiconTexts.{phase_line, grammar_line, plain_line, end_line}
use Rattle.lexicon_text_definitions.proofs.LineCuts.{three_parts, line_with}
use Rattle.lexicon_text_definitions.proofs.LineSteps.{MayRule, rule_field}
use Rattle.lexicon_text_definitions.proofs.LineTests.{IsOther}
use Rattle.trie_text_definitions.specs.Versions.{Version, Second, head_line}
use Rattle.trie_text_definitions.specs.LimitedRules.{phases_text, phases_after_text, limited_rule_line}
use Rattle.trie_text_definitions.specs.NodeLines.{node_line}
use Rattle.trie_text_definitions.specs.TrieTexts.{rule_line_in, root_line, root_lines}
use Rattle.trie_text_definitions.specs.VersionSteps.{Kind, Head, Phase, Grammar, Plain, Rules, Node, Root, End, Told, are_rooted, may_follow}
use Rattle.trie_text_definitions.proofs.PhaseSets.{IsSetWithin, set_field_told}
use Rattle.trie_text_definitions.proofs.LimitedRuleSteps.{MayLimited, LimitedTaken, IsAfterSet, after_told}
use Rattle.trie_text_definitions.proofs.ToldTries.{AreNodes}
use Rattle.trie_text_definitions.proofs.VersionLines.{rule_is}

-- ---- what is lawful

-- a rule of a text: one over so many phases, and short
pub record IsTextRule (count : ℕ) (rule : Rule) : Type 0 where
  pub rule_itself : IsRule count rule
  pub short : IsShortRule rule

-- the phases, the grammar, the plain pairs and the rules that were told
pub record IsLawfulFront (version : Version) (front : first.Told) : Type 0 where
  pub names : All IsPhaseName front.names
  pub apart : AllPairs (λ left right. left ≢ right) front.names
  pub few_names : length front.names ≤ MOST_PHASES
  pub letters : All (λ pair. IsLetter pair.0 × IsLetter pair.1) front.plain
  pub rising : IsStrictlySortedBy compare_pairs front.plain
  pub rules : All (IsTextRule (length front.names)) front.rules
  pub unlimited : version ≡ Second → All (IsUnlimited (length front.names)) front.rules
  pub others : AllPairs IsOther front.rules
  pub few_rules : length front.rules ≤ MOST_RULES
  pub leads : length (leads_of front.rules) ≤ MOST_LEADS

pub record IsLawful (version : Version) (told : Told) : Type 0 where
  pub front : IsLawfulFront version told.front
  pub nodes : AreNodes told.rows told.nodes told.roots
  pub few_roots : length told.roots ≤ length told.front.names

-- nothing is told yet of what comes after a kind; after the first lines there is a phase
abbrev pub NothingLater : Kind → Told → Type 0
NothingLater Head told = (told.front.names ≡ []) × (told.front.plain ≡ []) × (told.front.rules ≡ []) × (told.rows ≡ []) × (told.roots ≡ [])
NothingLater Phase told = (0 < length told.front.names) × (told.front.plain ≡ []) × (told.front.rules ≡ []) × (told.rows ≡ []) × (told.roots ≡ [])
NothingLater Grammar told = (0 < length told.front.names) × (told.front.plain ≡ []) × (told.front.rules ≡ []) × (told.rows ≡ []) × (told.roots ≡ [])
NothingLater Plain told = (0 < length told.front.names) × (told.front.rules ≡ []) × (told.rows ≡ []) × (told.roots ≡ [])
NothingLater Rules told = (0 < length told.front.names) × (told.rows ≡ []) × (told.roots ≡ [])
NothingLater Node told = (0 < length told.front.names) × (told.roots ≡ [])
NothingLater Root told = 0 < length told.front.names
NothingLater End told = (0 < length told.front.names) × (length told.roots ≡ length told.front.names)

module _ (P : List (List ℕ) → List ℕ → Type 0) where
  -- what is known of the grammar's text, once it is told
  abbrev pub HasGrammar : Kind → Told → Type 0
  HasGrammar Head told = Unit {0}
  HasGrammar Phase told = Unit {0}
  HasGrammar last told = P told.front.names told.front.grammar

-- ---- the lines so far

module _ (version : Version) where
  abbrev pub names_so_far : Told → List (List ℕ)
  names_so_far told = head_line version ∷ map phase_line told.front.names

  abbrev pub grammar_so_far : Told → List (List ℕ)
  grammar_so_far told = names_so_far told ++ grammar_line told.front.grammar ∷ []

  abbrev pub plain_so_far : Told → List (List ℕ)
  plain_so_far told = grammar_so_far told ++ map plain_line told.front.plain

  abbrev pub rules_so_far : Told → List (List ℕ)
  rules_so_far told = plain_so_far told ++ map (rule_line_in version told.front.names) told.front.rules

  abbrev pub nodes_so_far : Told → List (List ℕ)
  nodes_so_far told = rules_so_far told ++ map node_line told.rows

  abbrev pub roots_so_far : Told → List (List ℕ)
  roots_so_far told = nodes_so_far told ++ root_lines told.front.names told.roots

  abbrev pub lines_so_far : Kind → Told → List (List ℕ)
  lines_so_far Head told = head_line version ∷ []
  lines_so_far Phase told = names_so_far told
  lines_so_far Grammar told = grammar_so_far told
  lines_so_far Plain told = plain_so_far told
  lines_so_far Rules told = rules_so_far told
  lines_so_far Node told = nodes_so_far told
  lines_so_far Root told = roots_so_far told
  lines_so_far End told = roots_so_far told ++ end_line ∷ []

  -- ---- before a line of each kind

  no_pairs : (told : Told) → told.front.plain ≡ [] → grammar_so_far told ≡ plain_so_far told
  no_pairs told e = sym (append-nil (grammar_so_far told)) ∙ ap (λ pairs. grammar_so_far told ++ map plain_line pairs) (sym e)

  no_rules : (told : Told) → told.front.rules ≡ [] → plain_so_far told ≡ rules_so_far told
  no_rules told e = sym (append-nil (plain_so_far told)) ∙ ap (λ rules. plain_so_far told ++ map (rule_line_in version told.front.names) rules) (sym e)

  no_rows : (told : Told) → told.rows ≡ [] → rules_so_far told ≡ nodes_so_far told
  no_rows told e = sym (append-nil (rules_so_far told)) ∙ ap (λ rows. rules_so_far told ++ map node_line rows) (sym e)

  no_root_lines : (names : List (List ℕ)) → root_lines names [] ≡ []
  no_root_lines [] = refl
  no_root_lines (name ∷ names) = refl

  no_roots : (told : Told) → told.roots ≡ [] → nodes_so_far told ≡ roots_so_far told
  no_roots told e = sym (append-nil (nodes_so_far told)) ∙ ap (λ lines. nodes_so_far told ++ lines) (sym (no_root_lines told.front.names) ∙ ap (root_lines told.front.names) (sym e))

  -- a line of a phase
  pub before_name : (rooted : Bool) (last : Kind) (told : Told) → may_follow rooted last Phase ≡ true → NothingLater last told
      → ((told.front.plain ≡ []) × (told.front.rules ≡ []) × (told.rows ≡ []) × (told.roots ≡ [])) × (lines_so_far last told ≡ names_so_far told)
  before_name rooted Head told f (n, p, r, w, t) = ((p, r, w, t), sym (ap (λ names. head_line version ∷ map phase_line names) n))
  before_name rooted Phase told f (n, p, r, w, t) = ((p, r, w, t), refl)
  before_name rooted last told f h = absurd (cc)

  pub before_grammar : (rooted : Bool) (last : Kind) (told : Told) → may_follow rooted last Grammar ≡ true → NothingLater last told
      → NothingLater Phase told × (lines_so_far last told ≡ names_so_far told)
  before_grammar rooted Phase told f h = (h, refl)
  before_grammar rooted last told f h = absurd (cc)

  module _ (P : List (List ℕ) → List ℕ → Type 0) where
    -- what holds before a line of the body: there is a phase, the grammar is one, and the lines are these
    pub record InBody (last : Kind) (told : Told) (lines : List (List ℕ)) : Type 0 where
      pub some : 0 < length told.front.names
      pub grammar : HasGrammar P last told → P told.front.names told.front.grammar
      pub so_far : lines_so_far last told ≡ lines

    pub before_pair : (rooted : Bool) (last : Kind) (told : Told) → may_follow rooted last Plain ≡ true → NothingLater last told
        → InBody last told (plain_so_far told) × (told.front.rules ≡ []) × (told.rows ≡ []) × (told.roots ≡ [])
    before_pair rooted Grammar told f (n, p, r, w, t) = (record { some = n; grammar = λ g. g; so_far = no_pairs told p }, r, w, t)
    before_pair rooted Plain told f (n, r, w, t) = (record { some = n; grammar = λ g. g; so_far = refl }, r, w, t)
    before_pair rooted last told f h = absurd (cc)

    pub before_rule : (rooted : Bool) (last : Kind) (told : Told) → may_follow rooted last Rules ≡ true → NothingLater last told
        → InBody last told (rules_so_far told) × (told.rows ≡ []) × (told.roots ≡ [])
    before_rule rooted Grammar told f (n, p, r, w, t) = (record { some = n; grammar = λ g. g; so_far = no_pairs told p ∙ no_rules told r }, w, t)
    before_rule rooted Plain told f (n, r, w, t) = (record { some = n; grammar = λ g. g; so_far = no_rules told r }, w, t)
    before_rule rooted Rules told f (n, w, t) = (record { some = n; grammar = λ g. g; so_far = refl }, w, t)
    before_rule rooted last told f h = absurd (cc)

    pub before_node : (rooted : Bool) (last : Kind) (told : Told) → may_follow rooted last Node ≡ true → NothingLater last told
        → InBody last told (nodes_so_far told) × (told.roots ≡ [])
    before_node rooted Grammar told f (n, p, r, w, t) = (record { some = n; grammar = λ g. g; so_far = no_pairs told p ∙ no_rules told r ∙ no_rows told w }, t)
    before_node rooted Plain told f (n, r, w, t) = (record { some = n; grammar = λ g. g; so_far = no_rules told r ∙ no_rows told w }, t)
    before_node rooted Rules told f (n, w, t) = (record { some = n; grammar = λ g. g; so_far = no_rows told w }, t)
    before_node rooted Node told f (n, t) = (record { some = n; grammar = λ g. g; so_far = refl }, t)
    before_node rooted last told f h = absurd (cc)

    pub before_root : (last : Kind) (told : Told) → may_follow (are_rooted told) last Root ≡ true → length told.roots ≤ length told.front.names → NothingLater last told
        → InBody last told (roots_so_far told) × (length told.roots < length told.front.names)
    before_root Node told f few (n, t) = (record { some = n; grammar = λ g. g; so_far = no_roots told t }, let none = ap length t in omega (arith, n, none))
    before_root Root told f few n =
        let other = eqb-false (length told.roots) (length told.front.names) (not-true (eqb (length told.roots) (length told.front.names)) f) in
        (record { some = n; grammar = λ g. g; so_far = refl }, omega (arith, few, other))
    before_root last told f few h = absurd (cc)

    pub before_end : (last : Kind) (told : Told) → may_follow (are_rooted told) last End ≡ true → NothingLater last told
        → InBody last told (roots_so_far told) × (length told.roots ≡ length told.front.names)
    before_end Root told f n = (record { some = n; grammar = λ g. g; so_far = refl }, eqb-true (length told.roots) (length told.front.names) f)
    before_end last told f h = absurd (cc)

-- ---- rules and roots

-- the leads with those of a rule more
pub leads_more : (leads : List Lead) (rules : List Rule) (rule : Rule) → with_leads leads (rules ++ rule ∷ []) ≡ with_lead (with_leads leads rules) rule.v rule.after
leads_more leads [] rule = refl
leads_more leads (first ∷ rules) rule = leads_more (with_lead leads first.v first.after) rules rule

-- the root lines with one more
pub root_lines_more : (names : List (List ℕ)) (roots : List ℕ) (root : ℕ) → length roots < length names
    → root_lines names (roots ++ root ∷ []) ≡ root_lines names roots ++ root_line (slice_index_or names (length roots) []) root ∷ []
root_lines_more [] roots root h = absurd (omega (arith, h))
root_lines_more (name ∷ names) [] root h = ap (◌∷◌ (root_line name root)) (none names)
  where
    none : (names : List (List ℕ)) → root_lines names [] ≡ []
    none [] = refl
    none (name ∷ names) = refl
root_lines_more (name ∷ names) (first ∷ roots) root h = ap (◌∷◌ (root_line name first)) (root_lines_more names roots root (omega (arith, h)))

pub unlimited_told : (told : first.Told) (u v w : List ℕ) → 0 < length told.names → MayRule told u v w → IsTextRule (length told.names) (unlimited_rule (length told.names) u v w)
unlimited_told told u v w n m = record {
  rule_itself = record {
    u_is_word = m.u_word;
    v_is_word = m.v_word;
    w_is_word = m.w_word;
    strict = (m.u_some, m.w_some);
    before_some = some_phases (length told.names) n;
    before_within = ones_lt (length told.names);
    after_within = after_within_by (length told.names) v;
    after_none = after_none_by (length told.names) v n;
  };
  short = record { u = m.u_short; v = m.v_short; w = m.w_short };
}

set_after : (count : ℕ) (v : List ℕ) (set : ℕ) → IsAfterSet count v set → (set < 2 ^ count) × ((set ≡ 0) ↔ (v ≡ []))
set_after count [] set h = let none = h.none refl in let some = pow_pos count in (omega (arith, none, some), (λ e. refl, λ e. none))
set_after count (letter ∷ v) set h =
    let n : letter ∷ v ≢ [] = λ x. cc in
    let some = h.some n in
    let above = some.some in
    (some.within, (λ e. absurd (omega (arith, above, e)), λ e. absurd (n e)))

limited_told : (told : Told) (rule : Rule) → MayLimited told rule → IsSetWithin (length told.front.names) rule.before → IsAfterSet (length told.front.names) rule.v rule.after
    → IsTextRule (length told.front.names) rule
limited_told told rule m b a =
    let after = set_after (length told.front.names) rule.v rule.after a in
    record {
      rule_itself = record {
        u_is_word = m.u_word;
        v_is_word = m.v_word;
        w_is_word = m.w_word;
        strict = (m.u_some, m.w_some);
        before_some = b.some;
        before_within = b.within;
        after_within = after.0;
        after_none = after.1;
      };
      short = m.short;
    }

-- a line of version 3 with a rule's three fields
three_fields : (rest : Option (List ℕ)) (first second third : List ℕ) → fields_of rest ≡ first ∷ second ∷ third ∷ [] → rest ≡ Some (first ++ 32 ∷ (second ++ 32 ∷ third))
three_fields None first second third e = absurd (cc)
three_fields (Some text) first second third e = ap Some (three_parts 32 text first second third e)

regroup_fields : (p a b c : List ℕ) (m n : ℕ) → ((((p ++ a) ++ m ∷ []) ++ b) ++ n ∷ []) ++ c ≡ p ++ (a ++ m ∷ (b ++ n ∷ c))
regroup_fields p a b c m n = simp append_assoc

limited_is : (names : List (List ℕ)) (rule : Rule)
    → limited_rule_line names rule ≡ line_with (codes "rule") (Some (rule_field rule.u rule.v rule.w ++ 32 ∷ (phases_text names rule.before ++ 32 ∷ phases_after_text names rule.v rule.after)))
limited_is names rule =
    ap (λ (line : List ℕ). (((line ++ 32 ∷ []) ++ phases_text names rule.before) ++ 32 ∷ []) ++ phases_after_text names rule.v rule.after) (rule_is rule.u rule.v rule.w)
    ∙ regroup_fields (codes "rule ") (rule_field rule.u rule.v rule.w) (phases_text names rule.before) (phases_after_text names rule.v rule.after) 32 32

-- the line and the rule of a limited rule that is taken
pub limited_line : (told after : Told) (bytes : List ℕ) (rest : Option (List ℕ)) → 0 < length told.front.names → bytes ≡ line_with (codes "rule") rest → (t : LimitedTaken told after (fields_of rest))
    → (bytes ≡ limited_rule_line told.front.names t.rule) × IsTextRule (length told.front.names) t.rule
limited_line told after bytes rest n b t =
    let names = told.front.names in
    let before = set_field_told names t.before t.rule.before n t.is_before in
    let following = after_told names t.v_text t.rule.v t.after_text t.rule.after n t.is_v t.is_after in
    let field = rule_field t.rule.u t.rule.v t.rule.w in (
      b ∙ ap (line_with (codes "rule")) (three_fields rest field t.before t.after_text t.are) ∙ (λ i. line_with (codes "rule") (Some (field ++ 32 ∷ (before.0 i ++ 32 ∷ following.0 i)))) ∙ sym (limited_is names t.rule),
      limited_told told t.rule t.may before.1 following.1,
    )
