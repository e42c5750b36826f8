-- What was told so far is lawful and spells the lines so far; so it is after each line that is taken, by the kind of the line.
use Rattle.std.proofs.Common.{◌≡◌, ◌≢◌, ℕ, ◌<◌, ◌≤◌, true, List, [], ◌∷◌, ◌++◌, length, map, All, AllPairs, slice_index_or, refl, sym, ◌∙◌, ap, subst, arith}
use Rattle.std.specs.List.{AllByRecursion}
use Rattle.std.specs.List.Sorted.{IsStrictlySortedBy}
use Rattle.std.proofs.lemmas.List.{append_assoc, append-nil, map-append, length_push}
use Rattle.std.proofs.lemmas.List.Elements.{All-push, All-nil}
use Rattle.std.proofs.Math.Pow.{ones_lt}
use Rattle.text_definitions.specs.Letters.{IsLetter}
use Rattle.lexicon_definitions.specs.declared.limits.TheConstants.{MOST_PHASES, MOST_RULES, MOST_LEADS, MOST_FORM_LINES}
use Rattle.lexicon_definitions.specs.Rules.{Rule as RuleValue, IsRule, IsUnlimited, unlimited_rule}
use Rattle.lexicon_definitions.specs.Lexicons.{IsPhaseName, compare_pairs}
use Rattle.lexicon_definitions.specs.GrammarFaults.{IsGrammarTextWithinLimits}
use Rattle.lexicon_definitions.specs.Limits.{IsShortRule}
use Rattle.lexicon_text_definitions.specs.LexiconTexts.{head_line, phase_line, grammar_line, plain_line, rule_line, form_line, end_line}
use Rattle.lexicon_text_definitions.specs.FileLines.{Kind, Opening, Head, Phase, Grammar, Plain, Rule, Form, End, may_follow}
use Rattle.lexicon_text_definitions.specs.FileContents.{compare_entries, Told, different_v}
use Rattle.lexicon_definitions.specs.FormEntries.{Entry}
use Rattle.lexicon_text_definitions.proofs.LineTests.{IsOther, pairs_push}
use Rattle.lexicon_text_definitions.proofs.RisingLines.{lines_total, sorted_with_last}
use Rattle.lexicon_text_definitions.proofs.FileLeads.{leads_with}
use Rattle.lexicon_text_definitions.proofs.FormPhases.{IsFormLine, all_both}
use Rattle.lexicon_text_definitions.proofs.LineSteps.{with_name, with_grammar, with_pair, with_rule, with_line, with_end, MayName, MayPair, MayRule, MayLine, name_at}
use Rattle.lexicon_text_definitions.proofs.TakenLines.{Took, a_head, a_name, a_grammar, a_pair, a_rule, a_form, the_end}
use Rattle.lexicon_definitions.proofs.PlainPairs.{pairs_total}
use Rattle.lexicon_definitions.proofs.WrittenRules.{some_phases}
use Rattle.lexicon_definitions.proofs.UnlimitedRules.{after_within_by, after_none_by, unlimited_by}

-- ---- what is lawful

-- a rule of a text: one over so many phases, unlimited and short
pub record IsTextRule (count : ℕ) (rule : RuleValue) : Type 0 where
  pub rule_itself : IsRule count rule
  pub unlimited : IsUnlimited count rule
  pub short : IsShortRule rule

pub record IsLawful (told : Told) : Type 0 where
  pub names : All IsPhaseName told.names
  pub apart : AllPairs (λ left right. left ≢ right) told.names
  pub few_names : length told.names ≤ MOST_PHASES
  pub letters : All (λ pair. IsLetter pair.0 × IsLetter pair.1) told.plain
  pub rising : IsStrictlySortedBy compare_pairs told.plain
  pub rules : All (IsTextRule (length told.names)) told.rules
  pub others : AllPairs IsOther told.rules
  pub few_rules : length told.rules ≤ MOST_RULES
  pub leads : length (different_v told.rules) ≤ MOST_LEADS
  pub lines : AllByRecursion (IsFormLine (length told.names)) told.forms
  pub rising_lines : IsStrictlySortedBy compare_entries told.forms
  pub few_lines : length told.forms ≤ MOST_FORM_LINES

-- nothing is told yet of what comes after a kind; after the first lines there is a phase
abbrev pub NothingLater : Kind → Told → Type 0
NothingLater Opening told = (told.names ≡ []) × (told.plain ≡ []) × (told.rules ≡ []) × (told.forms ≡ [])
NothingLater Head told = (told.names ≡ []) × (told.plain ≡ []) × (told.rules ≡ []) × (told.forms ≡ [])
NothingLater Phase told = (0 < length told.names) × (told.plain ≡ []) × (told.rules ≡ []) × (told.forms ≡ [])
NothingLater Grammar told = (0 < length told.names) × (told.plain ≡ []) × (told.rules ≡ []) × (told.forms ≡ [])
NothingLater Plain told = (0 < length told.names) × (told.rules ≡ []) × (told.forms ≡ [])
NothingLater Rule told = (0 < length told.names) × (told.forms ≡ [])
NothingLater Form told = 0 < length told.names
NothingLater End told = 0 < length told.names

-- the grammar's text is one within the limits, once it is told
abbrev pub HasGrammar : Kind → Told → Type 0
HasGrammar Opening told = Unit {0}
HasGrammar Head told = Unit {0}
HasGrammar Phase told = Unit {0}
HasGrammar last told = IsGrammarTextWithinLimits told.names told.grammar

-- ---- the lines so far

abbrev pub text_of_form : List (List ℕ) → Entry → List ℕ
text_of_form names line = form_line (slice_index_or names line.phase []) line.letters line.analysis

abbrev pub phases_so_far : Told → List (List ℕ)
phases_so_far told = head_line ∷ map phase_line told.names

abbrev pub grammar_so_far : Told → List (List ℕ)
grammar_so_far told = phases_so_far told ++ grammar_line told.grammar ∷ []

abbrev pub plain_so_far : Told → List (List ℕ)
plain_so_far told = grammar_so_far told ++ map plain_line told.plain

abbrev pub rules_so_far : Told → List (List ℕ)
rules_so_far told = plain_so_far told ++ map rule_line told.rules

abbrev pub forms_so_far : Told → List (List ℕ)
forms_so_far told = rules_so_far told ++ map (text_of_form told.names) told.forms

abbrev pub lines_so_far : Kind → Told → List (List ℕ)
lines_so_far Opening told = []
lines_so_far Head told = head_line ∷ []
lines_so_far Phase told = phases_so_far told
lines_so_far Grammar told = grammar_so_far told
lines_so_far Plain told = plain_so_far told
lines_so_far Rule told = rules_so_far told
lines_so_far Form told = forms_so_far told
lines_so_far End told = forms_so_far told ++ end_line ∷ []

-- ---- before a line of each kind

abbrev NoBody : Told → Type 0
NoBody told = (told.plain ≡ []) × (told.rules ≡ []) × (told.forms ≡ [])

before_name : (last : Kind) (told : Told) → may_follow last Phase ≡ true → NothingLater last told → NoBody told × (lines_so_far last told ≡ phases_so_far told)
before_name Opening told f h = absurd (cc)
before_name Head told f (n, p, r, l) = ((p, r, l), sym (ap (λ names. head_line ∷ map phase_line names) n))
before_name Phase told f (n, p, r, l) = ((p, r, l), refl)
before_name Grammar told f h = absurd (cc)
before_name Plain told f h = absurd (cc)
before_name Rule told f h = absurd (cc)
before_name Form told f h = absurd (cc)
before_name End told f h = absurd (cc)

before_grammar : (last : Kind) (told : Told) → may_follow last Grammar ≡ true → NothingLater last told
    → NothingLater Phase told × (lines_so_far last told ≡ phases_so_far told)
before_grammar Opening told f h = absurd (cc)
before_grammar Head told f h = absurd (cc)
before_grammar Phase told f h = (h, refl)
before_grammar Grammar told f h = absurd (cc)
before_grammar Plain told f h = absurd (cc)
before_grammar Rule told f h = absurd (cc)
before_grammar Form told f h = absurd (cc)
before_grammar End told f h = absurd (cc)

-- what holds before a line of the body: there is a phase, the grammar is one, and the lines are these
record InBody (last : Kind) (told : Told) (lines : List (List ℕ)) : Type 0 where
  some : 0 < length told.names
  grammar : HasGrammar last told → IsGrammarTextWithinLimits told.names told.grammar
  so_far : lines_so_far last told ≡ lines

no_pairs : (told : Told) → told.plain ≡ [] → grammar_so_far told ≡ plain_so_far told
no_pairs told e = sym (append-nil (grammar_so_far told)) ∙ ap (λ pairs. grammar_so_far told ++ map plain_line pairs) (sym e)

no_rules : (told : Told) → told.rules ≡ [] → plain_so_far told ≡ rules_so_far told
no_rules told e = sym (append-nil (plain_so_far told)) ∙ ap (λ rules. plain_so_far told ++ map rule_line rules) (sym e)

no_forms : (told : Told) → told.forms ≡ [] → rules_so_far told ≡ forms_so_far told
no_forms told e = sym (append-nil (rules_so_far told)) ∙ ap (λ lines. rules_so_far told ++ map (text_of_form told.names) lines) (sym e)

before_pair : (last : Kind) (told : Told) → may_follow last Plain ≡ true → NothingLater last told → InBody last told (plain_so_far told) × (told.rules ≡ []) × (told.forms ≡ [])
before_pair Opening told f h = absurd (cc)
before_pair Head told f h = absurd (cc)
before_pair Phase told f h = absurd (cc)
before_pair Grammar told f (n, p, r, l) = (record { some = n; grammar = λ g. g; so_far = no_pairs told p }, r, l)
before_pair Plain told f (n, r, l) = (record { some = n; grammar = λ g. g; so_far = refl }, r, l)
before_pair Rule told f h = absurd (cc)
before_pair Form told f h = absurd (cc)
before_pair End told f h = absurd (cc)

before_rule : (last : Kind) (told : Told) → may_follow last Rule ≡ true → NothingLater last told → InBody last told (rules_so_far told) × (told.forms ≡ [])
before_rule Opening told f h = absurd (cc)
before_rule Head told f h = absurd (cc)
before_rule Phase told f h = absurd (cc)
before_rule Grammar told f (n, p, r, l) = (record { some = n; grammar = λ g. g; so_far = no_pairs told p ∙ no_rules told r }, l)
before_rule Plain told f (n, r, l) = (record { some = n; grammar = λ g. g; so_far = no_rules told r }, l)
before_rule Rule told f (n, l) = (record { some = n; grammar = λ g. g; so_far = refl }, l)
before_rule Form told f h = absurd (cc)
before_rule End told f h = absurd (cc)

before_form : (last : Kind) (told : Told) → may_follow last Form ≡ true → NothingLater last told → InBody last told (forms_so_far told)
before_form Opening told f h = absurd (cc)
before_form Head told f h = absurd (cc)
before_form Phase told f h = absurd (cc)
before_form Grammar told f (n, p, r, l) = record { some = n; grammar = λ g. g; so_far = no_pairs told p ∙ no_rules told r ∙ no_forms told l }
before_form Plain told f (n, r, l) = record { some = n; grammar = λ g. g; so_far = no_rules told r ∙ no_forms told l }
before_form Rule told f (n, l) = record { some = n; grammar = λ g. g; so_far = no_forms told l }
before_form Form told f n = record { some = n; grammar = λ g. g; so_far = refl }
before_form End told f h = absurd (cc)

before_end : (last : Kind) (told : Told) → may_follow last End ≡ true → NothingLater last told → InBody last told (forms_so_far told)
before_end Opening told f h = absurd (cc)
before_end Head told f h = absurd (cc)
before_end Phase told f h = absurd (cc)
before_end Grammar told f (n, p, r, l) = record { some = n; grammar = λ g. g; so_far = no_pairs told p ∙ no_rules told r ∙ no_forms told l }
before_end Plain told f (n, r, l) = record { some = n; grammar = λ g. g; so_far = no_rules told r ∙ no_forms told l }
before_end Rule told f (n, l) = record { some = n; grammar = λ g. g; so_far = no_forms told l }
before_end Form told f n = record { some = n; grammar = λ g. g; so_far = refl }
before_end End told f h = absurd (cc)

-- ---- after a line of each kind

-- what holds after a line: all as before, with the line at the end; the grammar is one, unless the line is the grammar's own
pub record GoesOn (told after : Told) (bytes : List ℕ) : Type 0 where
  pub lawful : IsLawful after
  pub later : NothingLater after.last after
  pub grammar : HasGrammar told.last told → after.last ≢ Grammar → HasGrammar after.last after
  pub so_far : lines_so_far after.last after ≡ lines_so_far told.last told ++ bytes ∷ []

-- the same with another last kind or another grammar
same_lawful : (told : Told) (last : Kind) (grammar : List ℕ) → IsLawful told → IsLawful (record told { last = last; grammar = grammar })
same_lawful told last grammar h = record {
  names = h.names;
  apart = h.apart;
  few_names = h.few_names;
  letters = h.letters;
  rising = h.rising;
  rules = h.rules;
  others = h.others;
  few_rules = h.few_rules;
  leads = h.leads;
  lines = h.lines;
  rising_lines = h.rising_lines;
  few_lines = h.few_lines;
}

head_goes_on : (told : Told) (last : Kind) → told.last ≡ last → last ≡ Opening → IsLawful told → NothingLater last told → GoesOn told (record told { last = Head }) head_line
head_goes_on told Opening e f h n = record {
  lawful = same_lawful told Head told.grammar h;
  later = n;
  grammar = λ g o. tt;
  so_far = ap (λ last. lines_so_far last told ++ head_line ∷ []) (sym e);
}
head_goes_on told Head e f h n = absurd (cc)
head_goes_on told Phase e f h n = absurd (cc)
head_goes_on told Grammar e f h n = absurd (cc)
head_goes_on told Plain e f h n = absurd (cc)
head_goes_on told Rule e f h n = absurd (cc)
head_goes_on told Form e f h n = absurd (cc)
head_goes_on told End e f h n = absurd (cc)

module _ (told : Told) (h : IsLawful told) (n : NothingLater told.last told) where
  name_goes_on : (name : List ℕ) → may_follow told.last Phase ≡ true → MayName told name → GoesOn told (with_name told name) (phase_line name)
  name_goes_on name f m =
      let (none, so_far) = before_name told.last told f n in
      let (p, r, l) = none in
      let long = length_push told.names name in
      record {
        lawful = record {
          names = All-push IsPhaseName told.names name h.names m.name_itself;
          apart = pairs_push (λ left right. left ≢ right) told.names name h.apart m.new;
          few_names = let few = m.few in omega (arith, long);
          letters = h.letters;
          rising = h.rising;
          rules = subst (All (IsTextRule (length (told.names ++ name ∷ [])))) (sym r) (All-nil _);
          others = h.others;
          few_rules = h.few_rules;
          leads = h.leads;
          lines = subst (AllByRecursion (IsFormLine (length (told.names ++ name ∷ [])))) (sym l) tt;
          rising_lines = h.rising_lines;
          few_lines = h.few_lines;
        };
        later = (omega (arith, long), p, r, l);
        grammar = λ g o. tt;
        so_far = ap (◌∷◌ head_line) (map-append phase_line told.names (name ∷ [])) ∙ ap (λ lines. lines ++ phase_line name ∷ []) (sym so_far);
      }

  grammar_goes_on : (text : List ℕ) → may_follow told.last Grammar ≡ true → GoesOn told (with_grammar told text) (grammar_line text)
  grammar_goes_on text f =
      let (later, so_far) = before_grammar told.last told f n in
      record {
        lawful = same_lawful told Grammar text h;
        later = later;
        grammar = λ g o. absurd (o refl);
        so_far = ap (λ lines. lines ++ grammar_line text ∷ []) (sym so_far);
      }

  pair_goes_on : (pair : ℕ × ℕ) → may_follow told.last Plain ≡ true → MayPair told pair → GoesOn told (with_pair told pair) (plain_line pair)
  pair_goes_on pair f m =
      let (b, r, l) = before_pair told.last told f n in
      record {
        lawful = record {
          names = h.names;
          apart = h.apart;
          few_names = h.few_names;
          letters = All-push (λ pair. IsLetter pair.0 × IsLetter pair.1) told.plain pair h.letters (m.left, m.right);
          rising = sorted_with_last pairs_total told.plain pair h.rising m.above;
          rules = h.rules;
          others = h.others;
          few_rules = h.few_rules;
          leads = h.leads;
          lines = h.lines;
          rising_lines = h.rising_lines;
          few_lines = h.few_lines;
        };
        later = (b.some, r, l);
        grammar = λ g o. b.grammar g;
        so_far = ap (λ lines. grammar_so_far told ++ lines) (map-append plain_line told.plain (pair ∷ []))
            ∙ sym (append_assoc (grammar_so_far told) (map plain_line told.plain) (plain_line pair ∷ [])) ∙ ap (λ lines. lines ++ plain_line pair ∷ []) (sym b.so_far);
      }

-- ---- a rule that a line tells

rule_told : (told : Told) (u v w : List ℕ) → 0 < length told.names → MayRule told u v w → IsTextRule (length told.names) (unlimited_rule (length told.names) u v w)
rule_told told u v w n m = record {
  rule_itself = record {
    u_is_word = m.u_word;
    v_is_word = m.v_word;
    w_is_word = m.w_word;
    strict = (m.u_some, m.w_some);
    before_some = some_phases (length told.names) n;
    before_within = ones_lt (length told.names);
    after_within = after_within_by (length told.names) v;
    after_none = after_none_by (length told.names) v n;
  };
  unlimited = (refl, unlimited_by (length told.names) v);
  short = record { u = m.u_short; v = m.v_short; w = m.w_short };
}

module _ (told : Told) (h : IsLawful told) (n : NothingLater told.last told) where
  rule_goes_on : (u v w : List ℕ) → may_follow told.last Rule ≡ true → MayRule told u v w
      → GoesOn told (with_rule told (unlimited_rule (length told.names) u v w)) (rule_line (unlimited_rule 0 u v w))
  rule_goes_on u v w f m =
      let (b, l) = before_rule told.last told f n in
      let rule = unlimited_rule (length told.names) u v w in
      let long = length_push told.rules rule in
      record {
        lawful = record {
          names = h.names;
          apart = h.apart;
          few_names = h.few_names;
          letters = h.letters;
          rising = h.rising;
          rules = All-push (IsTextRule (length told.names)) told.rules rule h.rules (rule_told told u v w b.some m);
          others = pairs_push IsOther told.rules rule h.others m.other;
          few_rules = let few = m.few in omega (arith, long);
          leads = let few = m.leads in let same = ap length (leads_with told.rules rule) in omega arith;
          lines = h.lines;
          rising_lines = h.rising_lines;
          few_lines = h.few_lines;
        };
        later = (b.some, l);
        grammar = λ g o. b.grammar g;
        so_far = ap (λ lines. plain_so_far told ++ lines) (map-append rule_line told.rules (rule ∷ []))
            ∙ sym (append_assoc (plain_so_far told) (map rule_line told.rules) (rule_line rule ∷ [])) ∙ ap (λ lines. lines ++ rule_line rule ∷ []) (sym b.so_far);
      }

  line_goes_on : (name : List ℕ) (line : Entry) → may_follow told.last Form ≡ true → MayLine told name line → GoesOn told (with_line told line) (form_line name line.letters line.analysis)
  line_goes_on name line f m =
      let b = before_form told.last told f n in
      let long = length_push told.forms line in
      let at = (name_at told.names name line.phase m.at).1 in
      record {
        lawful = record {
          names = h.names;
          apart = h.apart;
          few_names = h.few_names;
          letters = h.letters;
          rising = h.rising;
          rules = h.rules;
          others = h.others;
          few_rules = h.few_rules;
          leads = h.leads;
          lines = all_both (IsFormLine (length told.names)) told.forms (line ∷ []) h.lines (m.line_itself, tt);
          rising_lines = sorted_with_last lines_total told.forms line h.rising_lines m.above;
          few_lines = let few = m.few in omega (arith, long);
        };
        later = b.some;
        grammar = λ g o. b.grammar g;
        so_far = ap (λ lines. rules_so_far told ++ lines) (map-append (text_of_form told.names) told.forms (line ∷ []))
            ∙ sym (append_assoc (rules_so_far told) (map (text_of_form told.names) told.forms) (text_of_form told.names line ∷ []))
            ∙ (λ i. sym b.so_far i ++ form_line (sym at i) line.letters line.analysis ∷ []);
      }

  end_goes_on : may_follow told.last End ≡ true → GoesOn told (with_end told) end_line
  end_goes_on f =
      let b = before_end told.last told f n in
      record {
        lawful = same_lawful told End told.grammar h;
        later = b.some;
        grammar = λ g o. b.grammar g;
        so_far = ap (λ lines. lines ++ end_line ∷ []) (sym b.so_far);
      }

-- after any line that is taken
pub goes_on : (told after : Told) (bytes : List ℕ) → IsLawful told → NothingLater told.last told → Took told after bytes → GoesOn told after bytes
goes_on told after bytes h n (a_head e b is) =
    subst (λ to. GoesOn told to bytes) is (subst (GoesOn told (record told { last = Head })) (sym b) (head_goes_on told told.last refl e h n))
goes_on told after bytes h n (a_name name f b m is) =
    subst (λ to. GoesOn told to bytes) is (subst (GoesOn told (with_name told name)) (sym b) (name_goes_on told h n name f m))
goes_on told after bytes h n (a_grammar text f b is) =
    subst (λ to. GoesOn told to bytes) is (subst (GoesOn told (with_grammar told text)) (sym b) (grammar_goes_on told h n text f))
goes_on told after bytes h n (a_pair pair f b m is) =
    subst (λ to. GoesOn told to bytes) is (subst (GoesOn told (with_pair told pair)) (sym b) (pair_goes_on told h n pair f m))
goes_on told after bytes h n (a_rule u v w f b m is) =
    subst (λ to. GoesOn told to bytes) is (subst (GoesOn told (with_rule told (unlimited_rule (length told.names) u v w))) (sym b) (rule_goes_on told h n u v w f m))
goes_on told after bytes h n (a_form name line f b m is) =
    subst (λ to. GoesOn told to bytes) is (subst (GoesOn told (with_line told line)) (sym b) (line_goes_on told h n name line f m))
goes_on told after bytes h n (the_end f b is) =
    subst (λ to. GoesOn told to bytes) is (subst (GoesOn told (with_end told)) (sym b) (end_goes_on told h n f))
