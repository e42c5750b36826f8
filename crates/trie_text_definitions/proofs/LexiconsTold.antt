-- What a file of any version is read as is a lexicon with a text of its version: its rules by what was told line by line, its forms by the
-- suffixes of the roots.
use Rattle.std.proofs.Common.{◌≡◌, ◌≢◌, ℕ, ◌≤◌, ◌||◌, ◌&&◌, inl, inr, Bool, true, false, eqb, Option, Some, None, Ok, Err, List, [], ◌∷◌, length, map, refl, sym, ◌∙◌, subst, arith}
use Rattle.std.specs.Prelude.{All, Contains, drop}
use Rattle.std.specs.List.{list_all}
use Rattle.std.proofs.lemmas.Bool.{and_from, not-false, ltb-false, eq-eqb, true≢false}
use Rattle.std.proofs.lemmas.List.{length-map}
use Rattle.std.proofs.lemmas.List.Elements.{All-weaker, All-map, All-contains}
use Rattle.list_laws.specs.EmptyLists.{is_empty}
use Rattle.list_laws.proofs.Sorted.{Contains-first, Contains-later, All-from_Contains}
use Rattle.lexicon_definitions.specs.declared.limits.TheConstants.{MOST_FORM_LINES}
use Rattle.lexicon_definitions.specs.GrammarFaults.{IsGrammarTextWithinLimits}
use Rattle.lexicon_definitions.specs.Rules.{Rule, IsRule, IsUnlimited, all_phases}
use Rattle.lexicon_definitions.specs.Lexicons.{Lexicon, Form, IsPhase, IsLexicon}
use Rattle.lexicon_definitions.specs.Limits.{IsShortRule, IsShortForm, IsWithinLimits}
use Rattle.lexicon_definitions.proofs.GrammarFaultCases.{grammar_over}
use Rattle.lexicon_text_definitions.specs.FileReadings as first
use Rattle.lexicon_text_definitions.specs.FileLines.{Line, lines_of_bytes}
use Rattle.lexicon_text_definitions.specs.TextsOf.{HasSpelledStems}
use Rattle.lexicon_text_definitions.proofs.WholeTexts as whole
use Rattle.trie_text_definitions.specs.Versions.{Version, Second, Third, version_of, is_unlimited, HasRulesOf}
use Rattle.trie_text_definitions.specs.VersionFaults.{same_result}
use Rattle.trie_text_definitions.specs.NodeValues.{suffixes_of}
use Rattle.trie_text_definitions.specs.TrieForms.{forms_of_root, count_pairs, has_right_deltas}
use Rattle.trie_text_definitions.specs.VersionSteps.{Told, head_told, trie_told}
use Rattle.trie_text_definitions.specs.VersionReadings.{Reading, Content, Fault as FaultAt, Asks, IsResult, IsReadIn, IsReadAs, reading_in, lexicon_told}
use Rattle.trie_text_definitions.specs.VersionTexts.{HasText, HasTextIn}
use Rattle.trie_text_definitions.proofs.RootForms.{passes_all, phase_of_root, shorts_of_root, stems_of_root, pairs_at_most}
use Rattle.trie_text_definitions.proofs.ToldTries.{IsToldRoot}
use Rattle.trie_text_definitions.proofs.VersionsSoFar.{IsTextRule, IsLawfulFront}
use Rattle.trie_text_definitions.proofs.VersionsTold.{EndsWell, Tells, IsRead, read_all, head_lawful}

-- ---- the rules

module _ {X : Type 0} (test : X → Bool) where
  none_by : (x : X) (xs : List X) (b : Bool) → test x ≡ b → (list_all test xs ≡ false → (y : X) × Contains xs y × (test y ≡ false))
      → (b && list_all test xs) ≡ false → (y : X) × Contains (x ∷ xs) y × (test y ≡ false)
  none_by x xs true e later h = let (y, m, f) = later h in (y, Contains-later x xs y m, f)
  none_by x xs false e later h = (x, Contains-first x xs, e)

  -- where not all pass the test, one fails it
  none_of_all : (xs : List X) → list_all test xs ≡ false → (x : X) × Contains xs x × (test x ≡ false)
  none_of_all [] h = absurd (cc)
  none_of_all (x ∷ xs) h = none_by x xs (test x) refl (none_of_all xs) h

after_by : (count : ℕ) (v : List ℕ) (set : ℕ) → (v ≢ [] → set ≡ all_phases count) → (is_empty v || eqb set (all_phases count)) ≡ true
after_by count [] set h = refl
after_by count (letter ∷ v) set h = eq-eqb set (all_phases count) (h (λ e. cc))

tested : (count : ℕ) (rule : Rule) → IsUnlimited count rule → is_unlimited count rule ≡ true
tested count rule h = and_from _ _ (eq-eqb rule.before (all_phases count) h.0) (after_by count rule.v rule.after h.1)

rules_of : (version : Version) (told : Told) → IsLawfulFront version told.front → EndsWell version told → HasRulesOf version (length told.front.names) told.front.rules
rules_of Second told l w = l.unlimited refl
rules_of Third told l w =
    let (rule, m, f) = none_of_all (is_unlimited (length told.front.names)) told.front.rules w.limited in
    (rule, m, λ u. true≢false (sym (tested (length told.front.names) rule u) ∙ f))

-- ---- the lexicon at the end

module _ (version : Version) (told content : Told) (lines : List Line) (r : IsRead IsGrammarTextWithinLimits version told lines content) where
  pub right_roots : (root : ℕ) → Contains content.roots root → list_all has_right_deltas (suffixes_of content.rows root) ≡ true
  right_roots root m =
      passes_all (λ root. list_all has_right_deltas (suffixes_of content.rows root)) content.roots root (not-false _ r.well.right) m

  each_root : (P : List Form → Type 0) → ((root : ℕ) → Contains content.roots root → IsToldRoot content.rows root → P (forms_of_root content.rows root))
      → All P (map (forms_of_root content.rows) content.roots)
  each_root P f =
      All-map P (forms_of_root content.rows) content.roots (All-from_Contains (λ root. P (forms_of_root content.rows root)) content.roots
      (λ root m. f root m (All-contains (IsToldRoot content.rows) content.roots root r.lawful.nodes.rooted m)))

  pub lexicon_itself : IsLexicon (lexicon_told content)
  lexicon_itself =
      let front = r.lawful.front in
      let count = length-map content.roots (forms_of_root content.rows) in
      let rooted = r.later.1 in
      record {
        rules = record {
          names_are_names = front.names;
          distinct_names = front.apart;
          grammar_is_text = grammar_over content.front.names content.front.grammar r.grammar;
          letters = front.letters;
          rising = front.rising;
          each = All-weaker (IsTextRule (length content.front.names)) (IsRule (length content.front.names)) (λ rule t. t.rule_itself) content.front.rules front.rules;
          distinct = front.others;
        };
        count = count ∙ rooted;
        phases = each_root IsPhase (λ root m t. phase_of_root content.rows content.nodes content.roots r.lawful.nodes root t.0 (right_roots root m));
      }

  pub limits : IsWithinLimits (lexicon_told content)
  limits =
      let front = r.lawful.front in
      let pairs = pairs_at_most content.rows content.roots in
      let few : count_pairs (trie_told content) ≤ MOST_FORM_LINES = ltb-false MOST_FORM_LINES (count_pairs (trie_told content)) r.well.few_pairs in
      record {
        rule_set = record {
          some_phase = r.later.0;
          phases = front.few_names;
          grammar = r.grammar;
          rules = front.few_rules;
          short_rules = All-weaker (IsTextRule (length content.front.names)) IsShortRule (λ rule t. t.short) content.front.rules front.rules;
          leads = front.leads;
        };
        short_forms = each_root (All IsShortForm) (λ root m t. shorts_of_root content.rows content.nodes content.roots r.lawful.nodes root t.0 (right_roots root m));
        lines = omega (arith, pairs, few);
      }

  pub has_text : HasText version (lexicon_told content)
  has_text = record {
    lexicon_itself = lexicon_itself;
    limits = limits;
    rules = rules_of version content r.lawful.front r.well;
    stems = each_root (All HasSpelledStems) (λ root m t. stems_of_root content.rows content.nodes content.roots r.lawful.nodes root t.0 (right_roots root m));
  }

-- ---- of any version

-- what is read is what was told at the end
pub read_by : (version : Version) (reading : Reading) (lexicon : Lexicon) → IsResult reading (Ok lexicon)
    → (content : Told) × Tells IsGrammarTextWithinLimits version reading content × (lexicon ≡ lexicon_told content)
read_by version (Content told) lexicon h = (told, refl, cc)
read_by version (FaultAt line why) lexicon h = absurd (cc)
read_by version (Asks line told after) lexicon (inl (g, h)) = let (content, t, e) = read_by version after lexicon h in (content, (g, t), e)
read_by version (Asks line told after) lexicon (inr (fault, found, e)) = absurd (cc)

pub all_read : (version : Version) (bytes : List ℕ) (content : Told) → Tells IsGrammarTextWithinLimits version (reading_in version bytes) content
    → IsRead IsGrammarTextWithinLimits version head_told (drop 1 (lines_of_bytes bytes)) content
unfolding reading_in
all_read version bytes content t =
    read_all IsGrammarTextWithinLimits version content head_told 2 (drop 1 (lines_of_bytes bytes)) (head_lawful version) (refl, refl, refl, refl, refl) tt tt t

-- what version 1 is read as
pub first_by : (told : first.FileResult) (lexicon : Lexicon) → Ok lexicon ≡ same_result told → told ≡ Ok lexicon
first_by (Ok other) lexicon e = cc
first_by (Err fault) lexicon e = absurd (cc)

lexicon_in : (version : Option Version) (bytes : List ℕ) (lexicon : Lexicon) → IsReadIn version bytes (Ok lexicon) → HasTextIn version lexicon
lexicon_in None bytes lexicon (told, h, e) =
    (whole.read_text bytes lexicon (subst (first.IsReadAs bytes) (first_by told lexicon e) h)).has_text
lexicon_in (Some version) bytes lexicon h =
    let (content, t, e) = read_by version (reading_in version bytes) lexicon h in
    subst (HasText version) (sym e) (has_text version head_told content (drop 1 (lines_of_bytes bytes)) (all_read version bytes content t))

pub read_lexicon : (bytes : List ℕ) (lexicon : Lexicon) → IsReadAs bytes (Ok lexicon) → HasTextIn (version_of bytes) lexicon
read_lexicon bytes lexicon h = lexicon_in (version_of bytes) bytes lexicon h
