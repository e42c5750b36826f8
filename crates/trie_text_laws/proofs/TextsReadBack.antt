-- The text of a lexicon is read as it: its bytes are cut into its lines again, since none has a line end; the first tells the version; and the
-- others are read one after another, with the rules of the lexicon and with its phases, which its trie tells.
use Rattle.std.proofs.Common.{◌≡◌, ℕ, ◌<◌, true, Option, Some, None, Ok, List, [], ◌∷◌, ◌++◌, length, map, codes, refl, sym, ◌∙◌, ap, subst, arith}
use Rattle.std.specs.Prelude.{All, Contains, drop}
use Rattle.std.specs.List.{AllByRecursion}
use Rattle.std.proofs.lemmas.List.{append_assoc, map-append, get_or_default}
use Rattle.std.proofs.lemmas.List.Elements.{recursion_from_All}
use Rattle.list_laws.proofs.Marks.{is_free}
use Rattle.list_laws.proofs.Sorted.{All-from_Contains}
use Rattle.text_definitions.specs.Letters.{IsLetter}
use Rattle.lexicon_definitions.specs.Lexicons.{Lexicon, IsPhaseName}
use Rattle.lexicon_definitions.specs.Rules.{Rule, IsUnlimited}
use Rattle.lexicon_definitions.specs.Tries.{Row, Trie}
use Rattle.lexicon_text_definitions.specs.FileLines as marks
use Rattle.lexicon_text_definitions.specs.FileLines.{Line, lines_of_bytes}
use Rattle.lexicon_text_definitions.specs.LexiconTexts.{phase_line, grammar_line, plain_line, end_line, text_of_lines, lines_of, text_of}
use Rattle.lexicon_text_definitions.specs.LexiconTexts as first
use Rattle.lexicon_text_definitions.specs.FileReadings as readings
use Rattle.lexicon_text_definitions.proofs.WrittenTexts as written
use Rattle.lexicon_text_definitions.proofs.CleanBytes.{IsClean, clean_append, clean_free, clean_grammar}
use Rattle.lexicon_text_definitions.proofs.FormPhases.{all_both}
use Rattle.lexicon_text_definitions.proofs.LineCuts.{ended_line, line_at, lines_back}
use Rattle.lexicon_text_definitions.proofs.WrittenTexts.{clean_name_line}
use Rattle.trie_text_definitions.specs.NodeLines.{node_line, node_lines}
use Rattle.trie_text_definitions.specs.TrieTexts.{rule_line_in, root_lines, lines_in, text_in}
use Rattle.trie_text_definitions.specs.Versions.{Version, Second, Third, head_line, version_told, version_of_lines, version_of, HasRulesOf}
use Rattle.trie_text_definitions.specs.VersionReadings.{IsResult, IsReadIn, IsReadAs, read_lines, reading_in, lexicon_told}
use Rattle.trie_text_definitions.specs.VersionSteps.{Grammar, Root, End, head_told}
use Rattle.trie_text_definitions.specs.VersionTexts.{HasText, IsOrderedTrieOf, IsTrieText, IsTextIn, IsNewestText}
use Rattle.trie_text_definitions.proofs.EndTests.{none_unused, none_wrong, few_pairs}
use Rattle.trie_text_definitions.proofs.NodeSteps.{IsRowDelta}
use Rattle.trie_text_definitions.proofs.TrieLexicons.{trie_tells_phases}
use Rattle.trie_text_definitions.proofs.VersionsSoFar.{IsTextRule}
use Rattle.trie_text_laws.proofs.CleanLines.{clean_pair_line, clean_node_line, clean_root_line, clean_rule_line_in}
use Rattle.trie_text_laws.proofs.NodeFieldsRead.{IsSmallChild}
use Rattle.trie_text_laws.proofs.OrderedRows.{AreTellable, rows_tellable, root_told, children_small}
use Rattle.trie_text_laws.proofs.RuleLinesRead.{AreRules, limited_there}
use Rattle.trie_text_laws.proofs.VersionTextsRead.{AreNames, ArePairs, IsSmallRoot, MayEnd, told_at, Reads, all_names_read, grammar_read, pairs_read, rules_read, all_nodes_read, all_roots_read, end_read}

-- ---- lines

mapped : {X Y : Type 0} (P : X → Type 0) (Q : Y → Type 0) (f : X → Y) → ((x : X) → P x → Q (f x)) → (xs : List X) → AllByRecursion P xs → AllByRecursion Q (map f xs)
mapped P Q f g [] h = tt
mapped P Q f g (x ∷ xs) h = (g x h.0, mapped P Q f g xs h.1)

regrouped : {A : Type 0} (a b c d e f : List A) → ((((a ++ b) ++ c) ++ d) ++ e) ++ f ≡ a ++ (b ++ (c ++ (d ++ (e ++ f))))
regrouped a b c d e f = simp append_assoc

mapped_each : {A B : Type 0} (g : A → B) (a b c d e f : List A)
    → map g (a ++ (b ++ (c ++ (d ++ (e ++ f))))) ≡ map g a ++ (map g b ++ (map g c ++ (map g d ++ (map g e ++ map g f))))
mapped_each g a b c d e f = simp map-append

abbrev IsFree : List ℕ → Type 0
IsFree line = is_free 10 line ≡ true

freed : (lines : List (List ℕ)) → AllByRecursion IsClean lines → AllByRecursion IsFree lines
freed [] h = tt
freed (line ∷ lines) h = (clean_free line h.0, freed lines h.1)

clean_head : (version : Version) → IsClean (head_line version)
clean_head Second = refl
clean_head Third = refl

clean_nodes : (rows : List Row) → AllByRecursion (λ (row : Row). AllByRecursion IsRowDelta row.deltas) rows → AllByRecursion (λ (row : Row). AllByRecursion IsSmallChild row.children) rows
    → AllByRecursion IsClean (map node_line rows)
clean_nodes [] d c = tt
clean_nodes (row ∷ rows) d c = (clean_node_line row d.0 c.0, clean_nodes rows d.1 c.1)

clean_roots : (rows : List Row) (names : List (List ℕ)) (roots : List ℕ) → AllByRecursion IsPhaseName names → AllByRecursion (IsSmallRoot rows) roots → AllByRecursion IsClean (root_lines names roots)
clean_roots rows [] roots n r = tt
clean_roots rows (name ∷ names) [] n r = tt
clean_roots rows (name ∷ names) (root ∷ roots) n r = (clean_root_line name root n.0 r.0.1, clean_roots rows names roots n.1 r.1)

head_tells : (version : Version) → version_told (ended_line (head_line version)) ≡ Some version
head_tells Second = refl
head_tells Third = refl

unlimited_of : (version : Version) (count : ℕ) (rules : List Rule) → HasRulesOf version count rules → version ≡ Second → AllByRecursion (IsUnlimited count) rules
unlimited_of Second count rules h e = recursion_from_All (IsUnlimited count) rules h
unlimited_of Third count rules h e = absurd (cc (e))

-- ---- a lexicon with its trie

module _ (version : Version) (lexicon : Lexicon) (trie : Trie) (t : HasText version lexicon) (h : IsOrderedTrieOf trie lexicon.phases) where
  abbrev names : List (List ℕ)
  names = lexicon.rules.names

  abbrev plain : List (ℕ × ℕ)
  plain = lexicon.rules.plain

  abbrev rules : List Rule
  rules = lexicon.rules.rules

  are_names : AreNames names
  are_names = record {
    each = recursion_from_All IsPhaseName names t.lexicon_itself.rules.names_are_names;
    apart = t.lexicon_itself.rules.distinct_names;
    few = t.limits.rule_set.phases;
  }

  are_pairs : ArePairs plain
  are_pairs = record {
    each = recursion_from_All (λ pair. IsLetter pair.0 × IsLetter pair.1) plain t.lexicon_itself.rules.letters;
    rising = t.lexicon_itself.rules.rising;
  }

  text_rules : All (IsTextRule (length names)) rules
  text_rules = λ k d below. record { rule_itself = t.lexicon_itself.rules.each k d below; short = t.limits.rule_set.short_rules k d below }

  are_rules : AreRules version (length names) rules
  are_rules = record {
    each = recursion_from_All (IsTextRule (length names)) rules text_rules;
    unlimited = unlimited_of version (length names) rules t.rules;
    others = t.lexicon_itself.rules.distinct;
    few = t.limits.rule_set.rules;
    leads = t.limits.rule_set.leads;
  }

  few_phases : length lexicon.phases ≡ length names
  few_phases = t.lexicon_itself.count

  tellable : AreTellable trie.rows
  tellable =
      rows_tellable trie lexicon.phases h t.lexicon_itself.phases t.limits.short_forms (let few = t.limits.rule_set.phases in let count = few_phases in omega (arith, few, count)) t.limits.lines

  root_is : (root : ℕ) → Contains trie.roots root → IsSmallRoot trie.rows root
  root_is root (k, below, is) =
      let told = root_told trie lexicon.phases h t.lexicon_itself.phases t.limits.short_forms root k below (get_or_default trie.roots k 0 root below ∙ is) in
      let within = told.within in
      let few = tellable.few in
      (told, omega (arith, within, few))

  are_roots : AllByRecursion (IsSmallRoot trie.rows) trie.roots
  are_roots = recursion_from_All (IsSmallRoot trie.rows) trie.roots (All-from_Contains (IsSmallRoot trie.rows) trie.roots root_is)

  count_roots : length names ≡ length trie.roots
  count_roots = let count = few_phases in let roots = h.is_trie.count in omega (arith, count, roots)

  some_row : 0 < length trie.rows
  some_row = by trie.roots are_roots (let some = t.limits.rule_set.some_phase in let count = count_roots in omega (arith, some, count))
    where
      by : (roots : List ℕ) → AllByRecursion (IsSmallRoot trie.rows) roots → 0 < length roots → 0 < length trie.rows
      by [] r some = absurd (omega (arith, some))
      by (root ∷ roots) r some = let within = r.0.0.within in omega (arith, within)

  -- ---- the lines

  abbrev rest_lines : List Line
  rest_lines =
      map ended_line (map phase_line names) ++ (ended_line (grammar_line lexicon.rules.grammar) ∷ (map ended_line (map plain_line plain)
      ++ (map ended_line (map (rule_line_in version names) rules) ++ (map ended_line (map node_line trie.rows) ++ (map ended_line (root_lines names trie.roots) ++ ended_line end_line ∷ [])))))

  arranged : map ended_line (lines_in version lexicon.rules trie) ≡ ended_line (head_line version) ∷ rest_lines
  arranged =
      let front = head_line version ∷ map phase_line names in
      let pairs = grammar_line lexicon.rules.grammar ∷ map plain_line plain in
      let ruled = map (rule_line_in version names) rules in
      let nodes = map node_line trie.rows in
      let rooted = root_lines names trie.roots in
      ap (map ended_line) (regrouped front pairs ruled nodes rooted (end_line ∷ [])) ∙ mapped_each ended_line front pairs ruled nodes rooted (end_line ∷ [])

  clean_lines : AllByRecursion IsClean (lines_in version lexicon.rules trie)
  clean_lines =
      let named = mapped IsPhaseName IsClean phase_line (λ name i. clean_name_line name i) names are_names.each in
      let grammar = clean_append (codes "grammar ") lexicon.rules.grammar refl (clean_grammar lexicon.rules.grammar t.lexicon_itself.rules.grammar_is_text.0) in
      let paired = mapped (λ pair. IsLetter pair.0 × IsLetter pair.1) IsClean plain_line (λ pair i. clean_pair_line pair i.0 i.1) plain are_pairs.each in
      let ruled = mapped (IsTextRule (length names)) IsClean (rule_line_in version names)
      (λ rule i. clean_rule_line_in version names t.lexicon_itself.rules.names_are_names rule i.rule_itself) rules are_rules.each in
      let noded = clean_nodes trie.rows (recursion_from_All (λ (row : Row). AllByRecursion IsRowDelta row.deltas) trie.rows tellable.deltas)
      (recursion_from_All (λ (row : Row). AllByRecursion IsSmallChild row.children) trie.rows (children_small trie.rows tellable)) in
      let rooted = clean_roots trie.rows names trie.roots are_names.each are_roots in
      let front = head_line version ∷ map phase_line names in
      let pairs = grammar_line lexicon.rules.grammar ∷ map plain_line plain in
      let rule_lines = map (rule_line_in version names) rules in
      let nodes = map node_line trie.rows in
      all_both IsClean ((((front ++ pairs) ++ rule_lines) ++ nodes) ++ root_lines names trie.roots) (end_line ∷ [])
      (all_both IsClean (((front ++ pairs) ++ rule_lines) ++ nodes) (root_lines names trie.roots)
      (all_both IsClean ((front ++ pairs) ++ rule_lines) nodes
      (all_both IsClean (front ++ pairs) rule_lines (all_both IsClean front pairs (clean_head version, named) (grammar, paired)) ruled) noded) rooted) (refl, tt)

  pub cut_again : lines_of_bytes (text_of_lines (lines_in version lexicon.rules trie)) ≡ ended_line (head_line version) ∷ rest_lines
  cut_again = lines_back (lines_in version lexicon.rules trie) (freed (lines_in version lexicon.rules trie) clean_lines) ∙ arranged

  -- ---- reading

  is_told : (mark : marks.Kind)
      → lexicon ≡ lexicon_told (told_at End mark names lexicon.rules.grammar plain rules trie.rows (node_lines trie.rows) trie.roots)
  is_told mark = let phases = trie_tells_phases trie lexicon.phases h.is_trie t.lexicon_itself.phases in λ i. record { rules = lexicon.rules; phases = sym phases i }

  may_end : (mark : marks.Kind) → MayEnd version (told_at Root mark names lexicon.rules.grammar plain rules trie.rows (node_lines trie.rows) trie.roots)
  may_end mark =
      let each = t.lexicon_itself.phases in
      let short = t.limits.short_forms in
      record {
        few_pairs = few_pairs trie lexicon.phases h.is_trie each short t.stems t.limits.lines;
        used = none_unused trie lexicon.phases h;
        right = none_wrong trie lexicon.phases h.is_trie each short t.stems;
        limited = limited_there version (record { last = mark; names = names; grammar = lexicon.rules.grammar; plain = plain; rules = rules; forms = [] }) t.rules;
      }

  pub read_in_order : Reads version (Ok lexicon) head_told rest_lines
  read_in_order =
      let grammar = lexicon.rules.grammar in
      all_names_read version (Ok lexicon) names _ t.limits.rule_set.some_phase are_names
      (grammar_read version (Ok lexicon) names grammar _ t.limits.rule_set.grammar
      (pairs_read version (Ok lexicon) names grammar are_names [] plain Grammar marks.Grammar _ ((λ rooted. refl), ((λ rooted. refl), λ rooted. refl)) are_pairs
      (λ last mark b. rules_read version (Ok lexicon) names grammar are_names plain [] rules last mark _ b are_rules
      (λ last mark b. all_nodes_read version (Ok lexicon) names grammar are_names plain rules mark trie.rows last _ some_row b tellable
      (all_roots_read version (Ok lexicon) names grammar are_names plain rules mark trie.rows names trie.roots _ refl t.limits.rule_set.some_phase count_roots are_roots
      (end_read version (Ok lexicon) names grammar are_names plain rules mark trie.rows trie.roots (sym count_roots) (may_end mark) (ap Ok (is_told mark))))))))

-- the text of a lexicon is read as this lexicon
pub text_read : (version : Version) (lexicon : Lexicon) (bytes : List ℕ) → IsTrieText version lexicon bytes → IsReadAs bytes (Ok lexicon)
unfolding version_of reading_in text_in
text_read version lexicon bytes x =
    let t = x.has_text in
    let cut : lines_of_bytes bytes ≡ ended_line (head_line version) ∷ rest_lines version lexicon x.trie t x.ordered =
    ap lines_of_bytes x.text ∙ cut_again version lexicon x.trie t x.ordered in
    let is : version_of bytes ≡ Some version = ap version_of_lines cut ∙ head_tells version in
    let read : IsResult (reading_in version bytes) (Ok lexicon) =
    subst (λ all. IsResult (read_lines version head_told 2 (drop 1 all)) (Ok lexicon)) (sym cut) (read_in_order version lexicon x.trie t x.ordered 2) in
    subst (λ v. IsReadIn v bytes (Ok lexicon)) (sym is) read

-- ---- any version

-- the text of version 1 tells no later version
first_head : (lexicon : Lexicon) → version_of (text_of lexicon) ≡ None
unfolding version_of text_of
first_head lexicon =
    let rest = text_of_lines (drop 1 (lines_of lexicon)) in
    ap version_of_lines (ap lines_of_bytes (append_assoc first.head_line (10 ∷ []) rest) ∙ line_at first.head_line rest refl)

pub any_text_read : (version : Option Version) (lexicon : Lexicon) (bytes : List ℕ) → IsTextIn version lexicon bytes → IsReadAs bytes (Ok lexicon)
any_text_read None lexicon bytes x =
    let is : version_of bytes ≡ None = ap version_of x.text ∙ first_head lexicon in
    let read = subst (λ all. readings.IsReadAs all (Ok lexicon)) (sym x.text) (written.text_read lexicon x.has_text) in
    subst (λ v. IsReadIn v bytes (Ok lexicon)) (sym is) (Ok lexicon, read, refl)
any_text_read (Some version) lexicon bytes x = text_read version lexicon bytes x

pub newest_text_read : (lexicon : Lexicon) (bytes : List ℕ) → IsNewestText lexicon bytes → IsReadAs bytes (Ok lexicon)
newest_text_read lexicon bytes (version, x) = text_read version lexicon bytes x
