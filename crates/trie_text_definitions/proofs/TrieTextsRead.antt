-- What is read in a file of version 2 or 3 is a text of what was read: its trie is that of the phases, each node is led to, and what was told
-- line by line spells the lines.
use Rattle.std.proofs.Common.{◌≡◌, inl, inr, ℕ, zero, suc, ◌<◌, ◌&&◌, ◌==◌, Bool, true, false, not, cond, Option, Some, None, Ok, List, [], ◌∷◌, ◌++◌, length, map, take, drop, get_or, refl, sym, ◌∙◌, ap, subst, arith}
use Rattle.std.specs.Prelude.{Contains}
use Rattle.std.specs.List.{AllByRecursion, list_any, flat_map, range_with_len}
use Rattle.std.specs.List.Sorted.{IsStrictlySortedBy}
use Rattle.std.specs.Str.{bytes_eq}
use Rattle.std.proofs.lemmas.Bool.{and_parts, not-false, or_parts, eqb-true}
use Rattle.std.proofs.lemmas.List.{append_assoc, length-map, get_or-map}
use Rattle.std.proofs.lemmas.List.Elements.{All-contains, recursion_from_All, Contains-get_or, All-get_or}
use Rattle.std.proofs.lemmas.List.Folds.{Any-from_list_any}
use Rattle.list_laws.proofs.Sorted.{Contains-cons_cases, not_Contains-nil}
use Rattle.list_laws.proofs.Texts.{bytes_same}
use Rattle.lexicon_definitions.specs.GrammarFaults.{IsGrammarTextWithinLimits}
use Rattle.lexicon_definitions.specs.Lexicons.{Lexicon}
use Rattle.lexicon_definitions.specs.Tries.{Row, Trie, AreRows, IsChild, IsNodeAfter, row_of, walk}
use Rattle.lexicon_definitions.proofs.TrieGrowth.{walk-child}
use Rattle.lexicon_definitions.proofs.TrieSteps.{child_among-Contains}
use Rattle.lexicon_text_definitions.specs.FileContents.{rules_told}
use Rattle.lexicon_text_definitions.specs.FileReadings as readings
use Rattle.lexicon_text_definitions.specs.FileLines.{Line, lines_of_bytes}
use Rattle.lexicon_text_definitions.specs.LexiconTexts.{phase_line, grammar_line, plain_line, end_line, text_of_lines}
use Rattle.lexicon_text_definitions.proofs.LineCuts.{text_from_lines}
use Rattle.lexicon_text_definitions.proofs.WholeTexts as whole
use Rattle.trie_text_definitions.specs.Versions.{Version, Second, Third, head_line, version_of_lines, version_of}
use Rattle.trie_text_definitions.specs.NodeValues.{values_of, nodes_over, nodes_from, is_led_to}
use Rattle.trie_text_definitions.specs.TrieForms.{forms_of_root, phases_of}
use Rattle.trie_text_definitions.specs.NodeLines.{compare_node_lines, node_line}
use Rattle.trie_text_definitions.specs.TrieTexts.{rule_line_in, root_lines, lines_in, text_in}
use Rattle.trie_text_definitions.specs.VersionSteps.{Told, End, head_told, trie_told}
use Rattle.trie_text_definitions.specs.VersionReadings.{IsReadIn, IsReadAs, reading_in, lexicon_told}
use Rattle.trie_text_definitions.specs.VersionTexts.{IsLedTo, IsOrderedTrieOf, IsTrieText, IsTextIn}
use Rattle.trie_text_definitions.proofs.LexiconsTold.{has_text, read_by, all_read, first_by, right_roots}
use Rattle.trie_text_definitions.proofs.NodeValueLaws.{value_at, value_before, length-before}
use Rattle.trie_text_definitions.proofs.RootNodes.{in_range, node_of_root}
use Rattle.trie_text_definitions.proofs.SuffixLaws.{Contains-flat_map_cases}
use Rattle.trie_text_definitions.proofs.ToldTries.{IsToldRoot, trie_of_nodes}
use Rattle.trie_text_definitions.proofs.VersionsSoFar.{lines_so_far}
use Rattle.trie_text_definitions.proofs.VersionsTold.{IsRead}

-- ---- nodes that are led to

module _ (rows : List Row) (are : AreRows rows) where
  same_nodes : (node : ℕ) → node < length rows → (children : List (ℕ × ℕ)) → AllByRecursion (IsChild rows node) children
      → flat_map (λ (child : ℕ × ℕ). get_or (values_of nodes_over (take node rows)) child.1 []) children ≡ flat_map (λ (child : ℕ × ℕ). nodes_from rows child.1) children
  same_nodes node low [] h = refl
  same_nodes node low (child ∷ children) h =
      let same = value_before nodes_over rows child.1 node [] h.0.before low in
      λ i. same i ++ same_nodes node low children h.1 i

  pub nodes_are : (node : ℕ) → node < length rows → nodes_from rows node ≡ node ∷ flat_map (λ (child : ℕ × ℕ). nodes_from rows child.1) (row_of rows node).children
  nodes_are node low =
      value_at nodes_over rows node [] low
      ∙ (λ i. length-before nodes_over rows node low i ∷ same_nodes node low (row_of rows node).children (recursion_from_All (IsChild rows node) (row_of rows node).children (are.each node low).children) i)

  -- a word leads to each of these nodes
  walk_to : (bound node reached : ℕ) → node < bound → node < length rows → Contains (nodes_from rows node) reached → (word : List ℕ) × (walk rows node word ≡ Some reached)
  walk_to zero node reached below low m = absurd (omega (arith, below))
  walk_to (suc bound) node reached below low m =
      elim (Contains-cons_cases node (flat_map (λ (child : ℕ × ℕ). nodes_from rows child.1) (row_of rows node).children) reached (subst (λ (ns : List ℕ). Contains ns reached) (nodes_are node low) m)) [
        | inl same ↦ ([], ap Some same)
        | inr later ↦
            let (child, among, inside) = Contains-flat_map_cases (λ (child : ℕ × ℕ). nodes_from rows child.1) (row_of rows node).children reached later in
            let before = (All-contains (IsChild rows node) (row_of rows node).children child (are.each node low).children among).before in
            let (word, walked) = walk_to bound child.1 reached (omega (arith, before, below)) (omega (arith, before, low)) inside in
            let leads = child_among-Contains child.0 child.1 (row_of rows node).children (are.each node low).letters among in
            (child.0 ∷ word, walk-child rows node child.0 child.1 word leads ∙ walked)
      ]

any_there : {X : Type 0} (test : X → Bool) (xs : List X) → list_any test xs ≡ true → (x : X) × Contains xs x × (test x ≡ true)
any_there test xs h = let (k, x, below, is, passed) = Any-from_list_any test xs h in (x, (k, below, is), passed)

none_passes : {X : Type 0} (test : X → Bool) (xs : List X) (x : X) → list_any test xs ≡ false → Contains xs x → test x ≡ false
none_passes test [] x h m = absurd (not_Contains-nil x m)
none_passes test (first ∷ xs) x h m =
    let parts = or_parts (test first) (list_any test xs) h in
    elim (Contains-cons_cases first xs x m) [
      | inl same ↦ subst (λ z. test z ≡ false) same parts.0
      | inr later ↦ none_passes test xs x parts.1 later
    ]

-- ---- the first line

head_by : (line : Line) (version : Version) (second third : Bool) → (line.ended && bytes_eq line.bytes (head_line Second)) ≡ second → (line.ended && bytes_eq line.bytes (head_line Third)) ≡ third
    → cond second (Some Second) (cond third (Some Third) None) ≡ Some version → (line.ended ≡ true) × (line.bytes ≡ head_line version)
head_by line version true third e f h =
    let same : Second ≡ version = cc in
    let parts = and_parts line.ended (bytes_eq line.bytes (head_line Second)) e in
    (parts.0, bytes_same line.bytes (head_line Second) parts.1 ∙ ap head_line same)
head_by line version false true e f h =
    let same : Third ≡ version = cc in
    let parts = and_parts line.ended (bytes_eq line.bytes (head_line Third)) f in
    (parts.0, bytes_same line.bytes (head_line Third) parts.1 ∙ ap head_line same)
head_by line version false false e f h = absurd (cc)

-- all lines are ended, and their bytes are the first line and those of the others
abbrev HasHead : Version → List Line → Type 0
HasHead version lines =
    AllByRecursion (λ (line : Line). line.ended ≡ true) (drop 1 lines)
    → AllByRecursion (λ (line : Line). line.ended ≡ true) lines × (map (λ (line : Line). line.bytes) lines ≡ head_line version ∷ map (λ (line : Line). line.bytes) (drop 1 lines))

head_of : (lines : List Line) (version : Version) → version_of_lines lines ≡ Some version → HasHead version lines
head_of [] version h = absurd (cc)
head_of (line ∷ lines) version h =
    let head = head_by line version (line.ended && bytes_eq line.bytes (head_line Second)) (line.ended && bytes_eq line.bytes (head_line Third)) refl refl h in
    λ ended. ((head.0, ended), ap (λ (bytes : List ℕ). bytes ∷ map (λ (line : Line). line.bytes) lines) head.1)

-- ---- the text

lines_are : (version : Version) (told : Told) → lines_in version (rules_told told.front) (trie_told told) ≡ lines_so_far version End told
lines_are version told =
    let front = head_line version ∷ map phase_line told.front.names in
    λ i. (((sym (append_assoc front (grammar_line told.front.grammar ∷ []) (map plain_line told.front.plain)) i ++ map (rule_line_in version told.front.names) told.front.rules)
    ++ map node_line told.rows) ++ root_lines told.front.names told.roots) ++ end_line ∷ []

module _ (version : Version) (bytes : List ℕ) (content : Told) (r : IsRead IsGrammarTextWithinLimits version head_told (drop 1 (lines_of_bytes bytes)) content) where
  abbrev trie : Trie
  trie = trie_told content

  each_phase : (phase : ℕ) → phase < length (phases_of trie)
      → IsNodeAfter content.rows (get_or (phases_of trie) phase []) [] (get_or content.roots phase 0)
  each_phase phase below =
      let count = length-map content.roots (forms_of_root content.rows) in
      let within : phase < length content.roots = omega (arith, below, count) in
      let root = get_or content.roots phase 0 in
      let is = All-get_or (IsToldRoot content.rows) content.roots phase 0 within r.lawful.nodes.rooted in
      let right = right_roots version head_told content (drop 1 (lines_of_bytes bytes)) r root (Contains-get_or content.roots phase 0 within) in
      let at = get_or-map (forms_of_root content.rows) content.roots phase 0 [] within in
      subst (λ forms. IsNodeAfter content.rows forms [] root) (sym at) (node_of_root content.rows r.lawful.nodes.each root is.0.within right)

  led : (node : ℕ) → node < length content.rows → IsLedTo trie node
  led node low =
      let used = not-false (is_led_to trie node) (none_passes (λ node. not (is_led_to trie node)) (range_with_len 0 (length content.rows)) node r.well.used (in_range 0 (length content.rows) node (omega arith) (omega (arith, low)))) in
      let (root, m, leads) = any_there (λ root. list_any (λ reached. reached == node) (nodes_from content.rows root)) content.roots used in
      let (reached, n, e) = any_there (λ reached. reached == node) (nodes_from content.rows root) leads in
      let within = (All-contains (IsToldRoot content.rows) content.roots root r.lawful.nodes.rooted m).0.within in
      let (word, walked) = walk_to content.rows r.lawful.nodes.each (suc root) root reached (omega arith) within n in
      record { root = root; is_root = m; word = word; walked = walked ∙ ap Some (eqb-true reached node e) }

  pub ordered : IsOrderedTrieOf trie (phases_of trie)
  ordered = record {
    is_trie = record {
      is_trie = trie_of_nodes content.rows content.nodes content.roots r.lawful.nodes;
      count = sym (length-map content.roots (forms_of_root content.rows));
      each = each_phase;
    };
    is_used = led;
    rising = subst (IsStrictlySortedBy compare_node_lines) r.lawful.nodes.lines r.lawful.nodes.rising;
  }

  text : version_of bytes ≡ Some version → bytes ≡ text_in version (rules_told content.front) trie
  unfolding version_of text_in
  text v =
      let both = head_of (lines_of_bytes bytes) version v r.ended in
      text_from_lines bytes both.0 ∙ ap text_of_lines both.1 ∙ ap text_of_lines (sym r.so_far) ∙ ap text_of_lines (sym (lines_are version content))

  pub is_text : version_of bytes ≡ Some version → IsTrieText version (lexicon_told content) bytes
  is_text v = record {
    has_text = has_text version head_told content (drop 1 (lines_of_bytes bytes)) r;
    trie = trie;
    ordered = ordered;
    text = text v;
  }

text_by : (version : Option Version) (bytes : List ℕ) (lexicon : Lexicon) → version_of bytes ≡ version → IsReadIn version bytes (Ok lexicon) → IsTextIn version lexicon bytes
text_by None bytes lexicon v (told, h, e) = whole.read_text bytes lexicon (subst (readings.IsReadAs bytes) (first_by told lexicon e) h)
text_by (Some version) bytes lexicon v h =
    let (content, t, e) = read_by version (reading_in version bytes) lexicon h in
    subst (λ l. IsTrieText version l bytes) (sym e) (is_text version bytes content (all_read version bytes content t) v)

-- bytes that are read as a lexicon are its text in their version
pub read_text : (bytes : List ℕ) (lexicon : Lexicon) → IsReadAs bytes (Ok lexicon) → IsTextIn (version_of bytes) lexicon bytes
read_text bytes lexicon h = text_by (version_of bytes) bytes lexicon refl h
