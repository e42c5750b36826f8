-- The lines of a lexicon's text are read one after another, kind by kind: what was told so far and what is left are together the whole, which
-- is lawful, so each line is taken; and the last line passes its tests, since the trie is that of the lexicon.
use Rattle.std.proofs.Common.{◌≡◌, ◌≢◌, inl, ℕ, ◌+◌, ◌<◌, ◌≤◌, Bool, true, false, not, eqb, None, Ok, List, [], ◌∷◌, ◌++◌, length, map, AllPairs, codes, refl, sym, ◌∙◌, ap, subst, arith}
use Rattle.std.specs.Prelude.{slice_index_or}
use Rattle.std.specs.List.{AllByRecursion}
use Rattle.std.specs.List.Sorted.{IsStrictlySortedBy}
use Rattle.std.proofs.lemmas.Bool.{eq-eqb, ne_eqb}
use Rattle.std.proofs.lemmas.List.{append_assoc, append-nil, length-append, get_or_at}
use Rattle.std.proofs.lemmas.List.Elements.{All-from_recursion}
use Rattle.list_laws.proofs.Booleans.{when_false}
use Rattle.text_definitions.specs.Letters.{IsLetter}
use Rattle.lexicon_definitions.specs.declared.limits.TheConstants.{MOST_PHASES}
use Rattle.lexicon_definitions.specs.GrammarFaults.{IsGrammarTextWithinLimits}
use Rattle.lexicon_definitions.specs.Lexicons.{IsPhaseName, compare_pairs}
use Rattle.lexicon_definitions.specs.Rules.{Rule}
use Rattle.lexicon_definitions.specs.Tries.{Row}
use Rattle.lexicon_definitions.proofs.GrammarFaultCases.{grammar_over}
use Rattle.lexicon_definitions.proofs.PlainPairs.{pairs_total}
use Rattle.lexicon_text_definitions.specs.FileLines as marks
use Rattle.lexicon_text_definitions.specs.FileLines.{Line}
use Rattle.lexicon_text_definitions.specs.LexiconTexts.{phase_line, grammar_line, plain_line, end_line}
use Rattle.lexicon_text_definitions.proofs.CleanBytes.{clean_append, clean_utf8, clean_grammar}
use Rattle.lexicon_text_definitions.proofs.FormPhases.{all_right}
use Rattle.lexicon_text_definitions.proofs.LineCuts.{ended_line}
use Rattle.lexicon_text_definitions.proofs.LineSteps.{MayName, MayPair}
use Rattle.lexicon_text_definitions.proofs.LineTests.{pairs_before}
use Rattle.lexicon_text_definitions.proofs.RisingLines.{last_below}
use Rattle.lexicon_text_definitions.proofs.WrittenTexts.{clean_name_line}
use Rattle.trie_text_definitions.specs.NodeLines.{NodeLine, node_line, node_line_over, node_lines}
use Rattle.trie_text_definitions.specs.NodeValues.{has_unused}
use Rattle.trie_text_definitions.specs.TrieForms.{has_too_many_pairs, has_wrong_delta}
use Rattle.trie_text_definitions.specs.TrieTexts.{rule_line_in, root_line, root_lines}
use Rattle.trie_text_definitions.specs.Versions.{Version}
use Rattle.trie_text_definitions.specs.VersionFaults.{FileResult}
use Rattle.trie_text_definitions.specs.VersionReadings.{IsResult, asking, read_on, read_lines, lexicon_told}
use Rattle.trie_text_definitions.specs.VersionSteps.{Kind, Head, Phase, Grammar, Plain, Rules, Node, Root, End, Told, trie_told, may_follow, take_line, take_end, lacks_limited}
use Rattle.trie_text_definitions.proofs.NodeSteps.{with_row, with_root, IsRootNode}
use Rattle.trie_text_definitions.proofs.NodeValueLaws.{values_push}
use Rattle.trie_text_definitions.proofs.VersionLines.{with_end}
use Rattle.trie_text_laws.proofs.CleanLines.{clean_pair_line, clean_node_line, clean_root_line}
use Rattle.trie_text_laws.proofs.FrontLines.{takes_name_line, takes_grammar_line, takes_pair_line, takes_end_line}
use Rattle.trie_text_laws.proofs.NodeFieldsRead.{IsSmallNumber}
use Rattle.trie_text_laws.proofs.NodeLinesRead.{takes_node_line, takes_root_line}
use Rattle.trie_text_laws.proofs.OrderedRows.{AreTellable, may_tell}
use Rattle.trie_text_laws.proofs.RuleLinesRead.{AreRules, takes_rule_line}

-- ---- parts of a lexicon that are lawful as a whole

pub record AreNames (names : List (List ℕ)) : Type 0 where
  pub each : AllByRecursion IsPhaseName names
  pub apart : AllPairs (λ left right. left ≢ right) names
  pub few : length names ≤ MOST_PHASES

pub record ArePairs (pairs : List (ℕ × ℕ)) : Type 0 where
  pub each : AllByRecursion (λ pair. IsLetter pair.0 × IsLetter pair.1) pairs
  pub rising : IsStrictlySortedBy compare_pairs pairs

-- a root of these rows whose number has not too many digits
abbrev pub IsSmallRoot : List Row → ℕ → Type 0
IsSmallRoot rows root = IsRootNode rows root × IsSmallNumber root

-- what is asked at the line `end`
pub record MayEnd (version : Version) (told : Told) : Type 0 where
  pub few_pairs : has_too_many_pairs (trie_told told) ≡ false
  pub used : has_unused (trie_told told) ≡ false
  pub right : has_wrong_delta (trie_told told) ≡ false
  pub limited : lacks_limited version told.front ≡ false

-- ---- reading one line after another

-- the kinds after which nodes may come, also rules, also pairs
abbrev BeforeNodes : Kind → Type 0
BeforeNodes last = (rooted : Bool) → may_follow rooted last Node ≡ true

abbrev BeforeRules : Kind → Type 0
BeforeRules last = ((rooted : Bool) → may_follow rooted last Rules ≡ true) × BeforeNodes last

abbrev BeforePairs : Kind → Type 0
BeforePairs last = ((rooted : Bool) → may_follow rooted last Plain ≡ true) × BeforeRules last

abbrev pub told_at : Kind → marks.Kind → List (List ℕ) → List ℕ → List (ℕ × ℕ) → List Rule → List Row → List NodeLine → List ℕ → Told
told_at last mark names grammar plain rules rows nodes roots =
    record {
      last = last;
      front = record { last = mark; names = names; grammar = grammar; plain = plain; rules = rules; forms = [] };
      rows = rows;
      nodes = nodes;
      roots = roots;
    }

abbrev pub names_at : Kind → marks.Kind → List (List ℕ) → Told
names_at last mark names = told_at last mark names [] [] [] [] [] []

module _ (version : Version) (result : FileResult) where
  -- from here on the lines are read with this result, whatever the number of the first
  abbrev pub Reads : Told → List Line → Type 0
  Reads told lines = (number : ℕ) → IsResult (read_lines version told number lines) result

  one_line : (told after : Told) (bytes : List ℕ) (lines : List Line) → take_line version told (ended_line bytes) ≡ Ok after
      → ((number : ℕ) → IsResult (asking after.last number after (read_lines version after (number + 1) lines)) result) → Reads told (ended_line bytes ∷ lines)
  one_line told after bytes lines e h number =
      subst (λ taken. IsResult (read_on number taken (λ following. read_lines version following (number + 1) lines)) result) (sym e) (h number)

  -- ---- names and grammar

  name_read : (before : List (List ℕ)) (name : List ℕ) (more : List (List ℕ)) (last : Kind) (mark : marks.Kind) (lines : List Line) → ((rooted : Bool) → may_follow rooted last Phase ≡ true)
      → AreNames (before ++ name ∷ more) → Reads (names_at Phase marks.Phase (before ++ name ∷ [])) lines → Reads (names_at last mark before) (ended_line (phase_line name) ∷ lines)
  name_read before name more last mark lines f h k =
      let itself = (all_right IsPhaseName before (name ∷ more) h.each).0 in
      let few : length before < MOST_PHASES = let all = h.few in let long = length-append before (name ∷ more) in omega (arith, all, long) in
      let told = names_at last mark before in
      let may : MayName told.front name = record { name_itself = itself; few = few; new = pairs_before (λ left right. left ≢ right) before name more h.apart } in
      one_line told (names_at Phase marks.Phase (before ++ name ∷ [])) (phase_line name) lines
      (takes_name_line version told name (f _) (clean_utf8 (phase_line name) (clean_name_line name itself)) may) (λ number. k (number + 1))

  names_read : (before more : List (List ℕ)) (lines : List Line) → AreNames (before ++ more) → Reads (names_at Phase marks.Phase (before ++ more)) lines
      → Reads (names_at Phase marks.Phase before) (map ended_line (map phase_line more) ++ lines)
  names_read before [] lines h k = subst (λ names. Reads (names_at Phase marks.Phase names) lines) (append-nil before) k
  names_read before (name ∷ more) lines h k =
      let all = sym (append_assoc before (name ∷ []) more) in
      name_read before name more Phase marks.Phase (map ended_line (map phase_line more) ++ lines) (λ rooted. refl) h
      (names_read (before ++ name ∷ []) more lines (subst AreNames all h) (subst (λ names. Reads (names_at Phase marks.Phase names) lines) all k))

  pub all_names_read : (names : List (List ℕ)) (lines : List Line) → 0 < length names → AreNames names → Reads (names_at Phase marks.Phase names) lines
      → Reads (names_at Head marks.Head []) (map ended_line (map phase_line names) ++ lines)
  all_names_read [] lines n h k = absurd (omega (arith, n))
  all_names_read (name ∷ names) lines n h k =
      name_read [] name names Head marks.Head (map ended_line (map phase_line names) ++ lines) (λ rooted. refl) h (names_read (name ∷ []) names lines h k)

  pub grammar_read : (names : List (List ℕ)) (text : List ℕ) (lines : List Line) → IsGrammarTextWithinLimits names text
      → Reads (told_at Grammar marks.Grammar names text [] [] [] [] []) lines → Reads (names_at Phase marks.Phase names) (ended_line (grammar_line text) ∷ lines)
  grammar_read names text lines g k =
      let clean = clean_append (codes "grammar ") text refl (clean_grammar text (grammar_over names text g).0) in
      one_line (names_at Phase marks.Phase names) (told_at Grammar marks.Grammar names text [] [] [] [] []) (grammar_line text) lines
      (takes_grammar_line version (names_at Phase marks.Phase names) text refl (clean_utf8 (grammar_line text) clean)) (λ number. inl (g, k (number + 1)))

  module _ (names : List (List ℕ)) (grammar : List ℕ) (n : AreNames names) where
    -- ---- pairs

    pub pairs_read : (before more : List (ℕ × ℕ)) (last : Kind) (mark : marks.Kind) (lines : List Line) → BeforePairs last → ArePairs (before ++ more)
        → ((last : Kind) (mark : marks.Kind) → BeforeRules last → Reads (told_at last mark names grammar (before ++ more) [] [] [] []) lines)
        → Reads (told_at last mark names grammar before [] [] [] []) (map ended_line (map plain_line more) ++ lines)
    pairs_read before [] last mark lines b h k = subst (λ pairs. Reads (told_at last mark names grammar pairs [] [] [] []) lines) (append-nil before) (k last mark b.1)
    pairs_read before (pair ∷ more) last mark lines b h k =
        let told = told_at last mark names grammar before [] [] [] [] in
        let all = sym (append_assoc before (pair ∷ []) more) in
        let letters = (all_right (λ pair. IsLetter pair.0 × IsLetter pair.1) before (pair ∷ more) h.each).0 in
        let may : MayPair told.front pair = record { left = letters.0; right = letters.1; above = last_below pairs_total before pair more h.rising } in
        one_line told (told_at Plain marks.Plain names grammar (before ++ pair ∷ []) [] [] [] []) (plain_line pair) (map ended_line (map plain_line more) ++ lines)
        (takes_pair_line version told pair (b.0 _) (clean_utf8 (plain_line pair) (clean_pair_line pair letters.0 letters.1)) may)
        (λ number. pairs_read (before ++ pair ∷ []) more Plain marks.Plain lines ((λ rooted. refl), ((λ rooted. refl), λ rooted. refl)) (subst ArePairs all h)
        (λ last mark b. subst (λ pairs. Reads (told_at last mark names grammar pairs [] [] [] []) lines) all (k last mark b)) (number + 1))

    module _ (plain : List (ℕ × ℕ)) where
      -- ---- rules

      pub rules_read : (before more : List Rule) (last : Kind) (mark : marks.Kind) (lines : List Line) → BeforeRules last → AreRules version (length names) (before ++ more)
          → ((last : Kind) (mark : marks.Kind) → BeforeNodes last → Reads (told_at last mark names grammar plain (before ++ more) [] [] []) lines)
          → Reads (told_at last mark names grammar plain before [] [] []) (map ended_line (map (rule_line_in version names) more) ++ lines)
      rules_read before [] last mark lines b h k = subst (λ rules. Reads (told_at last mark names grammar plain rules [] [] []) lines) (append-nil before) (k last mark b.1)
      rules_read before (rule ∷ more) last mark lines b h k =
          let told = told_at last mark names grammar plain before [] [] [] in
          let all = sym (append_assoc before (rule ∷ []) more) in
          one_line told (told_at Rules marks.Rule names grammar plain (before ++ rule ∷ []) [] [] []) (rule_line_in version names rule) (map ended_line (map (rule_line_in version names) more) ++ lines)
          (takes_rule_line told before rule more refl (All-from_recursion IsPhaseName names n.each) n.apart (b.0 _) version h)
          (λ number. rules_read (before ++ rule ∷ []) more Rules marks.Rule lines ((λ rooted. refl), λ rooted. refl) (subst (AreRules version (length names)) all h)
          (λ last mark b. subst (λ rules. Reads (told_at last mark names grammar plain rules [] [] []) lines) all (k last mark b)) (number + 1))

      module _ (rules : List Rule) (mark : marks.Kind) where
        -- ---- nodes

        abbrev nodes_at : Kind → List Row → Told
        nodes_at last rows = told_at last mark names grammar plain rules rows (node_lines rows) []

        node_read : (before : List Row) (row : Row) (more : List Row) (last : Kind) (lines : List Line) → BeforeNodes last → AreTellable (before ++ row ∷ more)
            → Reads (nodes_at Node (before ++ row ∷ [])) lines → Reads (nodes_at last before) (ended_line (node_line row) ∷ lines)
        node_read before row more last lines b t k =
            let told = nodes_at last before in
            let m = may_tell told before row more refl refl t in
            one_line told (with_row told row) (node_line row) lines
            (takes_node_line told row m version (b _) (clean_utf8 (node_line row) (clean_node_line row m.deltas m.children)))
            (λ number. subst (λ nodes. IsResult (read_lines version (told_at Node mark names grammar plain rules (before ++ row ∷ []) nodes []) (number + 1) lines) result)
            (values_push node_line_over before row) (k (number + 1)))

        nodes_read : (before more : List Row) (lines : List Line) → AreTellable (before ++ more) → Reads (nodes_at Node (before ++ more)) lines
            → Reads (nodes_at Node before) (map ended_line (map node_line more) ++ lines)
        nodes_read before [] lines t k = subst (λ rows. Reads (nodes_at Node rows) lines) (append-nil before) k
        nodes_read before (row ∷ more) lines t k =
            let all = sym (append_assoc before (row ∷ []) more) in
            node_read before row more Node (map ended_line (map node_line more) ++ lines) (λ rooted. refl) t
            (nodes_read (before ++ row ∷ []) more lines (subst AreTellable all t) (subst (λ rows. Reads (nodes_at Node rows) lines) all k))

        pub all_nodes_read : (rows : List Row) (last : Kind) (lines : List Line) → 0 < length rows → BeforeNodes last → AreTellable rows → Reads (nodes_at Node rows) lines
            → Reads (nodes_at last []) (map ended_line (map node_line rows) ++ lines)
        all_nodes_read [] last lines some b t k = absurd (omega (arith, some))
        all_nodes_read (row ∷ rows) last lines some b t k =
            node_read [] row rows last (map ended_line (map node_line rows) ++ lines) b t (nodes_read (row ∷ []) rows lines t k)

        module _ (rows : List Row) where
          -- ---- roots

          abbrev pub roots_at : Kind → List ℕ → Told
          roots_at last roots = told_at last mark names grammar plain rules rows (node_lines rows) roots

          root_read : (front : List (List ℕ)) (name : List ℕ) (rest : List (List ℕ)) (before : List ℕ) (root : ℕ) (last : Kind) (lines : List Line)
              → ((rooted : Bool) → rooted ≡ false → may_follow rooted last Root ≡ true) → names ≡ front ++ name ∷ rest → length front ≡ length before → IsSmallRoot rows root
              → Reads (roots_at Root (before ++ root ∷ [])) lines → Reads (roots_at last before) (ended_line (root_line name root) ∷ lines)
          root_read front name rest before root last lines f e count r k =
              let told = roots_at last before in
              let itself = (all_right IsPhaseName front (name ∷ rest) (subst (AllByRecursion IsPhaseName) e n.each)).0 in
              let long = ap (λ (ns : List (List ℕ)). length ns) e in
              let parts = length-append front (name ∷ rest) in
              let unrooted : eqb (length before) (length names) ≡ false = ne_eqb (length before) (length names) (λ same. omega (arith, long, parts, count, same)) in
              one_line told (with_root told root) (root_line name root) lines
              (takes_root_line version told name root (f _ unrooted) (clean_utf8 (root_line name root) (clean_root_line name root itself r.1)) itself
              (ap (λ (ns : List (List ℕ)). slice_index_or ns (length before) []) e ∙ get_or_at front name rest [] (length before) count) r.0 r.1)
              (λ number. k (number + 1))

          roots_read : (front rest : List (List ℕ)) (before more : List ℕ) (lines : List Line) → names ≡ front ++ rest → length front ≡ length before → length rest ≡ length more
              → AllByRecursion (IsSmallRoot rows) more → Reads (roots_at Root (before ++ more)) lines → Reads (roots_at Root before) (map ended_line (root_lines rest more) ++ lines)
          roots_read front [] before [] lines e count c r k = subst (λ roots. Reads (roots_at Root roots) lines) (append-nil before) k
          roots_read front [] before (root ∷ more) lines e count c r k = absurd (omega (arith, c))
          roots_read front (name ∷ rest) before [] lines e count c r k = absurd (omega (arith, c))
          roots_read front (name ∷ rest) before (root ∷ more) lines e count c r k =
              let all = sym (append_assoc before (root ∷ []) more) in
              let left = length-append front (name ∷ []) in
              let right = length-append before (root ∷ []) in
              root_read front name rest before root Root (map ended_line (root_lines rest more) ++ lines) (λ rooted u. ap not u) e count r.0
              (roots_read (front ++ name ∷ []) rest (before ++ root ∷ []) more lines (e ∙ sym (append_assoc front (name ∷ []) rest)) (omega (arith, left, right, count)) (omega (arith, c)) r.1
              (subst (λ roots. Reads (roots_at Root roots) lines) all k))

          pub all_roots_read : (all : List (List ℕ)) (roots : List ℕ) (lines : List Line) → names ≡ all → 0 < length all → length all ≡ length roots → AllByRecursion (IsSmallRoot rows) roots
              → Reads (roots_at Root roots) lines → Reads (roots_at Node []) (map ended_line (root_lines all roots) ++ lines)
          all_roots_read [] roots lines e some c r k = absurd (omega (arith, some))
          all_roots_read (name ∷ rest) [] lines e some c r k = absurd (omega (arith, c))
          all_roots_read (name ∷ rest) (root ∷ roots) lines e some c r k =
              root_read [] name rest [] root Node (map ended_line (root_lines rest roots) ++ lines) (λ rooted u. refl) e refl r.0
              (roots_read (name ∷ []) rest (root ∷ []) roots lines e refl (omega (arith, c)) r.1 k)

          -- ---- the end

          pub end_read : (roots : List ℕ) → length roots ≡ length names → MayEnd version (roots_at Root roots) → result ≡ Ok (lexicon_told (roots_at End roots))
              → Reads (roots_at Root roots) (ended_line end_line ∷ [])
          unfolding take_end
          end_read roots count m e =
              let told = roots_at Root roots in
              let passes : take_end version told None ≡ Ok (with_end told) =
              when_false (has_too_many_pairs (trie_told told)) _ _ _ m.few_pairs
              (when_false (has_unused (trie_told told)) _ _ _ m.used
              (when_false (has_wrong_delta (trie_told told)) _ _ _ m.right (when_false (lacks_limited version told.front) _ _ _ m.limited refl)))
              in
              one_line told (with_end told) end_line [] (takes_end_line version told (eq-eqb (length roots) (length names) count) passes) (λ number. e)
