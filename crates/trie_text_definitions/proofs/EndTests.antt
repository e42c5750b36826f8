-- The trie of a lexicon passes what is asked at `end`: each node is led to, each delta is the right one, and since an analysis has one delta
-- there are as many deltas of a form as analyses.
use Rattle.std.proofs.Common.{◌≡◌, ◌≢◌, inl, inr, ℕ, zero, suc, ◌+◌, ◌-◌, ◌<◌, ◌≤◌, ◌==◌, Bool, true, false, not, leb, Option, Some, None, List, [], ◌∷◌, length, map, take, drop, get_or, refl, sym, ◌∙◌, ap, subst, arith}
use Rattle.std.specs.Prelude.{All, Contains, sum_by}
use Rattle.std.specs.List.{list_all, list_any, range_with_len, flat_map}
use Rattle.std.specs.List.Sorted.{IsStrictlySortedBy}
use Rattle.std.specs.declared.cmp.Ordering.{Ordering}
use Rattle.std.specs.declared.cmp.Ordering.TheVariants.{Less, Equal, Greater}
use Rattle.std.proofs.lemmas.Bool.{and_from, not_from_false, not_from_true, false_from_ne_true, le-leb, le-ltb, eq-eqb}
use Rattle.std.proofs.lemmas.Map.Keys.{sorted_head, sorted_tail}
use Rattle.std.proofs.lemmas.Map.Lookups.{CmpEqualImpliesEq}
use Rattle.std.proofs.lemmas.List.{get_or_default}
use Rattle.std.proofs.lemmas.List.Folds.{list_any_none}
use Rattle.std.proofs.lemmas.List.Sums.{sum_by-cons}
use Rattle.std.proofs.lemmas.List.Elements.{All-contains, All-get_or, All-from_recursion}
use Rattle.list_laws.specs.RisingSets.{put, with_element, with_elements}
use Rattle.list_laws.proofs.RisingSetLaws.{Contains-with_element}
use Rattle.list_laws.proofs.Sorted.{Contains-first, Contains-later, Contains-cons_cases, not_Contains-nil, not_Less-itself, All-from_Contains}
use Rattle.text_definitions.specs.Words.{IsWord}
use Rattle.lexicon_definitions.specs.declared.limits.TheConstants.{MOST_FORM_LETTERS, MOST_FORM_LINES}
use Rattle.lexicon_definitions.specs.Analyses.{Analysis, compare_analyses}
use Rattle.lexicon_definitions.specs.Deltas.{Delta, compare_deltas, replace_end, analysis_by, IsDelta}
use Rattle.lexicon_definitions.specs.Lexicons.{Form, IsPhase}
use Rattle.lexicon_definitions.specs.Limits.{IsShortForm, count_lines}
use Rattle.lexicon_definitions.specs.Tries.{Row, Trie, AreRows, IsNodeAfter, IsTrieOf, child_in, row_of, walk}
use Rattle.lexicon_definitions.proofs.FormsWithEntry.{analyses_total}
use Rattle.lexicon_definitions.proofs.TrieChildren.{Contains-child_among, IsChild-child_in}
use Rattle.lexicon_definitions.proofs.TrieGrowth.{walk-child, walk-none, walk-within}
use Rattle.lexicon_definitions.proofs.TrieSuffixes.{compare_deltas-total}
use Rattle.lexicon_text_definitions.specs.TextsOf.{HasSpelledStems}
use Rattle.trie_text_definitions.specs.NodeValues.{nodes_from, is_led_to, has_unused, Suffix, suffixes_of}
use Rattle.trie_text_definitions.specs.TrieForms.{form_of_suffix, forms_of_root, count_pairs, has_too_many_pairs, is_stem_length, is_right_delta, has_right_deltas, has_wrong_delta, may_cut}
use Rattle.trie_text_definitions.specs.VersionTexts.{IsOrderedTrieOf}
use Rattle.trie_text_definitions.proofs.RootForms.{analyses_exact}
use Rattle.trie_text_definitions.proofs.RootNodes.{any_contained, right_is_delta, one_delta}
use Rattle.trie_text_definitions.proofs.SuffixLaws.{Contains-flat_map, suffix_by}
use Rattle.trie_text_definitions.proofs.TrieLexicons.{stem_parts, trie_tells_phases}
use Rattle.trie_text_definitions.proofs.TrieTextsRead.{nodes_are}

-- ---- tests of all

all_pass : {X : Type 0} (test : X → Bool) (xs : List X) → ((x : X) → Contains xs x → test x ≡ true) → list_all test xs ≡ true
all_pass test [] h = refl
all_pass test (x ∷ xs) h = and_from (test x) (list_all test xs) (h x (Contains-first x xs)) (all_pass test xs (λ y m. h y (Contains-later x xs y m)))

none_pass : {X : Type 0} (test : X → Bool) (xs : List X) → ((x : X) → Contains xs x → test x ≡ false) → list_any test xs ≡ false
none_pass test xs h = list_any_none test xs (All-from_Contains (λ x. test x ≡ false) xs h)

range_below : (from count k : ℕ) → Contains (range_with_len from count) k → k < from + count
range_below from zero k m = absurd (not_Contains-nil k m)
range_below from (suc count) k m =
    elim (Contains-cons_cases from (range_with_len (from + 1) count) k m) [
      | inl same ↦ omega (arith, same)
      | inr later ↦ let below = range_below (from + 1) count k later in omega (arith, below)
    ]

-- ---- nodes that are led to

module _ (rows : List Row) (are : AreRows rows) where
  walk_reaches : (word : List ℕ) (node reached : ℕ) → node < length rows → walk rows node word ≡ Some reached → Contains (nodes_from rows node) reached
  walk_reaches [] node reached low walked =
      let here : node ≡ reached = cc in
      subst (λ (ns : List ℕ). Contains ns reached) (sym (nodes_are rows are node low)) (subst (Contains (node ∷ flat_map (λ (child : ℕ × ℕ). nodes_from rows child.1) (row_of rows node).children)) here (Contains-first node _))
  walk_reaches (letter ∷ word) node reached low walked =
      let go : (o : Option ℕ) → child_in rows node letter ≡ o → Contains (nodes_from rows node) reached =
      elim [
        | None ↦ λ e. let none = walk-none rows node letter word e in absurd cc
        | Some child ↦ λ e.
            let before = (IsChild-child_in rows node letter child are low e).before in
            let rest = walk_reaches word child reached (omega (arith, before, low)) (sym (walk-child rows node letter child word e) ∙ walked) in
            let inside = Contains-flat_map (λ (child : ℕ × ℕ). nodes_from rows child.1) (row_of rows node).children (letter, child) reached (Contains-child_among letter child (row_of rows node).children e) rest in
            subst (λ (ns : List ℕ). Contains ns reached) (sym (nodes_are rows are node low)) (Contains-later node _ reached inside)
      ]
      in go (child_in rows node letter) refl

-- ---- right deltas

-- a delta of an analysis whose stem is of lawful length is right
right_by : (form : List ℕ) (analysis : Analysis) (delta : Delta) → IsDelta form analysis delta → is_stem_length analysis.stem ≡ true → is_right_delta form delta ≡ true
right_by form analysis delta is long =
    let stem = replace_end form delta.cut delta.append in
    let same : stem ≡ analysis.stem = ap (λ (a : Analysis). a.stem) is.gives in
    let tags : delta.tag ≡ analysis.tag = ap (λ (a : Analysis). a.tag) is.gives in
    let none = none_pass (may_cut form stem) (range_with_len 0 delta.cut) (λ smaller m.
    false_from_ne_true (may_cut form stem smaller) (λ may.
    let less = range_below 0 delta.cut smaller m in
    let front = take (length form - smaller) form in
    let parts = stem_parts stem front may in
    let within = is.within in
    let other : Delta = record { cut = smaller; append = drop (length front) stem; tag = delta.tag } in
    let gives : analysis_by form other ≡ analysis = λ i. record { stem = (parts ∙ same) i; tag = tags i } in
    let most = is.least other (omega (arith, less, within)) gives in
    omega (arith, most, less)))
    in
    and_from _ _ (and_from (leb delta.cut (length form)) (is_stem_length stem) (le-leb delta.cut (length form) is.within) (ap is_stem_length same ∙ long))
    (not_from_false (list_any (may_cut form stem) (range_with_len 0 delta.cut)) none)

-- ---- as many analyses as deltas

put_absent : {X : Type 0} (R : X → X → Ordering) → CmpEqualImpliesEq R → (order : Ordering) (new first : X) (rest more : List X) → R first new ≡ order → (Contains (first ∷ rest) new → ⊥)
    → ((Contains rest new → ⊥) → length more ≡ length rest + 1) → length (put order new first rest more) ≡ length (first ∷ rest) + 1
put_absent R exact Less new first rest more e n later = let h = later (λ inside. n (Contains-later first rest new inside)) in omega (arith, h)
put_absent R exact Equal new first rest more e n later = absurd (n (subst (Contains (first ∷ rest)) (exact first new e) (Contains-first first rest)))
put_absent R exact Greater new first rest more e n later = omega arith

absent_longer : {X : Type 0} (R : X → X → Ordering) → CmpEqualImpliesEq R → (xs : List X) (x : X) → (Contains xs x → ⊥) → length (with_element R xs x) ≡ length xs + 1
absent_longer R exact [] x n = omega arith
absent_longer R exact (first ∷ rest) x n = put_absent R exact (R first x) x first rest (with_element R rest x) refl n (absent_longer R exact rest x)

-- the analyses of rising deltas that are all right
each_longer : (form : List ℕ) (set : List Analysis) (deltas : List Delta) → IsStrictlySortedBy compare_deltas deltas
    → ((delta : Delta) → Contains deltas delta → IsDelta form (analysis_by form delta) delta × (Contains set (analysis_by form delta) → ⊥))
    → length (with_elements compare_analyses set (map (analysis_by form) deltas)) ≡ length set + length deltas
each_longer form set [] s h = omega arith
each_longer form set (first ∷ deltas) s h =
    let one = absent_longer compare_analyses analyses_exact set (analysis_by form first) (h first (Contains-first first deltas)).1 in
    let rest = each_longer form (with_element compare_analyses set (analysis_by form first)) deltas (sorted_tail compare_deltas first deltas s) (λ delta m.
    let is = h delta (Contains-later first deltas delta m) in (
      is.0,
      λ inside. elim ((Contains-with_element analyses_total analyses_exact set (analysis_by form first) (analysis_by form delta)).0 inside) [
        | inl there ↦ is.1 there
        | inr same ↦
            let alike = one_delta form (analysis_by form delta) first delta (subst (λ (a : Analysis). IsDelta form a first) same (h first (Contains-first first deltas)).0) is.0 in
            let less = All-contains (λ (d : Delta). compare_deltas first d ≡ Less) deltas delta (All-from_recursion (λ (d : Delta). compare_deltas first d ≡ Less) deltas (sorted_head compare_deltas first deltas s)) m in
            not_Less-itself compare_deltas-total delta (subst (λ (d : Delta). compare_deltas d delta ≡ Less) alike less)
      ],
    ))
    in omega (arith, one, rest)

same_sums : {X Y : Type 0} (f : X → ℕ) (g : Y → ℕ) (k : X → Y) (xs : List X) → ((x : X) → Contains xs x → f x ≡ g (k x)) → sum_by f xs ≡ sum_by g (map k xs)
same_sums f g k [] h = refl
same_sums f g k (x ∷ xs) h =
    let left = sum_by-cons f x xs in
    let right = sum_by-cons g (k x) (map k xs) in
    let first = h x (Contains-first x xs) in
    let rest = same_sums f g k xs (λ y m. h y (Contains-later x xs y m)) in
    omega (arith, left, right, first, rest)

-- ---- what is asked at the end

pub none_unused : (trie : Trie) (phases : List (List Form)) → IsOrderedTrieOf trie phases → has_unused trie ≡ false
none_unused trie phases h =
    none_pass (λ node. not (is_led_to trie node)) (range_with_len 0 (length trie.rows)) (λ node m.
    let led = h.is_used node (let below = range_below 0 (length trie.rows) node m in omega (arith, below)) in
    let low = All-contains (λ root. root < length trie.rows) trie.roots led.root h.is_trie.is_trie.roots led.is_root in
    let reaches = walk_reaches trie.rows h.is_trie.is_trie.rows led.word led.root node low led.walked in
    let here = any_contained (λ reached. reached == node) (nodes_from trie.rows led.root) node reaches (eq-eqb node node refl) in
    let leads : is_led_to trie node ≡ true = any_contained (λ root. list_any (λ reached. reached == node) (nodes_from trie.rows root)) trie.roots led.root led.is_root here in
    not_from_true (is_led_to trie node) leads)

module _ (trie : Trie) (phases : List (List Form)) (h : IsTrieOf trie phases) (each : All IsPhase phases) (short : All (λ forms. All IsShortForm forms) phases)
    (spelled : All (λ forms. All HasSpelledStems forms) phases) where
  stem_length : (stem : List ℕ) → stem ≢ [] → length stem ≤ MOST_FORM_LETTERS → is_stem_length stem ≡ true
  stem_length [] some l = absurd (some refl)
  stem_length (letter ∷ stem) some l = and_from _ _ (le-leb 1 (length (letter ∷ stem)) (omega arith)) (le-leb (length (letter ∷ stem)) MOST_FORM_LETTERS l)

  -- the deltas of a root's suffix are right
  right_suffix : (root : ℕ) → Contains trie.roots root → (suffix : Suffix) → Contains (suffixes_of trie.rows root) suffix → (delta : Delta) → Contains suffix.deltas delta
      → is_right_delta suffix.word delta ≡ true
  right_suffix root (k, below, is) suffix m delta among =
      let rows = trie.rows in
      let are = h.is_trie.rows in
      let count = h.count in
      let forms = get_or phases k [] in
      let here = get_or_default trie.roots k 0 root below ∙ is in
      let low : root < length rows = All-contains (λ root. root < length rows) trie.roots root h.is_trie.roots (k, below, is) in
      let node : IsNodeAfter rows forms [] root = subst (IsNodeAfter rows forms []) here (h.each k (omega (arith, below, count))) in
      let found = suffix_by rows are root low suffix m in
      let has = (node.deltas suffix.word found.reached found.walked delta).0 (subst (λ (ds : List Delta). Contains ds delta) found.is_deltas among) in
      let shorts = All-get_or (λ forms. All IsShortForm forms) phases k [] (omega (arith, below, count)) short in
      let stems = All-get_or (λ forms. All HasSpelledStems forms) phases k [] (omega (arith, below, count)) spelled in
      let small = All-contains (λ (a : Analysis). length a.stem ≤ MOST_FORM_LETTERS) has.form.analyses has.analysis (All-contains IsShortForm forms has.form shorts has.is_among).stems has.is_analyzed in
      let word = All-contains (λ (a : Analysis). IsWord a.stem × (a.stem ≢ [])) has.form.analyses has.analysis (All-contains HasSpelledStems forms has.form stems has.is_among) has.is_analyzed in
      right_by suffix.word has.analysis delta has.is_delta (stem_length has.analysis.stem word.1 small)

  pub none_wrong : has_wrong_delta trie ≡ false
  none_wrong =
      not_from_true (list_all (λ root. list_all has_right_deltas (suffixes_of trie.rows root)) trie.roots)
      (all_pass (λ root. list_all has_right_deltas (suffixes_of trie.rows root)) trie.roots (λ root n.
      all_pass has_right_deltas (suffixes_of trie.rows root) (λ suffix m.
      all_pass (is_right_delta suffix.word) suffix.deltas (λ delta among. right_suffix root n suffix m delta among))))

  -- a suffix has as many analyses as deltas
  as_many_analyses : (root : ℕ) → Contains trie.roots root → (suffix : Suffix) → Contains (suffixes_of trie.rows root) suffix
      → length suffix.deltas ≡ length (form_of_suffix suffix).analyses
  as_many_analyses root n suffix m =
      let low = All-contains (λ root. root < length trie.rows) trie.roots root h.is_trie.roots n in
      let found = suffix_by trie.rows h.is_trie.rows root low suffix m in
      let within = walk-within trie.rows h.is_trie.rows suffix.word root found.reached low found.walked in
      let rising : IsStrictlySortedBy compare_deltas suffix.deltas = subst (IsStrictlySortedBy compare_deltas) (sym found.is_deltas) (h.is_trie.rows.each found.reached (omega (arith, within, low))).deltas in
      let long = each_longer suffix.word [] suffix.deltas rising (λ delta among. (right_is_delta suffix.word delta (right_suffix root n suffix m delta among), λ inside. not_Contains-nil (analysis_by suffix.word delta) inside)) in
      omega (arith, long)

  -- the trie has as many pairs of a form and a delta as the phases have of a form and an analysis
  pub as_many_pairs : count_pairs trie ≡ count_lines phases
  as_many_pairs =
      same_sums (λ root. sum_by (λ (s : Suffix). length s.deltas) (suffixes_of trie.rows root)) (λ forms. sum_by (λ (form : Form). length form.analyses) forms) (forms_of_root trie.rows) trie.roots
      (λ root n. same_sums (λ (s : Suffix). length s.deltas) (λ (form : Form). length form.analyses) form_of_suffix (suffixes_of trie.rows root) (λ suffix m. as_many_analyses root n suffix m))
      ∙ ap count_lines (trie_tells_phases trie phases h each)

  pub few_pairs : count_lines phases ≤ MOST_FORM_LINES → has_too_many_pairs trie ≡ false
  few_pairs few = let same = as_many_pairs in le-ltb MOST_FORM_LINES (count_pairs trie) (omega (arith, same, few))
