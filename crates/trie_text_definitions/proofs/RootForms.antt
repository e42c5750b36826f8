-- The forms of a root are forms of a lexicon: each suffix is a word of letters that is no longer than the node is high, with deltas that are
-- right for it, so its analyses are lawful; and suffixes rise.
use Rattle.std.proofs.Common.{◌≡◌, ◌≢◌, inl, inr, ℕ, ◌+◌, ◌-◌, ◌<◌, ◌≤◌, Bool, true, leb, Option, Some, None, List, [], ◌∷◌, length, map, take, get_or, refl, sym, ◌∙◌, ap, subst, arith}
use Rattle.std.specs.Prelude.{All, Contains, sum_by}
use Rattle.std.specs.List.{AllByRecursion, list_all}
use Rattle.std.specs.declared.cmp.Ordering.{Ordering}
use Rattle.std.specs.declared.cmp.Ordering.TheVariants.{Less, Equal, Greater}
use Rattle.std.specs.Ordering.{nat_cmp, on}
use Rattle.std.specs.Cmp.Lexicographic.{slice_cmp}
use Rattle.std.proofs.lemmas.Bool.{and_parts, leb-true}
use Rattle.std.proofs.lemmas.Map.Lookups.{CmpEqualImpliesEq, exact_bytes}
use Rattle.std.proofs.lemmas.List.Sums.{sum_by-cons}
use Rattle.std.proofs.lemmas.List.{length-map}
use Rattle.std.proofs.lemmas.List.Elements.{All-contains, All-from_recursion, All-get_or, All-take, All-append, All-map}
use Rattle.list_laws.specs.RisingSets.{put, with_element, with_elements}
use Rattle.list_laws.proofs.Elements.{some_element, some_by_element}
use Rattle.list_laws.proofs.FirstOnes.{Contains-map, Contains-map_cases, sorted-map}
use Rattle.list_laws.proofs.Orderings.{equal_then_both}
use Rattle.list_laws.proofs.RisingSetLaws.{Contains-with_elements, sorted-with_elements}
use Rattle.list_laws.proofs.Sorted.{Contains-cons_cases, not_Contains-nil, All-from_Contains, sorted_nil}
use Rattle.text_definitions.specs.Letters.{IsLetter}
use Rattle.text_definitions.specs.Words.{IsWord, compare_words}
use Rattle.lexicon_definitions.specs.declared.limits.TheConstants.{MOST_FORM_LETTERS}
use Rattle.lexicon_definitions.specs.Analyses.{Analysis, compare_analyses}
use Rattle.lexicon_definitions.specs.Deltas.{Delta, replace_end, analysis_by}
use Rattle.lexicon_definitions.specs.Lexicons.{Form, IsAnalysis, IsFormEntry, IsPhase}
use Rattle.lexicon_definitions.specs.Limits.{IsShortForm}
use Rattle.lexicon_definitions.specs.Tries.{Row, AreRows, child_in, row_of, walk}
use Rattle.lexicon_definitions.proofs.FormsWithEntry.{analyses_total}
use Rattle.lexicon_definitions.proofs.TrieChildren.{Contains-child_among, IsChild-child_in}
use Rattle.lexicon_definitions.proofs.TrieGrowth.{walk-child, walk-none, walk-within}
use Rattle.lexicon_text_definitions.specs.TextsOf.{HasSpelledStems}
use Rattle.trie_text_definitions.specs.NodeValues.{height_over, Suffix, suffixes_of}
use Rattle.trie_text_definitions.specs.NodeLines.{NodeLine, heights, node_lines}
use Rattle.trie_text_definitions.specs.TrieForms.{analyses_by, form_of_suffix, forms_of_root, is_stem_length, is_right_delta, has_right_deltas}
use Rattle.trie_text_definitions.proofs.NodeSteps.{IsRootNode, IsRowDelta}
use Rattle.trie_text_definitions.proofs.NodeValueLaws.{length-values}
use Rattle.trie_text_definitions.specs.NodeLines.{node_line_over}
use Rattle.trie_text_definitions.proofs.ToldTries.{IsSpelledRow, AreNodes, no_line, heights_at, line_at}
use Rattle.trie_text_definitions.proofs.SuffixLaws.{suffix_by, suffixes_rise}

-- ---- tests of all

pub passes_all : {X : Type 0} (test : X → Bool) (xs : List X) (x : X) → list_all test xs ≡ true → Contains xs x → test x ≡ true
passes_all test [] x h m = absurd (not_Contains-nil x m)
passes_all test (first ∷ xs) x h m =
    let parts = and_parts (test first) (list_all test xs) h in
    elim (Contains-cons_cases first xs x m) [
      | inl same ↦ subst (λ z. test z ≡ true) same parts.0
      | inr later ↦ passes_all test xs x parts.1 later
    ]

-- ---- analyses

pub analyses_exact : CmpEqualImpliesEq compare_analyses
analyses_exact left right e =
    let parts = equal_then_both (compare_words left.stem right.stem) (slice_cmp nat_cmp left.tag right.tag) e in
    let stems = exact_bytes left.stem right.stem parts.0 in
    let tags = exact_bytes left.tag right.tag parts.1 in
    λ i. record { stem = stems i; tag = tags i }

longer_by : {X : Type 0} (order : Ordering) (x first : X) (rest more : List X) → length more ≤ length rest + 1 → length (put order x first rest more) ≤ length (first ∷ rest) + 1
longer_by Less x first rest more h = omega (arith, h)
longer_by Equal x first rest more h = omega arith
longer_by Greater x first rest more h = omega arith

one_longer : {X : Type 0} (R : X → X → Ordering) (xs : List X) (x : X) → length (with_element R xs x) ≤ length xs + 1
one_longer R [] x = omega arith
one_longer R (first ∷ rest) x = longer_by (R first x) x first rest (with_element R rest x) (one_longer R rest x)

-- elements that are put in make a list no longer than both together
pub length_at_most : {X : Type 0} (R : X → X → Ordering) (set xs : List X) → length (with_elements R set xs) ≤ length set + length xs
length_at_most R set [] = omega arith
length_at_most R set (x ∷ xs) =
    let one = one_longer R set x in
    let rest = length_at_most R (with_element R set x) xs in
    omega (arith, one, rest)

-- an analysis is that of one of the deltas
pub analysis_from : (form : List ℕ) (deltas : List Delta) (analysis : Analysis) → Contains (analyses_by form deltas) analysis → (delta : Delta) × Contains deltas delta × (analysis_by form delta ≡ analysis)
analysis_from form deltas analysis m =
    elim ((Contains-with_elements analyses_total analyses_exact [] (map (analysis_by form) deltas) analysis).0 m) [
      | inl none ↦ absurd (not_Contains-nil analysis none)
      | inr there ↦ Contains-map_cases (analysis_by form) deltas analysis there
    ]

pub analysis_there : (form : List ℕ) (deltas : List Delta) (delta : Delta) → Contains deltas delta → Contains (analyses_by form deltas) (analysis_by form delta)
analysis_there form deltas delta m =
    (Contains-with_elements analyses_total analyses_exact [] (map (analysis_by form) deltas) (analysis_by form delta)).1 (inr (Contains-map (analysis_by form) deltas delta m))

-- ---- along a walk

height_of_child : (values : List ℕ) (children : List (ℕ × ℕ)) (child : ℕ × ℕ) → Contains children child → get_or values child.1 0 + 1 ≤ height_over values children
height_of_child values [] child m = absurd (not_Contains-nil child m)
height_of_child values (first ∷ children) child m =
    elim (Contains-cons_cases first children child m) [
      | inl same ↦ let here : get_or values child.1 0 ≡ get_or values first.1 0 = ap (λ (c : ℕ × ℕ). get_or values c.1 0) (sym same) in omega (arith, here)
      | inr later ↦ let there = height_of_child values children child later in omega (arith, there)
    ]

module _ (rows : List Row) (are : AreRows rows) where
  -- a word that can be walked has letters
  pub walk_is_word : (word : List ℕ) (node reached : ℕ) → node < length rows → walk rows node word ≡ Some reached → AllByRecursion IsLetter word
  walk_is_word [] node reached low walked = tt
  walk_is_word (letter ∷ word) node reached low walked =
      let go : (o : Option ℕ) → child_in rows node letter ≡ o → AllByRecursion IsLetter (letter ∷ word) =
      elim [
        | None ↦ λ e. let none = walk-none rows node letter word e in absurd cc
        | Some child ↦ λ e.
            let is = IsChild-child_in rows node letter child are low e in
            let before = is.before in
            (is.letter, walk_is_word word child reached (omega (arith, before, low)) (sym (walk-child rows node letter child word e) ∙ walked))
      ]
      in go (child_in rows node letter) refl

  -- and is no longer than the node is high
  pub walk_below_height : (word : List ℕ) (node reached : ℕ) → node < length rows → walk rows node word ≡ Some reached → length word ≤ (get_or (node_lines rows) node no_line).height
  walk_below_height [] node reached low walked = omega arith
  walk_below_height (letter ∷ word) node reached low walked =
      let go : (o : Option ℕ) → child_in rows node letter ≡ o → length (letter ∷ word) ≤ (get_or (node_lines rows) node no_line).height =
      elim [
        | None ↦ λ e. let none = walk-none rows node letter word e in absurd cc
        | Some child ↦ λ e.
            let before = (IsChild-child_in rows node letter child are low e).before in
            let rest = walk_below_height word child reached (omega (arith, before, low)) (sym (walk-child rows node letter child word e) ∙ walked) in
            let among = Contains-child_among letter child (row_of rows node).children e in
            let step = height_of_child (heights (node_lines rows)) (row_of rows node).children (letter, child) among in
            let many = length-values node_line_over rows in
            let same = heights_at (node_lines rows) child (omega (arith, before, low, many)) in
            let here = ap (λ (n : NodeLine). n.height) (line_at rows node are low) in
            omega (arith, rest, step, same, here)
      ]
      in go (child_in rows node letter) refl

-- ---- the suffixes of a root

-- a suffix that is a form: a word that is neither empty nor too long, with some deltas that are right for it
pub record IsFormSuffix (suffix : Suffix) : Type 0 where
  pub word : IsWord suffix.word
  pub not_empty : suffix.word ≢ []
  pub short : length suffix.word ≤ MOST_FORM_LETTERS
  pub some : suffix.deltas ≢ []
  pub deltas : All IsRowDelta suffix.deltas
  pub right : (delta : Delta) → Contains suffix.deltas delta → is_right_delta suffix.word delta ≡ true

module _ (rows : List Row) (nodes : List NodeLine) (roots : List ℕ) (h : AreNodes rows nodes roots) where
  pub form_suffix : (root : ℕ) → IsRootNode rows root → list_all has_right_deltas (suffixes_of rows root) ≡ true
      → (suffix : Suffix) → Contains (suffixes_of rows root) suffix → IsFormSuffix suffix
  form_suffix root is right suffix m =
      let low = is.within in
      let found = suffix_by rows h.each root low suffix m in
      let reached = found.reached in
      let within = walk-within rows h.each suffix.word root reached low found.walked in
      let high = walk_below_height rows h.each suffix.word root reached low found.walked in
      let many = length-values node_line_over rows in
      let lowest : (get_or (node_lines rows) root no_line).height ≤ MOST_FORM_LETTERS =
      All-get_or (λ (n : NodeLine). n.height ≤ MOST_FORM_LETTERS) (node_lines rows) root no_line (omega (arith, low, many)) (subst (λ (ns : List NodeLine). All (λ (n : NodeLine). n.height ≤ MOST_FORM_LETTERS) ns) h.lines h.low) in
      let spelled = All-get_or IsSpelledRow rows reached (record { deltas = []; children = [] }) (omega (arith, within, low)) h.spelled in
      record {
        word = All-from_recursion IsLetter suffix.word (walk_is_word rows h.each suffix.word root reached low found.walked);
        not_empty = λ e.
            let walked = found.walked in
            let here : Some root ≡ Some reached = ap (walk rows root) (sym e) ∙ walked in
            let same : root ≡ reached = cc in
            found.some (found.is_deltas ∙ ap (λ (k : ℕ). (row_of rows k).deltas) (sym same) ∙ is.no_deltas);
        short = omega (arith, high, lowest);
        some = found.some;
        deltas = subst (All IsRowDelta) (sym found.is_deltas) (All-from_recursion IsRowDelta (row_of rows reached).deltas spelled.deltas);
        right = λ delta n. passes_all (is_right_delta suffix.word) suffix.deltas delta (passes_all has_right_deltas (suffixes_of rows root) suffix right m) n;
      }

-- ---- forms

module _ (suffix : Suffix) (h : IsFormSuffix suffix) where
  -- what is known of a delta's stem
  record IsStem (stem : List ℕ) : Type 0 where
    word : IsWord stem
    some : stem ≢ []
    short : length stem ≤ MOST_FORM_LETTERS

  by_length : (stem : List ℕ) → 1 ≤ length stem → stem ≢ []
  by_length [] l = absurd (omega (arith, l))
  by_length (letter ∷ stem) l = λ e. cc

  stem_by : (delta : Delta) → Contains suffix.deltas delta → IsStem (analysis_by suffix.word delta).stem
  stem_by delta m =
      let stem = replace_end suffix.word delta.cut delta.append in
      let tests = and_parts _ _ (h.right delta m) in
      let first = and_parts (leb delta.cut (length suffix.word)) (is_stem_length stem) tests.0 in
      let lengths = and_parts (leb 1 (length stem)) (leb (length stem) MOST_FORM_LETTERS) first.1 in
      let is = All-contains IsRowDelta suffix.deltas delta h.deltas m in
      record {
        word = All-append IsLetter (take (length suffix.word - delta.cut) suffix.word) delta.append (All-take IsLetter (length suffix.word - delta.cut) suffix.word h.word) is.0.word;
        some = by_length stem (leb-true 1 (length stem) lengths.0);
        short = leb-true (length stem) MOST_FORM_LETTERS lengths.1;
      }

  each_analysis : (P : Analysis → Type 0) → ((delta : Delta) → Contains suffix.deltas delta → P (analysis_by suffix.word delta)) → All P (analyses_by suffix.word suffix.deltas)
  each_analysis P f =
      All-from_Contains P (analyses_by suffix.word suffix.deltas) (λ analysis m.
      let (delta, among, same) = analysis_from suffix.word suffix.deltas analysis m in
      subst P same (f delta among))

  pub entry_of_suffix : IsFormEntry (form_of_suffix suffix)
  entry_of_suffix = record {
    word = h.word;
    not_empty = h.not_empty;
    analyzed =
        let (delta, among) = some_element suffix.deltas h.some in
        some_by_element (analyses_by suffix.word suffix.deltas) (analysis_by suffix.word delta) (analysis_there suffix.word suffix.deltas delta among);
    analyses = each_analysis IsAnalysis (λ delta m. record { stem = (stem_by delta m).word; tag = (All-contains IsRowDelta suffix.deltas delta h.deltas m).0.tag });
    rising = sorted-with_elements analyses_total analyses_exact [] (map (analysis_by suffix.word) suffix.deltas) (sorted_nil compare_analyses);
  }

  pub short_of_suffix : IsShortForm (form_of_suffix suffix)
  short_of_suffix = record {
    letters = h.short;
    stems = each_analysis (λ analysis. length analysis.stem ≤ MOST_FORM_LETTERS) (λ delta m. (stem_by delta m).short);
  }

  pub stems_of_suffix : HasSpelledStems (form_of_suffix suffix)
  stems_of_suffix = each_analysis (λ analysis. IsWord analysis.stem × (analysis.stem ≢ [])) (λ delta m. let is = stem_by delta m in (is.word, is.some))

-- the forms of a root
module _ (rows : List Row) (nodes : List NodeLine) (roots : List ℕ) (h : AreNodes rows nodes roots) (root : ℕ) (is : IsRootNode rows root)
    (right : list_all has_right_deltas (suffixes_of rows root) ≡ true) where
  each_form : (P : Form → Type 0) → ((suffix : Suffix) → IsFormSuffix suffix → P (form_of_suffix suffix)) → All P (forms_of_root rows root)
  each_form P f =
      All-map P form_of_suffix (suffixes_of rows root)
      (All-from_Contains (λ s. P (form_of_suffix s)) (suffixes_of rows root) (λ s m. f s (form_suffix rows nodes roots h root is right s m)))

  pub phase_of_root : IsPhase (forms_of_root rows root)
  phase_of_root = record {
    each = each_form IsFormEntry entry_of_suffix;
    rising = sorted-map (on (λ (s : Suffix). s.word) compare_words) (on (λ (form : Form). form.letters) compare_words) form_of_suffix (λ s. Unit {0}) (λ x z p q l. l)
        (suffixes_of rows root) (λ z m. tt) (suffixes_rise rows h.each root is.within);
  }

  pub shorts_of_root : All IsShortForm (forms_of_root rows root)
  shorts_of_root = each_form IsShortForm short_of_suffix

  pub stems_of_root : All HasSpelledStems (forms_of_root rows root)
  stems_of_root = each_form HasSpelledStems stems_of_suffix

-- ---- how many

sum_at_most : {X Y : Type 0} (f : Y → ℕ) (g : X → Y) (k : X → ℕ) → ((x : X) → f (g x) ≤ k x) → (xs : List X) → sum_by f (map g xs) ≤ sum_by k xs
sum_at_most f g k l [] = omega arith
sum_at_most f g k l (x ∷ xs) =
    let left = sum_by-cons f (g x) (map g xs) in
    let right = sum_by-cons k x xs in
    let first = l x in
    let rest = sum_at_most f g k l xs in
    omega (arith, left, right, first, rest)

analyses_at_most : (form : List ℕ) (deltas : List Delta) → length (analyses_by form deltas) ≤ length deltas
analyses_at_most form deltas =
    let most = length_at_most compare_analyses [] (map (analysis_by form) deltas) in
    let same = length-map deltas (analysis_by form) in
    omega (arith, most, same)

-- there are no more pairs of a form and an analysis than pairs of a form and a delta
pub pairs_at_most : (rows : List Row) (roots : List ℕ)
    → sum_by (λ forms. sum_by (λ (form : Form). length form.analyses) forms) (map (forms_of_root rows) roots) ≤ sum_by (λ root. sum_by (λ (s : Suffix). length s.deltas) (suffixes_of rows root)) roots
pairs_at_most rows roots =
    sum_at_most (λ forms. sum_by (λ (form : Form). length form.analyses) forms) (forms_of_root rows) (λ root. sum_by (λ (s : Suffix). length s.deltas) (suffixes_of rows root))
    (λ root. sum_at_most (λ (form : Form). length form.analyses) form_of_suffix (λ (s : Suffix). length s.deltas) (λ s. analyses_at_most s.word s.deltas) (suffixes_of rows root)) roots
