-- The rows and roots that were told so far are those of a trie, line by line: a row that is the same as an earlier one would have the same
-- height and the same line, and lines rise.
use Rattle.std.proofs.Common.{◌≡◌, ◌≢◌, ℕ, ◌<◌, ◌≤◌, List, [], ◌∷◌, ◌++◌, length, take, get_or, refl, sym, ◌∙◌, ap, arith}
use Rattle.std.specs.Prelude.{All}
use Rattle.std.specs.List.{AllByRecursion}
use Rattle.std.specs.List.Sorted.{IsStrictlySortedBy}
use Rattle.std.proofs.lemmas.List.{length_push, get_or_push, get_or_append_left, get_or-map}
use Rattle.std.proofs.lemmas.List.Elements.{All-from_get_or, All-push, All-nil, All-weaker, recursion_from_All}
use Rattle.std.proofs.lemmas.Map.Keys.{Less-from_sorted}
use Rattle.list_laws.proofs.Sorted.{sorted_nil, not_Less-itself}
use Rattle.lexicon_definitions.specs.declared.limits.TheConstants.{MOST_FORM_LETTERS}
use Rattle.lexicon_definitions.specs.Tries.{Row, AreRows, IsChild, IsRow, IsTrie, row_of, empty_row}
use Rattle.lexicon_definitions.proofs.TrieGrowth.{AreRows-push, row_of-append}
use Rattle.lexicon_text_definitions.proofs.LineTests.{pairs_push}
use Rattle.trie_text_definitions.specs.NodeLines.{NodeLine, compare_node_lines, heights, node_line, node_line_over, node_lines}
use Rattle.trie_text_definitions.proofs.NodeValueLaws.{values_push, length-values, value_at, value_before, same_heights, length-before}
use Rattle.trie_text_definitions.proofs.NodeSteps.{node_lines_total, IsRowDelta, IsRootNode}
use Rattle.trie_text_definitions.proofs.NodeTexts.{HasFewDigits, IsNodeChild}

-- the deltas and children of a row are as lines have them
pub record IsSpelledRow (row : Row) : Type 0 where
  pub deltas : AllByRecursion IsRowDelta row.deltas
  pub children : AllByRecursion IsNodeChild row.children

-- a root that is told is a node without deltas, whose number has not too many digits
abbrev pub IsToldRoot : List Row → ℕ → Type 0
IsToldRoot rows root = IsRootNode rows root × HasFewDigits root

-- the rows, with their heights and lines, and the roots are those of a trie
pub record AreNodes (rows : List Row) (nodes : List NodeLine) (roots : List ℕ) : Type 0 where
  pub each : AreRows rows
  pub lines : nodes ≡ node_lines rows
  pub rising : IsStrictlySortedBy compare_node_lines nodes
  pub low : All (λ (node : NodeLine). node.height ≤ MOST_FORM_LETTERS) nodes
  pub spelled : All IsSpelledRow rows
  pub rooted : All (IsToldRoot rows) roots

-- ---- no row twice

abbrev pub no_line : NodeLine
no_line = record { height = 0; bytes = [] }

pub heights_at : (nodes : List NodeLine) (k : ℕ) → k < length nodes → get_or (heights nodes) k 0 ≡ (get_or nodes k no_line).height
heights_at nodes k below = get_or-map (λ (node : NodeLine). node.height) nodes k no_line 0 below

-- the heights of children before a node are the same over all nodes
same_before : (rows : List Row) (k : ℕ) → k < length rows → (children : List (ℕ × ℕ)) → AllByRecursion (IsChild rows k) children
    → AllByRecursion (λ (child : ℕ × ℕ). get_or (heights (node_lines (take k rows))) child.1 0 ≡ get_or (heights (node_lines rows)) child.1 0) children
same_before rows k below [] h = tt
same_before rows k below (child ∷ children) h =
    let before = h.0.before in
    let many = length-values node_line_over rows in
    let few = length-before node_line_over rows k below in
    let same = ap (λ (node : NodeLine). node.height) (value_before node_line_over rows child.1 k no_line before below) in
    (heights_at (node_lines (take k rows)) child.1 (omega (arith, before, few)) ∙ same ∙ sym (heights_at (node_lines rows) child.1 (omega (arith, before, many, below))), same_before rows k below children h.1)

-- the height and line of a node are those over all nodes
pub line_at : (rows : List Row) (k : ℕ) → AreRows rows → k < length rows → get_or (node_lines rows) k no_line ≡ node_line_over (node_lines rows) (row_of rows k)
line_at rows k are below =
    let row = row_of rows k in
    let same = same_heights (heights (node_lines (take k rows))) (heights (node_lines rows)) row.children (same_before rows k below row.children (recursion_from_All (IsChild rows k) row.children (are.each k below).children)) in
    value_at node_line_over rows k no_line below ∙ (λ i. record { height = same i; bytes = node_line row })

module _ (rows : List Row) (nodes : List NodeLine) (roots : List ℕ) (h : AreNodes rows nodes roots) where
  -- a row whose line is above the last is another than those before
  another : (row : Row) → IsStrictlySortedBy compare_node_lines (nodes ++ node_line_over nodes row ∷ []) → All (λ other. other ≢ row) rows
  another row rising =
      All-from_get_or (λ other. other ≢ row) rows empty_row (λ k below e.
      let lines = h.lines in
      let many = length-values node_line_over rows in
      let count : length nodes ≡ length rows = ap length lines ∙ many in
      let new = node_line_over nodes row in
      let here : get_or nodes k no_line ≡ new =
      ap (λ (xs : List NodeLine). get_or xs k no_line) lines ∙ line_at rows k h.each below ∙ (λ i. node_line_over (sym lines i) (e i)) in
      let long = length_push nodes new in
      let less = Less-from_sorted compare_node_lines (nodes ++ new ∷ []) k (length nodes) no_line rising (omega (arith, below, count)) (omega (arith, long)) in
      let left = get_or_append_left nodes (new ∷ []) no_line k (omega (arith, below, count)) ∙ here in
      let right = get_or_push nodes new no_line (length nodes) refl in
      not_Less-itself node_lines_total new ((λ i. compare_node_lines (sym left i) (sym right i)) ∙ less))

  -- with a row more
  pub nodes_with_row : (row : Row) → AllByRecursion IsRowDelta row.deltas → AllByRecursion IsNodeChild row.children → IsRow rows (length rows) row
      → (node_line_over nodes row).height ≤ MOST_FORM_LETTERS → IsStrictlySortedBy compare_node_lines (nodes ++ node_line_over nodes row ∷ [])
      → AreNodes (rows ++ row ∷ []) (nodes ++ node_line_over nodes row ∷ []) roots
  nodes_with_row row d c r low rising = record {
    each = AreRows-push rows row h.each r (pairs_push (λ left right. left ≢ right) rows row h.each.distinct (another row rising));
    lines = (λ i. h.lines i ++ node_line_over (h.lines i) row ∷ []) ∙ sym (values_push node_line_over rows row);
    rising = rising;
    low = All-push (λ (node : NodeLine). node.height ≤ MOST_FORM_LETTERS) nodes (node_line_over nodes row) h.low low;
    spelled = All-push IsSpelledRow rows row h.spelled (record { deltas = d; children = c });
    rooted = All-weaker (IsToldRoot rows) (IsToldRoot (rows ++ row ∷ [])) (λ root t. (
      record {
        within = let within = t.0.within in let long = length_push rows row in omega (arith, within, long);
        no_deltas = ap (λ (r : Row). r.deltas) (row_of-append rows (row ∷ []) root t.0.within) ∙ t.0.no_deltas;
      },
      t.1,
    )) roots h.rooted;
  }

  -- with a root more
  pub nodes_with_root : (root : ℕ) → IsRootNode rows root → HasFewDigits root → AreNodes rows nodes (roots ++ root ∷ [])
  nodes_with_root root r d = record {
    each = h.each;
    lines = h.lines;
    rising = h.rising;
    low = h.low;
    spelled = h.spelled;
    rooted = All-push (IsToldRoot rows) roots root h.rooted (r, d);
  }

pub no_nodes : AreNodes [] [] []
no_nodes = record {
  each = record { each = λ node below. absurd (omega (arith, below)); distinct = λ i j d below inside. absurd (omega (arith, inside)) };
  lines = refl;
  rising = sorted_nil compare_node_lines;
  low = All-nil _;
  spelled = All-nil _;
  rooted = All-nil _;
}

-- the trie of such nodes
pub trie_of_nodes : (rows : List Row) (nodes : List NodeLine) (roots : List ℕ) → AreNodes rows nodes roots → IsTrie (record { rows = rows; roots = roots })
trie_of_nodes rows nodes roots h = record {
  rows = h.each;
  roots = All-weaker (IsToldRoot rows) (λ root. root < length rows) (λ root t. t.0.within) roots h.rooted;
}
