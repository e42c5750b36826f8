-- The last node is told by its height and its line, and a node whose line is above it is another than all before.
use Rattle.std.proofs.Common.{◌≡◌, ◌≢◌, ℕ, ◌-◌, ◌<◌, List, [], ◌∷◌, ◌++◌, length, get_or, refl, sym, ◌∙◌, ap, subst, arith}
use Rattle.std.specs.Prelude.{All}
use Rattle.std.specs.List.Sorted.{IsStrictlySortedBy}
use Rattle.std.specs.Cmp.Lexicographic.{slice_cmp}
use Rattle.std.specs.Ordering.{nat_cmp, ordering_then}
use Rattle.std.specs.declared.cmp.Ordering.{Ordering}
use Rattle.std.proofs.lemmas.List.{length_push, get_or_push, get_or_append_left}
use Rattle.std.proofs.lemmas.List.Elements.{All-from_get_or}
use Rattle.std.proofs.lemmas.Map.Keys.{Less-from_sorted}
use Rattle.list_laws.proofs.Sorted.{not_Less-itself}
use Rattle.lexicon_definitions.specs.Tries.{Row, AreRows, IsRow, IsHeight, empty_row}
use Rattle.lexicon_definitions.proofs.TrieGrowth.{AreRows-push}
use Rattle.lexicon_text_definitions.specs.FileContents.{compare_last}
use Rattle.lexicon_text_definitions.proofs.LineTests.{pairs_push}
use Rattle.trie_text_definitions.specs.NodeLines.{NodeLine, compare_node_lines, node_line, node_line_over, node_lines}
use Rattle.trie_text_definitions.specs.VersionSteps.{Told, Node}
use Rattle.trie_text_definitions.proofs.NodeSteps.{node_lines_total}
use Rattle.trie_text_definitions.proofs.NodeValueLaws.{length-values, values_push}
use Rattle.trie_text_definitions.proofs.ToldTries.{no_line, heights_at, line_at}
use Rattle.lexicon_file.specs.Told.{IsKept, last_bytes, with_row}
use Rattle.lexicon_file.proofs.NodeHeights.{height_told}

-- ---- the last line

last_compared : {X : Type 0} (compare : X → X → Ordering) (first d new : X) (xs : List X) → compare_last compare (first ∷ xs) new ≡ compare (get_or (first ∷ xs) (length xs) d) new
last_compared compare first d new [] = refl
last_compared compare first d new (second ∷ xs) = last_compared compare second d new xs

last_told : (first d : NodeLine) (nodes : List NodeLine) → last_bytes (first ∷ nodes) ≡ (get_or (first ∷ nodes) (length nodes) d).bytes
last_told first d [] = refl
last_told first d (second ∷ nodes) = last_told second d nodes

compared_by : (nodes : List NodeLine) (d new : NodeLine) → 0 < length nodes → compare_last compare_node_lines nodes new ≡ compare_node_lines (get_or nodes (length nodes - 1) d) new
compared_by [] d new some = absurd (omega (arith, some))
compared_by (first ∷ nodes) d new some =
    let last : length nodes ≡ length (first ∷ nodes) - 1 = omega arith in
    last_compared compare_node_lines first d new nodes ∙ ap (λ k. compare_node_lines (get_or (first ∷ nodes) k d) new) last

bytes_by : (nodes : List NodeLine) (d : NodeLine) → 0 < length nodes → last_bytes nodes ≡ (get_or nodes (length nodes - 1) d).bytes
bytes_by [] d some = absurd (omega (arith, some))
bytes_by (first ∷ nodes) d some =
    let last : length nodes ≡ length (first ∷ nodes) - 1 = omega arith in
    last_told first d nodes ∙ ap (λ k. (get_or (first ∷ nodes) k d).bytes) last

pub last_pushed : (nodes : List NodeLine) (node : NodeLine) → last_bytes (nodes ++ node ∷ []) ≡ node.bytes
last_pushed [] node = refl
last_pushed (first ∷ []) node = refl
last_pushed (first ∷ second ∷ nodes) node = last_pushed (second ∷ nodes) node

some_rows : (rows : List Row) → rows ≢ [] → 0 < length rows
some_rows [] n = absurd (n refl)
some_rows (row ∷ rows) n = omega arith

-- the last node compares with a new one by its height, and then by its line
pub last_by_parts : (told kept : Told) (rows : List Row) (line bytes : List ℕ) (number height last_height : ℕ) (heights_compared lines_compared order : Ordering) → kept ≡ told
    → kept.nodes ≡ node_lines rows → IsKept rows line → rows ≢ [] → number ≡ length rows - 1 → IsHeight rows number last_height
    → heights_compared ≡ nat_cmp last_height height → lines_compared ≡ slice_cmp nat_cmp line bytes → order ≡ ordering_then heights_compared lines_compared
    → order ≡ compare_last compare_node_lines told.nodes (record { height = height; bytes = bytes })
last_by_parts told kept rows line bytes number height last_height heights_compared lines_compared order view nodes is_kept some is_last its h l o =
    let new : NodeLine = record { height = height; bytes = bytes } in
    let many = length-values node_line_over rows in
    let rows_some = some_rows rows some in
    let place : number ≡ length (node_lines rows) - 1 = omega (arith, is_last, many) in
    let low : number < length rows = omega (arith, is_last, rows_some) in
    let last = get_or (node_lines rows) number no_line in
    let high : last_height ≡ last.height = height_told rows is_kept.each number last_height low its ∙ heights_at (node_lines rows) number (omega (arith, low, many)) in
    let text : line ≡ last.bytes = is_kept.last_line ∙ bytes_by (node_lines rows) no_line (omega (arith, many, rows_some)) ∙ ap (λ k. (get_or (node_lines rows) k no_line).bytes) (sym place) in
    o ∙ (λ i. ordering_then (h i) (l i)) ∙ (λ i. ordering_then (nat_cmp (high i) height) (slice_cmp nat_cmp (text i) bytes))
    ∙ ap (λ k. compare_node_lines (get_or (node_lines rows) k no_line) new) place ∙ sym (compared_by (node_lines rows) no_line new (omega (arith, many, rows_some)))
    ∙ ap (λ (ns : List NodeLine). compare_last compare_node_lines ns new) (sym nodes ∙ ap (λ (t : Told). t.nodes) view)

-- ---- no row

-- before the first node
pub nothing_kept : (rows : List Row) (line : List ℕ) → rows ≡ [] → line ≡ [] → IsKept rows line
unfolding IsStrictlySortedBy
nothing_kept [] [] r l = record {
  each = record { each = λ node low. absurd (omega (arith, low)); distinct = λ i j d before low. absurd (omega (arith, low)) };
  rising = tt;
  last_line = refl;
}
nothing_kept (row ∷ rows) line r l = absurd (cc)
nothing_kept [] (byte ∷ line) r l = absurd (cc)

-- ---- one row more

module _ (rows : List Row) (row : Row) (are : AreRows rows) (rising : IsStrictlySortedBy compare_node_lines (node_lines (rows ++ row ∷ []))) where
  -- a row whose line is above the last is another than those before
  pub another : All (λ other. other ≢ row) rows
  another =
      All-from_get_or (λ other. other ≢ row) rows empty_row (λ k below e.
      let nodes = node_lines rows in
      let count = length-values node_line_over rows in
      let new = node_line_over nodes row in
      let sorted = subst (IsStrictlySortedBy compare_node_lines) (values_push node_line_over rows row) rising in
      let here : get_or nodes k no_line ≡ new = line_at rows k are below ∙ ap (node_line_over nodes) e in
      let long = length_push nodes new in
      let less = Less-from_sorted compare_node_lines (nodes ++ new ∷ []) k (length nodes) no_line sorted (omega (arith, below, count)) (omega (arith, long)) in
      let left = get_or_append_left nodes (new ∷ []) no_line k (omega (arith, below, count)) ∙ here in
      let right = get_or_push nodes new no_line (length nodes) refl in
      not_Less-itself node_lines_total new ((λ i. compare_node_lines (sym left i) (sym right i)) ∙ less))

  -- what is kept with it
  pub kept_with : (line : List ℕ) → IsRow rows (length rows) row → line ≡ node_line row → IsKept (rows ++ row ∷ []) line
  kept_with line is e = record {
    each = AreRows-push rows row are is (pairs_push (λ left right. left ≢ right) rows row are.distinct another);
    rising = rising;
    last_line = e ∙ sym (ap last_bytes (values_push node_line_over rows row) ∙ last_pushed (node_lines rows) (node_line_over (node_lines rows) row));
  }

-- what is told with a row more
pub row_told : (kept told : Told) (rows : List Row) (row : Row) → kept ≡ told → kept.rows ≡ rows → kept.nodes ≡ node_lines rows
    → record kept { last = Node; rows = rows ++ row ∷ []; nodes = node_lines (rows ++ row ∷ []) } ≡ with_row told row
row_told kept told rows row view r n =
    (λ i. record kept { last = Node; rows = sym r i ++ row ∷ []; nodes = (values_push node_line_over rows row ∙ (λ j. sym n j ++ node_line_over (sym n j) row ∷ [])) i })
    ∙ ap (λ (t : Told). with_row t row) view
