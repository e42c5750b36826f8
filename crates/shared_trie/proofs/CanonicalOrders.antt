-- Nodes that some root leads to, ordered by height and line, are in their order: a child is less high than its node, so it comes before; so the
-- new rows are those of a trie; and by induction on places each new line has the height of its node.
use Rattle.std.proofs.Common.{◌≡◌, ◌≢◌, inl, inr, ℕ, zero, suc, ◌+◌, ◌<◌, ◌≤◌, List, [], ◌∷◌, length, map, get_or, max, refl, sym, ◌∙◌, ap, subst, arith}
use Rattle.std.specs.Prelude.{Contains}
use Rattle.std.specs.List.{AllByRecursion}
use Rattle.std.specs.List.Sorted.{IsStrictlySortedBy}
use Rattle.std.specs.Ordering.{nat_cmp, on}
use Rattle.std.proofs.lemmas.Bool.{cases_lt}
use Rattle.std.proofs.lemmas.List.{get_or-map, length-map, ext_get_or}
use Rattle.std.proofs.lemmas.List.Elements.{All-contains, Contains-get_or, recursion_from_All}
use Rattle.std.proofs.lemmas.Map.Keys.{Less-from_sorted}
use Rattle.list_laws.proofs.FirstOnes.{Contains-map_cases, sorted-map}
use Rattle.list_laws.proofs.Orderings.{le_from_then}
use Rattle.list_laws.proofs.Sorted.{All-from_Contains, Contains-first, Contains-later, not_Less-itself}
use Rattle.lexicon_definitions.specs.Tries.{Row, Trie, AreRows, IsChild, IsRow, IsTrie, row_of, empty_row}
use Rattle.lexicon_definitions.proofs.TrieGrowth.{walk-within}
use Rattle.lexicon_definitions.proofs.TrieSteps.{child_among-Contains}
use Rattle.trie_text_definitions.specs.NodeValues.{height_over}
use Rattle.trie_text_definitions.specs.NodeLines.{NodeLine, compare_node_lines, heights, node_line, node_line_over, node_lines}
use Rattle.trie_text_definitions.specs.VersionTexts.{IsLedTo}
use Rattle.trie_text_definitions.proofs.NodeSteps.{node_lines_total}
use Rattle.trie_text_definitions.proofs.NodeValueLaws.{length-values}
use Rattle.trie_text_definitions.proofs.ToldTries.{heights_at, line_at, no_line}
use Rattle.shared_trie.specs.CanonicalNodes.{number_in, numbered_child, numbered_row, rows_of_nodes, IsCanonical, height_of, line_in}
use Rattle.shared_trie.proofs.LineHeights.{height_at, child_lower}
use Rattle.shared_trie.proofs.NumbersIn.{number_at, same_number}
use Rattle.shared_trie.proofs.NumberedTries.{led_to_child, row_at_number, row_at_place}

-- ---- heights over numbered children

same_over : (nodes new old : List ℕ) (children : List (ℕ × ℕ)) → AllByRecursion (λ (child : ℕ × ℕ). get_or new (number_in nodes child.1) 0 ≡ get_or old child.1 0) children
    → height_over new (map (numbered_child nodes) children) ≡ height_over old children
same_over nodes new old [] h = refl
same_over nodes new old (child ∷ children) h = λ i. max (h.0 i + 1) (same_over nodes new old children h.1 i)

-- children by their numbers are told by these
pub same_children : (nodes : List ℕ) (xs ys : List (ℕ × ℕ)) → AllByRecursion (λ (child : ℕ × ℕ). Contains nodes child.1) xs → AllByRecursion (λ (child : ℕ × ℕ). Contains nodes child.1) ys
    → map (numbered_child nodes) xs ≡ map (numbered_child nodes) ys → xs ≡ ys
same_children nodes [] [] h k e = refl
same_children nodes [] (y ∷ ys) h k e = absurd (cc)
same_children nodes (x ∷ xs) [] h k e = absurd (cc)
same_children nodes (x ∷ xs) (y ∷ ys) h k e =
    let firsts : numbered_child nodes x ≡ numbered_child nodes y = cc in
    let rests : map (numbered_child nodes) xs ≡ map (numbered_child nodes) ys = cc in
    let letters : x.0 ≡ y.0 = ap (λ (c : ℕ × ℕ). c.0) firsts in
    let nodes_are : x.1 ≡ y.1 = same_number nodes x.1 y.1 h.0 k.0 (ap (λ (c : ℕ × ℕ). c.1) firsts) in
    let rest = same_children nodes xs ys h.1 k.1 rests in
    λ i. (letters i, nodes_are i) ∷ rest i

-- a node is told by its row
pub one_node : (rows : List Row) → AreRows rows → (left right : ℕ) → left < length rows → right < length rows → row_of rows left ≡ row_of rows right → left ≡ right
one_node rows are left right l r e =
    elim (cases_lt left right) [
      | inl less ↦ absurd (are.distinct left right empty_row less r e)
      | inr above ↦ elim (cases_lt right left) [
        | inl less ↦ absurd (are.distinct right left empty_row less l (sym e))
        | inr same ↦ omega (arith, above, same)
      ]
    ]

-- ---- nodes in their order

module _ (trie : Trie) (is : IsTrie trie) (nodes : List ℕ) (led : (node : ℕ) → Contains nodes node → IsLedTo trie node) (there : (node : ℕ) → IsLedTo trie node → Contains nodes node)
    (rising : IsStrictlySortedBy compare_node_lines (map (line_in trie.rows nodes) nodes)) where
  abbrev numbered : List Row
  numbered = rows_of_nodes trie.rows nodes

  low : (node : ℕ) → Contains nodes node → node < length trie.rows
  low node m =
      let from = led node m in
      let root = All-contains (λ root. root < length trie.rows) trie.roots from.root is.roots from.is_root in
      let within = walk-within trie.rows is.rows from.word from.root node root from.walked in
      omega (arith, root, within)

  child_there : (node : ℕ) → Contains nodes node → (child : ℕ × ℕ) → Contains (row_of trie.rows node).children child → Contains nodes child.1
  child_there node m child among =
      there child.1 (led_to_child trie node child.0 child.1 (led node m) (child_among-Contains child.0 child.1 (row_of trie.rows node).children (is.rows.each node (low node m)).letters among))

  -- of two places the line at the first is below that at the second
  line_before : (i j : ℕ) → i < j → j < length nodes → height_of trie.rows (get_or nodes i 0) ≤ height_of trie.rows (get_or nodes j 0)
  line_before i j less below =
      let long = length-map nodes (line_in trie.rows nodes) in
      let left = get_or-map (line_in trie.rows nodes) nodes i 0 no_line (omega (arith, less, below)) in
      let right = get_or-map (line_in trie.rows nodes) nodes j 0 no_line below in
      let under = Less-from_sorted compare_node_lines (map (line_in trie.rows nodes) nodes) i j no_line rising less (omega (arith, below, long)) in
      le_from_then (height_of trie.rows (get_or nodes i 0)) (height_of trie.rows (get_or nodes j 0)) _ refl _ ((λ k. compare_node_lines (sym left k) (sym right k)) ∙ under)

  -- a child comes before
  child_before : (place : ℕ) → place < length nodes → (child : ℕ × ℕ) → Contains (row_of trie.rows (get_or nodes place 0)).children child → number_in nodes child.1 < place
  child_before place below child among =
      let node = get_or nodes place 0 in
      let m = Contains-get_or nodes place 0 below in
      let here = child_there node m child among in
      let (within, at) = number_at nodes child.1 here in
      let lower = child_lower trie.rows is.rows node (low node m) child among in
      elim (cases_lt (number_in nodes child.1) place) [
        | inl less ↦ less
        | inr above ↦ elim (cases_lt place (number_in nodes child.1)) [
          | inl less ↦
              let high = line_before place (number_in nodes child.1) less within in
              let same = ap (height_of trie.rows) at in
              absurd (omega (arith, high, same, lower))
          | inr equal ↦
              let place_is : number_in nodes child.1 ≡ place = omega (arith, above, equal) in
              let same = ap (height_of trie.rows) (sym at ∙ ap (λ k. get_or nodes k 0) place_is) in
              absurd (omega (arith, same, lower))
        ]
      ]

  length-numbered : length numbered ≡ length nodes
  length-numbered = length-map nodes (λ (n : ℕ). numbered_row nodes (row_of trie.rows n))

  empty_by : (row : Row) → numbered_row nodes row ≡ empty_row → row ≡ empty_row
  empty_by row e =
      let deltas : row.deltas ≡ [] = ap (λ (r : Row). r.deltas) e in
      let none : (children : List (ℕ × ℕ)) → map (numbered_child nodes) children ≡ [] → children ≡ [] = elim [ [] ↦ λ e. refl | child ∷ children ↦ λ e. absurd (cc) ] in
      let children : row.children ≡ [] = none row.children (ap (λ (r : Row). r.children) e) in
      λ i. record { deltas = deltas i; children = children i }

  -- each new row may stand at its place
  row_stands : (place : ℕ) → place < length nodes → IsRow numbered place (numbered_row nodes (row_of trie.rows (get_or nodes place 0)))
  row_stands place below =
      let node = get_or nodes place 0 in
      let m = Contains-get_or nodes place 0 below in
      let row = is.rows.each node (low node m) in
      let children = (row_of trie.rows node).children in
      record {
        deltas = row.deltas;
        children = All-from_Contains (IsChild numbered place) (map (numbered_child nodes) children) (λ child among.
            let (old, inside, same) = Contains-map_cases (numbered_child nodes) children child among in
            let c = All-contains (IsChild trie.rows node) children old row.children inside in
            subst (IsChild numbered place) same (record {
              letter = c.letter;
              before = child_before place below old inside;
              not_empty = λ e. c.not_empty (empty_by (row_of trie.rows old.1) (sym (row_at_number trie.rows nodes old.1 (child_there node m old inside)) ∙ e));
            }));
        letters = sorted-map (on (λ (c : ℕ × ℕ). c.0) nat_cmp) (on (λ (c : ℕ × ℕ). c.0) nat_cmp) (numbered_child nodes) (λ c. Unit {0}) (λ x z p q less. less) children (λ z among. tt) row.letters;
      }

  children_there : (node : ℕ) → Contains nodes node → AllByRecursion (λ (child : ℕ × ℕ). Contains nodes child.1) (row_of trie.rows node).children
  children_there node m =
      recursion_from_All (λ (child : ℕ × ℕ). Contains nodes child.1) (row_of trie.rows node).children (All-from_Contains (λ (child : ℕ × ℕ). Contains nodes child.1) (row_of trie.rows node).children (child_there node m))

  -- no row is there twice
  apart : (i j : ℕ) (d : Row) → i < j → j < length numbered → get_or numbered i d ≢ get_or numbered j d
  apart i j d less below e =
      let count = length-numbered in
      let within : j < length nodes = omega (arith, below, count) in
      let row = λ (n : ℕ). numbered_row nodes (row_of trie.rows n) in
      let left = get_or nodes i 0 in
      let right = get_or nodes j 0 in
      let l = Contains-get_or nodes i 0 (omega (arith, less, within)) in
      let r = Contains-get_or nodes j 0 within in
      let rows_are : row left ≡ row right = sym (get_or-map row nodes i 0 d (omega (arith, less, within))) ∙ e ∙ get_or-map row nodes j 0 d within in
      let deltas : (row_of trie.rows left).deltas ≡ (row_of trie.rows right).deltas = ap (λ (r : Row). r.deltas) rows_are in
      let children = same_children nodes (row_of trie.rows left).children (row_of trie.rows right).children (children_there left l) (children_there right r) (ap (λ (r : Row). r.children) rows_are) in
      let whole : row_of trie.rows left ≡ row_of trie.rows right = λ k. record { deltas = deltas k; children = children k } in
      let same = one_node trie.rows is.rows left right (low left l) (low right r) whole in
      let long = length-map nodes (line_in trie.rows nodes) in
      let first = get_or-map (line_in trie.rows nodes) nodes i 0 no_line (omega (arith, less, within)) in
      let second = get_or-map (line_in trie.rows nodes) nodes j 0 no_line within in
      let under = Less-from_sorted compare_node_lines (map (line_in trie.rows nodes) nodes) i j no_line rising less (omega (arith, within, long)) in
      not_Less-itself node_lines_total (line_in trie.rows nodes right)
      ((λ k. compare_node_lines (line_in trie.rows nodes (sym same k)) (line_in trie.rows nodes right)) ∙ (λ k. compare_node_lines (sym first k) (sym second k)) ∙ under)

  numbered_are : AreRows numbered
  numbered_are = record {
    each = λ place below.
        let count = length-numbered in
        let within : place < length nodes = omega (arith, below, count) in
        subst (IsRow numbered place) (sym (row_at_place trie.rows nodes place within)) (row_stands place within);
    distinct = apart;
  }

  -- ---- lines

  children_as_high : (place : ℕ) → place < length nodes → ((k : ℕ) → k < place → get_or (node_lines numbered) k no_line ≡ line_in trie.rows nodes (get_or nodes k 0))
      → (children : List (ℕ × ℕ)) → ((child : ℕ × ℕ) → Contains children child → Contains (row_of trie.rows (get_or nodes place 0)).children child)
      → AllByRecursion (λ (child : ℕ × ℕ). get_or (heights (node_lines numbered)) (number_in nodes child.1) 0 ≡ get_or (heights (node_lines trie.rows)) child.1 0) children
  children_as_high place below known [] inside = tt
  children_as_high place below known (child ∷ children) inside =
      let m = Contains-get_or nodes place 0 below in
      let among = inside child (Contains-first child children) in
      let here = child_there (get_or nodes place 0) m child among in
      let (within, at) = number_at nodes child.1 here in
      let many = length-values node_line_over numbered in
      let count = length-numbered in (
        heights_at (node_lines numbered) (number_in nodes child.1) (omega (arith, within, many, count))
            ∙ ap (λ (n : NodeLine). n.height) (known (number_in nodes child.1) (child_before place below child among)) ∙ ap (height_of trie.rows) at,
        children_as_high place below known children (λ c k. inside c (Contains-later child children c k)),
      )

  lines_below : (bound place : ℕ) → place < bound → place < length nodes → get_or (node_lines numbered) place no_line ≡ line_in trie.rows nodes (get_or nodes place 0)
  lines_below zero place small below = absurd (omega (arith, small))
  lines_below (suc bound) place small below =
      let node = get_or nodes place 0 in
      let m = Contains-get_or nodes place 0 below in
      let count = length-numbered in
      let known = λ (k : ℕ) (less : k < place). lines_below bound k (omega (arith, less, small)) (omega (arith, less, below)) in
      let high = same_over nodes (heights (node_lines numbered)) (heights (node_lines trie.rows)) (row_of trie.rows node).children (children_as_high place below known (row_of trie.rows node).children (λ c k. k)) in
      line_at numbered place numbered_are (omega (arith, below, count)) ∙ ap (node_line_over (node_lines numbered)) (row_at_place trie.rows nodes place below)
      ∙ (λ i. record { height = (high ∙ sym (height_at trie.rows is.rows node (low node m))) i; bytes = node_line (numbered_row nodes (row_of trie.rows node)) })

  lines_are : node_lines numbered ≡ map (line_in trie.rows nodes) nodes
  lines_are =
      let many = length-values node_line_over numbered in
      let count = length-numbered in
      let long = length-map nodes (line_in trie.rows nodes) in
      ext_get_or no_line (node_lines numbered) (map (line_in trie.rows nodes) nodes) (omega (arith, many, count, long)) (λ place below.
      let within : place < length nodes = omega (arith, below, many, count) in
      lines_below (suc place) place (omega arith) within ∙ sym (get_or-map (line_in trie.rows nodes) nodes place 0 no_line within))

  pub canonical_order : IsCanonical trie nodes
  canonical_order = record {
    led_to = λ node. (led node, there node);
    is_trie = record {
      rows = numbered_are;
      roots = All-from_Contains (λ root. root < length numbered) (map (number_in nodes) trie.roots) (λ number m.
          let (root, among, same) = Contains-map_cases (number_in nodes) trie.roots number m in
          let here = there root (record { root = root; is_root = among; word = []; walked = refl }) in
          let (within, at) = number_at nodes root here in
          let count = length-numbered in
          subst (λ n. n < length numbered) same (omega (arith, within, count)));
    };
    rising = subst (IsStrictlySortedBy compare_node_lines) (sym lines_are) rising;
  }
