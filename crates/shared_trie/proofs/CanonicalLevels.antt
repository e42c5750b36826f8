-- One level more: its nodes have no children but such as are placed, so their lines are known; they come after all that are less high, and among
-- themselves as their lines are sorted, since no two have one line.
use Rattle.std.proofs.Common.{◌≡◌, ◌≢◌, inl, inr, ℕ, ◌+◌, ◌<◌, ◌≤◌, List, [], ◌∷◌, ◌++◌, length, map, take, drop, get_or, false, true≢false, refl, sym, ◌∙◌, ap, subst, arith}
use Rattle.std.specs.Prelude.{Result, Ok, Err, OnOk, All, AllPairs, Contains, IsPermutation, IsSortedByKey}
use Rattle.std.specs.List.{AllByRecursion}
use Rattle.std.specs.List.Sorted.{IsStrictlySortedBy}
use Rattle.std.specs.Cmp.Lexicographic.{slice_cmp}
use Rattle.std.specs.declared.cmp.Ordering.{Ordering}
use Rattle.std.specs.declared.cmp.Ordering.TheVariants.{Less, Equal, Greater}
use Rattle.std.specs.Ordering.{nat_cmp, ordering_then, ordering_reverse, is_lt}
use Rattle.std.specs.Prelude.{nat_eq}
use Rattle.std.proofs.lemmas.Bool.{cases_lt}
use Rattle.std.proofs.lemmas.Bool.Decides.{Decides-eqb, nat_tests}
use Rattle.std.proofs.lemmas.Cmp.{nat_list_cmp_total}
use Rattle.std.proofs.lemmas.List.{get_or-map, length-map, map-append, take_at}
use Rattle.std.proofs.lemmas.List.Elements.{All-contains, All-get_or, Contains-append_cases, Contains-append_left, Contains-append_right, Contains-get_or, recursion_from_All}
use Rattle.std.proofs.lemmas.List.MinMax.{ranks_by}
use Rattle.std.proofs.lemmas.List.Sorted.{All-permutation, Contains-permutation, IsPermutation-map, IsPermutation-sym, length_permutation, sorted_far}
use Rattle.std.proofs.lemmas.Map.Keys.{IsDistinct-IsPermutation, Less-from_sorted}
use Rattle.std.proofs.lemmas.Map.Lookups.{exact_bytes}
use Rattle.std.proofs.lemmas.Map.Made.{AllPairs-from_IsDistinct, IsDistinct-from_AllPairs}
use Rattle.list_laws.proofs.FirstOnes.{Contains-map_cases}
use Rattle.list_laws.proofs.Orderings.{nat_cmp-Equal, nat_cmp-Less}
use Rattle.list_laws.proofs.Sorted.{All-from_Contains, Contains-first, Contains-later, not_Less-itself, sorted_append}
use Rattle.lexicon_definitions.specs.Tries.{Row, Trie, IsTrie, row_of}
use Rattle.lexicon_definitions.proofs.TrieGrowth.{walk-within}
use Rattle.lexicon_definitions.proofs.TrieSteps.{child_among-Contains}
use Rattle.trie_text_definitions.specs.NodeLines.{NodeLine, compare_node_lines, node_line}
use Rattle.trie_text_definitions.specs.PrintableRows.{IsPrintable}
use Rattle.trie_text_definitions.specs.VersionTexts.{IsLedTo}
use Rattle.trie_text_definitions.proofs.NodeLinesApart.{same_row}
use Rattle.trie_text_definitions.proofs.NodeSteps.{node_lines_total}
use Rattle.trie_text_definitions.proofs.ToldTries.{no_line}
use Rattle.shared_trie.specs.CanonicalNodes.{numbered_child, numbered_row, height_of, line_in, NodeText, text_of_node, ArePlaced, IsLevelOf}
use Rattle.shared_trie.proofs.CanonicalOrders.{one_node, same_children}
use Rattle.shared_trie.proofs.DeltaLists.{sorted_from_pairs}
use Rattle.shared_trie.proofs.LineHeights.{child_lower}
use Rattle.shared_trie.proofs.NumbersIn.{number_append}
use Rattle.shared_trie.proofs.NumberedTries.{led_to_child}

-- ---- lists

same_map : {X Y : Type 0} (f g : X → Y) (xs : List X) → ((x : X) → Contains xs x → f x ≡ g x) → map f xs ≡ map g xs
same_map f g [] h = refl
same_map f g (x ∷ xs) h = λ i. h x (Contains-first x xs) i ∷ same_map f g xs (λ y m. h y (Contains-later x xs y m)) i

-- of two different texts the first is below the second where the second is not below the first
below_from_not_above : (left right : List ℕ) → left ≢ right → is_lt (slice_cmp nat_cmp right left) ≡ false → slice_cmp nat_cmp left right ≡ Less
below_from_not_above left right differ not_above =
    let go : (order : Ordering) → slice_cmp nat_cmp left right ≡ order → slice_cmp nat_cmp left right ≡ Less =
    elim [
      | Less ↦ λ e. e
      | Equal ↦ λ e. absurd (differ (exact_bytes left right e))
      | Greater ↦ λ e.
          let less : slice_cmp nat_cmp right left ≡ Less = nat_list_cmp_total.antisymm right left ∙ ap ordering_reverse e in
          absurd (true≢false (sym (ap is_lt less) ∙ not_above))
    ]
    in go (slice_cmp nat_cmp left right) refl

flips : (m n : ℕ) → nat_eq m n ≡ nat_eq n m
flips m n = grind (arith, nat_tests)

nodes_moved : (old new : List ℕ) → IsPermutation old new → AllPairs (λ (left right : ℕ). left ≢ right) old → AllPairs (λ (left right : ℕ). left ≢ right) new
nodes_moved old new moved apart =
    AllPairs-from_IsDistinct Decides-eqb new (IsDistinct-IsPermutation nat_eq flips old new moved (IsDistinct-from_AllPairs Decides-eqb old apart))

nodes_of_texts : (rows : List Row) (nodes level : List ℕ) → map (λ (text : NodeText). text.node) (map (text_of_node rows nodes) level) ≡ level
nodes_of_texts rows nodes [] = refl
nodes_of_texts rows nodes (node ∷ level) = ap (◌∷◌ node) (nodes_of_texts rows nodes level)

abbrev no_text : NodeText
no_text = record { node = 0; bytes = [] }

children_kept : (nodes more : List ℕ) (children : List (ℕ × ℕ)) → AllByRecursion (λ (child : ℕ × ℕ). Contains nodes child.1) children
    → map (numbered_child (nodes ++ more)) children ≡ map (numbered_child nodes) children
children_kept nodes more [] h = refl
children_kept nodes more (child ∷ children) h = λ i. (child.0, number_append nodes more child.1 h.0 i) ∷ children_kept nodes more children h.1 i

-- ---- a level

module _ (trie : Trie) (is : IsTrie trie) (height : ℕ) (nodes level : List ℕ) (placed : ArePlaced trie height nodes) (level_is : IsLevelOf trie height level)
    (printable : All (λ node. IsPrintable (numbered_row nodes (row_of trie.rows node))) level)
    (sorted : List NodeText) (moved : IsPermutation (map (text_of_node trie.rows nodes) level) sorted) (rising : IsSortedByKey (λ (text : NodeText). text.bytes) (slice_cmp nat_cmp) sorted) where
  abbrev new : List ℕ
  new = map (λ (text : NodeText). text.node) sorted

  low : (node : ℕ) → IsLedTo trie node → node < length trie.rows
  low node from =
      let root = All-contains (λ root. root < length trie.rows) trie.roots from.root is.roots from.is_root in
      let within = walk-within trie.rows is.rows from.word from.root node root from.walked in
      omega (arith, root, within)

  -- the children of a node that is not above the level are placed
  child_placed : (node : ℕ) → IsLedTo trie node → height_of trie.rows node ≤ height → (child : ℕ × ℕ) → Contains (row_of trie.rows node).children child → Contains nodes child.1
  child_placed node led high child among =
      let lower = child_lower trie.rows is.rows node (low node led) child among in
      (placed.each child.1).1 (
        led_to_child trie node child.0 child.1 led (child_among-Contains child.0 child.1 (row_of trie.rows node).children (is.rows.each node (low node led)).letters among),
        omega (arith, lower, high),
      )

  children_placed : (node : ℕ) → IsLedTo trie node → height_of trie.rows node ≤ height → AllByRecursion (λ (child : ℕ × ℕ). Contains nodes child.1) (row_of trie.rows node).children
  children_placed node led high =
      recursion_from_All (λ (child : ℕ × ℕ). Contains nodes child.1) (row_of trie.rows node).children
      (All-from_Contains (λ (child : ℕ × ℕ). Contains nodes child.1) (row_of trie.rows node).children (child_placed node led high))

  -- so its line stays
  line_kept : (node : ℕ) → IsLedTo trie node → height_of trie.rows node ≤ height → line_in trie.rows (nodes ++ new) node ≡ line_in trie.rows nodes node
  line_kept node led high =
      let row = row_of trie.rows node in
      let same = children_kept nodes new row.children (children_placed node led high) in
      λ i. record { height = height_of trie.rows node; bytes = node_line (record { deltas = row.deltas; children = same i }) }

  -- ---- the new nodes

  moved_nodes : IsPermutation level new
  moved_nodes =
      subst (λ (ns : List ℕ). IsPermutation ns new) (nodes_of_texts trie.rows nodes level)
      (IsPermutation-map (λ (text : NodeText). text.node) (map (text_of_node trie.rows nodes) level) sorted moved)

  new_level : (node : ℕ) → Contains new node → IsLedTo trie node × (height_of trie.rows node ≡ height)
  new_level node m = (level_is.each node).0 (Contains-permutation new level node (IsPermutation-sym level new moved_nodes) m)

  texts_are : All (λ (text : NodeText). text ≡ text_of_node trie.rows nodes text.node) sorted
  texts_are =
      All-permutation (λ (text : NodeText). text ≡ text_of_node trie.rows nodes text.node) (map (text_of_node trie.rows nodes) level) sorted moved
      (All-from_Contains (λ (text : NodeText). text ≡ text_of_node trie.rows nodes text.node) (map (text_of_node trie.rows nodes) level) (λ text m.
      let (node, among, same) = Contains-map_cases (text_of_node trie.rows nodes) level text m in
      subst (λ (t : NodeText). t ≡ text_of_node trie.rows nodes t.node) same refl))

  new_printable : All (λ node. IsPrintable (numbered_row nodes (row_of trie.rows node))) new
  new_printable = All-permutation (λ node. IsPrintable (numbered_row nodes (row_of trie.rows node))) level new moved_nodes printable

  abbrev line : ℕ → NodeLine
  line node = line_in trie.rows nodes node

  abbrev row : ℕ → Row
  row node = numbered_row nodes (row_of trie.rows node)

  -- different nodes of a level have different lines
  lines_differ : (left right : ℕ) → Contains new left → Contains new right → left ≢ right → node_line (row left) ≢ node_line (row right)
  lines_differ left right l r differ e =
      let printed = λ (node : ℕ) (m : Contains new node). All-contains (λ node. IsPrintable (row node)) new node new_printable m in
      let rows_are = same_row (row left) (row right) (printed left l) (printed right r) e in
      let (led_left, high_left) = new_level left l in
      let (led_right, high_right) = new_level right r in
      let deltas : (row_of trie.rows left).deltas ≡ (row_of trie.rows right).deltas = ap (λ (x : Row). x.deltas) rows_are in
      let children = same_children nodes (row_of trie.rows left).children (row_of trie.rows right).children (children_placed left led_left (omega (arith, high_left))) (children_placed right led_right (omega (arith, high_right)))
      (ap (λ (x : Row). x.children) rows_are) in
      differ (one_node trie.rows is.rows left right (low left led_left) (low right led_right) (λ k. record { deltas = deltas k; children = children k }))

  new_at : (place : ℕ) → place < length sorted → get_or new place 0 ≡ (get_or sorted place no_text).node
  new_at place below = get_or-map (λ (text : NodeText). text.node) sorted place no_text 0 below

  bytes_at : (place : ℕ) → place < length sorted → (get_or sorted place no_text).bytes ≡ node_line (row (get_or new place 0))
  bytes_at place below =
      ap (λ (text : NodeText). text.bytes) (All-get_or (λ (text : NodeText). text ≡ text_of_node trie.rows nodes text.node) sorted place no_text below texts_are)
      ∙ ap (λ node. node_line (row node)) (sym (new_at place below))

  -- of two places in the level the line at the first is below that at the second
  new_pairs : (i j : ℕ) → i < j → j < length new → compare_node_lines (line (get_or new i 0)) (line (get_or new j 0)) ≡ Less
  new_pairs i j less below =
      let count = length-map sorted (λ (text : NodeText). text.node) in
      let low_j : j < length sorted = omega (arith, below, count) in
      let low_i : i < length sorted = omega (arith, less, low_j) in
      let left = get_or new i 0 in
      let right = get_or new j 0 in
      let l = Contains-get_or new i 0 (omega (arith, less, below)) in
      let r = Contains-get_or new j 0 below in
      let heights_are : height_of trie.rows left ≡ height_of trie.rows right = (new_level left l).1 ∙ sym (new_level right r).1 in
      let differ = lines_differ left right l r (nodes_moved level new moved_nodes level_is.apart i j 0 less below) in
      let far = sorted_far (λ (x y : NodeText). is_lt (slice_cmp nat_cmp x.bytes y.bytes)) (ranks_by nat_list_cmp_total (λ (text : NodeText). text.bytes)) sorted rising i j no_text (omega (arith, less)) low_j in
      let not_above : is_lt (slice_cmp nat_cmp (node_line (row right)) (node_line (row left))) ≡ false =
      (λ k. is_lt (slice_cmp nat_cmp (sym (bytes_at j low_j) k) (sym (bytes_at i low_i) k))) ∙ far in
      ap (λ order. ordering_then order (slice_cmp nat_cmp (node_line (row left)) (node_line (row right)))) (nat_cmp-Equal (height_of trie.rows left) (height_of trie.rows right) heights_are)
      ∙ below_from_not_above (node_line (row left)) (node_line (row right)) differ not_above

  new_rising : IsStrictlySortedBy compare_node_lines (map line new)
  new_rising =
      sorted_from_pairs compare_node_lines (map line new) (λ i j d less below.
      let long = length-map new line in
      let within : j < length new = omega (arith, below, long) in
      (λ k. compare_node_lines (get_or-map line new i 0 d (omega (arith, less, within)) k) (get_or-map line new j 0 d within k)) ∙ new_pairs i j less within)

  -- what is placed is below the level
  below_level : (y : NodeLine) → Contains (map line new) y → All (λ x. compare_node_lines x y ≡ Less) (map line nodes)
  below_level y m =
      let (node, among, same) = Contains-map_cases line new y m in
      let high = (new_level node among).1 in
      All-from_Contains (λ x. compare_node_lines x y ≡ Less) (map line nodes) (λ x k.
      let (other, inside, is_other) = Contains-map_cases line nodes x k in
      let lower = ((placed.each other).0 inside).1 in
      let less = nat_cmp-Less (height_of trie.rows other) (height_of trie.rows node) (omega (arith, lower, high)) in
      (λ i. compare_node_lines (sym is_other i) (sym same i)) ∙ ap (λ order. ordering_then order (slice_cmp nat_cmp (line other).bytes (line node).bytes)) less)

  lines_are : map (line_in trie.rows (nodes ++ new)) (nodes ++ new) ≡ map line nodes ++ map line new
  lines_are =
      map-append (line_in trie.rows (nodes ++ new)) nodes new
      ∙ (λ i. same_map (line_in trie.rows (nodes ++ new)) line nodes (λ node m. (let (led, lower) = (placed.each node).0 m in line_kept node led (omega (arith, lower)))) i
      ++ same_map (line_in trie.rows (nodes ++ new)) line new (λ node m. (let (led, high) = new_level node m in line_kept node led (omega (arith, high)))) i)

  pub placed_next : ArePlaced trie (height + 1) (nodes ++ new)
  placed_next = record {
    each = λ node. (
      λ m. elim (Contains-append_cases nodes new node m) [
        | inl old ↦ let (led, lower) = (placed.each node).0 old in (led, omega (arith, lower))
        | inr fresh ↦ let (led, high) = new_level node fresh in (led, omega (arith, high))
      ],
      λ h. elim (cases_lt (height_of trie.rows node) height) [
        | inl lower ↦ Contains-append_left nodes new node ((placed.each node).1 (h.0, lower))
        | inr above ↦
            let lower = h.1 in
            let level_has = (level_is.each node).1 (h.0, omega (arith, lower, above)) in
            Contains-append_right nodes new node (Contains-permutation level new node moved_nodes level_has)
      ],
    );
    rising = subst (IsStrictlySortedBy compare_node_lines) (sym lines_are) (sorted_append node_lines_total (map line nodes) (map line new) placed.rising new_rising below_level);
  }

  -- so no node is placed twice, and each is there
  pub apart_next : AllPairs (λ (left right : ℕ). left ≢ right) (nodes ++ new)
  apart_next i j d less below e =
      let all = nodes ++ new in
      let long = length-map all (line_in trie.rows all) in
      let under = Less-from_sorted compare_node_lines (map (line_in trie.rows all) all) i j no_line placed_next.rising less (omega (arith, below, long)) in
      let first = get_or-map (line_in trie.rows all) all i d no_line (omega (arith, less, below)) in
      let second = get_or-map (line_in trie.rows all) all j d no_line below in
      not_Less-itself node_lines_total (line_in trie.rows all (get_or all j d))
      ((λ k. compare_node_lines (line_in trie.rows all (sym e k)) (line_in trie.rows all (get_or all j d))) ∙ (λ k. compare_node_lines (sym first k) (sym second k)) ∙ under)

  pub there_next : All (λ (text : NodeText). text.node < length trie.rows) sorted
  there_next =
      All-permutation (λ (text : NodeText). text.node < length trie.rows) (map (text_of_node trie.rows nodes) level) sorted moved
      (All-from_Contains (λ (text : NodeText). text.node < length trie.rows) (map (text_of_node trie.rows nodes) level) (λ text m.
      let (node, among, same) = Contains-map_cases (text_of_node trie.rows nodes) level text m in
      subst (λ (t : NodeText). t.node < length trie.rows) same (low node ((level_is.each node).0 among).0)))

-- ---- what is asked of a level before its lines are made

module _ (trie : Trie) (is : IsTrie trie) (height : ℕ) (nodes level : List ℕ) (placed : ArePlaced trie height nodes) (level_is : IsLevelOf trie height level) where
  led_low : (node : ℕ) → IsLedTo trie node → node < length trie.rows
  led_low node from =
      let root = All-contains (λ root. root < length trie.rows) trie.roots from.root is.roots from.is_root in
      let within = walk-within trie.rows is.rows from.word from.root node root from.walked in
      omega (arith, root, within)

  pub level_there : All (λ node. node < length trie.rows) level
  level_there = All-from_Contains (λ node. node < length trie.rows) level (λ node m. led_low node ((level_is.each node).0 m).0)

  pub level_children : All (λ node. All (λ (child : ℕ × ℕ). Contains nodes child.1) (row_of trie.rows node).children) level
  level_children =
      All-from_Contains (λ node. All (λ (child : ℕ × ℕ). Contains nodes child.1) (row_of trie.rows node).children) level (λ node m.
      let (led, high) = (level_is.each node).0 m in
      All-from_Contains (λ (child : ℕ × ℕ). Contains nodes child.1) (row_of trie.rows node).children (λ child among.
      let lower = child_lower trie.rows is.rows node (led_low node led) child among in
      (placed.each child.1).1 (
        led_to_child trie node child.0 child.1 led (child_among-Contains child.0 child.1 (row_of trie.rows node).children (is.rows.each node (led_low node led)).letters among),
        omega (arith, lower, high),
      )))

-- ---- a level as it is sorted in place

-- what follows on success
pub on_ok : {T E : Type 0} (result : Result T E) {P Q : Type 0} → (P → Q) → OnOk result P → OnOk result Q
on_ok (Ok value) f h = f h
on_ok (Err error) f h = tt

-- the lines of a level, sorted
pub record IsSortedLevel (trie : Trie) (height : ℕ) (nodes level : List ℕ) (sorted : List NodeText) : Type 0 where
  pub level_is : IsLevelOf trie height level
  pub printable : All (λ node. IsPrintable (numbered_row nodes (row_of trie.rows node))) level
  pub moved : IsPermutation (map (text_of_node trie.rows nodes) level) sorted
  pub rising : IsSortedByKey (λ (text : NodeText). text.bytes) (slice_cmp nat_cmp) sorted

pub sorted_level : (trie : Trie) (height : ℕ) (nodes level read : List ℕ) (lines before after : List NodeText) → IsLevelOf trie height level → read ≡ level
    → lines ≡ map (text_of_node trie.rows nodes) read → All (λ node. IsPrintable (numbered_row nodes (row_of trie.rows node))) read → before ≡ lines → IsPermutation before after
    → IsSortedByKey (λ (text : NodeText). text.bytes) (slice_cmp nat_cmp) after → IsSortedLevel trie height nodes level after
sorted_level trie height nodes level read lines before after level_is e lines_are printed same moved rising = record {
  level_is = level_is;
  printable = subst (All (λ node. IsPrintable (numbered_row nodes (row_of trie.rows node)))) e printed;
  moved = subst (λ (ls : List NodeText). IsPermutation ls after) (same ∙ lines_are ∙ ap (map (text_of_node trie.rows nodes)) e) moved;
  rising = rising;
}

-- what was sorted in place is all that there is
pub all_sorted : (before lines after : List NodeText) (count : ℕ) → before ≡ lines → count ≡ length lines → IsPermutation before after
    → take count (after ++ drop (length after) lines) ≡ after
all_sorted before lines after count same long moved =
    let kept = length_permutation before after moved in
    take_at after (drop (length after) lines) count (kept ∙ ap length same ∙ sym long)

pub next_apart : (trie : Trie) → IsTrie trie → (height : ℕ) (nodes level : List ℕ) (sorted : List NodeText) → ArePlaced trie height nodes → IsSortedLevel trie height nodes level sorted
    → AllPairs (λ (left right : ℕ). left ≢ right) (nodes ++ map (λ (text : NodeText). text.node) sorted)
next_apart trie is height nodes level sorted placed s = apart_next trie is height nodes level placed s.level_is s.printable sorted s.moved s.rising

pub next_there : (trie : Trie) → IsTrie trie → (height : ℕ) (nodes level : List ℕ) (sorted : List NodeText) → ArePlaced trie height nodes → IsSortedLevel trie height nodes level sorted
    → All (λ (text : NodeText). text.node < length trie.rows) sorted
next_there trie is height nodes level sorted placed s = there_next trie is height nodes level placed s.level_is s.printable sorted s.moved s.rising

pub next_placed : (trie : Trie) → IsTrie trie → (height : ℕ) (nodes level : List ℕ) (sorted : List NodeText) → ArePlaced trie height nodes → IsSortedLevel trie height nodes level sorted
    → ArePlaced trie (height + 1) (nodes ++ map (λ (text : NodeText). text.node) sorted)
next_placed trie is height nodes level sorted placed s = placed_next trie is height nodes level placed s.level_is s.printable sorted s.moved s.rising
