-- The line of a node that stands above those told is taken, and so is the line of a root: the tests of each, by their answers.
use Rattle.std.proofs.Common.{◌≡◌, ℕ, ◌≤◌, true, false, not, ◌&&◌, nat_lt, Some, Ok, List, [], ◌∷◌, ◌++◌, length, map, refl, sym, ◌∙◌, ap, arith}
use Rattle.std.specs.Prelude.{slice_index_or, decimal, codes}
use Rattle.std.specs.List.{AllByRecursion, list_any, list_all}
use Rattle.std.specs.List.Sorted.{IsStrictlySortedBy}
use Rattle.std.specs.Str.{bytes_eq, is_utf8}
use Rattle.std.specs.declared.cmp.Ordering.{Ordering}
use Rattle.std.specs.declared.cmp.Ordering.TheVariants.{Less}
use Rattle.std.specs.Ordering.{is_lt, nat_cmp, on}
use Rattle.std.proofs.lemmas.Bool.{and_from, or_from, lt-ltb, le-ltb, not_from_false, false_from_ne_true}
use Rattle.std.proofs.lemmas.List.{append_assoc}
use Rattle.std.proofs.lemmas.List.Elements.{recursion_from_All}
use Rattle.std.proofs.lemmas.Map.Keys.{sorted_head, sorted_tail}
use Rattle.list_laws.specs.EmptyLists.{is_empty}
use Rattle.list_laws.proofs.Booleans.{when_true, when_false}
use Rattle.list_laws.proofs.Marks.{is_free}
use Rattle.list_laws.proofs.Texts.{bytes_itself}
use Rattle.text_definitions.specs.Slp1.{slp1_table}
use Rattle.lexicon_definitions.specs.declared.limits.TheConstants.{MOST_FORM_LETTERS}
use Rattle.lexicon_definitions.specs.Deltas.{Delta, compare_deltas}
use Rattle.lexicon_definitions.specs.Lexicons.{IsPhaseName}
use Rattle.lexicon_definitions.specs.Tries.{Row, IsChild, IsRow, row_of, empty_row}
use Rattle.lexicon_text_definitions.specs.FileContents.{compare_last}
use Rattle.lexicon_text_definitions.specs.FileLines.{fields_of}
use Rattle.lexicon_text_definitions.proofs.LineCuts.{ended_line, split_at, split_none, line_with}
use Rattle.lexicon_text_definitions.proofs.LineTests.{free_name}
use Rattle.trie_text_definitions.specs.LimitedRules.{rises}
use Rattle.trie_text_definitions.specs.NodeLines.{compare_node_lines, node_line, node_line_over, listed, delta_text, child_text}
use Rattle.trie_text_definitions.specs.PrintableRows.{IsPrintableDelta}
use Rattle.trie_text_definitions.specs.TrieTexts.{root_line}
use Rattle.trie_text_definitions.specs.Versions.{Version}
use Rattle.trie_text_definitions.specs.VersionSteps.{Node, Root, Told, is_empty_row, leads_before, are_children, passes_node_limits, if_above, take_spelled, take_shapes, take_node, is_root, take_root_number, take_root, take_line}
use Rattle.trie_text_definitions.proofs.NodeLinesApart.{number_free, child_free, deltas_free_of_blank, listed_free, line_parts}
use Rattle.trie_text_definitions.proofs.NodeSteps.{with_row, IsRowDelta, with_root, IsRootNode}
use Rattle.trie_text_definitions.proofs.NodeTexts.{IsNodeDelta}
use Rattle.trie_text_definitions.proofs.VersionLines.{MayCome}
use Rattle.trie_text_laws.proofs.FrontLines.{taken_by}
use Rattle.trie_text_laws.proofs.NodeFieldsRead.{IsSmallNumber, node_back, IsSmallChild, each_weaker, delta_printed, child_printed, delta_shapes_back, child_shapes_back, deltas_spelled, children_spelled}

-- ---- rising lists

-- of a list that rises each element is below the next
pub rises_from_sorted : {K : Type 0} (R : K → K → Ordering) (xs : List K) → IsStrictlySortedBy R xs → rises R xs ≡ true
rises_from_sorted R [] s = refl
rises_from_sorted R (x ∷ []) s = refl
rises_from_sorted R (x ∷ y ∷ xs) s =
    and_from (is_lt (R x y)) (rises R (y ∷ xs)) (ap is_lt (sorted_head R x (y ∷ xs) s).0) (rises_from_sorted R (y ∷ xs) (sorted_tail R x (y ∷ xs) s))

-- ---- a node

-- a row that may be told next
pub record MayTell (told : Told) (row : Row) : Type 0 where
  pub deltas : AllByRecursion IsRowDelta row.deltas
  pub children : AllByRecursion IsSmallChild row.children
  pub row_itself : IsRow told.rows (length told.rows) row
  pub low : (node_line_over told.nodes row).height ≤ MOST_FORM_LETTERS
  pub above : compare_last compare_node_lines told.nodes (node_line_over told.nodes row) ≡ Less

some_row : (row : Row) → (row ≡ empty_row → ⊥) → is_empty_row row ≡ false
some_row row n = false_from_ne_true (is_empty_row row) (λ e. n (none row.deltas row.children e))
  where
    none : (deltas : List Delta) (children : List (ℕ × ℕ)) → (is_empty deltas && is_empty children) ≡ true → record { deltas = deltas; children = children } ≡ empty_row
    none [] [] e = refl
    none [] (child ∷ children) e = absurd (cc)
    none (delta ∷ deltas) children e = absurd (cc)

leads_all : (rows : List Row) (children : List (ℕ × ℕ)) → AllByRecursion (IsChild rows (length rows)) children → list_all (leads_before rows) children ≡ true
leads_all rows [] h = refl
leads_all rows (child ∷ children) h =
    and_from (leads_before rows child) (list_all (leads_before rows) children)
    (and_from (nat_lt child.1 (length rows)) (not (is_empty_row (row_of rows child.1))) (lt-ltb child.1 (length rows) h.0.before) (not_from_false (is_empty_row (row_of rows child.1)) (some_row (row_of rows child.1) h.0.not_empty)))
    (leads_all rows children h.1)

short_all : (deltas : List Delta) → AllByRecursion IsRowDelta deltas → list_any (λ (delta : Delta). nat_lt MOST_FORM_LETTERS (length delta.append)) deltas ≡ false
short_all [] h = refl
short_all (delta ∷ deltas) h = or_from _ _ (le-ltb MOST_FORM_LETTERS (length delta.append) h.0.1) (short_all deltas h.1)

module _ (told : Told) (row : Row) (m : MayTell told row) where
  abbrev deltas_field : List ℕ
  deltas_field = listed (map delta_text row.deltas)

  abbrev children_field : List ℕ
  children_field = listed (map child_text row.children)

  node_deltas : AllByRecursion IsNodeDelta row.deltas
  node_deltas = each_weaker IsRowDelta IsNodeDelta (λ d r. r.0) row.deltas m.deltas

  children_rise : are_children told.rows row.children ≡ true
  children_rise =
      and_from _ _ (leads_all told.rows row.children (recursion_from_All (IsChild told.rows (length told.rows)) row.children m.row_itself.children))
      (rises_from_sorted (on (λ (child : ℕ × ℕ). child.0) nat_cmp) row.children m.row_itself.letters)

  within_limits : passes_node_limits row (node_line_over told.nodes row) ≡ false
  within_limits = or_from _ _ (short_all row.deltas m.deltas) (le-ltb MOST_FORM_LETTERS (node_line_over told.nodes row).height m.low)

  takes_node : take_node told (node_line row) (deltas_field ∷ children_field ∷ []) ≡ Ok (with_row told row)
  unfolding take_node
  takes_node =
      (λ i. take_shapes told (node_line row) (delta_shapes_back row.deltas node_deltas i) (child_shapes_back row.children m.children i))
      ∙ (λ i. take_spelled told (node_line row) (deltas_spelled row.deltas node_deltas i) (children_spelled row.children m.children i))
      ∙ when_false (not (are_children told.rows row.children)) _ _ _ (ap not children_rise)
      (when_false (passes_node_limits row (node_line_over told.nodes row)) _ _ _ within_limits
      (λ i. if_above (m.above i) (rises_from_sorted compare_deltas row.deltas m.row_itself.deltas i) (with_row told row)))

  children_free_of_blank : is_free 32 children_field ≡ true
  unfolding slp1_table
  children_free_of_blank =
      listed_free 32 refl refl (map child_text row.children) (each row.children m.children)
    where
      each : (children : List (ℕ × ℕ)) → AllByRecursion IsSmallChild children → AllByRecursion (λ text. is_free 32 text ≡ true) (map child_text children)
      each [] h = tt
      each (child ∷ children) h = (child_free 32 child refl refl refl (child_printed child h.0), each children h.1)

  pub takes_node_line : (version : Version) → MayCome told Node → is_utf8 (node_line row) ≡ true → take_line version told (ended_line (node_line row)) ≡ Ok (with_row told row)
  takes_node_line version f u =
      let is : node_line row ≡ line_with (codes "node") (Some (deltas_field ++ 32 ∷ children_field)) = line_parts row in
      let blank = deltas_free_of_blank row.deltas (each_weaker IsNodeDelta IsPrintableDelta delta_printed row.deltas node_deltas) in
      ap (λ bytes. take_line version told (ended_line bytes)) is
      ∙ taken_by version told (with_row told row) (line_with (codes "node") (Some (deltas_field ++ 32 ∷ children_field))) Node (Some (deltas_field ++ 32 ∷ children_field)) f (sym (ap is_utf8 is) ∙ u) refl refl
      (ap (λ (bytes : List ℕ). take_node told bytes (fields_of (Some (deltas_field ++ 32 ∷ children_field)))) (sym is)
      ∙ ap (take_node told (node_line row)) (split_at 32 deltas_field children_field blank ∙ ap (◌∷◌ deltas_field) (split_none 32 children_field children_free_of_blank)) ∙ takes_node)

-- ---- a root

pub takes_root_line : (version : Version) (told : Told) (name : List ℕ) (root : ℕ) → MayCome told Root → is_utf8 (root_line name root) ≡ true → IsPhaseName name
    → slice_index_or told.front.names (length told.roots) [] ≡ name → IsRootNode told.rows root → IsSmallNumber root
    → take_line version told (ended_line (root_line name root)) ≡ Ok (with_root told root)
unfolding take_root
takes_root_line version told name root f u n at r small =
    let rest = name ++ 32 ∷ decimal root in
    let is : root_line name root ≡ line_with (codes "root") (Some rest) = ap (λ (fields : List ℕ). codes "root " ++ fields) (append_assoc name (32 ∷ []) (decimal root)) in
    let same : bytes_eq name (slice_index_or told.front.names (length told.roots) []) ≡ true = ap (bytes_eq name) at ∙ bytes_itself name in
    let root_itself : is_root told.rows root ≡ true = and_from _ _ (lt-ltb root (length told.rows) r.within) (ap is_empty r.no_deltas) in
    ap (λ bytes. take_line version told (ended_line bytes)) is
    ∙ taken_by version told (with_root told root) (line_with (codes "root") (Some rest)) Root (Some rest) f (sym (ap is_utf8 is) ∙ u) refl refl
    (ap (take_root told) (split_at 32 name (decimal root) (free_name 32 name refl n) ∙ ap (◌∷◌ name) (split_none 32 (decimal root) (number_free 32 refl root (omega (arith, small)))))
    ∙ when_true _ _ _ _ same (ap (take_root_number told) (node_back root small) ∙ when_true (is_root told.rows root) _ _ _ root_itself refl))
