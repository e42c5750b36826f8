-- When the line of a node or of a root is taken, and what is told after it: the tests one after another, by cases of each.
use Rattle.std.proofs.Common.{◌≡◌, ℕ, ◌<◌, ◌≤◌, Bool, true, false, not, nat_lt, Option, Some, None, Ok, List, [], ◌∷◌, ◌++◌, length, map, refl, sym, ◌∙◌, ap, subst}
use Rattle.std.specs.Prelude.{slice_index_or, decimal, codes}
use Rattle.std.specs.List.{AllByRecursion, list_any, list_all}
use Rattle.std.specs.List.Sorted.{IsStrictlySortedBy}
use Rattle.std.specs.Str.{bytes_eq}
use Rattle.std.specs.Cmp.{IsTotalOrder}
use Rattle.std.specs.declared.cmp.Ordering.{Ordering}
use Rattle.std.specs.declared.cmp.Ordering.TheVariants.{Less, Equal, Greater}
use Rattle.std.specs.Ordering.{is_lt, nat_cmp, on}
use Rattle.std.proofs.lemmas.Bool.{and_parts, or_parts, not-true, not-false, ltb-true, ltb-false}
use Rattle.std.proofs.lemmas.Cmp.{nat_cmp_total, nat_list_cmp_total, then_total, on_total}
use Rattle.std.proofs.lemmas.Map.Keys.{sorted_head}
use Rattle.std.proofs.lemmas.List.{append_assoc}
use Rattle.std.proofs.lemmas.List.Elements.{All-from_recursion}
use Rattle.list_laws.specs.EmptyLists.{is_empty}
use Rattle.list_laws.proofs.Booleans.{if_passed, if_refused}
use Rattle.list_laws.proofs.Sorted.{sorted_nil}
use Rattle.list_laws.proofs.Texts.{bytes_same}
use Rattle.lexicon_definitions.specs.declared.limits.TheConstants.{MOST_FORM_LETTERS}
use Rattle.lexicon_definitions.specs.Deltas.{Delta, compare_deltas}
use Rattle.lexicon_definitions.specs.Tries.{Row, IsChild, IsRow, row_of}
use Rattle.lexicon_definitions.proofs.TrieSuffixes.{compare_deltas-total}
use Rattle.lexicon_text_definitions.specs.FileContents.{compare_last}
use Rattle.lexicon_text_definitions.specs.FileLines.{fields_of}
use Rattle.lexicon_text_definitions.proofs.LineCuts.{two_parts, line_with}
use Rattle.lexicon_text_definitions.proofs.RisingLines.{sorted_one, sorted_cons}
use Rattle.trie_text_definitions.specs.LimitedRules.{rises, all_there}
use Rattle.trie_text_definitions.specs.NodeLines.{NodeLine, compare_node_lines, node_line, node_line_over, listed, delta_text, child_text}
use Rattle.trie_text_definitions.specs.NodeFields.{DeltaShape, ChildShape, delta_shapes, child_shapes, delta_spelled, child_spelled, node_number}
use Rattle.trie_text_definitions.specs.TrieTexts.{root_line}
use Rattle.trie_text_definitions.specs.VersionFaults as faults
use Rattle.trie_text_definitions.specs.VersionFaults.{Field, Limit}
use Rattle.trie_text_definitions.specs.VersionSteps.{Node, Root, Told, is_empty_row, leads_before, are_children, passes_node_limits, if_above, take_node_line, take_row, take_spelled, take_shapes, take_node, is_root, take_root_number, take_root}
use Rattle.trie_text_definitions.proofs.NodeTexts.{IsNodeDelta, IsNodeChild, HasFewDigits, node_told, deltas_told, children_told}

-- ---- rising lists

less_from_lt : (order : Ordering) → is_lt order ≡ true → order ≡ Less
less_from_lt Less h = refl
less_from_lt Equal h = absurd (cc)
less_from_lt Greater h = absurd (cc)

module _ {K : Type 0} {R : K → K → Ordering} (o : IsTotalOrder R) where
  above_all : (x y : K) (zs : List K) → R x y ≡ Less → AllByRecursion (λ z. R y z ≡ Less) zs → AllByRecursion (λ z. R x z ≡ Less) zs
  above_all x y [] l h = tt
  above_all x y (z ∷ zs) l h = (o.trans x y z l h.0, above_all x y zs l h.1)

  -- a list of which each element is below the next rises
  pub sorted_from_rises : (xs : List K) → rises R xs ≡ true → IsStrictlySortedBy R xs
  sorted_from_rises [] h = sorted_nil R
  sorted_from_rises (x ∷ []) h = sorted_one R x
  sorted_from_rises (x ∷ y ∷ xs) h =
      let parts = and_parts (is_lt (R x y)) (rises R (y ∷ xs)) h in
      let less = less_from_lt (R x y) parts.0 in
      let rest = sorted_from_rises (y ∷ xs) parts.1 in
      sorted_cons R x (y ∷ xs) (less, above_all x y xs less (sorted_head R y xs rest)) rest

-- the order of nodes is total
pub node_lines_total : IsTotalOrder compare_node_lines
node_lines_total =
    then_total (on_total (λ (n : NodeLine). n.height) nat_cmp_total) (on_total (λ (n : NodeLine). n.bytes) nat_list_cmp_total)

-- ---- a node

-- what is told with a row more
abbrev pub with_row : Told → Row → Told
with_row told row = record told { last = Node; rows = told.rows ++ row ∷ []; nodes = told.nodes ++ node_line_over told.nodes row ∷ [] }

-- a delta of a row has letters, not too many of them
abbrev pub IsRowDelta : Delta → Type 0
IsRowDelta delta = IsNodeDelta delta × (length delta.append ≤ MOST_FORM_LETTERS)

pub record MayNode (told : Told) (row : Row) : Type 0 where
  pub deltas : AllByRecursion IsRowDelta row.deltas
  pub children : AllByRecursion IsNodeChild row.children
  pub row_itself : IsRow told.rows (length told.rows) row
  pub low : (node_line_over told.nodes row).height ≤ MOST_FORM_LETTERS
  pub above : compare_last compare_node_lines told.nodes (node_line_over told.nodes row) ≡ Less

above_taken : (order : Ordering) (rising : Bool) (told after : Told) → if_above order rising told ≡ Ok after → (order ≡ Less) × (rising ≡ true) × (told ≡ after)
above_taken Less true told after h = (refl, refl, cc)
above_taken Less false told after h = absurd (cc)
above_taken Equal rising told after h = absurd (cc)
above_taken Greater rising told after h = absurd (cc)

child_by : (rows : List Row) (child : ℕ × ℕ) → IsNodeChild child → leads_before rows child ≡ true → IsChild rows (length rows) child
child_by rows child c h =
    let parts = and_parts (nat_lt child.1 (length rows)) (not (is_empty_row (row_of rows child.1))) h in
    let some = not-true (is_empty_row (row_of rows child.1)) parts.1 in
    record {
      letter = c.letter;
      before = ltb-true child.1 (length rows) parts.0;
      not_empty = λ e. let none : is_empty_row (row_of rows child.1) ≡ true = ap is_empty_row e in cc;
    }

children_by : (rows : List Row) (children : List (ℕ × ℕ)) → AllByRecursion IsNodeChild children → list_all (leads_before rows) children ≡ true
    → AllByRecursion (IsChild rows (length rows)) children
children_by rows [] c h = tt
children_by rows (child ∷ children) c h =
    let parts = and_parts (leads_before rows child) (list_all (leads_before rows) children) h in
    (child_by rows child c.0 parts.0, children_by rows children c.1 parts.1)

short_by : (deltas : List Delta) → AllByRecursion IsNodeDelta deltas → list_any (λ (delta : Delta). nat_lt MOST_FORM_LETTERS (length delta.append)) deltas ≡ false
    → AllByRecursion IsRowDelta deltas
short_by [] d h = tt
short_by (delta ∷ deltas) d h =
    let parts = or_parts (nat_lt MOST_FORM_LETTERS (length delta.append)) (list_any (λ (delta : Delta). nat_lt MOST_FORM_LETTERS (length delta.append)) deltas) h in
    ((d.0, ltb-false MOST_FORM_LETTERS (length delta.append) parts.0), short_by deltas d.1 parts.1)

row_taken : (told after : Told) (row : Row) → AllByRecursion IsNodeDelta row.deltas → AllByRecursion IsNodeChild row.children
    → take_node_line told row (node_line_over told.nodes row) ≡ Ok after → MayNode told row × (with_row told row ≡ after)
row_taken told after row d c h =
    let child = if_refused (not (are_children told.rows row.children)) _ faults.Child after h in
    let limit = if_refused (passes_node_limits row (node_line_over told.nodes row)) _ Limit after child.1 in
    let up = above_taken (compare_last compare_node_lines told.nodes (node_line_over told.nodes row)) (rises compare_deltas row.deltas) (with_row told row) after limit.1 in
    let lead = and_parts (list_all (leads_before told.rows) row.children) (rises (on (λ (child : ℕ × ℕ). child.0) nat_cmp) row.children) (not-false (are_children told.rows row.children) child.0) in
    let limits = or_parts _ _ limit.0 in (
      record {
        deltas = short_by row.deltas d limits.0;
        children = c;
        row_itself = record {
          deltas = sorted_from_rises compare_deltas-total row.deltas up.1;
          children = All-from_recursion (IsChild told.rows (length told.rows)) row.children (children_by told.rows row.children c lead.0);
          letters = sorted_from_rises (on_total (λ (child : ℕ × ℕ). child.0) nat_cmp_total) row.children lead.1;
        };
        low = ltb-false MOST_FORM_LETTERS (node_line_over told.nodes row).height limits.1;
        above = up.0;
      },
      up.2,
    )

-- what the two fields of a node tell
record FieldsTaken (told after : Told) (bytes deltas children : List ℕ) : Type 0 where
  row : Row
  is_deltas : deltas ≡ listed (map delta_text row.deltas)
  is_children : children ≡ listed (map child_text row.children)
  each_delta : AllByRecursion IsNodeDelta row.deltas
  each_child : AllByRecursion IsNodeChild row.children
  taken : take_row told bytes row ≡ Ok after

spelled_taken : (told after : Told) (bytes deltas children : List ℕ) (shapes : List DeltaShape) (child_shapes_read : List ChildShape)
    → delta_shapes deltas ≡ Some shapes → child_shapes children ≡ Some child_shapes_read
    → (a : Option (List Delta)) (b : Option (List (ℕ × ℕ))) → all_there (map delta_spelled shapes) ≡ a → all_there (map child_spelled child_shapes_read) ≡ b
    → take_spelled told bytes a b ≡ Ok after → FieldsTaken told after bytes deltas children
spelled_taken told after bytes deltas children shapes others s t None b e f h = absurd (cc)
spelled_taken told after bytes deltas children shapes others s t (Some a) None e f h = absurd (cc)
spelled_taken told after bytes deltas children shapes others s t (Some a) (Some b) e f h =
    let first = deltas_told deltas shapes a s e in
    let second = children_told children others b t f in
    record {
      row = record { deltas = a; children = b };
      is_deltas = first.0;
      is_children = second.0;
      each_delta = first.1;
      each_child = second.1;
      taken = h;
    }

shapes_taken : (told after : Told) (bytes deltas children : List ℕ) (a : Option (List DeltaShape)) (b : Option (List ChildShape))
    → delta_shapes deltas ≡ a → child_shapes children ≡ b → take_shapes told bytes a b ≡ Ok after → FieldsTaken told after bytes deltas children
shapes_taken told after bytes deltas children None b e f h = absurd (cc)
shapes_taken told after bytes deltas children (Some a) None e f h = absurd (cc)
shapes_taken told after bytes deltas children (Some a) (Some b) e f h =
    spelled_taken told after bytes deltas children a b e f (all_there (map delta_spelled a)) (all_there (map child_spelled b)) refl refl h

fields_taken : (told after : Told) (bytes : List ℕ) (fields : List (List ℕ)) → take_node told bytes fields ≡ Ok after
    → (deltas : List ℕ) × (children : List ℕ) × (fields ≡ deltas ∷ children ∷ []) × FieldsTaken told after bytes deltas children
unfolding take_node
fields_taken told after bytes [] h = absurd (cc)
fields_taken told after bytes (deltas ∷ []) h = absurd (cc)
fields_taken told after bytes (deltas ∷ children ∷ []) h =
    (deltas, children, refl, shapes_taken told after bytes deltas children (delta_shapes deltas) (child_shapes children) refl refl h)
fields_taken told after bytes (deltas ∷ children ∷ more ∷ fields) h = absurd (cc)

pub two_fields : (rest : Option (List ℕ)) (first second : List ℕ) → fields_of rest ≡ first ∷ second ∷ [] → rest ≡ Some (first ++ 32 ∷ second)
two_fields None first second e = absurd (cc)
two_fields (Some text) first second e = ap Some (two_parts 32 text first second e)

-- the line of a node that is taken is that of a row
pub took_node : (told after : Told) (bytes : List ℕ) (rest : Option (List ℕ)) → bytes ≡ line_with (codes "node") rest → take_node told bytes (fields_of rest) ≡ Ok after
    → (row : Row) × (bytes ≡ node_line row) × MayNode told row × (with_row told row ≡ after)
took_node told after bytes rest b h =
    let (deltas, children, e, t) = fields_taken told after bytes (fields_of rest) h in
    let row = t.row in
    let whole : bytes ≡ line_with (codes "node") (Some (deltas ++ 32 ∷ children)) = b ∙ ap (line_with (codes "node")) (two_fields rest deltas children e) in
    let parts : bytes ≡ codes "node " ++ (listed (map delta_text row.deltas) ++ 32 ∷ listed (map child_text row.children)) =
    whole ∙ (λ i. codes "node " ++ (t.is_deltas i ++ 32 ∷ t.is_children i)) in
    let is : bytes ≡ node_line row =
    parts ∙ ap (λ (fields : List ℕ). codes "node " ++ fields) (sym (append_assoc (listed (map delta_text row.deltas)) (32 ∷ []) (listed (map child_text row.children)))) in
    let taken : take_row told (node_line row) row ≡ Ok after = subst (λ (line : List ℕ). take_row told line row ≡ Ok after) is t.taken in
    let may = row_taken told after row t.each_delta t.each_child taken in
    (row, is, may.0, may.1)

-- ---- a root

-- what is told with a root more
abbrev pub with_root : Told → ℕ → Told
with_root told root = record told { last = Root; roots = told.roots ++ root ∷ [] }

-- a root is a node without deltas
pub record IsRootNode (rows : List Row) (root : ℕ) : Type 0 where
  pub within : root < length rows
  pub no_deltas : (row_of rows root).deltas ≡ []

pub record MayRoot (told : Told) (root : ℕ) : Type 0 where
  pub root_itself : IsRootNode told.rows root
  pub digits : HasFewDigits root

none_by : {A : Type 0} (xs : List A) → is_empty xs ≡ true → xs ≡ []
none_by [] h = refl
none_by (x ∷ xs) h = absurd (cc)

number_taken : (told after : Told) (number : Option ℕ) → take_root_number told number ≡ Ok after
    → (root : ℕ) × (number ≡ Some root) × IsRootNode told.rows root × (with_root told root ≡ after)
number_taken told after None h = absurd (cc)
number_taken told after (Some root) h =
    let passed = if_passed (is_root told.rows root) (Ok (with_root told root)) faults.Child after h in
    let parts = and_parts (nat_lt root (length told.rows)) (is_empty (row_of told.rows root).deltas) passed.0 in
    (root, refl, record { within = ltb-true root (length told.rows) parts.0; no_deltas = none_by (row_of told.rows root).deltas parts.1 }, cc (passed.1))

root_fields : (told after : Told) (fields : List (List ℕ)) → take_root told fields ≡ Ok after
    → (root : ℕ) × (fields ≡ slice_index_or told.front.names (length told.roots) [] ∷ decimal root ∷ []) × MayRoot told root × (with_root told root ≡ after)
unfolding take_root
root_fields told after [] h = absurd (cc)
root_fields told after (name ∷ []) h = absurd (cc)
root_fields told after (name ∷ number ∷ []) h =
    let turn = if_passed (bytes_eq name (slice_index_or told.front.names (length told.roots) [])) (take_root_number told (node_number number)) Field after h in
    let (root, e, is, same) = number_taken told after (node_number number) turn.1 in
    let read = node_told number root e in
    let named = bytes_same name (slice_index_or told.front.names (length told.roots) []) turn.0 in
    (root, λ i. named i ∷ read.0 i ∷ [], record { root_itself = is; digits = read.1 }, same)
root_fields told after (name ∷ number ∷ more ∷ fields) h = absurd (cc)

pub took_root : (told after : Told) (bytes : List ℕ) (rest : Option (List ℕ)) → bytes ≡ line_with (codes "root") rest → take_root told (fields_of rest) ≡ Ok after
    → (root : ℕ) × (bytes ≡ root_line (slice_index_or told.front.names (length told.roots) []) root) × MayRoot told root × (with_root told root ≡ after)
took_root told after bytes rest b h =
    let (root, e, may, same) = root_fields told after (fields_of rest) h in
    let name = slice_index_or told.front.names (length told.roots) [] in
    let whole : bytes ≡ line_with (codes "root") (Some (name ++ 32 ∷ decimal root)) = b ∙ ap (line_with (codes "root")) (two_fields rest name (decimal root) e) in
    (root, whole ∙ ap (λ (fields : List ℕ). codes "root " ++ fields) (sym (append_assoc name (32 ∷ []) (decimal root))), may, same)
