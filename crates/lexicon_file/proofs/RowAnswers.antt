-- The answers to the line of a node, once its fields are read: the tests of its children, its limits and its order, one after another; and
-- what passed them may be added.
use Rattle.std.proofs.Common.{◌≡◌, ℕ, ◌<◌, Bool, true, false, not, ◌||◌, nat_lt, Ok, Err, List, [], ◌∷◌, ◌++◌, length, refl, sym, ◌∙◌, ap, subst}
use Rattle.std.specs.Prelude.{All}
use Rattle.std.specs.List.{AllByRecursion, list_all}
use Rattle.std.specs.List.Sorted.{IsStrictlySortedBy}
use Rattle.std.specs.Ordering.{nat_cmp, on}
use Rattle.std.specs.declared.cmp.Ordering.{Ordering}
use Rattle.std.specs.declared.cmp.Ordering.TheVariants.{Less, Equal, Greater}
use Rattle.std.proofs.lemmas.Bool.{and_parts, ltb-true, not-true}
use Rattle.std.proofs.lemmas.Cmp.{nat_cmp_total, on_total}
use Rattle.std.proofs.lemmas.List.Elements.{All-from_recursion, recursion_from_All}
use Rattle.list_laws.proofs.Booleans.{when_false}
use Rattle.text_definitions.specs.Letters.{IsLetter}
use Rattle.lexicon_definitions.specs.declared.limits.TheConstants.{MOST_FORM_LETTERS}
use Rattle.lexicon_definitions.specs.Deltas.{Delta, compare_deltas}
use Rattle.lexicon_definitions.specs.Tries.{Row, IsChild, IsRow, row_of}
use Rattle.lexicon_definitions.proofs.TrieSuffixes.{compare_deltas-total}
use Rattle.lexicon_text_definitions.specs.FileContents.{compare_last}
use Rattle.lexicon_text_definitions.proofs.RisingLines.{sorted_with_last}
use Rattle.trie_text_definitions.specs.LimitedRules.{rises}
use Rattle.trie_text_definitions.specs.NodeLines.{NodeLine, compare_node_lines, heights, node_line, node_line_over, node_lines}
use Rattle.trie_text_definitions.specs.NodeValues.{height_over}
use Rattle.trie_text_definitions.specs.VersionSteps.{Told, Node, Taken, is_empty_row, leads_before, are_children, passes_node_limits, if_above, take_row}
use Rattle.trie_text_definitions.proofs.NodeSteps.{sorted_from_rises, node_lines_total}
use Rattle.trie_text_definitions.proofs.NodeValueLaws.{values_push}
use Rattle.lexicon_file.specs.declared.take_error.TakeError.{TakeError}
use Rattle.lexicon_file.specs.declared.take_error.TakeError.TheVariants.{Why, Memory}
use Rattle.lexicon_file.specs.Rows.{are_too_long}
use Rattle.lexicon_file.specs.Told.{IsAnswer, IsKept}

-- ---- children

known_by : (rows : List Row) (children : List (ℕ × ℕ)) → list_all (leads_before rows) children ≡ true → AllByRecursion (λ (child : ℕ × ℕ). child.1 < length rows) children
known_by rows [] h = tt
known_by rows (child ∷ children) h =
    let parts = and_parts (leads_before rows child) (list_all (leads_before rows) children) h in
    let first = and_parts (nat_lt child.1 (length rows)) (not (is_empty_row (row_of rows child.1))) parts.0 in
    (ltb-true child.1 (length rows) first.0, known_by rows children parts.1)

-- the children lead to nodes before
pub children_known : (rows : List Row) (children : List (ℕ × ℕ)) → are_children rows children ≡ true → All (λ (child : ℕ × ℕ). child.1 < length rows) children
children_known rows children h =
    let parts = and_parts (list_all (leads_before rows) children) (rises (on (λ (child : ℕ × ℕ). child.0) nat_cmp) children) h in
    All-from_recursion (λ (child : ℕ × ℕ). child.1 < length rows) children (known_by rows children parts.0)

child_by : (rows : List Row) (child : ℕ × ℕ) → IsLetter child.0 → leads_before rows child ≡ true → IsChild rows (length rows) child
child_by rows child letter h =
    let parts = and_parts (nat_lt child.1 (length rows)) (not (is_empty_row (row_of rows child.1))) h in
    let some = not-true (is_empty_row (row_of rows child.1)) parts.1 in
    record {
      letter = letter;
      before = ltb-true child.1 (length rows) parts.0;
      not_empty = λ e. let none : is_empty_row (row_of rows child.1) ≡ true = ap is_empty_row e in cc;
    }

children_by : (rows : List Row) (children : List (ℕ × ℕ)) → AllByRecursion (λ (child : ℕ × ℕ). IsLetter child.0) children → list_all (leads_before rows) children ≡ true
    → AllByRecursion (IsChild rows (length rows)) children
children_by rows [] l h = tt
children_by rows (child ∷ children) l h =
    let parts = and_parts (leads_before rows child) (list_all (leads_before rows) children) h in
    (child_by rows child l.0 parts.0, children_by rows children l.1 parts.1)

-- the row may stand after these rows
pub row_is : (rows : List Row) (row : Row) → All (λ (child : ℕ × ℕ). IsLetter child.0) row.children → are_children rows row.children ≡ true → rises compare_deltas row.deltas ≡ true
    → IsRow rows (length rows) row
row_is rows row letters h rising =
    let parts = and_parts (list_all (leads_before rows) row.children) (rises (on (λ (child : ℕ × ℕ). child.0) nat_cmp) row.children) h in
    record {
      deltas = sorted_from_rises compare_deltas-total row.deltas rising;
      children = All-from_recursion (IsChild rows (length rows)) row.children
          (children_by rows row.children (recursion_from_All (λ (child : ℕ × ℕ). IsLetter child.0) row.children letters) parts.0);
      letters = sorted_from_rises (on_total (λ (child : ℕ × ℕ). child.0) nat_cmp_total) row.children parts.1;
    }

-- ---- the order

pub above_by : (order : Ordering) (rising : Bool) (told : Told) → if_above order rising told ≡ Ok told → (order ≡ Less) × (rising ≡ true)
above_by Less true told h = (refl, refl)
above_by Less false told h = absurd (cc)
above_by Equal rising told h = absurd (cc)
above_by Greater rising told h = absurd (cc)

-- the lines rise with that of the row
pub lines_rise : (rows : List Row) (row : Row) (nodes : List NodeLine) (height : ℕ) (line bytes : List ℕ) → IsKept rows line → nodes ≡ node_lines rows
    → height ≡ height_over (heights (node_lines rows)) row.children → bytes ≡ node_line row → Less ≡ compare_last compare_node_lines nodes (record { height = height; bytes = bytes })
    → IsStrictlySortedBy compare_node_lines (node_lines (rows ++ row ∷ []))
lines_rise rows row nodes height line bytes kept all h b less =
    subst (IsStrictlySortedBy compare_node_lines) (sym (values_push node_line_over rows row))
    (sorted_with_last node_lines_total (node_lines rows) (node_line_over (node_lines rows) row) kept.rising
    (sym (less ∙ (λ i. compare_last compare_node_lines (all i) (record { height = h i; bytes = b i })))))

-- ---- the answer

-- what is told with the row, where its line has these bytes
abbrev more_told : Told → Row → NodeLine → Told
more_told told row node = record told { last = Node; rows = told.rows ++ row ∷ []; nodes = told.nodes ++ node ∷ [] }

abbrev new_node : Told → List ℕ → Row → NodeLine
new_node told bytes row = record { height = height_over (heights told.nodes) row.children; bytes = bytes }

by_order : (told : Told) (bytes : List ℕ) (row : Row) → are_children told.rows row.children ≡ true → passes_node_limits row (new_node told bytes row) ≡ false
    → take_row told bytes row
    ≡ if_above (compare_last compare_node_lines told.nodes (new_node told bytes row)) (rises compare_deltas row.deltas) (more_told told row (new_node told bytes row))
by_order told bytes row children limits =
    when_false (not (are_children told.rows row.children)) _ _ _ (ap not children) (when_false (passes_node_limits row (new_node told bytes row)) _ _ _ limits refl)

answer_at : (A : Type 0) (taken : Taken) (error : TakeError) (one other : Told) → IsAnswer {A = A} taken (Err error) one → IsAnswer {A = A} taken (Err error) other
answer_at A taken (Why why) one other h = h
answer_at A taken Memory one other h = tt

-- refused since it is not above the last node, or its deltas do not rise
pub not_above : (A : Type 0) (kept told : Told) (bytes : List ℕ) (row : Row) (deltas : List Delta) (height : ℕ) (order : Ordering) (limits rising : Bool) (error : TakeError) → kept ≡ told
    → kept.nodes ≡ node_lines kept.rows → deltas ≡ row.deltas → are_children kept.rows row.children ≡ true → height ≡ height_over (heights (node_lines kept.rows)) row.children
    → limits ≡ (are_too_long deltas || nat_lt MOST_FORM_LETTERS height) → limits ≡ false
    → order ≡ compare_last compare_node_lines told.nodes (record { height = height; bytes = bytes }) → rising ≡ rises compare_deltas deltas
    → ((told : Told) → IsAnswer {A = A} (if_above order rising told) (Err error) told) → IsAnswer {A = A} (take_row told bytes row) (Err error) told
not_above A kept told bytes row deltas height order limits rising error view nodes same children high limited passed compared risen answer =
    let high_told : height ≡ height_over (heights told.nodes) row.children =
    high ∙ ap (λ (ns : List NodeLine). height_over (heights ns) row.children) (sym nodes ∙ ap (λ (t : Told). t.nodes) view) in
    let within : passes_node_limits row (new_node told bytes row) ≡ false = (λ i. are_too_long (sym same i) || nat_lt MOST_FORM_LETTERS (sym high_told i)) ∙ sym limited ∙ passed in
    let children_told : are_children told.rows row.children ≡ true = ap (λ (t : Told). are_children t.rows row.children) (sym view) ∙ children in
    let more = more_told told row (new_node told bytes row) in
    let by : take_row told bytes row ≡ if_above order rising more =
    by_order told bytes row children_told within
    ∙ (λ i. if_above (sym (compared ∙ (λ j. compare_last compare_node_lines told.nodes (record { height = high_told j; bytes = bytes }))) i) (sym (risen ∙ ap (rises compare_deltas) same) i) more) in
    subst (λ (taken : Taken). IsAnswer {A = A} taken (Err error) told) (sym by) (answer_at A (if_above order rising more) error more told (answer more))
