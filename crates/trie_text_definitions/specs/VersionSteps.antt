-- What a line of versions 2 and 3 tells after those before it, or its first reason to be refused: each kind of line by itself (own).
use Rattle.std.specs.Prelude.{ℕ, not, ◌&&◌, ◌||◌, nat_le, nat_lt, nat_eq, Bool, true, false, if◌then◌else◌, Option, Some, None, Result, Ok, Err, List, [], ◌∷◌, ◌++◌, map, length, slice_index_or, codes}
use Rattle.std.specs.List.{list_any, list_all}
use Rattle.std.specs.Str.{bytes_eq, is_utf8}
use Rattle.std.specs.declared.cmp.Ordering.{Ordering}
use Rattle.std.specs.declared.cmp.Ordering.TheVariants.{Less, Equal, Greater}
use Rattle.std.specs.Ordering.{nat_cmp, on}
use Rattle.list_laws.specs.EmptyLists.{is_empty}
use Rattle.text_definitions.specs.Spellings.{Reading}
use Rattle.text_definitions.specs.Slp1.{word_of_slp1}
use Rattle.lexicon_definitions.specs.declared.limits.TheConstants.{MOST_RULES, MOST_RULE_LETTERS, MOST_LEADS, MOST_FORM_LETTERS}
use Rattle.lexicon_definitions.specs.Deltas.{Delta, compare_deltas}
use Rattle.lexicon_definitions.specs.Rules.{Rule}
use Rattle.lexicon_definitions.specs.Leads.{with_lead, leads_of}
use Rattle.lexicon_definitions.specs.Tries.{Row, Trie, row_of}
use Rattle.lexicon_text_definitions.specs.FileContents as first
use Rattle.lexicon_text_definitions.specs.FileContents.{compare_last, has_triple}
use Rattle.lexicon_text_definitions.specs.FileLines as lines
use Rattle.lexicon_text_definitions.specs.FileLines.{Line, Parts, parts_of, fields_of, Shape, shape_of}
use Rattle.lexicon_text_definitions.specs.FileSteps as steps
use Rattle.lexicon_text_definitions.specs.FileSteps.{take_phase, take_grammar, take_plain}
use Rattle.trie_text_definitions.specs.Versions.{Version, Second, Third, is_unlimited}
use Rattle.trie_text_definitions.specs.VersionFaults as faults
use Rattle.trie_text_definitions.specs.VersionFaults.{Why, Trailing, NoEnd, NotUtf8, Order, Field, Spelling, Strict, Limit, Twice, Falling, Unused, Unlimited, same_why}
use Rattle.trie_text_definitions.specs.NodeValues.{height_over, has_unused}
use Rattle.trie_text_definitions.specs.TrieForms.{has_too_many_pairs, has_wrong_delta}
use Rattle.trie_text_definitions.specs.NodeLines.{NodeLine, compare_node_lines, heights}
use Rattle.trie_text_definitions.specs.NodeFields.{DeltaShape, ChildShape, delta_shapes, child_shapes, delta_spelled, child_spelled, node_number}
use Rattle.trie_text_definitions.specs.LimitedRules.{rises, all_there, set_told, set_after_told}

-- what a line may be; Head is the first line
pub data Kind : Type 0 where
  Head : Kind
  Phase : Kind
  Grammar : Kind
  Plain : Kind
  Rules : Kind
  Node : Kind
  Root : Kind
  End : Kind

-- what the lines so far told: the kind of the last line; what the lines of phases, grammar, plain pairs and rules told, as in
-- version 1; the rows of the nodes, with their heights and lines; and the roots
pub record Told : Type 0 where
  pub last : Kind
  pub front : first.Told
  pub rows : List Row
  pub nodes : List NodeLine
  pub roots : List ℕ

-- after the first line nothing else is told
abbrev pub head_told : Told
head_told =
    record { last = Head; front = record first.nothing_told { last = lines.Head }; rows = []; nodes = []; roots = [] }

-- the trie that the lines told
abbrev pub trie_told : Told → Trie
trie_told told = record { rows = told.rows; roots = told.roots }

-- what is told after a line, or why the line is refused
abbrev pub Taken : Type 0
Taken = Result Told Why

-- what version 1 takes or refuses
abbrev pub with_front : Told → Kind → steps.Taken → Taken
with_front told kind (Ok front) = Ok (record told { last = kind; front = front })
with_front told kind (Err why) = Err (same_why why)

-- ---- `rule u|v>w BEFORE AFTER` of version 3

-- with this rule there are too many rules or leads, or a part of it is too long
abbrev pub passes_limits : List Rule → Rule → Bool
passes_limits rules rule =
    nat_le MOST_RULES (length rules)
    || nat_lt MOST_LEADS (length (with_lead (leads_of rules) rule.v rule.after))
    || nat_lt MOST_RULE_LETTERS (length rule.u) || nat_lt MOST_RULE_LETTERS (length rule.v) || nat_lt MOST_RULE_LETTERS (length rule.w)

abbrev pub take_limited : Told → Rule → Taken
take_limited told rule =
    if is_empty rule.u || is_empty rule.w then Err Strict
    else if passes_limits told.front.rules rule then Err Limit
    else if list_any (has_triple rule.u rule.v rule.w) told.front.rules then Err Twice
    else Ok (record told { last = Rules; front = record told.front { last = lines.Rule; rules = told.front.rules ++ rule ∷ [] } })

abbrev pub take_words : Told → ℕ → ℕ → Reading → Reading → Reading → Taken
take_words told before after (Ok u) (Ok v) (Ok w) =
    take_limited told (record { u = u; v = v; w = w; before = before; after = after })
take_words told before after u v w = Err Spelling

abbrev pub take_sets : Told → Shape → Option ℕ → Option ℕ → Taken
take_sets told shape (Some before) (Some after) =
    take_words told before after (word_of_slp1 shape.u) (word_of_slp1 shape.v) (word_of_slp1 shape.w)
take_sets told shape before after = Err Field

abbrev pub take_shape : Told → List ℕ → List ℕ → Option Shape → Taken
take_shape told before after None = Err Field
take_shape told before after (Some shape) =
    take_sets told shape (set_told told.front.names before) (set_after_told told.front.names shape.v after)

unfoldable pub take_limited_rule : Told → List (List ℕ) → Taken
take_limited_rule told (field ∷ before ∷ after ∷ []) = take_shape told before after (shape_of field)
take_limited_rule told fields = Err Field

-- version 2 has the rules of version 1
abbrev pub take_rule : Version → Told → List (List ℕ) → Taken
take_rule Second told fields = with_front told Rules (steps.take_rule told.front fields)
take_rule Third told fields = take_limited_rule told fields

-- ---- `node DELTAS CHILDREN`

-- the row has no deltas and no children
abbrev pub is_empty_row : Row → Bool
is_empty_row row = is_empty row.deltas && is_empty row.children

-- the child leads to a node before, which is not the empty row
abbrev pub leads_before : List Row → ℕ × ℕ → Bool
leads_before rows child = nat_lt child.1 (length rows) && not (is_empty_row (row_of rows child.1))

-- each child leads to a node before, and the letters rise
abbrev pub are_children : List Row → List (ℕ × ℕ) → Bool
are_children rows children =
    list_all (leads_before rows) children && rises (on (λ (child : ℕ × ℕ). child.0) nat_cmp) children

-- the letters of some delta, or the height of the node, are too many
abbrev pub passes_node_limits : Row → NodeLine → Bool
passes_node_limits row node =
    list_any (λ (delta : Delta). nat_lt MOST_FORM_LETTERS (length delta.append)) row.deltas
    || nat_lt MOST_FORM_LETTERS node.height

-- a node after the last one is told where it is above this one, and its deltas rise
abbrev pub if_above : Ordering → Bool → Told → Taken
if_above Less true told = Ok told
if_above Less false told = Err Falling
if_above Equal rising told = Err Twice
if_above Greater rising told = Err Falling

abbrev pub take_node_line : Told → Row → NodeLine → Taken
take_node_line told row node =
    if not (are_children told.rows row.children) then Err faults.Child
    else if passes_node_limits row node then Err Limit
    else if_above (compare_last compare_node_lines told.nodes node) (rises compare_deltas row.deltas)
    (record told { last = Node; rows = told.rows ++ row ∷ []; nodes = told.nodes ++ node ∷ [] })

abbrev pub take_row : Told → List ℕ → Row → Taken
take_row told bytes row =
    take_node_line told row (record { height = height_over (heights told.nodes) row.children; bytes = bytes })

abbrev pub take_spelled : Told → List ℕ → Option (List Delta) → Option (List (ℕ × ℕ)) → Taken
take_spelled told bytes (Some deltas) (Some children) = take_row told bytes (record { deltas = deltas; children = children })
take_spelled told bytes deltas children = Err Spelling

abbrev pub take_shapes : Told → List ℕ → Option (List DeltaShape) → Option (List ChildShape) → Taken
take_shapes told bytes (Some deltas) (Some children) =
    take_spelled told bytes (all_there (map delta_spelled deltas)) (all_there (map child_spelled children))
take_shapes told bytes deltas children = Err Field

-- the line's bytes are kept, since the next node is compared with them
unfoldable pub take_node : Told → List ℕ → List (List ℕ) → Taken
take_node told bytes (deltas ∷ children ∷ []) = take_shapes told bytes (delta_shapes deltas) (child_shapes children)
take_node told bytes fields = Err Field

-- ---- `root PHASE N`

-- the number is that of a node without deltas, so that the empty word is no form
abbrev pub is_root : List Row → ℕ → Bool
is_root rows root = nat_lt root (length rows) && is_empty (row_of rows root).deltas

abbrev pub take_root_number : Told → Option ℕ → Taken
take_root_number told None = Err Field
take_root_number told (Some root) =
    if is_root told.rows root then Ok (record told { last = Root; roots = told.roots ++ root ∷ [] }) else Err faults.Child

-- the phase's turn comes after as many phases as have a root
unfoldable pub take_root : Told → List (List ℕ) → Taken
take_root told (name ∷ root ∷ []) =
    if bytes_eq name (slice_index_or told.front.names (length told.roots) []) then take_root_number told (node_number root) else Err Field
take_root told fields = Err Field

-- ---- `end`

-- all rules are unlimited, though the version is that of limited rules
abbrev pub lacks_limited : Version → first.Told → Bool
lacks_limited Second front = false
lacks_limited Third front = list_all (is_unlimited (length front.names)) front.rules

unfoldable pub take_end : Version → Told → Option (List ℕ) → Taken
take_end version told None =
    if has_too_many_pairs (trie_told told) then Err Limit
    else if has_unused (trie_told told) then Err Unused
    else if has_wrong_delta (trie_told told) then Err faults.Delta
    else if lacks_limited version told.front then Err Unlimited
    else Ok (record told { last = End })
take_end version told (Some rest) = Err Field

-- ---- any line

-- the kind of a line that comes after the first, by its name
abbrev pub kind_named : List ℕ → Option Kind
kind_named name =
    if bytes_eq name (codes "phase") then Some Phase
    else if bytes_eq name (codes "grammar") then Some Grammar
    else if bytes_eq name (codes "plain") then Some Plain
    else if bytes_eq name (codes "rule") then Some Rules
    else if bytes_eq name (codes "node") then Some Node
    else if bytes_eq name (codes "root") then Some Root
    else if bytes_eq name (codes "end") then Some End
    else None

-- after the last line's kind a line may have this kind, where all phases have a root or do not
abbrev pub may_follow : Bool → Kind → Kind → Bool
may_follow rooted Head Phase = true
may_follow rooted Phase Phase = true
may_follow rooted Phase Grammar = true
may_follow rooted Grammar Plain = true
may_follow rooted Grammar Rules = true
may_follow rooted Grammar Node = true
may_follow rooted Plain Plain = true
may_follow rooted Plain Rules = true
may_follow rooted Plain Node = true
may_follow rooted Rules Rules = true
may_follow rooted Rules Node = true
may_follow rooted Node Node = true
may_follow rooted Node Root = true
may_follow rooted Root Root = not rooted
may_follow rooted Root End = rooted
may_follow rooted last kind = false

-- all phases have a root
abbrev pub are_rooted : Told → Bool
are_rooted told = nat_eq (length told.roots) (length told.front.names)

abbrev pub take_kind : Version → Told → List ℕ → Kind → Option (List ℕ) → Taken
take_kind version told bytes Head rest = Err Order
take_kind version told bytes Phase rest = with_front told Phase (take_phase told.front (fields_of rest))
take_kind version told bytes Grammar rest = with_front told Grammar (take_grammar told.front rest)
take_kind version told bytes Plain rest = with_front told Plain (take_plain told.front (fields_of rest))
take_kind version told bytes Rules rest = take_rule version told (fields_of rest)
take_kind version told bytes Node rest = take_node told bytes (fields_of rest)
take_kind version told bytes Root rest = take_root told (fields_of rest)
take_kind version told bytes End rest = take_end version told rest

abbrev pub take_named : Version → Told → List ℕ → Option Kind → Option (List ℕ) → Taken
take_named version told bytes None rest = Err Order
take_named version told bytes (Some kind) rest =
    if may_follow (are_rooted told) told.last kind then take_kind version told bytes kind rest else Err Order

abbrev pub take_parts : Version → Told → List ℕ → Parts → Taken
take_parts version told bytes parts = take_named version told bytes (kind_named parts.kind) parts.rest

abbrev pub is_last : Kind → Bool
is_last End = true
is_last kind = false

-- what is told after a line that comes after the first, where those before it told this
unfoldable pub take_line : Version → Told → Line → Taken
take_line version told line =
    if is_last told.last then Err Trailing
    else if not line.ended then Err NoEnd
    else if not (is_utf8 line.bytes) then Err NotUtf8
    else take_parts version told line.bytes (parts_of line.bytes)
