-- Rows by the numbers of their lists of deltas: lists that are told apart have one number each, so rows are the same where list
-- and children are; and one row more, with its hash and its height.
use Rattle.std.proofs.Common.{◌≡◌, ◌≢◌, ◌↔◌, inl, inr, ℕ, zero, suc, ◌+◌, ◌*◌, ◌<◌, ◌≤◌, ◌^◌, Bool, false, List, [], ◌∷◌, ◌++◌, length, map, get_or, Some, None, Option, refl, sym, ◌∙◌, ap, subst, arith, append-nil, true≢false}
use Rattle.std.specs.Global.{Vec}
use Rattle.std.specs.Prelude.{All, AllPairs, Err, IfOk, Ok, Result}
use Rattle.std.specs.List.{IsDistinct}
use Rattle.std.specs.Cmp.Lexicographic.{pointwise}
use Rattle.std.proofs.lemmas.Bool.{cases_order}
use Rattle.std.proofs.lemmas.List.{get_or-map, length-append, length-map, length_push, map_push, get_or_default}
use Rattle.std.proofs.lemmas.List.Elements.{All-append, All-from_recursion, All-get_or, All-head, All-tail, All-weaker}
use Rattle.std.proofs.lemmas.List.Kept.{AllPairs-cons}
use Rattle.std.proofs.lemmas.List.Quantifiers.{all_pairs_push}
use Rattle.std.proofs.lemmas.Map.Keys.{IsDistinct-head, IsDistinct-tail}
use Rattle.std.proofs.lemmas.Slice.Eq.{slice_eq-Decides}
use Rattle.form_tags.specs.contracts.delta.DeltaPartialEq.TheImpl.{eq-value as delta_eq}
use Rattle.form_tags.specs.declared.delta.Delta.{Delta}
use Rattle.form_tags.specs.Analyses.{text_delta}
use Rattle.lexicon_definitions.specs.Deltas.{Delta as TextDelta}
use Rattle.lexicon_definitions.specs.Tries.{IsRow, IsTrie, Row, empty_row, row_of}
use Rattle.lexicon_definitions.proofs.TrieGrowth.{AreRows-push, row_of-push}
use Rattle.shared_trie.specs.declared.packed_node.PackedNode.{PackedNode}
use Rattle.shared_trie.specs.Growth.{Grows, HasRow}
use Rattle.shared_trie.specs.Chains.{IsLastWith}
use Rattle.shared_trie.specs.Hashes.{hash_of}
use Rattle.shared_trie.specs.Heights.{AreHeights, IsHeightAbove}
use Rattle.shared_trie.specs.Interned.{AreInterned, GrowingTrie, hash_of_node, list_of, lists_with, row_of_list}
use Rattle.shared_trie.specs.LetterSets.{letters_in}
use Rattle.shared_trie.specs.Packed.{AddsLists, AreApart, IsNumberOf, IsPacked, children_with, list_with, row_with}
use Rattle.shared_trie.proofs.DeltaLists.{some_element}
use Rattle.shared_trie.proofs.HeightLemmas.{AreHeights-push}
use Rattle.shared_trie.proofs.PackedRows.{children_added, packed_push, packed_read, row_kept, row_pushed}
use Rattle.shared_trie.proofs.RowEquality.{delta_decides, text_deltas-once}

-- ---- lists by number

-- a list by its number
pub list_told : (lists : List (Vec Delta)) (number : ℕ) → list_of (lists_with lists) number ≡ list_with lists number
list_told lists zero = refl
list_told lists (suc place) = stored lists place
  where
    stored : (lists : List (Vec Delta)) (place : ℕ) → get_or (map (λ (list : Vec Delta). map text_delta list.items) lists) place []
        ≡ map text_delta (get_or (map (λ (list : Vec Delta). list.items) lists) place [])
    stored [] place = refl
    stored (list ∷ lists) zero = refl
    stored (list ∷ lists) (suc place) = stored lists place

-- a number below that of the lists is that of a stored list, or 0
pub number_within : (lists : List (Vec Delta)) (number : ℕ) → (number < length (lists_with lists)) ↔ (number ≤ length lists)
number_within lists number =
    let long = length-map lists (λ (list : Vec Delta). map text_delta list.items) in (
      λ low. omega (arith, low, long),
      λ low. omega (arith, low, long),
    )

-- each two of a list that are told apart are not equal
pairs_apart : {X : Type 0} (R : X → X → Bool) (xs : List X) → IsDistinct R xs → AllPairs (λ a b. R a b ≡ false) xs
pairs_apart R [] apart = λ i j d l h. absurd (omega (arith, h))
pairs_apart R (x ∷ xs) apart =
    AllPairs-cons (λ a b. R a b ≡ false) x xs (All-from_recursion (λ b. R x b ≡ false) xs (IsDistinct-head R x xs apart)) (pairs_apart R xs (IsDistinct-tail R x xs apart))

-- of two places of stored lists with one text neither is before the other
not_before : (lists : List (Vec Delta)) → AreApart lists → (i j : ℕ) → i < j → j < length lists → list_with lists (suc i) ≡ list_with lists (suc j) → ⊥
not_before lists apart i j before within same =
    let items : Vec Delta → List Delta = λ list. list.items in
    let any = some_element lists j within in
    let first = get_or-map items lists i any [] (omega (arith, before, within)) in
    let second = get_or-map items lists j any [] within in
    let one = text_deltas-once (get_or lists i any).items (get_or lists j any).items (ap (map text_delta) (sym first) ∙ same ∙ ap (map text_delta) second) in
    let equal = (slice_eq-Decides delta_decides (get_or lists i any).items (get_or lists j any).items (pointwise delta_eq.it (get_or lists i any).items (get_or lists j any).items) refl).1 one in
    true≢false (sym equal ∙ pairs_apart (λ (left right : Vec Delta). pointwise delta_eq.it left.items right.items) lists apart i j any before within)

-- a stored list has some delta
not_empty : (lists : List (Vec Delta)) (place : ℕ) → All (λ (list : Vec Delta). list.items ≢ []) lists → place < length lists → list_with lists (suc place) ≢ []
not_empty lists place some low e =
    let any = some_element lists place low in
    let here = get_or-map (λ (list : Vec Delta). list.items) lists place any [] low in
    All-get_or (λ (list : Vec Delta). list.items ≢ []) lists place any low some (sym here ∙ none (get_or (map (λ (list : Vec Delta). list.items) lists) place []) e)
  where
    none : (deltas : List Delta) → map text_delta deltas ≡ [] → deltas ≡ []
    none [] e = refl
    none (delta ∷ deltas) e = absurd cc

-- lists with one text have one number
pub list_once : (lists : List (Vec Delta)) → AreApart lists → All (λ (list : Vec Delta). list.items ≢ []) lists → (left right : ℕ)
    → left ≤ length lists → right ≤ length lists → list_with lists left ≡ list_with lists right → left ≡ right
list_once lists apart some zero zero l h e = refl
list_once lists apart some zero (suc j) l h e = absurd (not_empty lists j some (omega (arith, h)) (sym e))
list_once lists apart some (suc i) zero l h e = absurd (not_empty lists i some (omega (arith, l)) e)
list_once lists apart some (suc i) (suc j) l h e =
    elim (cases_order i j) [
      | inl same ↦ ap suc same
      | inr (inl before) ↦ absurd (not_before lists apart i j before (omega (arith, h)) e)
      | inr (inr after) ↦ absurd (not_before lists apart j i after (omega (arith, l)) (sym e))
    ]

-- ---- rows by their lists

-- a packed row is that with this list and these children just where they are its own
pub row_told : (children : List (ℕ × ℕ)) (lists : List (Vec Delta)) (node : PackedNode) (list : ℕ) (own : List (ℕ × ℕ)) → AreApart lists
    → All (λ (list : Vec Delta). list.items ≢ []) lists → IsPacked children lists node → list ≤ length lists
    → (row_with children lists node ≡ row_of_list (lists_with lists) list own) ↔ ((node.list ≡ list) × (children_with children node ≡ own))
row_told children lists node list own apart some is within = (
  λ e. (
    list_once lists apart some node.list list is.listed within (ap (λ (row : Row). row.deltas) e ∙ list_told lists list),
    ap (λ (row : Row). row.children) e,
  ),
  λ (both : (node.list ≡ list) × (children_with children node ≡ own)).
      let deltas : list_with lists node.list ≡ list_of (lists_with lists) list = ap (list_with lists) both.0 ∙ sym (list_told lists list) in
      λ i. record { deltas = deltas i; children = both.1 i },
)

-- what a trie shows of its parts
abbrev shown_with : List (ℕ × ℕ) → List (Vec Delta) → List PackedNode → List ℕ → GrowingTrie
shown_with children lists nodes roots = record { lists = lists_with lists; rows = map (row_with children lists) nodes; roots = roots }

-- a node's row is that with this list and these children just where they are its own
pub row_compared : (children : List (ℕ × ℕ)) (lists : List (Vec Delta)) (nodes : List PackedNode) (hashes heights roots : List ℕ) (shown : GrowingTrie)
    → AreInterned children lists nodes hashes heights roots → shown_with children lists nodes roots ≡ shown → (number list : ℕ) (own : List (ℕ × ℕ)) (node : PackedNode)
    → node ≡ get_or nodes number node → number < length shown.rows → list < length shown.lists
    → (row_of shown.rows number ≡ row_of_list shown.lists list own) ↔ ((node.list ≡ list) × (children_with children node ≡ own))
row_compared children lists nodes hashes heights roots shown are view number list own node read low within =
    let is_lists : lists_with lists ≡ shown.lists = ap (λ (t : GrowingTrie). t.lists) view in
    let (here, packed) = packed_read children lists nodes shown.rows number number node read refl (ap (λ (t : GrowingTrie). t.rows) view) low are.packed in
    let few = (number_within lists list).0 (let long = ap length is_lists in omega (arith, within, long)) in
    let told = row_told children lists node list own are.apart are.packed.some packed few in (
      λ e. told.0 (sym here ∙ e ∙ ap (λ (ls : List (List TextDelta)). row_of_list ls list own) (sym is_lists)),
      λ both. here ∙ told.1 both ∙ ap (λ (ls : List (List TextDelta)). row_of_list ls list own) is_lists,
    )

-- there is a hash for each row
pub hashes_count : (children : List (ℕ × ℕ)) (lists : List (Vec Delta)) (nodes : List PackedNode) (hashes heights roots : List ℕ) (shown : GrowingTrie)
    → AreInterned children lists nodes hashes heights roots → shown_with children lists nodes roots ≡ shown → length hashes ≡ length shown.rows
hashes_count children lists nodes hashes heights roots shown are view =
    let hashed = ap length are.hashed in
    let counted = length-map nodes (hash_of_node children) in
    let count = length-map nodes (row_with children lists) in
    let long = ap (λ (t : GrowingTrie). length t.rows) view in
    omega (arith, hashed, counted, count, long)

-- a node with the row has the row's hash
pub hash_there : (children : List (ℕ × ℕ)) (lists : List (Vec Delta)) (nodes : List PackedNode) (hashes heights roots : List ℕ) (shown : GrowingTrie)
    → AreInterned children lists nodes hashes heights roots → shown_with children lists nodes roots ≡ shown → (number list : ℕ) (own : List (ℕ × ℕ))
    → number < length shown.rows → list < length shown.lists → row_of shown.rows number ≡ row_of_list shown.lists list own
    → get_or hashes number 0 ≡ hash_of list own
hash_there children lists nodes hashes heights roots shown are view number list own low within e =
    let long = ap (λ (t : GrowingTrie). length t.rows) view in
    let count = length-map nodes (row_with children lists) in
    let there : number < length nodes = omega (arith, low, long, count) in
    let any = some_element nodes number there in
    let node = get_or nodes number any in
    let (same_list, same_children) = (row_compared children lists nodes hashes heights roots shown are view number list own node (get_or_default nodes number any node there) low within).0 e in
    ap (λ (hs : List ℕ). get_or hs number 0) are.hashed ∙ get_or-map (hash_of_node children) nodes number any 0 there ∙ (λ i. hash_of (same_list i) (same_children i))

-- what a search by the hash has come to: the nodes after the one that is found have other rows
abbrev pub IsSearched : List ℕ → List Row → ℕ → Row → Option ℕ → Type 0
IsSearched hashes rows hash row None = (node : ℕ) → node < length rows → row_of rows node ≢ row
IsSearched hashes rows hash row (Some number) =
    (number < length rows) × (get_or hashes number 0 ≡ hash) × ((node : ℕ) → number < node → node < length rows → row_of rows node ≢ row)

module _ (hashes : List ℕ) (rows : List Row) (hash : ℕ) (row : Row) (count : length hashes ≡ length rows)
    (hashed : (node : ℕ) → node < length rows → row_of rows node ≡ row → get_or hashes node 0 ≡ hash) where
  -- at first
  pub searched_first : (found : Option ℕ) → IsLastWith hashes hash (length hashes) found → IsSearched hashes rows hash row found
  searched_first None none = λ node low e. none node (omega (arith, low, count)) (hashed node low e)
  searched_first (Some number) (low, has, after) =
      (omega (arith, low, count), has, λ node from to e. after node from (omega (arith, to, count)) (hashed node to e))

  -- after one with another row
  pub searched_next : (number : ℕ) (found : Option ℕ) → IsSearched hashes rows hash row (Some number) → row_of rows number ≢ row
      → IsLastWith hashes hash number found → IsSearched hashes rows hash row found
  searched_next number None (low, has, after) other none = λ node within e.
      elim (cases_order node number) [
        | inl here ↦ other (sym (ap (row_of rows) here) ∙ e)
        | inr (inl before) ↦ none node before (hashed node within e)
        | inr (inr behind) ↦ after node behind within e
      ]
  searched_next number (Some next) (low, has, after) other (before, also, between) = (
    omega (arith, low, before),
    also,
    λ node from to e.
        elim (cases_order node number) [
          | inl here ↦ other (sym (ap (row_of rows) here) ∙ e)
          | inr (inl earlier) ↦ between node from earlier (hashed node to e)
          | inr (inr behind) ↦ after node behind to e
        ],
  )

-- ---- one list more

-- a packed row stays when lists are added
row_listed : (children : List (ℕ × ℕ)) (lists more : List (Vec Delta)) (node : PackedNode) → IsPacked children lists node
    → row_with children (lists ++ more) node ≡ row_with children lists node
row_listed children lists more node is =
    ap (λ (cs : List (ℕ × ℕ)). row_with cs (lists ++ more) node) (sym (append-nil children)) ∙ row_kept children lists [] more node is

-- all rows stay
all_listed : (children : List (ℕ × ℕ)) (lists more : List (Vec Delta)) (nodes : List PackedNode) → All (IsPacked children lists) nodes
    → map (row_with children (lists ++ more)) nodes ≡ map (row_with children lists) nodes
all_listed children lists more [] are = refl
all_listed children lists more (node ∷ nodes) are =
    let first = row_listed children lists more node (All-head (IsPacked children lists) node nodes are) in
    let rest = all_listed children lists more nodes (All-tail (IsPacked children lists) node nodes are) in
    λ i. first i ∷ rest i

module _ (children : List (ℕ × ℕ)) (lists new : List (Vec Delta)) (nodes : List PackedNode) (hashes heights roots : List ℕ) (shown : GrowingTrie)
    (are : AreInterned children lists nodes hashes heights roots) (view : shown_with children lists nodes roots ≡ shown) (adds : AddsLists lists new) where
  rows_same : map (row_with children new) nodes ≡ map (row_with children lists) nodes
  rows_same = ap (λ (ls : List (Vec Delta)). map (row_with children ls) nodes) adds.is ∙ all_listed children lists adds.more nodes are.packed.each

  -- the rows that are shown are the same
  pub rows_listed : map (row_with children new) nodes ≡ shown.rows
  rows_listed = rows_same ∙ ap (λ (t : GrowingTrie). t.rows) view

  -- what is kept holds of them
  pub interned_listed : AreApart new → length shown.lists ≤ length shown.rows + 600000 → AreInterned children new nodes hashes heights roots
  interned_listed apart few =
      let long = ap (λ (t : GrowingTrie). length t.rows) view in
      let many = ap (λ (t : GrowingTrie). length t.lists) view in
      let stored = length-map lists (λ (list : Vec Delta). map text_delta list.items) in
      let count = length-map nodes (row_with children lists) in
      let all = length-append lists adds.more in
      let same = ap length adds.is in
      let one = adds.few in
      record {
        packed = record {
          each =
              All-weaker (IsPacked children lists) (IsPacked children new)
              (λ node is.
              let listed = is.listed in
              record {
                within = is.within;
                letters = is.letters;
                listed = omega (arith, listed, all, same);
              }) nodes are.packed.each;
          few = are.packed.few;
          few_lists = omega (arith, few, long, many, stored, count, all, same, one);
          some = subst (All (λ (list : Vec Delta). list.items ≢ [])) (sym adds.is) (All-append (λ (list : Vec Delta). list.items ≢ []) lists adds.more are.packed.some adds.some);
        };
        apart = apart;
        trie = subst (λ (rs : List Row). IsTrie (record { rows = rs; roots = roots })) (sym rows_same) are.trie;
        room = are.room;
        hashed = are.hashed;
        heighted = subst (λ (rs : List Row). AreHeights rs heights) (sym rows_same) are.heighted;
      }

-- the number that was given is that of the list
pub number_told : {E : Type 0} (lists : List (Vec Delta)) (deltas : List TextDelta) (result : Result ℕ E) → IfOk result (IsNumberOf lists deltas)
    → IfOk result (λ number. (number < length (lists_with lists)) × (list_of (lists_with lists) number ≡ deltas))
number_told lists deltas (Ok number) is = ((number_within lists number).1 is.listed, list_told lists number ∙ is.is)
number_told lists deltas (Err error) is = tt

-- ---- one row more

-- nothing changes where the parts are the same
pub interned_same : (children new_children : List (ℕ × ℕ)) (lists : List (Vec Delta)) (nodes new_nodes : List PackedNode) (hashes new_hashes heights new_heights roots new_roots : List ℕ)
    → new_children ≡ children → new_nodes ≡ nodes → new_hashes ≡ hashes → new_heights ≡ heights → new_roots ≡ roots
    → AreInterned children lists nodes hashes heights roots → AreInterned new_children lists new_nodes new_hashes new_heights new_roots
interned_same children new_children lists nodes new_nodes hashes new_hashes heights new_heights roots new_roots c n h t r are =
    subst (λ (cs : List (ℕ × ℕ)). AreInterned cs lists new_nodes new_hashes new_heights new_roots) (sym c)
    (subst (λ (ns : List PackedNode). AreInterned children lists ns new_hashes new_heights new_roots) (sym n)
    (subst (λ (hs : List ℕ). AreInterned children lists nodes hs new_heights new_roots) (sym h)
    (subst (λ (ts : List ℕ). AreInterned children lists nodes hashes ts new_roots) (sym t)
    (subst (AreInterned children lists nodes hashes heights) (sym r) are))))

-- the hashes of nodes that were there
hashes_kept : (children added : List (ℕ × ℕ)) (lists : List (Vec Delta)) (nodes : List PackedNode) → All (IsPacked children lists) nodes
    → map (hash_of_node (children ++ added)) nodes ≡ map (hash_of_node children) nodes
hashes_kept children added lists [] are = refl
hashes_kept children added lists (node ∷ nodes) are =
    let row = row_kept children lists added [] node (All-head (IsPacked children lists) node nodes are) in
    let rest = hashes_kept children added lists nodes (All-tail (IsPacked children lists) node nodes are) in
    λ i. hash_of node.list (row i).children ∷ rest i

module _ (children added : List (ℕ × ℕ)) (lists : List (Vec Delta)) (nodes : List PackedNode) (hashes heights roots : List ℕ) (node : PackedNode) (height : ℕ)
    (are : AreInterned children lists nodes hashes heights roots)
    (first : node.first ≡ length children) (letters : letters_in node.letters ≡ map (λ (child : ℕ × ℕ). child.0) added) (within : node.list ≤ length lists) where
  abbrev rows : List Row
  rows = map (row_with children lists) nodes

  abbrev row : Row
  row = row_of_list (lists_with lists) node.list added

  no_list : AddsLists lists lists
  no_list = record { more = []; is = sym (append-nil lists); few = omega arith; some = λ k d low. absurd (omega (arith, low)) }

  -- it goes last
  pub row_added : map (row_with (children ++ added) lists) (nodes ++ node ∷ []) ≡ rows ++ row ∷ []
  row_added =
      row_pushed children added lists lists nodes node (list_of (lists_with lists) node.list) are.packed no_list
      (record { listed = within; is = sym (list_told lists node.list) }) first letters

  module _ (room : 64 * (length rows + 1) < 2 ^ 32) (may : IsRow rows (length rows) row)
      (is_new : (n : ℕ) → n < length rows → row_of rows n ≢ row) where
    -- rows and roots are those of a trie
    pub trie_added : IsTrie (record { rows = rows ++ row ∷ []; roots = roots })
    trie_added =
        let long = length_push rows row in
        record {
          rows = AreRows-push rows row are.trie.rows may
              (all_pairs_push (λ (l r : Row). l ≢ r) rows row are.trie.rows.distinct (λ k d low e. is_new k low (sym (default_read k d low) ∙ e)));
          roots = All-weaker (λ (root : ℕ). root < length rows) (λ (root : ℕ). root < length (rows ++ row ∷ [])) (λ root low. omega (arith, low, long)) roots are.trie.roots;
        }
      where
        default_read : (k : ℕ) (d : Row) → k < length rows → get_or rows k d ≡ row_of rows k
        default_read k d low = get_or_default rows k d empty_row low

    -- what is kept beside them is theirs
    pub interned_added : (above : IsHeightAbove heights added height) → height ≤ length rows
        → AreInterned (children ++ added) lists (nodes ++ node ∷ []) (hashes ++ hash_of node.list added ∷ []) (heights ++ height ∷ []) roots
    interned_added above low =
        let count = length-map nodes (row_with children lists) in
        let long = length_push nodes node in
        let packed = packed_push children added lists lists nodes node (list_of (lists_with lists) node.list) are.packed no_list
        (record { listed = within; is = sym (list_told lists node.list) }) first letters in
        let own_children = children_added children added lists lists nodes node (list_of (lists_with lists) node.list) are.packed no_list
        (record { listed = within; is = sym (list_told lists node.list) }) first letters in
        record {
          packed = packed;
          apart = are.apart;
          trie = subst (λ (rs : List Row). IsTrie (record { rows = rs; roots = roots })) (sym row_added) trie_added;
          room = omega (arith, room, count, long);
          hashed =
              (λ i. are.hashed i ++ hash_of node.list added ∷ [])
              ∙ (λ i. sym (hashes_kept children added lists nodes are.packed.each) i ++ hash_of node.list (sym own_children i) ∷ [])
              ∙ sym (map_push (hash_of_node (children ++ added)) nodes node);
          heighted =
              subst (λ (rs : List Row). AreHeights rs (heights ++ height ∷ [])) (sym row_added)
              (AreHeights-push rows row heights height are.trie.rows trie_added.rows are.heighted above low may);
        }

-- the parts of a trie have one row more, which may stand last and is not there yet
pub record HaveOneMore (children new_children : List (ℕ × ℕ)) (lists : List (Vec Delta)) (nodes new_nodes : List PackedNode) (hashes new_hashes heights new_heights roots : List ℕ)
    (shown : GrowingTrie) (list : ℕ) (own : List (ℕ × ℕ)) : Type 0 where
  pub node : PackedNode
  pub hash : ℕ
  pub height : ℕ
  pub are : AreInterned children lists nodes hashes heights roots
  pub view : shown_with children lists nodes roots ≡ shown
  pub is_children : new_children ≡ children ++ own
  pub is_nodes : new_nodes ≡ nodes ++ node ∷ []
  pub is_hashes : new_hashes ≡ hashes ++ hash ∷ []
  pub is_heights : new_heights ≡ heights ++ height ∷ []
  pub first : node.first ≡ length children
  pub letters : letters_in node.letters ≡ map (λ (child : ℕ × ℕ). child.0) own
  pub is_list : node.list ≡ list
  pub listed : list < length shown.lists
  pub hashed : hash ≡ hash_of list own
  pub above : IsHeightAbove heights own height
  pub low : height ≤ length heights
  pub room : 64 * (length shown.rows + 1) < 2 ^ 32
  pub may : IsRow shown.rows (length shown.rows) (row_of_list shown.lists list own)
  pub is_new : (n : ℕ) → n < length shown.rows → row_of shown.rows n ≢ row_of_list shown.lists list own

module _ (children new_children : List (ℕ × ℕ)) (lists : List (Vec Delta)) (nodes new_nodes : List PackedNode) (hashes new_hashes heights new_heights roots : List ℕ)
    (shown : GrowingTrie) (list : ℕ) (own : List (ℕ × ℕ))
    (have : HaveOneMore children new_children lists nodes new_nodes hashes new_hashes heights new_heights roots shown list own) where
  abbrev node : PackedNode
  node = have.node

  within : node.list ≤ length lists
  within =
      let long = ap (λ (t : GrowingTrie). length t.lists) have.view in
      let listed = have.listed in
      (number_within lists node.list).0 (let same = have.is_list in omega (arith, listed, long, same))

  abbrev its : Row
  its = row_of_list (lists_with lists) node.list own

  its_row : its ≡ row_of_list shown.lists list own
  its_row = λ i. row_of_list ((have.view i).lists) (have.is_list i) own

  old_rows : map (row_with children lists) nodes ≡ shown.rows
  old_rows = ap (λ (t : GrowingTrie). t.rows) have.view

  -- the rows that are shown
  pub rows_grown : map (row_with new_children lists) new_nodes ≡ shown.rows ++ row_of_list shown.lists list own ∷ []
  rows_grown =
      (λ i. map (row_with (have.is_children i) lists) (have.is_nodes i))
      ∙ row_added children own lists nodes hashes heights roots node have.height have.are have.first have.letters within
      ∙ (λ i. old_rows i ++ its_row i ∷ [])

  -- what is kept holds of them
  pub interned_grown : AreInterned new_children lists new_nodes new_hashes new_heights roots
  interned_grown =
      let size = ap length old_rows in
      let known = have.are.heighted.count in
      let low = have.low in
      let its_hash : have.hash ≡ hash_of node.list own = have.hashed ∙ ap (λ (n : ℕ). hash_of n own) (sym have.is_list) in
      interned_same (children ++ own) new_children lists (nodes ++ node ∷ []) new_nodes (hashes ++ hash_of node.list own ∷ []) new_hashes (heights ++ have.height ∷ []) new_heights roots roots
      have.is_children have.is_nodes (have.is_hashes ∙ ap (λ (h : ℕ). hashes ++ h ∷ []) its_hash) have.is_heights (λ i. roots)
      (interned_added children own lists nodes hashes heights roots node have.height have.are have.first have.letters within
      (subst (λ (n : ℕ). 64 * (n + 1) < 2 ^ 32) (sym size) have.room)
      (subst (λ (rs : List Row). IsRow rs (length rs) its) (sym old_rows) (subst (IsRow shown.rows (length shown.rows)) (sym its_row) have.may))
      (λ n below e. have.is_new n (omega (arith, below, size)) (sym (ap (λ (rs : List Row). row_of rs n) old_rows) ∙ e ∙ its_row))
      have.above (omega (arith, low, known)))

  -- one row was added
  pub row_grown : Grows 1 shown.rows (map (row_with new_children lists) new_nodes)
  row_grown = record { more = row_of_list shown.lists list own ∷ []; is = rows_grown; few = omega arith }

  -- and it is there
  pub row_there : (number : ℕ) → number ≡ length nodes → HasRow (map (row_with new_children lists) new_nodes) (row_of_list shown.lists list own) number
  row_there number last =
      let row = row_of_list shown.lists list own in
      let size = ap length old_rows in
      let count = length-map nodes (row_with children lists) in
      let long = length_push shown.rows row in
      let new_size = ap length rows_grown in
      let at_end : length shown.rows ≡ number = omega (arith, size, count, last) in
      record {
        there = omega (arith, at_end, long, new_size);
        is = ap (λ (rs : List Row). row_of rs number) rows_grown ∙ subst (λ (n : ℕ). row_of (shown.rows ++ row ∷ []) n ≡ row) at_end (row_of-push shown.rows row);
      }
