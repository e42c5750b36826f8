-- Rows that are packed: they stay when children and lists are added after those that are there, and one node more adds its row.
use Rattle.std.proofs.Common.{◌≡◌, ◌≢◌, ℕ, zero, suc, ◌+◌, ◌-◌, ◌<◌, ◌≤◌, ◌↔◌, List, [], ◌∷◌, ◌++◌, Option, Some, None, length, map, take, drop, get_or, slice_get, false, not, nat_eq, IsTrue, refl, sym, ◌∙◌, ap, subst, arith, true≢false}
use Rattle.std.specs.Global.{Vec}
use Rattle.std.specs.Prelude.{All, Contains, slice_range}
use Rattle.std.specs.Ordering.{nat_cmp, on}
use Rattle.std.specs.declared.cmp.Ordering.TheVariants.{Less}
use Rattle.std.specs.List.Sorted.{IsStrictlySortedBy}
use Rattle.std.proofs.lemmas.List.{drop-append-le, drop_at, get_or-drop, get_or-map, get_or-take, get_or_append_left, length-append, length-drop, length-map, length_push, map-append, map_push, nil_from_length, take-append-le, take_all}
use Rattle.std.proofs.lemmas.List.Elements.{All-append, All-head, All-push, All-get_or, All-tail, All-weaker, Contains-get_or}
use Rattle.std.proofs.lemmas.Bool.{eqb-true, false_from_ne_true}
use Rattle.std.proofs.lemmas.Option.{get_or_from_slice_get, slice_get_within}
use Rattle.list_laws.proofs.Elements.{all_of_map}
use Rattle.list_laws.proofs.FirstOnes.{Contains-map}
use Rattle.form_tags.specs.declared.delta.Delta.{Delta}
use Rattle.form_tags.specs.Analyses.{text_delta}
use Rattle.lexicon_definitions.specs.Deltas.{Delta as TextDelta}
use Rattle.lexicon_definitions.specs.Tries.{Row, child_among, empty_row, row_of}
use Rattle.lexicon_definitions.proofs.TrieChildren.{Contains-child_among}
use Rattle.lexicon_definitions.proofs.TrieSteps.{child_among-Contains}
use Rattle.shared_trie.specs.LetterSets.{letters_in}
use Rattle.shared_trie.specs.declared.packed_node.PackedNode.{PackedNode}
use Rattle.shared_trie.specs.Packed.{AddsLists, ArePacked, IsNumberOf, IsPacked, IsTable, children_with, list_with, row_with}
use Rattle.shared_trie.proofs.DeltaLists.{some_element}
use Rattle.shared_trie.proofs.LetterLists.{few_letters, letters_rise}

-- a part that was there
pub part_kept : {X : Type 0} (xs more : List X) (from to : ℕ) → from ≤ to → to ≤ length xs → slice_range (xs ++ more) from to ≡ slice_range xs from to
part_kept xs more from to order within =
    let long = length-drop from xs in
    ap (take (to - from)) (drop-append-le from xs more (omega (arith, order, within)))
    ∙ take-append-le (to - from) (drop from xs) more (omega (arith, long, within, order))

-- the part that was added
pub part_added : {X : Type 0} (xs more : List X) (from to : ℕ) → from ≡ length xs → to ≡ from + length more → slice_range (xs ++ more) from to ≡ more
part_added xs more from to start end =
    ap (take (to - from)) (drop_at xs more from (sym start)) ∙ take_all (to - from) more (omega (arith, end))

-- a list that was there
list_kept : (lists more : List (Vec Delta)) (number : ℕ) → number ≤ length lists → list_with (lists ++ more) number ≡ list_with lists number
list_kept lists more zero within = refl
list_kept lists more (suc place) within =
    let items : Vec Delta → List Delta = λ list. list.items in
    let long = length-map lists items in
    ap (λ (ds : List Delta). map text_delta ds)
    (ap (λ (ls : List (List Delta)). get_or ls place []) (map-append items lists more) ∙ get_or_append_left (map items lists) (map items more) [] place (omega (arith, within, long)))

module _ (children : List (ℕ × ℕ)) (lists : List (Vec Delta)) (added : List (ℕ × ℕ)) (more : List (Vec Delta)) where
  -- a row that was there
  pub row_kept : (node : PackedNode) → IsPacked children lists node → row_with (children ++ added) (lists ++ more) node ≡ row_with children lists node
  row_kept node is =
      let same = part_kept children added node.first (node.first + length (letters_in node.letters)) (omega arith) is.within in
      let deltas = list_kept lists more node.list is.listed in
      λ i. record { deltas = deltas i; children = same i }

  -- a node stays packed
  packed_kept : (node : PackedNode) → IsPacked children lists node → IsPacked (children ++ added) (lists ++ more) node
  packed_kept node is =
      let within = is.within in
      let listed = is.listed in
      let long = length-append children added in
      let longer = length-append lists more in
      record {
        within = omega (arith, within, long);
        letters = ap (map (λ (child : ℕ × ℕ). child.0)) (ap (λ (row : Row). row.children) (row_kept node is)) ∙ is.letters;
        listed = omega (arith, listed, longer);
      }

  -- all rows that were there
  rows_kept : (nodes : List PackedNode) → All (IsPacked children lists) nodes → map (row_with (children ++ added) (lists ++ more)) nodes ≡ map (row_with children lists) nodes
  rows_kept [] are = refl
  rows_kept (node ∷ nodes) are =
      let first = row_kept node (All-head (IsPacked children lists) node nodes are) in
      let rest = rows_kept nodes (All-tail (IsPacked children lists) node nodes are) in
      λ i. first i ∷ rest i

-- what is packed in lists that are the same
packed_same : (children new_children : List (ℕ × ℕ)) (lists new_lists : List (Vec Delta)) (nodes new_nodes : List PackedNode)
    → new_children ≡ children → new_lists ≡ lists → new_nodes ≡ nodes → ArePacked children lists nodes → ArePacked new_children new_lists new_nodes
packed_same children new_children lists new_lists nodes new_nodes c l n are =
    subst (λ (cs : List (ℕ × ℕ)). ArePacked cs new_lists new_nodes) (sym c)
    (subst (λ (ls : List (Vec Delta)). ArePacked children ls new_nodes) (sym l) (subst (ArePacked children lists) (sym n) are))

-- a table of lists that are the same
pub table_same : (children new_children : List (ℕ × ℕ)) (targets new_targets : List ℕ) (lists new_lists : List (Vec Delta)) (nodes new_nodes : List PackedNode)
    → new_children ≡ children → new_targets ≡ targets → new_lists ≡ lists → new_nodes ≡ nodes
    → IsTable children targets lists nodes → IsTable new_children new_targets new_lists new_nodes
table_same children new_children targets new_targets lists new_lists nodes new_nodes c t l n is = record {
  packed = packed_same children new_children lists new_lists nodes new_nodes c l n is.packed;
  alone = t ∙ is.alone ∙ ap (map (λ (child : ℕ × ℕ). child.1)) (sym c);
}

-- one node more, with the children and the list that were added for it
module _ (children added : List (ℕ × ℕ)) (lists new_lists : List (Vec Delta)) (nodes : List PackedNode) (node : PackedNode) (deltas : List TextDelta)
    (are : ArePacked children lists nodes) (adds : AddsLists lists new_lists) (numbered : IsNumberOf new_lists deltas node.list)
    (first : node.first ≡ length children) (letters : letters_in node.letters ≡ map (λ (child : ℕ × ℕ). child.0) added) where
  count : length (letters_in node.letters) ≡ length added
  count = ap length letters ∙ length-map added (λ (child : ℕ × ℕ). child.0)

  -- its children are those that were added
  pub children_added : children_with (children ++ added) node ≡ added
  children_added =
      let same = count in
      part_added children added node.first (node.first + length (letters_in node.letters)) first (omega (arith, same))

  pub packed_push : ArePacked (children ++ added) new_lists (nodes ++ node ∷ [])
  packed_push =
      let same = count in
      let long = length-append children added in
      let longer = length_push nodes node in
      let lists_long = ap length adds.is in
      let all_lists = length-append lists adds.more in
      let one = adds.few in
      let few = are.few in
      let few_lists = are.few_lists in
      let letters_few = few_letters node.letters in
      record {
        each = All-push (IsPacked (children ++ added) new_lists) nodes node
            (subst (λ (ls : List (Vec Delta)). All (IsPacked (children ++ added) ls) nodes) (sym adds.is)
            (All-weaker (IsPacked children lists) (IsPacked (children ++ added) (lists ++ adds.more)) (λ n is. packed_kept children lists added adds.more n is) nodes are.each))
            (record {
              within = omega (arith, first, same, long);
              letters = ap (map (λ (child : ℕ × ℕ). child.0)) children_added ∙ sym letters;
              listed = numbered.listed;
            });
        few = omega (arith, few, long, longer, letters_few, same);
        few_lists = omega (arith, few_lists, lists_long, all_lists, one, longer);
        some = subst (All (λ (list : Vec Delta). list.items ≢ [])) (sym adds.is) (All-append (λ (list : Vec Delta). list.items ≢ []) lists adds.more are.some adds.some);
      }

  -- a table of these
  pub table_pushed : (targets : List ℕ) → targets ≡ map (λ (child : ℕ × ℕ). child.1) children
      → IsTable (children ++ added) (targets ++ map (λ (child : ℕ × ℕ). child.1) added) new_lists (nodes ++ node ∷ [])
  table_pushed targets all = record {
    packed = packed_push;
    alone = ap (λ (ts : List ℕ). ts ++ map (λ (child : ℕ × ℕ). child.1) added) all ∙ sym (map-append (λ (child : ℕ × ℕ). child.1) children added);
  }

  pub row_pushed : map (row_with (children ++ added) new_lists) (nodes ++ node ∷ []) ≡ map (row_with children lists) nodes ++ record { deltas = deltas; children = added } ∷ []
  row_pushed =
      let before : map (row_with (children ++ added) new_lists) nodes ≡ map (row_with children lists) nodes =
      ap (λ (ls : List (Vec Delta)). map (row_with (children ++ added) ls) nodes) adds.is ∙ rows_kept children lists added adds.more nodes are.each in
      let last : row_with (children ++ added) new_lists node ≡ record { deltas = deltas; children = added } =
      λ i. record { deltas = numbered.is i; children = children_added i } in
      map_push (row_with (children ++ added) new_lists) nodes node ∙ (λ i. before i ++ last i ∷ [])

-- children whose letters rise, rise by their letters
rising_by_letters : (children : List (ℕ × ℕ)) → IsStrictlySortedBy nat_cmp (map (λ (child : ℕ × ℕ). child.0) children)
    → IsStrictlySortedBy (on (λ (child : ℕ × ℕ). child.0) nat_cmp) children
unfolding IsStrictlySortedBy
rising_by_letters [] rising = tt
rising_by_letters (child ∷ children) rising =
    (all_of_map (λ (letter : ℕ). nat_cmp child.0 letter ≡ Less) (λ (c : ℕ × ℕ). c.0) children rising.0, rising_by_letters children rising.1)

-- the place of a letter is that of a child
pub place_within : (children : List (ℕ × ℕ)) (lists : List (Vec Delta)) (node : PackedNode) → IsPacked children lists node
    → (place letter : ℕ) → slice_get (letters_in node.letters) place ≡ Some letter → node.first + place < length children
place_within children lists node is place letter found =
    let there = slice_get_within (letters_in node.letters) place letter found in
    let within = is.within in
    omega (arith, there, within)

module _ (children : List (ℕ × ℕ)) (lists : List (Vec Delta)) (node : PackedNode) (is : IsPacked children lists node) (letter : ℕ) where
  -- the node of the child at the letter's place
  pub child_at : (place : ℕ) (targets : List ℕ) (target : ℕ) → slice_get (letters_in node.letters) place ≡ Some letter
      → targets ≡ map (λ (child : ℕ × ℕ). child.1) children → target ≡ get_or targets (node.first + place) target
      → Some target ≡ child_among (children_with children node) letter
  child_at place targets target found all read =
      let cs = children_with children node in
      let at = subst (λ (ls : List ℕ). slice_get ls place ≡ Some letter) (sym is.letters) found in
      let there = slice_get_within (letters_in node.letters) place letter found in
      let inside = slice_get_within (map (λ (c : ℕ × ℕ). c.0) cs) place letter at in
      let count = length-map cs (λ (c : ℕ × ℕ). c.0) in
      let low : place < length cs = omega (arith, inside, count) in
      let size : node.first + length (letters_in node.letters) - node.first ≡ length (letters_in node.letters) = omega arith in
      let any : ℕ × ℕ = (letter, target) in
      let same : get_or cs place any ≡ get_or children (node.first + place) any =
      get_or-take (node.first + length (letters_in node.letters) - node.first) (drop node.first children) place any (omega (arith, there, size))
      ∙ get_or-drop node.first children place any in
      let named : (get_or cs place any).0 ≡ letter =
      sym (get_or-map (λ (c : ℕ × ℕ). c.0) cs place any letter low) ∙ get_or_from_slice_get (map (λ (c : ℕ × ℕ). c.0) cs) place letter letter at in
      let leads : (get_or cs place any).1 ≡ target =
      ap (λ (c : ℕ × ℕ). c.1) same ∙ sym (get_or-map (λ (c : ℕ × ℕ). c.1) children (node.first + place) any target (place_within children lists node is place letter found))
      ∙ ap (λ (ts : List ℕ). get_or ts (node.first + place) target) (sym all) ∙ sym read in
      let among : Contains cs (letter, target) = subst (Contains cs) (λ i. (named i, leads i)) (Contains-get_or cs place any low) in
      let rising = rising_by_letters cs (subst (IsStrictlySortedBy nat_cmp) (sym is.letters) (letters_rise node.letters)) in
      sym (child_among-Contains letter target cs rising among)

  -- no child where the letter is not among those of the node
  pub no_child : (Contains (letters_in node.letters) letter → ⊥) → None ≡ child_among (children_with children node) letter
  no_child absent = by (child_among (children_with children node) letter) refl
    where
      by : (found : Option ℕ) → child_among (children_with children node) letter ≡ found → None ≡ child_among (children_with children node) letter
      by None e = sym e
      by (Some child) e =
          absurd (absent (subst (λ (ls : List ℕ). Contains ls letter) is.letters
          (Contains-map (λ (c : ℕ × ℕ). c.0) (children_with children node) (letter, child) (Contains-child_among letter child (children_with children node) e))))

-- a node that is read has its row, and is packed
pub packed_read : (children : List (ℕ × ℕ)) (lists : List (Vec Delta)) (nodes : List PackedNode) (rows : List Row) (n node : ℕ) (packed : PackedNode)
    → packed ≡ get_or nodes n packed → n ≡ node → map (row_with children lists) nodes ≡ rows → node < length rows → ArePacked children lists nodes
    → (row_of rows node ≡ row_with children lists packed) × IsPacked children lists packed
packed_read children lists nodes rows n node packed read number view low are =
    let long = length-map nodes (row_with children lists) in
    let same = ap length view in
    let there : node < length nodes = omega (arith, low, long, same) in
    let here : get_or nodes node packed ≡ packed = ap (λ (k : ℕ). get_or nodes k packed) (sym number) ∙ sym read in (
      ap (λ (rs : List Row). row_of rs node) (sym view) ∙ get_or-map (row_with children lists) nodes node packed empty_row there ∙ ap (row_with children lists) here,
      subst (IsPacked children lists) here (All-get_or (IsPacked children lists) nodes node packed there are.each),
    )

-- a list that is read by its number
pub list_read : (lists : List (Vec Delta)) (number : ℕ) (list : Vec Delta) → number ≢ 0 → list ≡ get_or lists (number - 1) list → number ≤ length lists
    → map text_delta list.items ≡ list_with lists number
list_read lists zero list some read within = absurd (some refl)
list_read lists (suc place) list some read within =
    let items : Vec Delta → List Delta = λ list. list.items in
    let at : suc place - 1 ≡ place = omega arith in
    let here : list ≡ get_or lists place list = read ∙ ap (λ (n : ℕ). get_or lists n list) at in
    ap (map text_delta) (ap items here ∙ sym (get_or-map items lists place list [] (omega (arith, within))))

-- a node has deltas where its list has a number
pub list_some : (lists : List (Vec Delta)) (number : ℕ) → number ≤ length lists → All (λ (list : Vec Delta). list.items ≢ []) lists
    → IsTrue (not (nat_eq number 0)) ↔ (list_with lists number ≢ [])
list_some lists zero within some = (λ t none. true≢false (sym t), λ h. absurd (h refl))
list_some lists (suc place) within some =
    let items : Vec Delta → List Delta = λ list. list.items in
    let low : place < length lists = omega (arith, within) in
    let any = some_element lists place low in
    let apart : nat_eq (suc place) 0 ≡ false = false_from_ne_true (nat_eq (suc place) 0) (λ e. absurd (let z = eqb-true (suc place) 0 e in omega (arith, z))) in (
      λ t none.
          let here : get_or (map items lists) place [] ≡ (get_or lists place any).items = get_or-map items lists place any [] low in
          let long = length-map (get_or (map items lists) place []) text_delta in
          let nothing = ap length none in
          All-get_or (λ (list : Vec Delta). list.items ≢ []) lists place any low some
          (sym here ∙ nil_from_length (get_or (map items lists) place []) (omega (arith, long, nothing))),
      λ h. ap not apart,
    )

-- the list at the place has the number after it
pub number_stored : (lists : List (Vec Delta)) (list stored : Vec Delta) (place : ℕ) → slice_get lists place ≡ Some stored → list.items ≡ stored.items
    → IsNumberOf lists (map text_delta list.items) (place + 1)
number_stored lists list stored place at same =
    let items : Vec Delta → List Delta = λ list. list.items in
    let low = slice_get_within lists place stored at in
    let next : suc place ≡ place + 1 = omega arith in
    let here : list_with lists (suc place) ≡ map text_delta list.items =
    ap (map text_delta) (get_or-map items lists place stored [] low ∙ ap items (get_or_from_slice_get lists place stored stored at) ∙ sym same) in
    record { listed = omega (arith, low); is = subst (λ (n : ℕ). list_with lists n ≡ map text_delta list.items) next here }
