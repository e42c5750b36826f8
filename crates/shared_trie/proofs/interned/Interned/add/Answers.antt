-- The row goes last, with its hash and its height; where memory is wanting, all is as it was.
use Rattle.std.proofs.Common.{◌≡◌, ℕ, List, [], ◌∷◌, ◌++◌, length, map, sym, refl, ◌∙◌, ap, subst, arith, append-nil}
use Rattle.std.specs.Global.{Vec}
use Rattle.form_tags.specs.declared.delta.Delta.{Delta}
use Rattle.lexicon_definitions.specs.Tries.{IsTrie, Row}
use Rattle.shared_trie.specs.Growth.{Grows}
use Rattle.shared_trie.specs.Heights.{IsHeightAbove}
use Rattle.shared_trie.specs.Interned.{GrowingTrie}
use Rattle.shared_trie.specs.Packed.{row_with}
use Rattle.shared_trie.specs.declared.packed_node.PackedNode.{PackedNode}
use Rattle.shared_trie.proofs.InternedLaws.{HaveOneMore, interned_grown, row_grown, row_there}
use Rattle.shared_trie.proofs.interned.Interned.add.Goals as goal

-- the same rows are still those of a trie
trie_kept : (children same_children : List (ℕ × ℕ)) (lists : List (Vec Delta)) (nodes same_nodes : List PackedNode) (roots : List ℕ) → same_children ≡ children
    → same_nodes ≡ nodes → IsTrie (record { rows = map (row_with children lists) nodes; roots = roots })
    → IsTrie (record { rows = map (row_with same_children lists) same_nodes; roots = roots })
trie_kept children same_children lists nodes same_nodes roots e f is =
    subst (λ (rows : List Row). IsTrie (record { rows = rows; roots = roots })) (sym (λ i. map (row_with (e i) lists) (f i))) is

-- no row was added
none_added : (children same_children : List (ℕ × ℕ)) (lists : List (Vec Delta)) (nodes same_nodes : List PackedNode) (rows : List Row) → same_children ≡ children
    → same_nodes ≡ nodes → map (row_with children lists) nodes ≡ rows → Grows 1 rows (map (row_with same_children lists) same_nodes)
none_added children same_children lists nodes same_nodes rows e f shown =
    record { more = []; is = (λ i. map (row_with (e i) lists) (f i)) ∙ shown ∙ sym (append-nil rows); few = omega arith }

-- the parts have one row more
have_one_more : (c : goal.After-new) → HaveOneMore c.self.inside.children.items c.extend_from_slice.new.self.items c.self.inside.lists.keys c.self.inside.nodes.items c.push-3.new.self.items
    c.self.inside.chains c.push.new.self c.self.inside.heights.items c.push-2.new.self.items c.self.inside.roots.items c.args.self.now c.args.list c.args.children.now
have_one_more c =
    let parts = c.self.inside in
    let node : PackedNode = record { letters = c.letters_of.result; first = c.len.result; list = c.args.list } in
    let kept = c.reserve-2.ensures.items in
    let same = ap length kept in
    let size = c.len.ensures in
    let heights : c.as_slice.result.now ≡ parts.heights.items = c.as_slice.ensures.value ∙ c.reserve-3.ensures.items in
    record {
      node = node;
      hash = c.args.hash;
      height = c.height_above-height.result;
      are = c.self.invariant;
      view = c.self.view_is;
      is_children = c.in-Ok.ensures.items ∙ ap (λ (cs : List (ℕ × ℕ)). cs ++ c.args.children.now) kept;
      is_nodes = c.in-Ok-push-2.ensures.items ∙ ap (λ (ns : List PackedNode). ns ++ node ∷ []) c.reserve.ensures.items;
      is_hashes = c.in_ok-push.ensures.ok;
      is_heights = c.in-Ok-push.ensures.items ∙ ap (λ (hs : List ℕ). hs ++ c.height_above-height.result ∷ []) c.reserve-3.ensures.items;
      first = omega (arith, same, size);
      letters = c.letters_of.ensures;
      is_list = λ i. c.args.list;
      listed = c.requires.list;
      hashed = c.requires.hash;
      above = subst (λ (hs : List ℕ). IsHeightAbove hs c.args.children.now c.height_above-height.result) heights c.height_above-height.ensures.value;
      low = omega (arith, c.height_above-height.ensures.low, ap length heights);
      room = c.requires.room;
      may = c.requires.row;
      is_new = c.requires.is_new;
    }

pub invariant_of-self-2 : goal.invariant_of-self-2
invariant_of-self-2 c = interned_grown _ _ _ _ _ _ _ _ _ _ _ _ _ (have_one_more c)

pub returns-clause-grown : goal.returns-clause-grown
returns-clause-grown c = row_grown _ _ _ _ _ _ _ _ _ _ _ _ _ (have_one_more c)

pub returns-clause-trie : goal.returns-clause-trie
returns-clause-trie c = (interned_grown _ _ _ _ _ _ _ _ _ _ _ _ _ (have_one_more c)).trie

pub returns-clause-ok : goal.returns-clause-ok
returns-clause-ok c = row_there _ _ _ _ _ _ _ _ _ _ _ _ _ (have_one_more c) c.new.result
    (let size = c.len-number.ensures in let same = ap length c.reserve.ensures.items in let last = c.new.ensures in omega (arith, size, same, last))

pub returns-in_err-reserve-clause-trie : goal.returns-in_err-reserve-clause-trie
returns-in_err-reserve-clause-trie c = trie_kept _ _ _ _ _ _ refl c.reserve.ensures.items c.self.invariant.trie

pub returns-in_err-reserve-clause-grown : goal.returns-in_err-reserve-clause-grown
returns-in_err-reserve-clause-grown c = none_added _ _ _ _ _ _ refl c.reserve.ensures.items (ap (λ (growing : GrowingTrie). growing.rows) c.self.view_is)

pub returns-in_err-reserve-2-clause-trie : goal.returns-in_err-reserve-2-clause-trie
returns-in_err-reserve-2-clause-trie c = trie_kept _ _ _ _ _ _ c.reserve-2.ensures.items c.reserve.ensures.items c.self.invariant.trie

pub returns-in_err-reserve-2-clause-grown : goal.returns-in_err-reserve-2-clause-grown
returns-in_err-reserve-2-clause-grown c = none_added _ _ _ _ _ _ c.reserve-2.ensures.items c.reserve.ensures.items (ap (λ (growing : GrowingTrie). growing.rows) c.self.view_is)

pub returns-in_err-reserve-3-clause-trie : goal.returns-in_err-reserve-3-clause-trie
returns-in_err-reserve-3-clause-trie c = trie_kept _ _ _ _ _ _ c.reserve-2.ensures.items c.reserve.ensures.items c.self.invariant.trie

pub returns-in_err-reserve-3-clause-grown : goal.returns-in_err-reserve-3-clause-grown
returns-in_err-reserve-3-clause-grown c = none_added _ _ _ _ _ _ c.reserve-2.ensures.items c.reserve.ensures.items (ap (λ (growing : GrowingTrie). growing.rows) c.self.view_is)

pub returns-in_err-push-clause-trie : goal.returns-in_err-push-clause-trie
returns-in_err-push-clause-trie c = trie_kept _ _ _ _ _ _ c.reserve-2.ensures.items c.reserve.ensures.items c.self.invariant.trie

pub returns-in_err-push-clause-grown : goal.returns-in_err-push-clause-grown
returns-in_err-push-clause-grown c = none_added _ _ _ _ _ _ c.reserve-2.ensures.items c.reserve.ensures.items (ap (λ (growing : GrowingTrie). growing.rows) c.self.view_is)
