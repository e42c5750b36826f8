-- The height that a line has is the height of its node: by induction on the node's number, since it is above those of the children.
use Rattle.std.proofs.Common.{◌≡◌, inl, inr, ℕ, zero, suc, ◌+◌, ◌<◌, ◌≤◌, ◌⊎◌, List, [], ◌∷◌, length, max, refl, sym, ◌∙◌, ap, subst, arith}
use Rattle.std.specs.Prelude.{slice_index, All, Contains}
use Rattle.std.proofs.lemmas.Bool.{cases_lt}
use Rattle.std.proofs.lemmas.List.Elements.{All-contains, All-cons, All-nil, All-weaker}
use Rattle.list_laws.proofs.Sorted.{Contains-first, Contains-later}
use Rattle.lexicon_definitions.specs.Tries.{Row, AreRows, IsChild, IsHeight, row_of}
use Rattle.lexicon_definitions.proofs.TrieWalks.{IsHeight-once}
use Rattle.trie_text_definitions.specs.NodeValues.{height_over}
use Rattle.trie_text_definitions.specs.NodeLines.{NodeLine, heights, node_line_over, node_lines}
use Rattle.trie_text_definitions.proofs.NodeValueLaws.{length-values}
use Rattle.trie_text_definitions.proofs.ToldTries.{heights_at, line_at}
use Rattle.shared_trie.specs.Heights.{IsHeightAbove}
use Rattle.shared_trie.specs.CanonicalNodes.{height_of}
use Rattle.shared_trie.proofs.HeightLemmas.{IsHeight-above}

-- the height over children is above theirs
over_above : (hs : List ℕ) (children : List (ℕ × ℕ)) → IsHeightAbove hs children (height_over hs children)
over_above hs [] = record { above = All-nil (λ (child : ℕ × ℕ). slice_index hs child.1 + 1 ≤ 0); greatest = inl refl }
over_above hs (child ∷ children) =
    let rest = over_above hs children in
    let high = height_over hs children in
    let new = slice_index hs child.1 + 1 in
    let IsLow : ℕ → ℕ × ℕ → Type 0 = λ h c. slice_index hs c.1 + 1 ≤ h in
    let greatest : (max new high ≡ 0) ⊎ ((c : ℕ × ℕ) × Contains (child ∷ children) c × (slice_index hs c.1 + 1 ≡ max new high)) =
    elim (cases_lt high new) [
      | inl l ↦ inr (child, Contains-first child children, omega (arith, l))
      | inr g ↦ elim rest.greatest [
        | inl z ↦ inl (omega (arith, z, g))
        | inr (c, among, e) ↦ inr (c, Contains-later child children c among, omega (arith, e, g))
      ]
    ] in
    record {
      above = All-cons (IsLow (max new high)) child children (omega arith) (All-weaker (IsLow high) (IsLow (max new high)) (λ c l. omega (arith, l)) children rest.above);
      greatest = greatest;
    }

module _ (rows : List Row) (are : AreRows rows) where
  -- the height of a node is that over its children
  pub height_at : (node : ℕ) → node < length rows → height_of rows node ≡ height_over (heights (node_lines rows)) (row_of rows node).children
  height_at node low =
      let many = length-values node_line_over rows in
      heights_at (node_lines rows) node (omega (arith, low, many)) ∙ ap (λ (n : NodeLine). n.height) (line_at rows node are low)

  -- a child is less high
  pub child_lower : (node : ℕ) → node < length rows → (child : ℕ × ℕ) → Contains (row_of rows node).children child → height_of rows child.1 < height_of rows node
  child_lower node low child among =
      let above = All-contains (λ (c : ℕ × ℕ). slice_index (heights (node_lines rows)) c.1 + 1 ≤ height_over (heights (node_lines rows)) (row_of rows node).children) (row_of rows node).children child
      (over_above (heights (node_lines rows)) (row_of rows node).children).above among in
      let here = height_at node low in
      omega (arith, above, here)

  is_height_below : (bound node : ℕ) → node < bound → node < length rows → IsHeight rows node (height_of rows node)
  is_height_below zero node below low = absurd (omega (arith, below))
  is_height_below (suc bound) node below low =
      let hs = heights (node_lines rows) in
      let children = (row_of rows node).children in
      let known : All (λ (child : ℕ × ℕ). IsHeight rows child.1 (slice_index hs child.1)) children =
      All-weaker (IsChild rows node) (λ (child : ℕ × ℕ). IsHeight rows child.1 (slice_index hs child.1))
      (λ child c. let before = c.before in is_height_below bound child.1 (omega (arith, before, below)) (omega (arith, before, low))) children (are.each node low).children in
      subst (IsHeight rows node) (sym (height_at node low)) (IsHeight-above rows node (height_over hs children) hs are low known (over_above hs children))

  -- the height by walks is that of lines
  pub height_told : (node height : ℕ) → node < length rows → IsHeight rows node height → height ≡ height_of rows node
  height_told node height low is = IsHeight-once rows node height (height_of rows node) is (is_height_below (suc node) node (omega arith) low)
