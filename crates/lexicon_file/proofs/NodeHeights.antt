-- The height of a node as the lines tell it is the length of the longest word that can be walked from it: so it is of its children, whose
-- numbers are smaller. There is one such length.
use Rattle.std.proofs.Common.{◌≡◌, ℕ, zero, suc, ◌+◌, ◌<◌, ◌≤◌, ◌⊎◌, inl, inr, List, [], ◌∷◌, ◌++◌, length, take, max, get_or, sym, ◌∙◌, ap, subst, arith}
use Rattle.std.specs.Prelude.{All, Contains, slice_index}
use Rattle.std.specs.Ordering.{nat_cmp, ord_max}
use Rattle.std.proofs.lemmas.Bool.{cases_lt}
use Rattle.std.proofs.lemmas.List.{take_more}
use Rattle.std.proofs.lemmas.List.Elements.{All-cons, All-weaker, All-get_or}
use Rattle.lexicon_definitions.specs.Tries.{Row, AreRows, IsChild, IsHeight, row_of, walk}
use Rattle.lexicon_definitions.proofs.TrieGrowth.{walk-within}
use Rattle.trie_text_definitions.specs.NodeLines.{NodeLine, heights, node_line_over, node_lines}
use Rattle.trie_text_definitions.specs.NodeValues.{height_over}
use Rattle.trie_text_definitions.proofs.NodeValueLaws.{length-values}
use Rattle.trie_text_definitions.proofs.RootNodes.{reached_by}
use Rattle.trie_text_definitions.proofs.ToldTries.{heights_at, line_at}
use Rattle.shared_trie.specs.Heights.{IsHeightAbove}
use Rattle.shared_trie.proofs.HeightLemmas.{IsHeightAbove-nil, IsHeight-above, ord_max-nat}
use Rattle.list_laws.proofs.Sorted.{Contains-first, Contains-later}

-- the height over children is above theirs, and one of them has the greatest
above_over : (hs : List ℕ) (children : List (ℕ × ℕ)) → IsHeightAbove hs children (height_over hs children)
above_over hs [] = IsHeightAbove-nil hs
above_over hs (child ∷ children) =
    let rest = above_over hs children in
    let new = get_or hs child.1 0 + 1 in
    let most = max new (height_over hs children) in
    let IsLow : ℕ → ℕ × ℕ → Type 0 = λ h c. slice_index hs c.1 + 1 ≤ h in
    let greatest : (most ≡ 0) ⊎ ((c : ℕ × ℕ) × Contains (child ∷ children) c × (slice_index hs c.1 + 1 ≡ most)) =
    elim (cases_lt (height_over hs children) new) [
      | inl less ↦ inr (child, Contains-first child children, omega (arith, less))
      | inr above ↦ elim rest.greatest [
        | inl none ↦ absurd (omega (arith, none, above))
        | inr (c, among, e) ↦ inr (c, Contains-later child children c among, omega (arith, e, above))
      ]
    ] in
    record {
      above = All-cons (IsLow most) child children (omega arith) (All-weaker (IsLow (height_over hs children)) (IsLow most) (λ c l. omega (arith, l)) children rest.above);
      greatest = greatest;
    }

module _ (rows : List Row) (are : AreRows rows) where
  told : (node : ℕ) → node < length rows → get_or (heights (node_lines rows)) node 0 ≡ height_over (heights (node_lines rows)) (row_of rows node).children
  told node low =
      let many = length-values node_line_over rows in
      heights_at (node_lines rows) node (omega (arith, low, many)) ∙ ap (λ (n : NodeLine). n.height) (line_at rows node are low)

  height_below : (bound node : ℕ) → node < bound → node < length rows → IsHeight rows node (get_or (heights (node_lines rows)) node 0)
  height_below zero node below low = absurd (omega (arith, below))
  height_below (suc bound) node below low =
      let children = (row_of rows node).children in
      let hs = heights (node_lines rows) in
      subst (IsHeight rows node) (sym (told node low))
      (IsHeight-above rows node (height_over hs children) hs are low
      (All-weaker (IsChild rows node) (λ (child : ℕ × ℕ). IsHeight rows child.1 (slice_index hs child.1))
      (λ child is. let before = is.before in height_below bound child.1 (omega (arith, before, below)) (omega (arith, before, low))) children (are.each node low).children)
      (above_over hs children))

  one_height : (node a b : ℕ) → IsHeight rows node a → IsHeight rows node b → a ≡ b
  one_height node a b h k =
      let up = k.longest h.word h.walks in
      let down = h.longest k.word k.walks in
      let long = h.has_length in
      let other = k.has_length in
      omega (arith, up, down, long, other)

  -- the height of a node is that of its line
  pub height_told : (node height : ℕ) → node < length rows → IsHeight rows node height → height ≡ get_or (heights (node_lines rows)) node 0
  height_told node height low is = one_height node height (get_or (heights (node_lines rows)) node 0) is (height_below (suc node) node (omega arith) low)

-- ---- the height above children, one child after another

over_append : (hs : List ℕ) (children more : List (ℕ × ℕ)) → height_over hs (children ++ more) ≡ max (height_over hs children) (height_over hs more)
over_append hs [] more = omega arith
over_append hs (child ∷ children) more =
    let grouped : max (get_or hs child.1 0 + 1) (max (height_over hs children) (height_over hs more)) ≡ max (max (get_or hs child.1 0 + 1) (height_over hs children)) (height_over hs more) = omega arith in
    ap (max (get_or hs child.1 0 + 1)) (over_append hs children more) ∙ grouped

-- one child more
pub over_next : (rows : List Row) (children : List (ℕ × ℕ)) (k : ℕ) (child : ℕ × ℕ) (before height after : ℕ) → AreRows rows → All (λ (child : ℕ × ℕ). child.1 < length rows) children
    → k < length children → child ≡ get_or children k child → before ≡ height_over (heights (node_lines rows)) (take k children) → IsHeight rows child.1 height
    → after ≡ ord_max nat_cmp before (height + 1) → after ≡ height_over (heights (node_lines rows)) (take (k + 1) children)
over_next rows children k child before height after are known inside here so_far is e =
    let hs = heights (node_lines rows) in
    let low : child.1 < length rows = subst (λ (c : ℕ × ℕ). c.1 < length rows) (sym here) (All-get_or (λ (c : ℕ × ℕ). c.1 < length rows) children k child inside known) in
    let its = height_told rows are child.1 height low is in
    let last : height + 1 ≡ height_over hs (child ∷ []) = omega (arith, its) in
    let more : take (k + 1) children ≡ take k children ++ child ∷ [] = take_more children k child inside ∙ ap (λ (c : ℕ × ℕ). take k children ++ c ∷ []) (sym here) in
    e ∙ ord_max-nat before (height + 1) ∙ (λ i. max (so_far i) (last i)) ∙ sym (ap (height_over hs) more ∙ over_append hs (take k children) (child ∷ []))

-- the height is no greater than the number
pub height_small : (rows : List Row) (node height : ℕ) → AreRows rows → node < length rows → IsHeight rows node height → height ≤ node
height_small rows node height are low is =
    let (reached, walked) = reached_by (walk rows node is.word) is.walks in
    let within = walk-within rows are is.word node reached low walked in
    let long = is.has_length in
    omega (arith, within, long)
