-- The height above children, one child after another: the greater of the height so far and one more than the child's. It is
-- the height of a node with these children, since each longer word goes through a child.
use Rattle.std.proofs.Common.{◌≡◌, ℕ, ◌+◌, ◌<◌, ◌≤◌, ◌⊎◌, inl, inr, List, [], ◌∷◌, ◌++◌, length, max, Option, Some, None, refl, sym, ◌∙◌, ap, subst, arith, true≢false}
use Rattle.std.specs.Prelude.{slice_index, All, Contains, IsSome, is_some}
use Rattle.std.specs.Ordering.{nat_cmp, ord_max}
use Rattle.std.proofs.lemmas.Bool.Decides.{nat_tests}
use Rattle.std.proofs.lemmas.Bool.{cases_lt}
use Rattle.std.proofs.lemmas.List.Elements.{All-append, All-cons, All-nil, All-weaker, All-contains, Contains-append_left, Contains-push}
use Rattle.std.proofs.lemmas.List.{get_or_append_left, get_or_push, length_push}
use Rattle.lexicon_definitions.specs.Tries.{Row, AreRows, IsChild, IsRow, IsHeight, child_in, row_of, walk}
use Rattle.lexicon_definitions.proofs.TrieChildren.{Contains-child_among}
use Rattle.lexicon_definitions.proofs.TrieGrowth.{IsHeight-append, row_of-push, walk-child, walk-none}
use Rattle.lexicon_definitions.proofs.TrieSteps.{child_among-Contains}
use Rattle.shared_trie.specs.Heights.{AreHeights, IsHeightAbove}

-- no children, no height
pub IsHeightAbove-nil : (heights : List ℕ) → IsHeightAbove heights [] 0
IsHeightAbove-nil heights = record { above = All-nil (λ (child : ℕ × ℕ). slice_index heights child.1 + 1 ≤ 0); greatest = inl refl }

-- one child more
pub IsHeightAbove-push : (heights : List ℕ) (children : List (ℕ × ℕ)) (child : ℕ × ℕ) (height : ℕ) → IsHeightAbove heights children height
    → IsHeightAbove heights (children ++ child ∷ []) (max height (slice_index heights child.1 + 1))
IsHeightAbove-push heights children child height is =
    let new = slice_index heights child.1 + 1 in
    let IsLow : ℕ → ℕ × ℕ → Type 0 = λ h c. slice_index heights c.1 + 1 ≤ h in
    let above : All (IsLow (max height new)) (children ++ child ∷ []) =
    All-append (IsLow (max height new)) children (child ∷ []) (All-weaker (IsLow height) (IsLow (max height new)) (λ c l. omega (arith, l)) children is.above)
    (All-cons (IsLow (max height new)) child [] (omega arith) (All-nil (IsLow (max height new)))) in
    let greatest : (max height new ≡ 0) ⊎ ((c : ℕ × ℕ) × Contains (children ++ child ∷ []) c × (slice_index heights c.1 + 1 ≡ max height new)) =
    elim (cases_lt height new) [
      | inl l ↦ inr (child, Contains-push children child, omega (arith, l))
      | inr g ↦ elim is.greatest [
        | inl z ↦ inl (omega (arith, z, g))
        | inr (c, among, e) ↦ inr (c, Contains-append_left children (child ∷ []) c among, omega (arith, e, g))
      ]
    ]
    in record { above = above; greatest = greatest }

-- the program's maximum of two numbers
pub ord_max-nat : (m n : ℕ) → ord_max nat_cmp m n ≡ max m n
ord_max-nat m n = grind (arith, nat_tests)

-- a node with a height above its children has this height
pub IsHeight-above : (rows : List Row) (node height : ℕ) (heights : List ℕ) → AreRows rows → node < length rows
    → All (λ (child : ℕ × ℕ). IsHeight rows child.1 (slice_index heights child.1)) (row_of rows node).children
    → IsHeightAbove heights (row_of rows node).children height → IsHeight rows node height
IsHeight-above rows node height heights are low known is =
    let children = (row_of rows node).children in
    let Known : ℕ × ℕ → Type 0 = λ c. IsHeight rows c.1 (slice_index heights c.1) in
    let longest : (other : List ℕ) → IsSome (walk rows node other) → length other ≤ height =
    elim [
      | [] ↦ λ walks. omega arith
      | letter ∷ other ↦ λ walks.
          let go : (o : Option ℕ) → child_in rows node letter ≡ o → length (letter ∷ other) ≤ height =
          elim [
            | None ↦ λ e. absurd (true≢false (sym walks ∙ ap is_some (walk-none rows node letter other e)))
            | Some child ↦ λ e.
                let among = Contains-child_among letter child children e in
                let rest = (All-contains Known children (letter, child) known among).longest other (subst IsSome (walk-child rows node letter child other e) walks) in
                let above = All-contains (λ (c : ℕ × ℕ). slice_index heights c.1 + 1 ≤ height) children (letter, child) is.above among in
                omega (arith, rest, above)
          ]
          in go (child_in rows node letter) refl
    ]
    in
    elim is.greatest [
      | inl none ↦ record { word = []; has_length = sym none; walks = refl; longest = longest }
      | inr (child, among, e) ↦
          let its = All-contains Known children child known among in
          let long = its.has_length in
          record {
            word = child.0 ∷ its.word;
            has_length = omega (arith, long, e);
            walks = subst IsSome (sym (walk-child rows node child.0 child.1 its.word (child_among-Contains child.0 child.1 children (are.each node low).letters among))) its.walks;
            longest = longest;
          }
    ]

-- one node more, with a height above its children
pub AreHeights-push : (rows : List Row) (row : Row) (heights : List ℕ) (height : ℕ) → AreRows rows → AreRows (rows ++ row ∷ [])
    → AreHeights rows heights → IsHeightAbove heights row.children height → height ≤ length rows
    → IsRow rows (length rows) row → AreHeights (rows ++ row ∷ []) (heights ++ height ∷ [])
AreHeights-push rows row heights height are more known is small may =
    let count = known.count in
    let long = length_push rows row in
    let longer = length_push heights height in
    let before : (node : ℕ) → node < length rows → slice_index (heights ++ height ∷ []) node ≡ slice_index heights node =
    λ node l. get_or_append_left heights (height ∷ []) 0 node (omega (arith, l, count)) in
    let last : (node : ℕ) → length rows ≡ node → slice_index (heights ++ height ∷ []) node ≡ height =
    λ node e. get_or_push heights height 0 node (omega (arith, e, count)) in
    let at_end : IsHeight (rows ++ row ∷ []) (length rows) height =
    IsHeight-above (rows ++ row ∷ []) (length rows) height heights more (omega (arith, long))
    (subst (λ (r : Row). All (λ (child : ℕ × ℕ). IsHeight (rows ++ row ∷ []) child.1 (slice_index heights child.1)) r.children) (sym (row_of-push rows row))
    (All-weaker (IsChild rows (length rows)) (λ (child : ℕ × ℕ). IsHeight (rows ++ row ∷ []) child.1 (slice_index heights child.1))
    (λ child c. IsHeight-append rows (row ∷ []) child.1 (slice_index heights child.1) are c.before (known.each child.1 c.before)) row.children may.children))
    (subst (λ (r : Row). IsHeightAbove heights r.children height) (sym (row_of-push rows row)) is) in
    record {
      count = omega (arith, count, long, longer);
      each = λ node low.
          elim (cases_lt node (length rows)) [
            | inl l ↦ subst (IsHeight (rows ++ row ∷ []) node) (sym (before node l)) (IsHeight-append rows (row ∷ []) node (slice_index heights node) are l (known.each node l))
            | inr g ↦
                let e : length rows ≡ node = omega (arith, g, low, long) in
                subst (IsHeight (rows ++ row ∷ []) node) (sym (last node e)) (subst (λ (n : ℕ). IsHeight (rows ++ row ∷ []) n height) e at_end)
          ];
      low = λ node low.
          elim (cases_lt node (length rows)) [
            | inl l ↦ let same = before node l in let k = known.low node l in omega (arith, same, k)
            | inr g ↦ let e : length rows ≡ node = omega (arith, g, low, long) in let h = last node e in omega (arith, e, h, small)
          ];
    }
