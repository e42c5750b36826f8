-- Nodes with the same suffixes are one: they have the same deltas, and by induction on their numbers their children are the
-- same, so they have the same row, and no two rows are the same. A child that leads nowhere would break this, so each stands
-- for some suffix.
use Rattle.std.proofs.Common.{◌≡◌, ◌≢◌, ℕ, zero, suc, ◌+◌, ◌<◌, ◌≤◌, inl, inr, Option, Some, None, List, [], ◌∷◌, length, refl, sym, ◌∙◌, subst, arith}
use Rattle.std.specs.Prelude.{Contains}
use Rattle.std.specs.Cmp.{IsTotalOrder}
use Rattle.std.proofs.lemmas.Bool.{cases_order}
use Rattle.std.proofs.lemmas.Cmp.{nat_cmp_total, nat_list_cmp_total, then_total, on_total}
use Rattle.std.proofs.lemmas.List.Elements.{All-contains}
use Rattle.list_laws.proofs.Sorted.{Contains-first, same_sorted}
use Rattle.lexicon_definitions.specs.Deltas.{Delta, compare_deltas}
use Rattle.lexicon_definitions.specs.Tries.{Row, AreRows, IsChild, HasSuffix, HaveSameSuffixes, child_in, row_of, empty_row}
use Rattle.lexicon_definitions.proofs.TrieChildren.{Contains-child_among, IsChild-child_in}
use Rattle.lexicon_definitions.proofs.TrieGrowth.{walk-child, walk-none}
use Rattle.lexicon_definitions.proofs.TrieSteps.{child_among-Contains}

-- deltas are totally ordered
pub compare_deltas-total : IsTotalOrder compare_deltas
compare_deltas-total =
    then_total (on_total (λ (d : Delta). d.cut) nat_cmp_total) (then_total (on_total (λ (d : Delta). d.append) nat_list_cmp_total) (on_total (λ (d : Delta). d.tag) nat_list_cmp_total))

-- a suffix of a child, with the child's letter before it, is a suffix of the node
HasSuffix-child : (rows : List Row) (node letter child : ℕ) (word : List ℕ) (delta : Delta) → child_in rows node letter ≡ Some child
    → HasSuffix rows child word delta → HasSuffix rows node (letter ∷ word) delta
HasSuffix-child rows node letter child word delta e has =
    record { reached = has.reached; walked = walk-child rows node letter child word e ∙ has.walked; has_delta = has.has_delta }

-- a suffix of a node with a letter before it is one of the child to which the letter leads
HasSuffix-rest : (rows : List Row) (node letter : ℕ) (word : List ℕ) (delta : Delta) → HasSuffix rows node (letter ∷ word) delta
    → (child : ℕ) × (child_in rows node letter ≡ Some child) × HasSuffix rows child word delta
HasSuffix-rest rows node letter word delta has =
    let go : (o : Option ℕ) → child_in rows node letter ≡ o → (child : ℕ) × (child_in rows node letter ≡ Some child) × HasSuffix rows child word delta =
    elim [
      | None ↦ λ e. let none = walk-none rows node letter word e in let walked = has.walked in absurd cc
      | Some child ↦ λ e. (child, e, record { reached = has.reached; walked = sym (walk-child rows node letter child word e) ∙ has.walked; has_delta = has.has_delta })
    ]
    in go (child_in rows node letter) refl

-- the empty word is a suffix with just the node's own deltas
HasSuffix-empty : (rows : List Row) (node : ℕ) (delta : Delta) → HasSuffix rows node [] delta → Contains (row_of rows node).deltas delta
HasSuffix-empty rows node delta has =
    let walked = has.walked in
    let here : has.reached ≡ node = cc in
    subst (λ (n : ℕ). Contains (row_of rows n).deltas delta) here has.has_delta

-- each node below the bound with a row that is not empty has a suffix
abbrev HaveSuffixesBelow : List Row → ℕ → Type 0
HaveSuffixesBelow rows bound =
    (node : ℕ) → node < bound → node < length rows → row_of rows node ≢ empty_row
    → (word : List ℕ) × (delta : Delta) × HasSuffix rows node word delta

module _ (rows : List Row) (are : AreRows rows) where
  -- a node with a row that is not empty has a suffix
  some_suffix : (bound node : ℕ) → node < bound → node < length rows → row_of rows node ≢ empty_row
      → (word : List ℕ) × (delta : Delta) × HasSuffix rows node word delta
  some_suffix zero node below low not_empty = absurd (omega (arith, below))
  some_suffix (suc bound) node below low not_empty = by_deltas (some_suffix bound) (row_of rows node).deltas refl
    where
      by_children : HaveSuffixesBelow rows bound → (row_of rows node).deltas ≡ [] → (children : List (ℕ × ℕ)) → (row_of rows node).children ≡ children
          → (word : List ℕ) × (delta : Delta) × HasSuffix rows node word delta
      by_children smaller none [] e = absurd (not_empty (λ i. record { deltas = none i; children = e i }))
      by_children smaller none (first ∷ children) e =
          let among : Contains (row_of rows node).children first = subst (λ (cs : List (ℕ × ℕ)). Contains cs first) (sym e) (Contains-first first children) in
          let is = All-contains (IsChild rows node) (row_of rows node).children first (are.each node low).children among in
          let before = is.before in
          let (word, delta, has) = smaller first.1 (omega (arith, before, below)) (omega (arith, before, low)) is.not_empty in
          (first.0 ∷ word, delta, HasSuffix-child rows node first.0 first.1 word delta (child_among-Contains first.0 first.1 (row_of rows node).children (are.each node low).letters among) has)

      by_deltas : HaveSuffixesBelow rows bound → (deltas : List Delta) → (row_of rows node).deltas ≡ deltas
          → (word : List ℕ) × (delta : Delta) × HasSuffix rows node word delta
      by_deltas smaller [] e = by_children smaller e (row_of rows node).children refl
      by_deltas smaller (first ∷ deltas) e =
          ([], first, record { reached = node; walked = refl; has_delta = subst (λ (ds : List Delta). Contains ds first) (sym e) (Contains-first first deltas) })

  -- a child of the one is a child of the other, where children with the same suffixes are one
  shared_child : (bound left right : ℕ) → left ≤ bound → right ≤ bound → left < length rows → right < length rows
      → HaveSameSuffixes rows left right
      → ((l r : ℕ) → l < bound → r < bound → l < length rows → r < length rows → HaveSameSuffixes rows l r → l ≡ r)
      → (child : ℕ × ℕ) → Contains (row_of rows left).children child → Contains (row_of rows right).children child
  shared_child bound left right below_left below_right low_left low_right same once child among =
      let is = All-contains (IsChild rows left) (row_of rows left).children child (are.each left low_left).children among in
      let before = is.before in
      let e : child_in rows left child.0 ≡ Some child.1 = child_among-Contains child.0 child.1 (row_of rows left).children (are.each left low_left).letters among in
      let (word, delta, has) = some_suffix (suc child.1) child.1 (omega arith) (omega (arith, before, low_left)) is.not_empty in
      let (other, f, rest) = HasSuffix-rest rows right child.0 word delta ((same (child.0 ∷ word) delta).0 (HasSuffix-child rows left child.0 child.1 word delta e has)) in
      let found = IsChild-child_in rows right child.0 other are low_right f in
      let found_before = found.before in
      let to_other : (w : List ℕ) (d : Delta) → HasSuffix rows child.1 w d → HasSuffix rows other w d =
      λ w d h.
      let (third, g, r) = HasSuffix-rest rows right child.0 w d ((same (child.0 ∷ w) d).0 (HasSuffix-child rows left child.0 child.1 w d e h)) in
      let one : third ≡ other = cc in
      subst (λ (n : ℕ). HasSuffix rows n w d) one r
      in
      let from_other : (w : List ℕ) (d : Delta) → HasSuffix rows other w d → HasSuffix rows child.1 w d =
      λ w d h.
      let (third, g, r) = HasSuffix-rest rows left child.0 w d ((same (child.0 ∷ w) d).1 (HasSuffix-child rows right child.0 other w d f h)) in
      let one : third ≡ child.1 = cc in
      subst (λ (n : ℕ). HasSuffix rows n w d) one r
      in
      let one : child.1 ≡ other = once child.1 other (omega (arith, before, below_left)) (omega (arith, found_before, below_right)) (omega (arith, before, low_left)) (omega (arith, found_before, low_right)) (λ w d. (to_other w d, from_other w d)) in
      subst (λ (n : ℕ). Contains (row_of rows right).children (child.0, n)) (sym one) (Contains-child_among child.0 other (row_of rows right).children f)

  -- nodes with the same suffixes below a bound are one
  one_below : (bound left right : ℕ) → left < bound → right < bound → left < length rows → right < length rows
      → HaveSameSuffixes rows left right → left ≡ right
  one_below zero left right below_left below_right low_left low_right same = absurd (omega (arith, below_left))
  one_below (suc bound) left right below_left below_right low_left low_right same =
      let back : HaveSameSuffixes rows right left = λ w d. ((same w d).1, (same w d).0) in
      let deltas : (row_of rows left).deltas ≡ (row_of rows right).deltas =
      same_sorted compare_deltas-total (row_of rows left).deltas (row_of rows right).deltas (are.each left low_left).deltas (are.each right low_right).deltas
      (λ d m. HasSuffix-empty rows right d ((same [] d).0 (record { reached = left; walked = refl; has_delta = m })))
      (λ d m. HasSuffix-empty rows left d ((same [] d).1 (record { reached = right; walked = refl; has_delta = m })))
      in
      let children : (row_of rows left).children ≡ (row_of rows right).children =
      same_sorted (on_total (λ (c : ℕ × ℕ). c.0) nat_cmp_total) (row_of rows left).children (row_of rows right).children (are.each left low_left).letters (are.each right low_right).letters
      (shared_child bound left right (omega (arith, below_left)) (omega (arith, below_right)) low_left low_right same (one_below bound))
      (shared_child bound right left (omega (arith, below_right)) (omega (arith, below_left)) low_right low_left back (one_below bound))
      in
      let row : row_of rows left ≡ row_of rows right = λ i. record { deltas = deltas i; children = children i } in
      elim (cases_order left right) [
        | inl e ↦ e
        | inr (inl l) ↦ absurd (are.distinct left right empty_row l low_right row)
        | inr (inr l) ↦ absurd (are.distinct right left empty_row l low_left (sym row))
      ]

  -- nodes with the same suffixes are one
  pub one_from_suffixes : (left right : ℕ) → left < length rows → right < length rows → HaveSameSuffixes rows left right → left ≡ right
  one_from_suffixes left right low_left low_right =
      one_below (suc (left + right)) left right (omega arith) (omega arith) low_left low_right
