-- The nodes of a trie to which some root leads, level by level of their heights. Whether a root leads to a node is decided from the last node
-- on, since a child stands before its parents; and a level is put in order by lines over the levels before, and then by numbers.
use Rattle.std.proofs.Common.{◌≡◌, ◌≢◌, ◌⊎◌, inl, inr, ℕ, zero, suc, ◌+◌, ◌<◌, ◌≤◌, Option, Some, None, List, [], ◌∷◌, length, get_or, refl, sym, ◌∙◌, ap, subst, arith}
use Rattle.std.specs.Prelude.{All, AllPairs, Contains, ◌↔◌}
use Rattle.std.specs.Cmp.{IsTotalOrder}
use Rattle.std.specs.List.{range_with_len}
use Rattle.std.specs.List.Sorted.{IsStrictlySortedBy}
use Rattle.std.specs.Ordering.{nat_cmp, ordering_then}
use Rattle.std.specs.Cmp.Lexicographic.{slice_cmp}
use Rattle.std.specs.declared.cmp.Ordering.{Ordering}
use Rattle.std.specs.declared.cmp.Ordering.TheVariants.{Equal, Less}
use Rattle.std.proofs.lemmas.Bool.{cases_lt, cases_eq}
use Rattle.std.proofs.lemmas.Cmp.{nat_cmp_total, nat_list_cmp_total, then_total, on_total}
use Rattle.std.proofs.lemmas.List.Elements.{All-contains}
use Rattle.std.proofs.lemmas.Map.Keys.{Less-from_sorted}
use Rattle.std.proofs.lemmas.Map.Lookups.{CmpEqualImpliesEq, exact_bytes}
use Rattle.list_laws.specs.RisingSets.{with_element}
use Rattle.list_laws.proofs.Orderings.{equal_then_both}
use Rattle.list_laws.proofs.RisingSetLaws.{Contains-with_element, sorted-with_element}
use Rattle.list_laws.proofs.Sorted.{sorted_nil, not_Less-itself, not_Contains-nil}
use Rattle.lexicon_definitions.specs.Tries.{Row, AreRows, child_in, row_of, walk}
use Rattle.lexicon_definitions.proofs.TrieChildren.{Contains-child_among, IsChild-child_in}
use Rattle.lexicon_definitions.proofs.TrieGrowth.{walk-child, walk-none, walk-within}
use Rattle.lexicon_definitions.proofs.TrieSteps.{child_among-Contains}
use Rattle.trie_text_definitions.specs.NodeLines.{node_line}
use Rattle.trie_text_definitions.specs.VersionTexts.{IsLedTo}
use Rattle.trie_text_definitions.proofs.RootNodes.{in_range}
use Rattle.shared_trie.specs.CanonicalNodes.{height_of, numbered_row}
use Rattle.shared_trie.proofs.NumberedTries.{led_to_child}
use Rattle.existence_laws.proofs.Decisions.{Decided, told_by, both, either, is_below, is_element, holds_of_some}

-- ---- lists

-- the elements of a rising list differ
pub apart_sorted : {X : Type 0} (R : X → X → Ordering) → IsTotalOrder R → (xs : List X) → IsStrictlySortedBy R xs → AllPairs (λ left right. left ≢ right) xs
apart_sorted R total xs s i j d less within e =
    let up = Less-from_sorted R xs i j d s less within in
    not_Less-itself total (get_or xs j d) (subst (λ x. R x (get_or xs j d) ≡ Less) e up)

pub numbers_exact : CmpEqualImpliesEq nat_cmp
numbers_exact m n f =
    let words : slice_cmp nat_cmp (m ∷ []) (n ∷ []) ≡ Equal = ap (λ o. ordering_then o Equal) f in
    let same = exact_bytes (m ∷ []) (n ∷ []) words in cc

-- ---- nodes to which a root leads

last_step : (rows : List Row) (word : List ℕ) (root node : ℕ) → walk rows root word ≡ Some node
    → (root ≡ node) ⊎ ((parent : ℕ) × (before : List ℕ) × (letter : ℕ) × (walk rows root before ≡ Some parent) × (child_in rows parent letter ≡ Some node))
last_step rows [] root node e = inl (cc)
last_step rows (letter ∷ word) root node e =
    let go : (found : Option ℕ) → child_in rows root letter ≡ found
    → (root ≡ node) ⊎ ((parent : ℕ) × (before : List ℕ) × (last : ℕ) × (walk rows root before ≡ Some parent) × (child_in rows parent last ≡ Some node)) =
    elim [
      | None ↦ λ f. let none = walk-none rows root letter word f in absurd (cc)
      | Some child ↦ λ f.
          let rest = sym (walk-child rows root letter child word f) ∙ e in
          elim (last_step rows word child node rest) [
            | inl same ↦ inr (root, [], letter, refl, subst (λ (n : ℕ). child_in rows root letter ≡ Some n) same f)
            | inr (parent, before, last, w, c) ↦ inr (parent, letter ∷ before, last, walk-child rows root letter child before f ∙ w, c)
          ]
    ]
    in go (child_in rows root letter) refl

-- a parent to which a root leads
abbrev IsLedParent : List Row → List ℕ → ℕ → ℕ → Type 0
IsLedParent rows roots node parent =
    (node < parent) × (parent < length rows) × ((letter : ℕ) × (child_in rows parent letter ≡ Some node)) × IsLedTo (record { rows = rows; roots = roots }) parent

module _ (rows : List Row) (roots : List ℕ) (are : AreRows rows) (rooted : All (λ root. root < length rows) roots) where
  parent_decided : (parent node : ℕ) → parent < length rows → Decided ((letter : ℕ) × (child_in rows parent letter ≡ Some node))
  parent_decided parent node low =
      told_by
      (λ h. (
        h.0.0,
        child_among-Contains h.0.0 node (row_of rows parent).children (are.each parent low).letters
            (subst (λ (k : ℕ). Contains (row_of rows parent).children (h.0.0, k)) h.2 h.1),
      ))
      (λ h. ((h.0, node), Contains-child_among h.0 node (row_of rows parent).children h.1, refl))
      (holds_of_some (λ (child : ℕ × ℕ). child.1 ≡ node) (λ child. cases_eq child.1 node) (row_of rows parent).children)

  pub led_decided : (gap node : ℕ) → length rows ≤ node + gap → node < length rows → Decided (IsLedTo (record { rows = rows; roots = roots }) node)
  led_decided zero node far low = absurd (omega (arith, far, low))
  led_decided (suc gap) node far low =
      told_by to back (either (is_element cases_eq roots node) (holds_of_some (IsLedParent rows roots node) (each (λ parent. led_decided gap parent)) (range_with_len 0 (length rows))))
    where
      each : ((parent : ℕ) → length rows ≤ parent + gap → parent < length rows → Decided (IsLedTo (record { rows = rows; roots = roots }) parent))
          → (parent : ℕ) → Decided (IsLedParent rows roots node parent)
      each decided parent = elim (both (is_below node parent) (is_below parent (length rows))) [
        | inl h ↦
            let above = h.0 in
            told_by (λ p. (h.0, h.1, p.0, p.1)) (λ q. (q.2, q.3)) (both (parent_decided parent node h.1) (decided parent (omega (arith, far, above)) h.1))
        | inr not ↦ inr (λ q. not (q.0, q.1))
      ]

      to : Contains roots node ⊎ ((parent : ℕ) × Contains (range_with_len 0 (length rows)) parent × IsLedParent rows roots node parent)
          → IsLedTo (record { rows = rows; roots = roots }) node
      to (inl m) = record { root = node; is_root = m; word = []; walked = refl }
      to (inr p) = led_to_child (record { rows = rows; roots = roots }) p.0 p.2.2.0 node p.2.3 p.2.2.1

      back : IsLedTo (record { rows = rows; roots = roots }) node
          → Contains roots node ⊎ ((parent : ℕ) × Contains (range_with_len 0 (length rows)) parent × IsLedParent rows roots node parent)
      back led = elim (last_step rows led.word led.root node led.walked) [
        | inl same ↦ inl (subst (Contains roots) same led.is_root)
        | inr (parent, before, letter, walked, e) ↦
            let start = All-contains (λ root. root < length rows) roots led.root rooted led.is_root in
            let within = walk-within rows are before led.root parent start walked in
            let inside : parent < length rows = omega (arith, start, within) in
            let lower = (IsChild-child_in rows parent letter node are inside e).before in
            inr (
              parent,
              in_range 0 (length rows) parent (omega arith) (omega (arith, inside)),
              (lower, inside, (letter, e), record { root = led.root; is_root = led.is_root; word = before; walked = walked }),
            )
      ]

  -- ---- a level

  -- the node has the height, and a root leads to it
  abbrev pub IsAt : ℕ → ℕ → Type 0
  IsAt height node = (node < length rows) × (height_of rows node ≡ height) × IsLedTo (record { rows = rows; roots = roots }) node

  pub at_decided : (height node : ℕ) → Decided (IsAt height node)
  at_decided height node = elim (is_below node (length rows)) [
    | inl low ↦
        told_by (λ h. (low, h.0, h.1)) (λ h. (h.1, h.2)) (both (cases_eq (height_of rows node) height) (led_decided (length rows) node (omega arith) low))
    | inr not ↦ inr (λ h. not h.0)
  ]

  -- the line of a node by its place and those of its children among these
  abbrev pub line : List ℕ → ℕ → List ℕ
  line nodes node = node_line (numbered_row nodes (row_of rows node))

  -- by the lines over an order of lower nodes, and then by number
  abbrev pub compare : List ℕ → ℕ → ℕ → Ordering
  compare order left right = ordering_then (slice_cmp nat_cmp (line order left) (line order right)) (nat_cmp left right)

  pub compare_total : (order : List ℕ) → IsTotalOrder (compare order)
  compare_total order = then_total (on_total (line order) nat_list_cmp_total) nat_cmp_total

  compare_exact : (order : List ℕ) → CmpEqualImpliesEq (compare order)
  compare_exact order left right e =
      let parts = equal_then_both (slice_cmp nat_cmp (line order left) (line order right)) (nat_cmp left right) e in numbers_exact left right parts.1

  abbrev pub with_if : {A : Type 0} → Decided A → List ℕ → List ℕ → ℕ → List ℕ
  with_if (inl a) order set node = with_element (compare order) set node
  with_if (inr not) order set node = set

  abbrev pub level : ℕ → List ℕ → ℕ → List ℕ
  level height order zero = []
  level height order (suc bound) = with_if (at_decided height bound) order (level height order bound) bound

  if_has : {A : Type 0} (d : Decided A) (order set : List ℕ) (node other : ℕ) → Contains (with_if d order set node) other ↔ (Contains set other ⊎ (A × (node ≡ other)))
  if_has (inl a) order set node other =
      let law = Contains-with_element (compare_total order) (compare_exact order) set node other in (
        λ m. elim (law.0 m) [ inl n ↦ inl n | inr e ↦ inr (a, e) ],
        λ h. law.1 (elim h [ inl n ↦ inl n | inr p ↦ inr p.1 ]),
      )
  if_has (inr not) order set node other = (λ m. inl m, λ h. elim h [ inl n ↦ n | inr p ↦ absurd (not p.0) ])

  pub level_has : (height : ℕ) (order : List ℕ) (bound node : ℕ) → Contains (level height order bound) node ↔ ((node < bound) × IsAt height node)
  level_has height order zero node = (λ m. absurd (not_Contains-nil node m), λ h. let below = h.0 in absurd (omega (arith, below)))
  level_has height order (suc bound) node =
      let law = if_has (at_decided height bound) order (level height order bound) bound node in
      let before = level_has height order bound node in (
        λ m. elim (law.0 m) [
          | inl n ↦ let h = before.0 n in let below = h.0 in (omega (arith, below), h.1)
          | inr p ↦ let e = p.1 in (omega (arith, e), subst (IsAt height) e p.0)
        ],
        λ h. law.1 (elim (cases_lt node bound) [
          | inl less ↦ inl (before.1 (less, h.1))
          | inr up ↦ let below = h.0 in let e : bound ≡ node = omega (arith, up, below) in inr (subst (IsAt height) (sym e) h.1, e)
        ]),
      )

  if_rises : {A : Type 0} (d : Decided A) (order set : List ℕ) (node : ℕ) → IsStrictlySortedBy (compare order) set → IsStrictlySortedBy (compare order) (with_if d order set node)
  if_rises (inl a) order set node s = sorted-with_element (compare_total order) (compare_exact order) set node s
  if_rises (inr not) order set node s = s

  pub level_rises : (height : ℕ) (order : List ℕ) (bound : ℕ) → IsStrictlySortedBy (compare order) (level height order bound)
  level_rises height order zero = sorted_nil (compare order)
  level_rises height order (suc bound) = if_rises (at_decided height bound) order (level height order bound) bound (level_rises height order bound)
