-- A node is led to where it is a root, or a child of a node that is led to; and since a child has a smaller number than its parent, it is enough
-- that each node is a root or a child: by induction from the last node down.
use Rattle.std.proofs.Common.{◌≡◌, ℕ, zero, suc, ◌+◌, ◌<◌, ◌≤◌, ◌==◌, ◌↔◌, ◌⊎◌, inl, inr, Bool, true, false, not, List, length, get_or, refl, sym, ◌∙◌, ap, subst, arith}
use Rattle.std.specs.Prelude.{Contains}
use Rattle.std.specs.List.{list_any, flat_map, range_with_len}
use Rattle.std.proofs.lemmas.Bool.{cases_lt, eqb-true, eq-eqb, not_from_true, true_from_ne_false, true≢false, cases_Bool}
use Rattle.std.proofs.lemmas.List.{get_or_default}
use Rattle.std.proofs.lemmas.List.Elements.{All-contains}
use Rattle.std.proofs.lemmas.List.Folds.{Any-from_list_any, list_any_at, list_any_none}
use Rattle.list_laws.proofs.Sorted.{Contains-first, Contains-later, Contains-cons_cases, All-from_Contains}
use Rattle.lexicon_definitions.specs.Tries.{Row, Trie, IsTrie, AreRows, row_of}
use Rattle.trie_text_definitions.specs.NodeValues.{nodes_from, is_led_to, has_unused}
use Rattle.trie_text_definitions.proofs.RootNodes.{any_contained, in_range}
use Rattle.trie_text_definitions.proofs.SuffixLaws.{Contains-flat_map, Contains-flat_map_cases}
use Rattle.trie_text_definitions.proofs.TrieTextsRead.{nodes_are}
use Rattle.trie_checks.specs.Marks.{IsMarked, LeadTo}
use Rattle.trie_checks.proofs.SuffixSteps.{child_before}
use Rattle.trie_checks.proofs.RightDeltas.{range_below}

-- the node is a child of one of the first nodes, so many of them
pub record HasParent (rows : List Row) (count node : ℕ) : Type 0 where
  pub parent : ℕ
  pub within : parent < count
  pub leads : LeadTo (row_of rows parent).children node

-- the children of one node more
parent_next : (rows : List Row) (count node : ℕ) → HasParent rows (count + 1) node ↔ (HasParent rows count node ⊎ LeadTo (row_of rows count).children node)
parent_next rows count node = (
  λ h.
      let within = h.within in
      elim (cases_lt h.parent count) [
        | inl less ↦ inl (record { parent = h.parent; within = less; leads = h.leads })
        | inr here ↦ let same : h.parent ≡ count = omega (arith, within, here) in inr (subst (λ p. LeadTo (row_of rows p).children node) same h.leads)
      ],
  elim [
    | inl h ↦ record { parent = h.parent; within = let less = h.within in omega (arith, less); leads = h.leads }
    | inr leads ↦ record { parent = count; within = omega arith; leads = leads }
  ],
)

pub marks_next : (rows : List Row) (roots : List ℕ) (count : ℕ) (old new : List Bool) (node : ℕ)
    → IsMarked new node ↔ (IsMarked old node ⊎ LeadTo (row_of rows count).children node)
    → IsMarked old node ↔ (Contains roots node ⊎ HasParent rows count node) → IsMarked new node ↔ (Contains roots node ⊎ HasParent rows (count + 1) node)
marks_next rows roots count old new node marked known =
    let next = parent_next rows count node in (
      λ h. elim (marked.0 h) [
        | inl before ↦ elim (known.0 before) [ inl root ↦ inl root | inr parent ↦ inr (next.1 (inl parent)) ]
        | inr leads ↦ inr (next.1 (inr leads))
      ],
      elim [
        | inl root ↦ marked.1 (inl (known.1 (inl root)))
        | inr h ↦ elim (next.0 h) [ inl parent ↦ marked.1 (inl (known.1 (inr parent))) | inr leads ↦ marked.1 (inr leads) ]
      ],
    )

any_there : {X : Type 0} (test : X → Bool) (xs : List X) → list_any test xs ≡ true → (x : X) × Contains xs x × (test x ≡ true)
any_there test xs h = let (k, x, below, is, passed) = Any-from_list_any test xs h in (x, (k, below, is), passed)

module _ (rows : List Row) (are : AreRows rows) where
  abbrev nodes_after : ℕ → List ℕ
  nodes_after node = flat_map (λ (child : ℕ × ℕ). nodes_from rows child.1) (row_of rows node).children

  from_itself : (node : ℕ) → node < length rows → Contains (nodes_from rows node) node
  from_itself node low = subst (λ (ns : List ℕ). Contains ns node) (sym (nodes_are rows are node low)) (Contains-first node (nodes_after node))

  from_child : (node reached : ℕ) → node < length rows → (child : ℕ × ℕ) → Contains (row_of rows node).children child
      → Contains (nodes_from rows child.1) reached → Contains (nodes_from rows node) reached
  from_child node reached low child m n =
      subst (λ (ns : List ℕ). Contains ns reached) (sym (nodes_are rows are node low))
      (Contains-later node (nodes_after node) reached (Contains-flat_map (λ (c : ℕ × ℕ). nodes_from rows c.1) (row_of rows node).children child reached m n))

  -- what a node leads to: itself, or what a child leads to
  from_cases : (node reached : ℕ) → node < length rows → Contains (nodes_from rows node) reached
      → (node ≡ reached) ⊎ ((child : ℕ × ℕ) × Contains (row_of rows node).children child × Contains (nodes_from rows child.1) reached)
  from_cases node reached low m =
      elim (Contains-cons_cases node (nodes_after node) reached (subst (λ (ns : List ℕ). Contains ns reached) (nodes_are rows are node low) m)) [
        | inl same ↦ inl same
        | inr later ↦ inr (Contains-flat_map_cases (λ (c : ℕ × ℕ). nodes_from rows c.1) (row_of rows node).children reached later)
      ]

  -- a node leads to the children of those that it leads to
  led_on : (bound top parent node : ℕ) → top < bound → top < length rows → Contains (nodes_from rows top) parent → LeadTo (row_of rows parent).children node
      → Contains (nodes_from rows top) node
  led_on zero top parent node below low m leads = absurd (omega (arith, below))
  led_on (suc bound) top parent node below low m leads =
      elim (from_cases top parent low m) [
        | inl same ↦
            let (letter, n) = subst (λ p. LeadTo (row_of rows p).children node) (sym same) leads in
            let less = child_before rows are top low (letter, node) n in
            from_child top node low (letter, node) n (from_itself node (omega (arith, less, low)))
        | inr h ↦
            let less = child_before rows are top low h.0 h.1 in
            from_child top node low h.0 h.1 (led_on bound h.0.1 parent node (omega (arith, less, below)) (omega (arith, less, low)) h.2 leads)
      ]

  -- a node leads to itself and to children
  itself_or_child : (bound top node : ℕ) → top < bound → top < length rows → Contains (nodes_from rows top) node
      → (top ≡ node) ⊎ HasParent rows (length rows) node
  itself_or_child zero top node below low m = absurd (omega (arith, below))
  itself_or_child (suc bound) top node below low m =
      elim (from_cases top node low m) [
        | inl same ↦ inl same
        | inr h ↦
            let less = child_before rows are top low h.0 h.1 in
            elim (itself_or_child bound h.0.1 node (omega (arith, less, below)) (omega (arith, less, low)) h.2) [
              | inl same ↦ inr (record {
                parent = top;
                within = low;
                leads = (h.0.0, subst (λ n. Contains (row_of rows top).children (h.0.0, n)) same h.1);
              })
              | inr found ↦ inr found
            ]
      ]

module _ (trie : Trie) (is : IsTrie trie) where
  abbrev rows : List Row
  rows = trie.rows

  -- some root leads to the node
  abbrev IsLed : ℕ → Type 0
  IsLed node = (root : ℕ) × Contains trie.roots root × Contains (nodes_from rows root) node

  low_root : (root : ℕ) → Contains trie.roots root → root < length rows
  low_root root m = All-contains (λ (r : ℕ). r < length rows) trie.roots root is.roots m

  led_test : (node : ℕ) → IsLed node → is_led_to trie node ≡ true
  led_test node led =
      any_contained (λ root. list_any (λ reached. reached == node) (nodes_from rows root)) trie.roots led.0 led.1
      (any_contained (λ reached. reached == node) (nodes_from rows led.0) node led.2 (eq-eqb node node refl))

  led_by_test : (node : ℕ) → is_led_to trie node ≡ true → IsLed node
  led_by_test node passes =
      let (root, m, some) = any_there (λ root. list_any (λ reached. reached == node) (nodes_from rows root)) trie.roots passes in
      let (reached, n, e) = any_there (λ reached. reached == node) (nodes_from rows root) some in
      (root, m, subst (Contains (nodes_from rows root)) (eqb-true reached node e) n)

  -- the node is a root or a child
  abbrev IsRootOrChild : ℕ → Type 0
  IsRootOrChild node = Contains trie.roots node ⊎ HasParent rows (length rows) node

  root_or_child : (node : ℕ) → IsLed node → IsRootOrChild node
  root_or_child node led =
      elim (itself_or_child rows is.rows (suc led.0) led.0 node (omega arith) (low_root led.0 led.1) led.2) [
        | inl same ↦ inl (subst (Contains trie.roots) same led.1)
        | inr found ↦ inr found
      ]

  all_led : ((node : ℕ) → node < length rows → IsRootOrChild node) → (above node : ℕ) → length rows ≤ node + above → node < length rows → IsLed node
  all_led each zero node enough low = absurd (omega (arith, enough, low))
  all_led each (suc above) node enough low =
      elim (each node low) [
        | inl m ↦ (node, m, from_itself rows is.rows node low)
        | inr found ↦
            let within = found.within in
            let less = child_before rows is.rows found.parent within (found.leads.0, node) found.leads.1 in
            let led = all_led each above found.parent (omega (arith, less, enough)) within in
            (led.0, led.1, led_on rows is.rows (suc led.0) led.0 found.parent node (omega arith) (low_root led.0 led.1) led.2 found.leads)
      ]

  module _ (marks : List Bool) (count : length marks ≡ length rows) (told : (node : ℕ) → IsMarked marks node ↔ IsRootOrChild node)
      (test : Bool → Bool) (fails : test true ≡ false) (passes : test false ≡ true) where
    -- where no node is unmarked, none is unused
    all_marked : list_any test marks ≡ false → has_unused trie ≡ false
    all_marked none =
        let each : (node : ℕ) → node < length rows → IsRootOrChild node = λ node low.
        (told node).0 (true_from_ne_false (get_or marks node false) (λ off.
        let found = list_any_at test marks node false (omega (arith, low, count)) (ap test off ∙ passes) in
        true≢false (sym found ∙ none)))
        in
        list_any_none (λ node. not (is_led_to trie node)) (range_with_len 0 (length rows))
        (All-from_Contains (λ node. not (is_led_to trie node) ≡ false) (range_with_len 0 (length rows)) (λ node m.
        let low = range_below 0 (length rows) node m in
        not_from_true (is_led_to trie node) (led_test node (all_led each (length rows) node (omega arith) (omega (arith, low))))))

    all_used : has_unused trie ≡ false → list_any test marks ≡ false
    all_used none =
        list_any_none test marks (λ k d low.
        let on : is_led_to trie k ≡ true = true_from_ne_false (is_led_to trie k) (λ off.
        let some = any_contained (λ node. not (is_led_to trie node)) (range_with_len 0 (length rows)) k (in_range 0 (length rows) k (omega arith) (omega (arith, low, count))) (ap not off) in
        true≢false (sym some ∙ none))
        in
        let mark = (told k).1 (root_or_child k (led_by_test k on)) in
        ap test (get_or_default marks k d false low ∙ mark) ∙ fails)

    -- some node is unmarked exactly where one is unused
    pub unused_told : list_any test marks ≡ has_unused trie
    unused_told =
        elim (cases_Bool (has_unused trie)) [
          | inl holds ↦ true_from_ne_false (list_any test marks) (λ none. true≢false (sym holds ∙ all_marked none)) ∙ sym holds
          | inr lacks ↦ all_used lacks ∙ sym lacks
        ]
