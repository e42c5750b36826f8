-- Marks: one more is set; and from the last node to the first, what a marked node leads to is marked, so at the end just the nodes that some root
-- leads to, by induction on the word that leads there.
use Rattle.std.proofs.Common.{◌≡◌, ◌≢◌, ◌↔◌, ◌⊎◌, inl, inr, ℕ, ◌+◌, ◌<◌, ◌≤◌, Bool, true, false, Option, Some, None, List, [], ◌∷◌, ◌++◌, length, get_or, true≢false, refl, sym, ◌∙◌, ap, subst, arith}
use Rattle.std.specs.Prelude.{Contains, slice_set}
use Rattle.std.proofs.lemmas.Bool.{cases_lt}
use Rattle.std.proofs.lemmas.List.{get_or-set_same, get_or-set_other, length-set}
use Rattle.std.proofs.lemmas.List.Elements.{All-contains, Contains-push, Contains-push_cases, Contains-append_left}
use Rattle.lexicon_definitions.specs.Tries.{Trie, IsChild, IsTrie, child_in, row_of, walk}
use Rattle.lexicon_definitions.proofs.TrieChildren.{Contains-child_among}
use Rattle.lexicon_definitions.proofs.TrieGrowth.{walk-child, walk-none}
use Rattle.lexicon_definitions.proofs.TrieSteps.{child_among-Contains}
use Rattle.trie_text_definitions.specs.VersionTexts.{IsLedTo}
use Rattle.shared_trie.specs.CanonicalNodes.{number_in, AreNumbered, MarksChildren, AreMarkedFrom, AreMarked}
use Rattle.shared_trie.proofs.NumbersIn.{number_append, number_push}
use Rattle.shared_trie.proofs.NumberedTries.{led_to_child}

-- ---- one more

equal_or_not : (m n : ℕ) → (m ≡ n) ⊎ (m ≢ n)
equal_or_not m n =
    elim (cases_lt m n) [
      | inl l ↦ inr (λ e. absurd (omega (arith, l, e)))
      | inr g ↦ elim (cases_lt n m) [ inl l ↦ inr (λ e. absurd (omega (arith, l, e))) | inr h ↦ inl (omega (arith, g, h)) ]
    ]

-- with one mark set
abbrev pub IsMarkedToo : List Bool → ℕ → List Bool → Type 0
IsMarkedToo old place new = (node : ℕ) → (get_or new node false ≡ true) ↔ ((get_or old node false ≡ true) ⊎ (node ≡ place))

pub mark_set : (marks : List Bool) (place : ℕ) → place < length marks → IsMarkedToo marks place (slice_set marks place true)
mark_set marks place below node =
    elim (equal_or_not node place) [
      | inl e ↦ (λ h. inr e, λ h. ap (λ k. get_or (slice_set marks place true) k false) e ∙ get_or-set_same marks place true false below)
      | inr n ↦
          let same = get_or-set_other marks place node true false n in (
            λ h. inl (sym same ∙ h),
            λ h. elim h [ inl old ↦ same ∙ old | inr e ↦ absurd (n e) ],
          )
    ]

-- ---- children

pub child_marked : (children : List (ℕ × ℕ)) (child : ℕ × ℕ) (old marks new : List Bool) → MarksChildren children old marks → length new ≡ length marks → IsMarkedToo marks child.1 new
    → MarksChildren (children ++ child ∷ []) old new
child_marked children child old marks new is long too = record {
  count = long ∙ is.count;
  each = λ node. (
    λ h. elim ((too node).0 h) [
      | inl before ↦ elim ((is.each node).0 before) [
        | inl first ↦ inl first
        | inr (c, m, e) ↦ inr (c, Contains-append_left children (child ∷ []) c m, e)
      ]
      | inr e ↦ inr (child, Contains-push children child, sym e)
    ],
    λ h. elim h [
      | inl first ↦ (too node).1 (inl ((is.each node).1 (inl first)))
      | inr (c, m, e) ↦ elim (Contains-push_cases children child c m) [
        | inl among ↦ (too node).1 (inl ((is.each node).1 (inr (c, among, e))))
        | inr same ↦ (too node).1 (inr (sym e ∙ ap (λ (x : ℕ × ℕ). x.1) (sym same)))
      ]
    ],
  );
}

-- ---- roots

-- just these nodes are marked
pub record AreJustMarked (count : ℕ) (nodes : List ℕ) (marks : List Bool) : Type 0 where
  pub count_is : length marks ≡ count
  pub each : (node : ℕ) → (get_or marks node false ≡ true) ↔ Contains nodes node

pub root_marked : (count : ℕ) (nodes : List ℕ) (node : ℕ) (marks new : List Bool) → AreJustMarked count nodes marks → length new ≡ length marks → IsMarkedToo marks node new
    → AreJustMarked count (nodes ++ node ∷ []) new
root_marked count nodes node marks new is long too = record {
  count_is = long ∙ is.count_is;
  each = λ other. (
    λ h. elim ((too other).0 h) [
      | inl before ↦ Contains-append_left nodes (node ∷ []) other ((is.each other).0 before)
      | inr e ↦ subst (Contains (nodes ++ node ∷ [])) (sym e) (Contains-push nodes node)
    ],
    λ m. elim (Contains-push_cases nodes node other m) [
      | inl among ↦ (too other).1 (inl ((is.each other).1 among))
      | inr same ↦ (too other).1 (inr (sym same))
    ],
  );
}

-- at the end just the roots are
pub roots_marked : (trie : Trie) (marks : List Bool) → IsTrie trie → AreJustMarked (length trie.rows) trie.roots marks → AreMarkedFrom trie (length trie.rows) marks
roots_marked trie marks lawful is = record {
  count = is.count_is;
  sound = λ node h. record { root = node; is_root = (is.each node).0 h; word = []; walked = refl };
  roots = λ root m. (is.each root).1 m;
  closed = λ node from h.
      let low = All-contains (λ (root : ℕ). root < length trie.rows) trie.roots node lawful.roots ((is.each node).0 h) in
      absurd (omega (arith, low, from));
}

-- ---- from the last node to the first

-- a node that is not marked has nothing to mark
pub marked_without : (trie : Trie) (node : ℕ) (marks : List Bool) → AreMarkedFrom trie (node + 1) marks → get_or marks node false ≡ false → AreMarkedFrom trie node marks
marked_without trie node marks is none = record {
  count = is.count;
  sound = is.sound;
  roots = is.roots;
  closed = λ other from h child m. elim (cases_lt node other) [
    | inl above ↦ is.closed other (omega (arith, above)) h child m
    | inr below ↦ let same : other ≡ node = omega (arith, below, from) in absurd (true≢false (sym h ∙ ap (λ k. get_or marks k false) same ∙ none))
  ];
}

-- a node that is marked marks its children
pub marked_with : (trie : Trie) → IsTrie trie → (node : ℕ) (marks new : List Bool) → node < length trie.rows → AreMarkedFrom trie (node + 1) marks → get_or marks node false ≡ true
    → MarksChildren (row_of trie.rows node).children marks new → AreMarkedFrom trie node new
marked_with trie lawful node marks new low is here marked =
    let rows = trie.rows in
    let keeps : (other : ℕ) → get_or marks other false ≡ true → get_or new other false ≡ true = λ other h. (marked.each other).1 (inl h) in
    -- what is newly marked has a smaller number
    let same_above : (other : ℕ) → node ≤ other → get_or new other false ≡ true → get_or marks other false ≡ true =
    λ other from h. elim ((marked.each other).0 h) [
      | inl old ↦ old
      | inr (child, m, e) ↦
          let before = (All-contains (IsChild rows node) (row_of rows node).children child (lawful.rows.each node low).children m).before in
          absurd (omega (arith, before, e, from))
    ] in
    record {
      count = marked.count ∙ is.count;
      sound = λ other h. elim ((marked.each other).0 h) [
        | inl old ↦ is.sound other old
        | inr (child, m, e) ↦
            subst (IsLedTo trie) e (led_to_child trie node child.0 child.1 (is.sound node here) (child_among-Contains child.0 child.1 (row_of rows node).children (lawful.rows.each node low).letters m))
      ];
      roots = λ root m. keeps root (is.roots root m);
      closed = λ other from h child m. elim (cases_lt node other) [
        | inl above ↦ keeps child.1 (is.closed other (omega (arith, above)) (same_above other from h) child m)
        | inr below ↦
            let same : other ≡ node = omega (arith, below, from) in
            (marked.each child.1).1 (inr (child, subst (λ (k : ℕ). Contains (row_of rows k).children child) same m, refl))
      ];
    }

-- at the end just those are marked to which some root leads
led_marked : (trie : Trie) (marks : List Bool) → AreMarkedFrom trie 0 marks → (word : List ℕ) (node reached : ℕ) → get_or marks node false ≡ true → walk trie.rows node word ≡ Some reached
    → get_or marks reached false ≡ true
led_marked trie marks is [] node reached h walked = let here : node ≡ reached = cc in subst (λ k. get_or marks k false ≡ true) here h
led_marked trie marks is (letter ∷ word) node reached h walked =
    let go : (o : Option ℕ) → child_in trie.rows node letter ≡ o → get_or marks reached false ≡ true =
    elim [
      | None ↦ λ e. let none = walk-none trie.rows node letter word e in absurd cc
      | Some child ↦ λ e.
          led_marked trie marks is word child reached (is.closed node (omega arith) h (letter, child) (Contains-child_among letter child (row_of trie.rows node).children e))
          (sym (walk-child trie.rows node letter child word e) ∙ walked)
    ]
    in go (child_in trie.rows node letter) refl

pub all_marked : (trie : Trie) (marks : List Bool) → AreMarkedFrom trie 0 marks → AreMarked trie marks
all_marked trie marks is = record {
  count = is.count;
  each = λ node. (λ h. is.sound node h, λ led. led_marked trie marks is led.word led.root node (is.roots led.root led.is_root) led.walked);
}

-- ---- numbers

-- a node that was not there is given the next number
pub numbered_push : (nodes numbers : List ℕ) (node : ℕ) → AreNumbered nodes numbers → node < length numbers → (Contains nodes node → ⊥)
    → AreNumbered (nodes ++ node ∷ []) (slice_set numbers node (length nodes))
numbered_push nodes numbers node are low new other m =
    let long = length-set numbers node (length nodes) in
    elim (Contains-push_cases nodes node other m) [
      | inl old ↦
          let apart : other ≢ node = λ e. new (subst (Contains nodes) e old) in
          let (below, is) = are other old in
          (omega (arith, below, long), get_or-set_other numbers node other (length nodes) 0 apart ∙ is ∙ sym (number_append nodes (node ∷ []) other old))
      | inr same ↦ (
        let at : node ≡ other = same in omega (arith, at, low, long),
        ap (λ k. get_or (slice_set numbers node (length nodes)) k 0) (sym same) ∙ get_or-set_same numbers node (length nodes) 0 low ∙ sym (number_push nodes node new)
            ∙ ap (number_in (nodes ++ node ∷ [])) same,
      )
    ]
