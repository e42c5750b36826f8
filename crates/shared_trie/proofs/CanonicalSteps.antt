-- What is kept while nodes are put in their order: the greatest height so far, the nodes of a level so far, those that have numbers, and the
-- levels that are placed.
use Rattle.std.proofs.Common.{◌≡◌, ◌≢◌, ◌↔◌, inl, inr, ℕ, ◌+◌, ◌<◌, ◌≤◌, Bool, true, false, nat_eq, List, [], ◌∷◌, ◌++◌, length, map, take, drop, get_or, max, sym, ◌∙◌, ap, subst, arith}
use Rattle.std.specs.Prelude.{AllPairs, Contains, IsTrue}
use Rattle.std.proofs.lemmas.Bool.{cases_lt, eq-eqb, eqb-true}
use Rattle.std.proofs.lemmas.List.{append_assoc, get_or_append_left, get_or-append-add, length-append, map-append, take-append-drop, drop_more}
use Rattle.std.proofs.lemmas.List.Elements.{All-contains, Contains-get_or, Contains-push, Contains-push_cases, Contains-append_left}
use Rattle.std.proofs.lemmas.List.Quantifiers.{all_pairs_push}
use Rattle.list_laws.proofs.Sorted.{not_Contains-nil, sorted_nil}
use Rattle.lexicon_definitions.specs.Tries.{Row, Trie, AreRows, IsHeight, IsTrie}
use Rattle.lexicon_definitions.proofs.TrieGrowth.{walk-within}
use Rattle.trie_text_definitions.specs.NodeLines.{compare_node_lines}
use Rattle.trie_text_definitions.specs.VersionTexts.{IsLedTo}
use Rattle.shared_trie.specs.CanonicalNodes.{height_of, AreMarked, IsCanonical, ArePlaced, IsLevelOf, NodeText}
use Rattle.shared_trie.proofs.CanonicalOrders.{canonical_order}
use Rattle.shared_trie.proofs.LineHeights.{height_told}

-- ---- heights and marks

-- one node more is less high than the greatest
pub higher_next : (rows : List Row) → AreRows rows → (node found levels new : ℕ) → node < length rows → IsHeight rows node found → new ≡ max levels (found + 1)
    → ((k : ℕ) → k < node → height_of rows k < levels) → (k : ℕ) → k < node + 1 → height_of rows k < new
higher_next rows are node found levels new low is e below k less =
    let told = height_told rows are node found low is in
    elim (cases_lt k node) [
      | inl l ↦ let before = below k l in omega (arith, before, e)
      | inr g ↦
          let same : k ≡ node = omega (arith, g, less) in
          let here = ap (height_of rows) same in
          omega (arith, here, told, e)
    ]

-- a node that is marked is of the level if it has the height
pub of_level : (trie : Trie) → IsTrie trie → (marks : List Bool) → AreMarked trie marks → (node height found : ℕ) → node < length trie.rows → get_or marks node false ≡ true → IsHeight trie.rows node found
    → IsTrue (nat_eq found height) ↔ (IsLedTo trie node × (height_of trie.rows node ≡ height))
of_level trie lawful marks marked node height found low mark is =
    let told = height_told trie.rows lawful.rows node found low is in (
      λ test. ((marked.each node).0 mark, sym told ∙ eqb-true found height test),
      λ h. eq-eqb found height (told ∙ h.1),
    )

-- ---- a level so far

pub record IsLevelBelow (trie : Trie) (height bound : ℕ) (level : List ℕ) : Type 0 where
  pub each : (node : ℕ) → Contains level node ↔ ((node < bound) × IsLedTo trie node × (height_of trie.rows node ≡ height))
  pub apart : AllPairs (λ (left right : ℕ). left ≢ right) level

pub level_without : (trie : Trie) (height node : ℕ) (level : List ℕ) → IsLevelBelow trie height node level → ((IsLedTo trie node × (height_of trie.rows node ≡ height)) → ⊥)
    → IsLevelBelow trie height (node + 1) level
level_without trie height node level is other = record {
  each = λ k. (
    λ m. let (low, led, high) = (is.each k).0 m in (omega (arith, low), led, high),
    λ h. elim (cases_lt k node) [
      | inl below ↦ (is.each k).1 (below, h.1, h.2)
      | inr above ↦
          let low = h.0 in
          let same : k ≡ node = omega (arith, above, low) in
          absurd (other (subst (λ n. IsLedTo trie n × (height_of trie.rows n ≡ height)) same (h.1, h.2)))
    ],
  );
  apart = is.apart;
}

pub level_with : (trie : Trie) (height node : ℕ) (level : List ℕ) → IsLevelBelow trie height node level → IsLedTo trie node × (height_of trie.rows node ≡ height)
    → IsLevelBelow trie height (node + 1) (level ++ node ∷ [])
level_with trie height node level is here = record {
  each = λ k. (
    λ m. elim (Contains-push_cases level node k m) [
      | inl old ↦ let (low, led, high) = (is.each k).0 old in (omega (arith, low), led, high)
      | inr same ↦ subst (λ n. (n < node + 1) × IsLedTo trie n × (height_of trie.rows n ≡ height)) same (omega arith, here.0, here.1)
    ],
    λ h. elim (cases_lt k node) [
      | inl below ↦ Contains-append_left level (node ∷ []) k ((is.each k).1 (below, h.1, h.2))
      | inr above ↦
          let low = h.0 in
          let same : node ≡ k = omega (arith, above, low) in
          subst (Contains (level ++ node ∷ [])) same (Contains-push level node)
    ],
  );
  apart = all_pairs_push (λ (left right : ℕ). left ≢ right) level node is.apart (λ k d below e. let low = ((is.each (get_or level k d)).0 (Contains-get_or level k d below)).0 in absurd (omega (arith, low, e)));
}

-- nodes to which a root leads are there
pub led_there : (trie : Trie) → IsTrie trie → (node : ℕ) → IsLedTo trie node → node < length trie.rows
led_there trie is node from =
    let root = All-contains (λ root. root < length trie.rows) trie.roots from.root is.roots from.is_root in
    let within = walk-within trie.rows is.rows from.word from.root node root from.walked in
    omega (arith, root, within)

pub whole_level : (trie : Trie) → IsTrie trie → (height bound : ℕ) (level : List ℕ) → length trie.rows ≤ bound → IsLevelBelow trie height bound level → IsLevelOf trie height level
whole_level trie lawful height bound level all is = record {
  each = λ node. (
    λ m. let (low, led, high) = (is.each node).0 m in (led, high),
    λ h. let low = led_there trie lawful node h.0 in (is.each node).1 (omega (arith, low, all), h.0, h.1),
  );
  apart = is.apart;
}

-- ---- numbers one after another

-- where no element of a list is there twice, one is not among those before it
pub apart_front : (front : List ℕ) (x : ℕ) (rest : List ℕ) → AllPairs (λ (left right : ℕ). left ≢ right) (front ++ x ∷ rest) → Contains front x → ⊥
apart_front front x rest apart (k, below, is) =
    let long = length-append front (x ∷ rest) in
    let first = get_or_append_left front (x ∷ rest) x k below in
    let second : get_or (front ++ x ∷ rest) (length front + 0) x ≡ x = get_or-append-add front (x ∷ rest) 0 x in
    let zero_is : length front + 0 ≡ length front = omega arith in
    apart k (length front) x below (omega (arith, long)) (first ∙ is ∙ sym second ∙ ap (λ n. get_or (front ++ x ∷ rest) n x) zero_is)

abbrev nodes_of : List NodeText → List ℕ
nodes_of lines = map (λ (line : NodeText). line.node) lines

-- the node of the next line is not among those before it
pub next_apart : (nodes : List ℕ) (lines : List NodeText) (place : ℕ) (line : NodeText) → place < length lines → line ≡ get_or lines place line
    → AllPairs (λ (left right : ℕ). left ≢ right) (nodes ++ nodes_of lines) → Contains (nodes ++ nodes_of (take place lines)) line.node → ⊥
next_apart nodes lines place line below here apart m =
    let cut : lines ≡ take place lines ++ line ∷ drop (place + 1) lines =
    sym (take-append-drop place lines) ∙ ap (λ (rest : List NodeText). take place lines ++ rest) (drop_more lines place line below ∙ ap (λ (first : NodeText). first ∷ drop (place + 1) lines) (sym here)) in
    let whole : nodes ++ nodes_of lines ≡ (nodes ++ nodes_of (take place lines)) ++ line.node ∷ nodes_of (drop (place + 1) lines) =
    ap (λ (ls : List NodeText). nodes ++ nodes_of ls) cut ∙ ap (λ (ns : List ℕ). nodes ++ ns) (map-append (λ (line : NodeText). line.node) (take place lines) (line ∷ drop (place + 1) lines))
    ∙ sym (append_assoc nodes (nodes_of (take place lines)) (line.node ∷ nodes_of (drop (place + 1) lines))) in
    apart_front (nodes ++ nodes_of (take place lines)) line.node (nodes_of (drop (place + 1) lines)) (subst (AllPairs (λ (left right : ℕ). left ≢ right)) whole apart) m

-- ---- levels

pub nothing_placed : (trie : Trie) → ArePlaced trie 0 []
nothing_placed trie = record {
  each = λ node. (λ m. absurd (not_Contains-nil node m), λ h. absurd (let low = h.1 in omega (arith, low)));
  rising = sorted_nil compare_node_lines;
}

-- with all levels placed the nodes are in their order
pub all_placed : (trie : Trie) → IsTrie trie → (height : ℕ) (nodes : List ℕ) → ((node : ℕ) → node < length trie.rows → height_of trie.rows node < height)
    → ArePlaced trie height nodes → IsCanonical trie nodes
all_placed trie is height nodes low placed =
    canonical_order trie is nodes (λ node m. ((placed.each node).0 m).0) (λ node led. (placed.each node).1 (led, low node (led_there trie is node led))) placed.rising
