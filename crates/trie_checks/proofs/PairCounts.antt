-- The pairs of a suffix of a node and one of its deltas: as many as the node's own deltas and those of its children together, also where sums
-- stop at a number.
use Rattle.std.proofs.Common.{◌≡◌, ℕ, ◌+◌, ◌<◌, inl, inr, List, [], ◌∷◌, ◌++◌, length, map, take, get_or, min, ltb, refl, sym, ◌∙◌, ap, subst, arith}
use Rattle.std.specs.Prelude.{Contains, All, sum_by}
use Rattle.std.specs.List.{flat_map}
use Rattle.std.proofs.lemmas.Bool.{cases_lt, lt-ltb, le-ltb}
use Rattle.std.proofs.lemmas.List.{get_or_append_left, get_or_push, length_push}
use Rattle.std.proofs.lemmas.List.Elements.{All-contains}
use Rattle.std.proofs.lemmas.List.Sums.{sum_by-cons, sum_by-append, sum_by_push}
use Rattle.list_laws.proofs.Sorted.{Contains-first, Contains-later}
use Rattle.lexicon_definitions.specs.declared.limits.TheConstants.{MOST_FORM_LINES}
use Rattle.lexicon_definitions.specs.Deltas.{Delta}
use Rattle.lexicon_definitions.specs.Tries.{Row, Trie, AreRows, row_of}
use Rattle.trie_text_definitions.specs.NodeValues.{values_of, Suffix, after_letter, own_suffix, child_suffixes, suffixes_over, suffixes_of}
use Rattle.trie_text_definitions.specs.TrieForms.{count_pairs, has_too_many_pairs}
use Rattle.trie_text_definitions.proofs.NodeValueLaws.{value_at, value_before}
use Rattle.trie_checks.proofs.SuffixSteps.{child_before}

abbrev pairs_of : Suffix → ℕ
pairs_of suffix = length suffix.deltas

-- the pairs of all suffixes of a node
abbrev pub pairs_from : List Row → ℕ → ℕ
pairs_from rows node = sum_by pairs_of (suffixes_of rows node)

-- ---- sums

same_sums : {X : Type 0} (f g : X → ℕ) (xs : List X) → ((x : X) → Contains xs x → f x ≡ g x) → sum_by f xs ≡ sum_by g xs
same_sums f g [] h = refl
same_sums f g (x ∷ xs) h =
    let left = sum_by-cons f x xs in
    let right = sum_by-cons g x xs in
    let first = h x (Contains-first x xs) in
    let rest = same_sums f g xs (λ y m. h y (Contains-later x xs y m)) in
    omega (arith, left, right, first, rest)

sum_by-map : {X Y : Type 0} (f : Y → ℕ) (g : X → Y) (xs : List X) → sum_by f (map g xs) ≡ sum_by (λ x. f (g x)) xs
sum_by-map f g [] = refl
sum_by-map f g (x ∷ xs) =
    let left = sum_by-cons f (g x) (map g xs) in
    let right = sum_by-cons (λ y. f (g y)) x xs in
    let rest = sum_by-map f g xs in
    omega (arith, left, right, rest)

sum_by-flat_map : {X Y : Type 0} (f : Y → ℕ) (g : X → List Y) (xs : List X) → sum_by f (flat_map g xs) ≡ sum_by (λ x. sum_by f (g x)) xs
sum_by-flat_map f g [] = refl
sum_by-flat_map f g (x ∷ xs) =
    let left = sum_by-append f (g x) (flat_map g xs) in
    let right = sum_by-cons (λ y. sum_by f (g y)) x xs in
    let rest = sum_by-flat_map f g xs in
    omega (arith, left, right, rest)

-- a sum that stops at a number is told by parts that stop there
stopped_sums : {X : Type 0} (f : X → ℕ) (most : ℕ) (xs : List X) (own : ℕ) → min (own + sum_by (λ x. min (f x) most) xs) most ≡ min (own + sum_by f xs) most
stopped_sums f most [] own = refl
stopped_sums f most (x ∷ xs) own =
    let left = sum_by-cons (λ y. min (f y) most) x xs in
    let right = sum_by-cons f x xs in
    let rest = stopped_sums f most xs (own + f x) in
    omega (arith, left, right, rest)

-- one element more, where sums stop
pub stopped_next : {X : Type 0} (f : X → ℕ) (xs : List X) (x : X) (own sum more next : ℕ) → sum ≡ min (own + sum_by f xs) 600001
    → more ≡ min (sum + f x) 4294967295 → next ≡ min more 600001 → next ≡ min (own + sum_by f (xs ++ x ∷ [])) 600001
stopped_next f xs x own sum more next so_far added stopped = let step = sum_by_push f xs x in omega (arith, so_far, added, stopped, step)

-- ---- nodes

own_pairs : (deltas : List Delta) → sum_by pairs_of (own_suffix deltas) ≡ length deltas
own_pairs [] = refl
own_pairs (delta ∷ deltas) =
    let one : Suffix = record { word = []; deltas = delta ∷ deltas } in
    let step = sum_by-cons pairs_of one [] in
    let none : sum_by pairs_of [] ≡ 0 = refl in
    omega (arith, step, none)

module _ (rows : List Row) (are : AreRows rows) where
  pairs_are : (node : ℕ) → node < length rows
      → pairs_from rows node ≡ length (row_of rows node).deltas + sum_by (λ (child : ℕ × ℕ). pairs_from rows child.1) (row_of rows node).children
  pairs_are node low =
      let row = row_of rows node in
      let before = values_of suffixes_over (take node rows) in
      let is = ap (sum_by pairs_of) (value_at suffixes_over rows node [] low) in
      let parts = sum_by-append pairs_of (own_suffix row.deltas) (flat_map (child_suffixes before) row.children) in
      let own = own_pairs row.deltas in
      let below = sum_by-flat_map pairs_of (child_suffixes before) row.children in
      let each = same_sums (λ (child : ℕ × ℕ). sum_by pairs_of (child_suffixes before child)) (λ (child : ℕ × ℕ). pairs_from rows child.1) row.children (λ child m.
      sum_by-map pairs_of (after_letter child.0) (get_or before child.1 [])
      ∙ ap (sum_by pairs_of) (value_before suffixes_over rows child.1 node [] (child_before rows are node low child m) low))
      in
      omega (arith, is, parts, own, below, each)

-- the counts of the first nodes, so many of them, stop at a number
pub record AreCounts (rows : List Row) (most count : ℕ) (counts : List ℕ) : Type 0 where
  pub length_is : length counts ≡ count
  pub each : (node : ℕ) → node < count → get_or counts node 0 ≡ min (pairs_from rows node) most

-- one node more
pub counts_next : (rows : List Row) (most node own new : ℕ) (counts : List ℕ) → AreRows rows → node < length rows → AreCounts rows most node counts
    → own ≡ length (row_of rows node).deltas → new ≡ min (own + sum_by (λ (child : ℕ × ℕ). get_or counts child.1 0) (row_of rows node).children) most
    → AreCounts rows most (node + 1) (counts ++ new ∷ [])
counts_next rows most node own new counts are low known own_is new_is =
    let children = (row_of rows node).children in
    let many = known.length_is in
    let same = same_sums (λ (child : ℕ × ℕ). get_or counts child.1 0) (λ (child : ℕ × ℕ). min (pairs_from rows child.1) most) children (λ child m.
    known.each child.1 (child_before rows are node low child m))
    in
    let stopped = stopped_sums (λ (child : ℕ × ℕ). pairs_from rows child.1) most children own in
    let whole = pairs_are rows are node low in
    let value : new ≡ min (pairs_from rows node) most = omega (arith, same, stopped, whole, own_is, new_is) in
    record {
      length_is = let long = length_push counts new in omega (arith, long, many);
      each = λ n less.
          elim (cases_lt n node) [
            | inl before ↦ get_or_append_left counts (new ∷ []) 0 n (omega (arith, before, many)) ∙ known.each n before
            | inr here ↦
                let is : node ≡ n = omega (arith, less, here) in
                subst (λ k. get_or (counts ++ new ∷ []) k 0 ≡ min (pairs_from rows k) most) is (get_or_push counts new 0 node many ∙ value)
          ];
    }

-- the counts of all roots together are the pairs, stopped at a number
pub counted : (trie : Trie) (most total : ℕ) (counts : List ℕ) → All (λ root. root < length trie.rows) trie.roots → AreCounts trie.rows most (length trie.rows) counts
    → total ≡ min (sum_by (λ root. get_or counts root 0) trie.roots) most → total ≡ min (count_pairs trie) most
counted trie most total counts low known is =
    let same = same_sums (λ root. get_or counts root 0) (λ root. min (pairs_from trie.rows root) most) trie.roots (λ root m.
    known.each root (All-contains (λ (r : ℕ). r < length trie.rows) trie.roots root low m))
    in
    let stopped = stopped_sums (pairs_from trie.rows) most trie.roots 0 in
    omega (arith, same, stopped, is)

-- they are more than a lexicon may have exactly where the pairs are
pub many_told : (trie : Trie) (most total : ℕ) → MOST_FORM_LINES < most → total ≡ min (count_pairs trie) most → ltb MOST_FORM_LINES total ≡ has_too_many_pairs trie
many_told trie most total more value =
    elim (cases_lt MOST_FORM_LINES (count_pairs trie)) [
      | inl above ↦ lt-ltb MOST_FORM_LINES total (omega (arith, value, above, more)) ∙ sym (lt-ltb MOST_FORM_LINES (count_pairs trie) above)
      | inr few ↦ le-ltb MOST_FORM_LINES total (omega (arith, value, few)) ∙ sym (le-ltb MOST_FORM_LINES (count_pairs trie) few)
    ]
