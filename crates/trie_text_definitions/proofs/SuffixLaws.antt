-- The suffixes of a node are just the words that lead from it to nodes with deltas, with these deltas: by induction on the node's number
-- and on the word; and they rise, since letters do.
use Rattle.std.proofs.Common.{◌≡◌, ◌≢◌, inl, inr, ℕ, zero, suc, ◌<◌, Option, Some, None, List, [], ◌∷◌, ◌++◌, length, map, take, refl, sym, ◌∙◌, ap, subst, arith}
use Rattle.std.specs.Prelude.{Contains}
use Rattle.std.specs.List.{AllByRecursion, flat_map}
use Rattle.std.specs.List.Sorted.{IsStrictlySortedBy}
use Rattle.std.specs.Cmp.{IsTotalOrder}
use Rattle.std.specs.declared.cmp.Ordering.TheVariants.{Less}
use Rattle.std.specs.Ordering.{nat_cmp, ordering_then, on}
use Rattle.std.proofs.lemmas.Cmp.{nat_list_cmp_total, on_total}
use Rattle.std.proofs.lemmas.List.Elements.{All-contains, All-from_recursion, recursion_from_All, Contains-append_left, Contains-append_right, Contains-append_cases}
use Rattle.std.proofs.lemmas.Map.Keys.{sorted_head, sorted_tail}
use Rattle.list_laws.proofs.FirstOnes.{Contains-map, Contains-map_cases}
use Rattle.list_laws.proofs.Orderings.{nat_cmp-Equal}
use Rattle.list_laws.proofs.Sorted.{Contains-first, Contains-later, Contains-cons_cases, not_Contains-nil, All-from_Contains, sorted_nil, sorted_append}
use Rattle.text_definitions.specs.Words.{compare_words}
use Rattle.lexicon_definitions.specs.Deltas.{Delta}
use Rattle.lexicon_definitions.specs.Tries.{Row, AreRows, IsChild, child_in, row_of, walk}
use Rattle.lexicon_definitions.proofs.TrieChildren.{Contains-child_among, IsChild-child_in}
use Rattle.lexicon_definitions.proofs.TrieGrowth.{walk-child, walk-none}
use Rattle.lexicon_definitions.proofs.TrieSteps.{child_among-Contains}
use Rattle.lexicon_text_definitions.proofs.RisingLines.{sorted_one, sorted_cons}
use Rattle.trie_text_definitions.specs.NodeValues.{values_of, Suffix, after_letter, own_suffix, child_suffixes, suffixes_over, suffixes_of}
use Rattle.trie_text_definitions.proofs.NodeValueLaws.{value_at, value_before}

-- ---- lists of lists

pub Contains-flat_map : {X Y : Type 0} (f : X → List Y) (xs : List X) (x : X) (y : Y) → Contains xs x → Contains (f x) y → Contains (flat_map f xs) y
Contains-flat_map f [] x y m n = absurd (not_Contains-nil x m)
Contains-flat_map f (first ∷ xs) x y m n =
    elim (Contains-cons_cases first xs x m) [
      | inl same ↦ Contains-append_left (f first) (flat_map f xs) y (subst (λ z. Contains (f z) y) (sym same) n)
      | inr later ↦ Contains-append_right (f first) (flat_map f xs) y (Contains-flat_map f xs x y later n)
    ]

pub Contains-flat_map_cases : {X Y : Type 0} (f : X → List Y) (xs : List X) (y : Y) → Contains (flat_map f xs) y → (x : X) × Contains xs x × Contains (f x) y
Contains-flat_map_cases f [] y m = absurd (not_Contains-nil y m)
Contains-flat_map_cases f (first ∷ xs) y m =
    elim (Contains-append_cases (f first) (flat_map f xs) y m) [
      | inl here ↦ (first, Contains-first first xs, here)
      | inr later ↦ let (x, n, k) = Contains-flat_map_cases f xs y later in (x, Contains-later first xs x n, k)
    ]

-- ---- the suffixes of a node

-- the suffixes of a child after its letter
abbrev pub suffixes_after : List Row → ℕ × ℕ → List Suffix
suffixes_after rows child = map (after_letter child.0) (suffixes_of rows child.1)

-- a suffix by its walk: its word leads to a node, whose deltas it has, and there are some
pub record IsSuffix (rows : List Row) (node : ℕ) (suffix : Suffix) : Type 0 where
  pub reached : ℕ
  pub walked : walk rows node suffix.word ≡ Some reached
  pub is_deltas : suffix.deltas ≡ (row_of rows reached).deltas
  pub some : suffix.deltas ≢ []

own_cases : (deltas : List Delta) (suffix : Suffix) → Contains (own_suffix deltas) suffix → (suffix.word ≡ []) × (suffix.deltas ≡ deltas) × (suffix.deltas ≢ [])
own_cases [] suffix m = absurd (not_Contains-nil suffix m)
own_cases (delta ∷ deltas) suffix m =
    let whole : Suffix = record { word = []; deltas = delta ∷ deltas } in
    elim (Contains-cons_cases whole [] suffix m) [
      | inl same ↦ subst (λ (s : Suffix). (s.word ≡ []) × (s.deltas ≡ delta ∷ deltas) × (s.deltas ≢ [])) same (refl, refl, λ e. cc)
      | inr none ↦ absurd (not_Contains-nil suffix none)
    ]

own_there : (deltas : List Delta) (suffix : Suffix) → suffix.word ≡ [] → suffix.deltas ≡ deltas → suffix.deltas ≢ [] → Contains (own_suffix deltas) suffix
own_there [] suffix e f n = absurd (n f)
own_there (delta ∷ deltas) suffix e f n =
    let same : record { word = []; deltas = delta ∷ deltas } ≡ suffix = λ i. record { word = sym e i; deltas = sym f i } in
    subst (λ (s : Suffix). Contains (record { word = []; deltas = delta ∷ deltas } ∷ []) s) same (Contains-first _ [])

module _ (rows : List Row) (are : AreRows rows) where
  same_suffixes : (node : ℕ) → node < length rows → (children : List (ℕ × ℕ)) → AllByRecursion (IsChild rows node) children
      → flat_map (child_suffixes (values_of suffixes_over (take node rows))) children ≡ flat_map (suffixes_after rows) children
  same_suffixes node low [] h = refl
  same_suffixes node low (child ∷ children) h =
      let same = value_before suffixes_over rows child.1 node [] h.0.before low in
      λ i. map (after_letter child.0) (same i) ++ same_suffixes node low children h.1 i

  -- the suffixes of a node are its own and those of its children
  suffixes_are : (node : ℕ) → node < length rows
      → suffixes_of rows node ≡ own_suffix (row_of rows node).deltas ++ flat_map (suffixes_after rows) (row_of rows node).children
  suffixes_are node low =
      value_at suffixes_over rows node [] low
      ∙ ap (λ rest. own_suffix (row_of rows node).deltas ++ rest) (same_suffixes node low (row_of rows node).children (recursion_from_All (IsChild rows node) (row_of rows node).children (are.each node low).children))

  -- what is among the suffixes is a suffix
  suffix_below : (bound node : ℕ) → node < bound → node < length rows → (suffix : Suffix) → Contains (suffixes_of rows node) suffix → IsSuffix rows node suffix
  suffix_below zero node below low suffix m = absurd (omega (arith, below))
  suffix_below (suc bound) node below low suffix m =
      elim (Contains-append_cases (own_suffix (row_of rows node).deltas) (flat_map (suffixes_after rows) (row_of rows node).children) suffix (subst (λ (xs : List Suffix). Contains xs suffix) (suffixes_are node low) m)) [
        | inl own ↦
            let (e, f, n) = own_cases (row_of rows node).deltas suffix own in
            record { reached = node; walked = ap (walk rows node) e; is_deltas = f; some = n }
        | inr later ↦
            let (child, among, inside) = Contains-flat_map_cases (suffixes_after rows) (row_of rows node).children suffix later in
            let (rest, there, same) = Contains-map_cases (after_letter child.0) (suffixes_of rows child.1) suffix inside in
            let before = (All-contains (IsChild rows node) (row_of rows node).children child (are.each node low).children among).before in
            let found = suffix_below bound child.1 (omega (arith, before, below)) (omega (arith, before, low)) rest there in
            let leads = child_among-Contains child.0 child.1 (row_of rows node).children (are.each node low).letters among in
            subst (IsSuffix rows node) same (record {
              reached = found.reached;
              walked = walk-child rows node child.0 child.1 rest.word leads ∙ found.walked;
              is_deltas = found.is_deltas;
              some = found.some;
            })
      ]

  pub suffix_by : (node : ℕ) → node < length rows → (suffix : Suffix) → Contains (suffixes_of rows node) suffix → IsSuffix rows node suffix
  suffix_by node low suffix m = suffix_below (suc node) node (omega arith) low suffix m

  -- a word that leads to a node with deltas is among the suffixes, with these deltas
  pub suffix_there : (word : List ℕ) (node reached : ℕ) (deltas : List Delta) → node < length rows → walk rows node word ≡ Some reached
      → deltas ≡ (row_of rows reached).deltas → deltas ≢ [] → Contains (suffixes_of rows node) (record { word = word; deltas = deltas })
  suffix_there [] node reached deltas low walked e n =
      let here : node ≡ reached = cc in
      let own = own_there (row_of rows node).deltas (record { word = []; deltas = deltas }) refl (e ∙ ap (λ (k : ℕ). (row_of rows k).deltas) (sym here)) n in
      subst (λ (xs : List Suffix). Contains xs (record { word = []; deltas = deltas })) (sym (suffixes_are node low))
      (Contains-append_left (own_suffix (row_of rows node).deltas) (flat_map (suffixes_after rows) (row_of rows node).children) _ own)
  suffix_there (letter ∷ word) node reached deltas low walked e n =
      let go : (o : Option ℕ) → child_in rows node letter ≡ o → Contains (suffixes_of rows node) (record { word = letter ∷ word; deltas = deltas }) =
      elim [
        | None ↦ λ f. let none = walk-none rows node letter word f in absurd cc
        | Some child ↦ λ f.
            let before = (IsChild-child_in rows node letter child are low f).before in
            let rest = suffix_there word child reached deltas (omega (arith, before, low)) (sym (walk-child rows node letter child word f) ∙ walked) e n in
            let inside = Contains-map (after_letter letter) (suffixes_of rows child) (record { word = word; deltas = deltas }) rest in
            let among = Contains-child_among letter child (row_of rows node).children f in
            let later = Contains-flat_map (suffixes_after rows) (row_of rows node).children (letter, child) (record { word = letter ∷ word; deltas = deltas }) among inside in
            subst (λ (xs : List Suffix). Contains xs (record { word = letter ∷ word; deltas = deltas })) (sym (suffixes_are node low))
            (Contains-append_right (own_suffix (row_of rows node).deltas) (flat_map (suffixes_after rows) (row_of rows node).children) _ later)
      ]
      in go (child_in rows node letter) refl

  -- ---- the suffixes rise

  abbrev Rising : List Suffix → Type 0
  Rising suffixes = IsStrictlySortedBy (on (λ (s : Suffix). s.word) compare_words) suffixes

  total : IsTotalOrder (on (λ (s : Suffix). s.word) compare_words)
  total = on_total (λ (s : Suffix). s.word) nat_list_cmp_total

  -- after the same letter words compare as they did
  same_letter : (letter : ℕ) (left right : Suffix) → compare_words left.word right.word ≡ Less
      → compare_words (letter ∷ left.word) (letter ∷ right.word) ≡ Less
  same_letter letter left right h = ap (λ order. ordering_then order (compare_words left.word right.word)) (nat_cmp-Equal letter letter refl) ∙ h

  above_after : (letter : ℕ) (first : Suffix) (rest : List Suffix) → AllByRecursion (λ s. compare_words first.word s.word ≡ Less) rest
      → AllByRecursion (λ (s : Suffix). compare_words (letter ∷ first.word) s.word ≡ Less) (map (after_letter letter) rest)
  above_after letter first [] h = tt
  above_after letter first (next ∷ rest) h = (same_letter letter first next h.0, above_after letter first rest h.1)

  rising_after : (letter : ℕ) (suffixes : List Suffix) → Rising suffixes → Rising (map (after_letter letter) suffixes)
  rising_after letter [] s = s
  rising_after letter (first ∷ rest) s =
      sorted_cons (on (λ (s : Suffix). s.word) compare_words) (after_letter letter first) (map (after_letter letter) rest)
      (above_after letter first rest (sorted_head (on (λ (s : Suffix). s.word) compare_words) first rest s))
      (rising_after letter rest (sorted_tail (on (λ (s : Suffix). s.word) compare_words) first rest s))

  -- the suffixes of children whose letters rise
  rising_children : (children : List (ℕ × ℕ)) → IsStrictlySortedBy (on (λ (c : ℕ × ℕ). c.0) nat_cmp) children
      → AllByRecursion (λ (c : ℕ × ℕ). Rising (suffixes_of rows c.1)) children → Rising (flat_map (suffixes_after rows) children)
  rising_children [] s h = sorted_nil _
  rising_children (child ∷ children) s h =
      sorted_append total (suffixes_after rows child) (flat_map (suffixes_after rows) children) (rising_after child.0 (suffixes_of rows child.1) h.0)
      (rising_children children (sorted_tail (on (λ (c : ℕ × ℕ). c.0) nat_cmp) child children s) h.1)
      (λ y m.
      let (other, among, inside) = Contains-flat_map_cases (suffixes_after rows) children y m in
      let (rest, there, same) = Contains-map_cases (after_letter other.0) (suffixes_of rows other.1) y inside in
      let above = All-contains (λ (c : ℕ × ℕ). nat_cmp child.0 c.0 ≡ Less) children other (All-from_recursion (λ (c : ℕ × ℕ). nat_cmp child.0 c.0 ≡ Less) children (sorted_head (on (λ (c : ℕ × ℕ). c.0) nat_cmp) child children s)) among in
      All-from_Contains (λ (x : Suffix). compare_words x.word y.word ≡ Less) (suffixes_after rows child) (λ x n.
      let (front, place, is) = Contains-map_cases (after_letter child.0) (suffixes_of rows child.1) x n in
      let less : compare_words (child.0 ∷ front.word) (other.0 ∷ rest.word) ≡ Less = ap (λ order. ordering_then order (compare_words front.word rest.word)) above in
      (λ i. compare_words (sym is i).word (sym same i).word) ∙ less))

  own_rising : (deltas : List Delta) → Rising (own_suffix deltas)
  own_rising [] = sorted_nil _
  own_rising (delta ∷ deltas) = sorted_one _ _

  rising_below : (bound node : ℕ) → node < bound → node < length rows → Rising (suffixes_of rows node)
  rising_below zero node below low = absurd (omega (arith, below))
  rising_below (suc bound) node below low =
      let row = row_of rows node in
      let each : AllByRecursion (λ (c : ℕ × ℕ). Rising (suffixes_of rows c.1)) row.children =
      recursion_from_All (λ (c : ℕ × ℕ). Rising (suffixes_of rows c.1)) row.children (All-from_Contains (λ (c : ℕ × ℕ). Rising (suffixes_of rows c.1)) row.children (λ c m.
      let before = (All-contains (IsChild rows node) row.children c (are.each node low).children m).before in
      rising_below bound c.1 (omega (arith, before, below)) (omega (arith, before, low))))
      in
      subst Rising (sym (suffixes_are node low))
      (sorted_append total (own_suffix row.deltas) (flat_map (suffixes_after rows) row.children) (own_rising row.deltas) (rising_children row.children (are.each node low).letters each)
      (λ y m.
      let (child, among, inside) = Contains-flat_map_cases (suffixes_after rows) row.children y m in
      let (rest, there, same) = Contains-map_cases (after_letter child.0) (suffixes_of rows child.1) y inside in
      All-from_Contains (λ (x : Suffix). compare_words x.word y.word ≡ Less) (own_suffix row.deltas) (λ x n.
      let (e, f, k) = own_cases row.deltas x n in
      (λ i. compare_words (e i) (sym same i).word))))

  pub suffixes_rise : (node : ℕ) → node < length rows → Rising (suffixes_of rows node)
  suffixes_rise node low = rising_below (suc node) node (omega arith) low
