-- The letters that deltas put before a node are those of its own deltas, and those that are put one letter farther before its children; in a
-- pass from the last node down the children of a node are still to come.
use Rattle.std.proofs.Common.{◌≡◌, ℕ, ◌+◌, ◌<◌, ◌≤◌, ◌↔◌, ◌⊎◌, inl, inr, List, [], ◌∷◌, length, get_or, set, replicate, sym, ◌∙◌, ap, subst, arith}
use Rattle.std.proofs.lemmas.Bool.{cases_lt}
use Rattle.std.proofs.lemmas.List.{get_or-set_same, get_or-set_other, length-set, get_or-replicate, length-replicate}
use Rattle.lexicon_definitions.specs.Deltas.{Delta}
use Rattle.lexicon_definitions.specs.Tries.{Row, AreRows, HasSuffix, row_of}
use Rattle.std.proofs.lemmas.List.Elements.{All-get_or}
use Rattle.trie_checks.specs.Bounds.{HasOne, IsGreatest}
use Rattle.trie_checks.specs.LettersPut.{PutsLetter, IsPut, IsSetPut, AreSetsPut, NonePutAbove}
use Rattle.trie_checks.specs.NumberSets.{HasNumber}
use Rattle.trie_checks.specs.NodeDepths.{HasLeast}
use Rattle.trie_checks.proofs.SuffixSteps.{suffix_own, suffix_here, suffix_rest, suffix_later, child_before}

-- the sets of a pass that goes down: those of the first nodes, so many of them, are one letter farther
pub record AreSetsBetween (rows : List Row) (before left : ℕ) (sets : List ℕ) : Type 0 where
  pub count : length sets ≡ length rows
  pub done : (node : ℕ) → left ≤ node → node < length rows → IsSetPut rows node before (get_or sets node 0)
  pub to_do : (node : ℕ) → node < left → node < length rows → IsSetPut rows node (before + 1) (get_or sets node 0)

-- no letter is put farther before a node than letters need come before it
pub none_put_above : (rows : List Row) (least : List ℕ) → HasLeast rows least → (farthest : ℕ) → IsGreatest (λ n. n) least farthest → NonePutAbove rows farthest
none_put_above rows least has farthest greatest =
    let many = has.count in
    record {
      none = λ node before letter low above is.
          let within = All-get_or (λ n. n ≤ farthest) least node 0 (omega (arith, low, many)) ((greatest farthest).0 (omega arith)) in
          let needs = (has.each node low (get_or least node 0)).0 (omega arith) is.word is.delta is.has in
          let cut = is.puts.cut in
          omega (arith, within, needs, cut, above);
    }

module _ (rows : List Row) (are : AreRows rows) where
  module _ (node : ℕ) (low : node < length rows) (before letter : ℕ) where
    put_cases : (word : List ℕ) (delta : Delta) → HasSuffix rows node word delta → PutsLetter (length word + before) letter delta
        → HasOne (PutsLetter before letter) (row_of rows node).deltas ⊎ HasOne (λ (child : ℕ × ℕ). IsPut rows child.1 (before + 1) letter) (row_of rows node).children
    put_cases [] delta has puts =
        let none : 0 + before ≡ before = omega arith in
        inl (delta, suffix_own rows node delta has, subst (λ n. PutsLetter n letter delta) none puts)
    put_cases (first ∷ word) delta has puts =
        let (child, m, rest) = suffix_rest rows node first word delta has in
        let more : length (first ∷ word) + before ≡ length word + (before + 1) = omega arith in
        inr ((first, child), m, record { word = word; delta = delta; has = rest; puts = subst (λ n. PutsLetter n letter delta) more puts })

    -- a letter that is put before the node
    pub put_parts : IsPut rows node before letter
        → HasOne (PutsLetter before letter) (row_of rows node).deltas ⊎ HasOne (λ (child : ℕ × ℕ). IsPut rows child.1 (before + 1) letter) (row_of rows node).children
    put_parts is = put_cases is.word is.delta is.has is.puts

    pub put_from : HasOne (PutsLetter before letter) (row_of rows node).deltas ⊎ HasOne (λ (child : ℕ × ℕ). IsPut rows child.1 (before + 1) letter) (row_of rows node).children
        → IsPut rows node before letter
    put_from = elim [
      | inl h ↦
          let none : before ≡ 0 + before = omega arith in
          record { word = []; delta = h.0; has = suffix_here rows node h.0 h.1; puts = subst (λ n. PutsLetter n letter h.0) none h.2 }
      | inr h ↦
          let is = h.2 in
          let more : length is.word + (before + 1) ≡ length (h.0.0 ∷ is.word) + before = omega arith in
          record {
            word = h.0.0 ∷ is.word;
            delta = is.delta;
            has = suffix_later rows are node low h.0 h.1 is.word is.delta is.has;
            puts = subst (λ n. PutsLetter n letter is.delta) more is.puts;
          }
    ]

  -- the set of a node, from its deltas and from the sets of its children
  set_put : (node before own below : ℕ) (sets : List ℕ) → node < length rows
      → ((letter : ℕ) → HasNumber own letter ↔ HasOne (PutsLetter before letter) (row_of rows node).deltas)
      → ((letter : ℕ) → HasNumber below letter ↔ HasOne (λ (child : ℕ × ℕ). HasNumber (get_or sets child.1 0) letter) (row_of rows node).children)
      → ((n : ℕ) → n < node → n < length rows → IsSetPut rows n (before + 1) (get_or sets n 0))
      → (new : ℕ) → ((letter : ℕ) → HasNumber new letter ↔ (HasNumber own letter ⊎ HasNumber below letter)) → IsSetPut rows node before new
  set_put node before own below sets low of_deltas of_children known new either letter = (
    λ h. put_from node low before letter (elim ((either letter).0 h) [
      | inl here ↦ inl ((of_deltas letter).0 here)
      | inr there ↦
          let (child, m, has) = (of_children letter).0 there in
          let less = child_before rows are node low child m in
          inr (child, m, (known child.1 less (omega (arith, less, low)) letter).0 has)
    ]),
    λ is. (either letter).1 (elim (put_parts node low before letter is) [
      | inl here ↦ inl ((of_deltas letter).1 here)
      | inr there ↦
          let (child, m, put) = there in
          let less = child_before rows are node low child m in
          inr ((of_children letter).1 (child, m, (known child.1 less (omega (arith, less, low)) letter).1 put))
    ]),
  )

  -- a node before which no letter is put so far, nor one letter farther, is passed over
  pub pass_over : (before node : ℕ) (sets : List ℕ) → node < length rows → ((letter : ℕ) → IsPut rows node before letter → ⊥)
      → ((letter : ℕ) → IsPut rows node (before + 1) letter → ⊥) → AreSetsBetween rows before (node + 1) sets → AreSetsBetween rows before node sets
  pass_over before node sets low here farther h = record {
    count = h.count;
    done = λ n high within.
        elim (cases_lt node n) [
          | inl later ↦ h.done n (omega (arith, later)) within
          | inr same ↦
              let is : node ≡ n = omega (arith, high, same) in
              subst (λ k. IsSetPut rows k before (get_or sets k 0)) is (λ letter. (
                λ has. absurd (farther letter ((h.to_do node (omega arith) low letter).0 has)),
                λ put. absurd (here letter put),
              ))
        ];
    to_do = λ n lower within. h.to_do n (omega (arith, lower)) within;
  }

  -- a node gets its set
  pub pass_sets : (before node own below new : ℕ) (sets : List ℕ) → node < length rows
      → ((letter : ℕ) → HasNumber own letter ↔ HasOne (PutsLetter before letter) (row_of rows node).deltas)
      → ((letter : ℕ) → HasNumber below letter ↔ HasOne (λ (child : ℕ × ℕ). HasNumber (get_or sets child.1 0) letter) (row_of rows node).children)
      → ((letter : ℕ) → HasNumber new letter ↔ (HasNumber own letter ⊎ HasNumber below letter))
      → AreSetsBetween rows before (node + 1) sets → AreSetsBetween rows before node (set sets node new)
  pass_sets before node own below new sets low of_deltas of_children either h =
      let long = length-set sets node new in
      let many = h.count in
      record {
        count = long ∙ many;
        done = λ n high within.
            elim (cases_lt node n) [
              | inl later ↦
                  let apart = get_or-set_other sets node n new 0 (λ e. omega (arith, later, e)) in
                  subst (IsSetPut rows n before) (sym apart) (h.done n (omega (arith, later)) within)
              | inr same ↦
                  let is : node ≡ n = omega (arith, high, same) in
                  let at = get_or-set_same sets node new 0 (omega (arith, low, many)) in
                  subst (λ k. IsSetPut rows k before (get_or (set sets node new) k 0)) is
                  (subst (IsSetPut rows node before) (sym at)
                  (set_put node before own below sets low of_deltas of_children (λ k less inside. h.to_do k (omega (arith, less)) inside) new either))
            ];
        to_do = λ n lower within.
            let apart = get_or-set_other sets node n new 0 (λ e. omega (arith, lower, e)) in
            subst (IsSetPut rows n (before + 1)) (sym apart) (h.to_do n (omega (arith, lower)) within);
      }

-- before the first pass no letter is put anywhere
pub passes_begin : (rows : List Row) (farthest : ℕ) → NonePutAbove rows farthest → (empty : ℕ) → ((letter : ℕ) → HasNumber empty letter → ⊥) → (sets : List ℕ)
    → sets ≡ replicate (length rows) empty → AreSetsPut rows (farthest + 1) sets
passes_begin rows farthest above empty none sets are_empty = record {
  count = ap length are_empty ∙ length-replicate (length rows) empty;
  each = λ node low letter.
      let at : get_or sets node 0 ≡ empty = ap (λ (ss : List ℕ). get_or ss node 0) are_empty ∙ get_or-replicate (length rows) node empty 0 low in (
        λ h. absurd (none letter (subst (λ set. HasNumber set letter) at h)),
        λ put. absurd (above.none node (farthest + 1) letter low (omega arith) put),
      );
}
