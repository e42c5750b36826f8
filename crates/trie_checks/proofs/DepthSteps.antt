-- After how many letters a node may stand, from its own deltas and from its children, each of which stands after one letter more.
use Rattle.std.proofs.Common.{◌≡◌, ℕ, ◌+◌, ◌-◌, ◌<◌, ◌≤◌, ◌^◌, ◌↔◌, inl, inr, List, [], ◌∷◌, ◌++◌, length, get_or, max, min, sym, subst, arith}
use Rattle.std.proofs.lemmas.Bool.{cases_lt}
use Rattle.std.proofs.lemmas.List.{get_or_append_left, get_or_push, length_push}
use Rattle.std.proofs.lemmas.List.Elements.{All-contains}
use Rattle.list_laws.proofs.Sorted.{All-from_Contains}
use Rattle.lexicon_definitions.specs.Deltas.{Delta}
use Rattle.lexicon_definitions.specs.Tries.{Row, AreRows, row_of}
use Rattle.trie_checks.specs.Bounds.{IsGreatest, IsLeastEnd}
use Rattle.trie_checks.specs.NodeDepths.{IsDepth, AreDepths, HasLeast, HasLettersAfter, HasShortStemsAfter, letters_needed, letters_end}
use Rattle.trie_checks.proofs.SuffixSteps.{child_before, all_after_parts, all_after_from}

module _ (rows : List Row) (are : AreRows rows) (node : ℕ) (low : node < length rows) where
  abbrev children : List (ℕ × ℕ)
  children = (row_of rows node).children

  abbrev deltas : List Delta
  deltas = (row_of rows node).deltas

  abbrev Needs : ℕ → Delta → Type 0
  Needs letters delta = letters_needed delta ≤ letters

  abbrev Ends : ℕ → Delta → Type 0
  Ends letters delta = letters < letters_end delta

  least_after : (least : List ℕ) (below own : ℕ)
      → ((n : ℕ) → n < node → (before : ℕ) → (get_or least n 0 ≤ before) ↔ HasLettersAfter rows n before)
      → IsGreatest (λ (child : ℕ × ℕ). get_or least child.1 0 - 1) children below → IsGreatest letters_needed deltas own
      → (before : ℕ) → (max below own ≤ before) ↔ HasLettersAfter rows node before
  least_after least below own known of_children of_deltas before = (
    λ l. all_after_from rows are Needs node before ((of_deltas before).0 (omega (arith, l)))
        (All-from_Contains (λ (child : ℕ × ℕ). HasLettersAfter rows child.1 (before + 1)) children (λ child m.
        let here = All-contains (λ (c : ℕ × ℕ). get_or least c.1 0 - 1 ≤ before) children child ((of_children before).0 (omega (arith, l))) m in
        (known child.1 (child_before rows are node low child m) (before + 1)).0 (omega (arith, here)))),
    λ h.
        let (own_part, child_part) = all_after_parts rows are Needs node before low h in
        let first = (of_deltas before).1 own_part in
        let second = (of_children before).1 (All-from_Contains (λ (c : ℕ × ℕ). get_or least c.1 0 - 1 ≤ before) children (λ child m.
        let there = (known child.1 (child_before rows are node low child m) (before + 1)).1 (All-contains (λ (c : ℕ × ℕ). HasLettersAfter rows c.1 (before + 1)) children child child_part m) in
        omega (arith, there)))
        in omega (arith, first, second),
  )

  end_after : (ends : List ℕ) (below own : ℕ)
      → ((n : ℕ) → n < node → (before : ℕ) → before + n < 2 ^ 32 → (before < get_or ends n 0) ↔ HasShortStemsAfter rows n before)
      → IsLeastEnd (λ (child : ℕ × ℕ). get_or ends child.1 0 - 1) children below → IsLeastEnd letters_end deltas own
      → (before : ℕ) → before + node < 2 ^ 32 → (before < min below own) ↔ HasShortStemsAfter rows node before
  end_after ends below own known of_children of_deltas before few = (
    λ l. all_after_from rows are Ends node before ((of_deltas before (omega (arith, few))).0 (omega (arith, l)))
        (All-from_Contains (λ (child : ℕ × ℕ). HasShortStemsAfter rows child.1 (before + 1)) children (λ child m.
        let here = All-contains (λ (c : ℕ × ℕ). before < get_or ends c.1 0 - 1) children child ((of_children before (omega (arith, few))).0 (omega (arith, l))) m in
        let less = child_before rows are node low child m in
        (known child.1 less (before + 1) (omega (arith, less, few))).0 (omega (arith, here)))),
    λ h.
        let (own_part, child_part) = all_after_parts rows are Ends node before low h in
        let first = (of_deltas before (omega (arith, few))).1 own_part in
        let second = (of_children before (omega (arith, few))).1 (All-from_Contains (λ (c : ℕ × ℕ). before < get_or ends c.1 0 - 1) children (λ child m.
        let less = child_before rows are node low child m in
        let there = (known child.1 less (before + 1) (omega (arith, less, few))).1 (All-contains (λ (c : ℕ × ℕ). HasShortStemsAfter rows c.1 (before + 1)) children child child_part m) in
        omega (arith, there)))
        in omega (arith, first, second),
  )

  -- one node more
  depths_more : (least ends : List ℕ) (from end : ℕ) → AreDepths rows node least ends → IsDepth rows node from end
      → AreDepths rows (node + 1) (least ++ from ∷ []) (ends ++ end ∷ [])
  depths_more least ends from end known is_depth =
      let many = known.least_count in
      let many_ends = known.ends_count in
      record {
        least_count = let long = length_push least from in omega (arith, long, many);
        ends_count = let long = length_push ends end in omega (arith, long, many_ends);
        each = λ n less.
            elim (cases_lt n node) [
              | inl before ↦
                  let same = get_or_append_left least (from ∷ []) 0 n (omega (arith, before, many)) in
                  let same_end = get_or_append_left ends (end ∷ []) 0 n (omega (arith, before, many_ends)) in
                  subst (λ k. IsDepth rows n k (get_or (ends ++ end ∷ []) n 0)) (sym same)
                  (subst (IsDepth rows n (get_or least n 0)) (sym same_end) (known.each n before))
              | inr here ↦
                  let is : node ≡ n = omega (arith, less, here) in
                  let at = get_or_push least from 0 node many in
                  let at_end = get_or_push ends end 0 node many_ends in
                  subst (λ k. IsDepth rows k (get_or (least ++ from ∷ []) k 0) (get_or (ends ++ end ∷ []) k 0)) is
                  (subst (λ k. IsDepth rows node k (get_or (ends ++ end ∷ []) node 0)) (sym at) (subst (IsDepth rows node from) (sym at_end) is_depth))
            ];
      }

  pub depths_next : (least ends new_least new_ends : List ℕ) (least_below least_own end_below end_own from end : ℕ) → AreDepths rows node least ends
      → IsGreatest (λ (child : ℕ × ℕ). get_or least child.1 0 - 1) children least_below → IsGreatest letters_needed deltas least_own
      → IsLeastEnd (λ (child : ℕ × ℕ). get_or ends child.1 0 - 1) children end_below → IsLeastEnd letters_end deltas end_own
      → from ≡ max least_below least_own → end ≡ min end_below end_own → new_least ≡ least ++ from ∷ [] → new_ends ≡ ends ++ end ∷ []
      → AreDepths rows (node + 1) new_least new_ends
  depths_next least ends new_least new_ends least_below least_own end_below end_own from end known a b c d from_is end_is least_pushed ends_pushed =
      let is_depth : IsDepth rows node from end = record {
        from_least = subst (λ n. (before : ℕ) → (n ≤ before) ↔ HasLettersAfter rows node before) (sym from_is) (least_after least least_below least_own (λ k l. (known.each k l).from_least) a b);
        below_end = subst (λ n. (before : ℕ) → before + node < 2 ^ 32 → (before < n) ↔ HasShortStemsAfter rows node before) (sym end_is) (end_after ends end_below end_own (λ k l. (known.each k l).below_end) c d);
      } in
      subst (λ ls. AreDepths rows (node + 1) ls new_ends) (sym least_pushed) (subst (AreDepths rows (node + 1) (least ++ from ∷ [])) (sym ends_pushed) (depths_more least ends from end known is_depth))

-- the depths of all nodes tell the least ones
pub least_of_depths : (rows : List Row) (least ends : List ℕ) → AreDepths rows (length rows) least ends → HasLeast rows least
least_of_depths rows least ends are = record { count = are.least_count; each = λ node low. (are.each node low).from_least }
