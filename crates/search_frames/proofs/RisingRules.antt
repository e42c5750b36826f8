-- The rules of a rising list from one on are those that are left after the ones below it.
use Rattle.std.proofs.Common.{◌≡◌, ℕ, ◌+◌, ◌-◌, ◌<◌, ◌≤◌, ◌↔◌, inl, inr, true, false, List, length, take, drop, get_or, sym, ◌∙◌, ap, subst, arith}
use Rattle.std.specs.Prelude.{Contains}
use Rattle.std.specs.Ordering.{nat_cmp}
use Rattle.std.specs.List.Sorted.{IsStrictlySortedBy, IsNonDecreasingBy, IsPartitionPoint}
use Rattle.std.proofs.lemmas.Bool.{cases_lt, ltb-true, ltb-false}
use Rattle.std.proofs.lemmas.List.{get_or-drop, length-drop, take-append-drop}
use Rattle.std.proofs.lemmas.Cmp.{nat_cmp_total}
use Rattle.std.proofs.lemmas.Map.Keys.{below_from_sorted}
use Rattle.list_laws.proofs.Sorted.{Contains-from_drop, sorted_later}
use lib.Dec.{ltb}

module _ (group : List ℕ) (rising : IsStrictlySortedBy nat_cmp group) where
  -- a rule is at most each later one
  pub no_later_less : IsNonDecreasingBy (λ rule. rule) group
  no_later_less i j d upto within = elim (cases_lt i j) [
    | inl before ↦ (let less = below_from_sorted group i j d rising before within in omega (arith, less))
    | inr behind ↦
        let same : i ≡ j = omega arith in
        subst (λ k. get_or group i d ≤ get_or group k d) same (omega arith)
  ]

  -- what is left rises
  pub left_rises : (place : ℕ) → IsStrictlySortedBy nat_cmp (drop place group)
  left_rises place =
      sorted_later nat_cmp_total (take place group) (drop place group) (subst (IsStrictlySortedBy nat_cmp) (sym (take-append-drop place group)) rising)

  module _ (first place : ℕ) (point : IsPartitionPoint (λ rule. ltb rule first ≡ true) (λ rule. ltb rule first ≡ false) group place) where
    -- and has just the rules that are not below
    pub rule_left : (rule : ℕ) → Contains (drop place group) rule ↔ (Contains group rule × (first ≤ rule))
    rule_left rule = (
      λ there.
          let at : get_or group (place + there.0) rule ≡ rule = sym (get_or-drop place group there.0 rule) ∙ there.2 in
          let low : place + there.0 < length group = (let count = length-drop place group in let inside = there.1 in omega (arith, count, inside)) in
          let above = ltb-false (get_or group (place + there.0) rule) first (point.1 (place + there.0) rule (omega arith) low) in
          (Contains-from_drop place group rule there, omega (arith, at, above)),
      λ both.
          let (among, above) = both in
          elim (cases_lt among.0 place) [
            | inl low ↦
                let less = ltb-true (get_or group among.0 rule) first (point.0 among.0 rule (omega arith) low) in
                let at = among.2 in
                absurd (omega (arith, less, at, above))
            | inr high ↦
                let back : place + (among.0 - place) ≡ among.0 = omega arith in (
                  among.0 - place,
                  (let count = length-drop place group in let inside = among.1 in omega (arith, count, inside)),
                  get_or-drop place group (among.0 - place) rule ∙ ap (λ (k : ℕ). get_or group k rule) back ∙ among.2,
                )
          ],
    )
