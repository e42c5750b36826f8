-- The edges at a sum so far are those with each summand up to what is missing, by induction on how many lead on.
use Rattle.std.proofs.Common.{◌≡◌, ℕ, zero, suc, ◌+◌, ◌-◌, ◌<◌, ◌≤◌, inl, inr, [], Some, None, refl, sym, ap, subst, ◌∙◌, arith}
use Rattle.std.specs.List.{Contains}
use Rattle.std.specs.List.Sorted.{IsStrictlySortedBy}
use Rattle.std.specs.Option.{MatchOption}
use Rattle.std.specs.Ordering.{nat_cmp, on}
use Rattle.std.specs.Cmp.{nat_cmp_is}
use Rattle.std.specs.declared.cmp.Ordering.TheVariants.{Less}
use Rattle.std.specs.declared.option.Option.{Option}
use Rattle.std.proofs.lemmas.Bool.{cases_lt}
use Rattle.std.proofs.lemmas.Cmp.{nat_cmp_total}
use Rattle.std.proofs.lemmas.Map.Lookups.{exact_unsigned}
use Rattle.list_laws.proofs.Sorted.{Contains-first, Contains-later, Contains-cons_cases, not_Contains-nil, All-from_Contains}
use Rattle.list_laws.proofs.FirstOnes.{sorted-cons}
use Rattle.listing_laws.specs.Ways.{AreOrderly, AreRanked}
use Rattle.listing_laws.specs.Listings.{Edge, IsEdge, AreEdges}
use Rattle.listing_laws.specs.SmallSums.{sums, edges_from, edges_missing, edges_of_sums}

pub sums_are_orderly : (total : ℕ) → AreOrderly (sums total)
sums_are_orderly total = record {
  total = nat_cmp_total;
  same = λ at left right p q e. exact_unsigned left right e;
  one_way = λ at branch next other (p, e, l) (q, f, m). omega arith;
  not_both = λ at branch next (p, e) (q, f, l). omega arith;
}

pub sums_are_ranked : (total : ℕ) → AreRanked (sums total) (λ at. at) total
sums_are_ranked total = record {
  rises = λ at branch next (p, e, l). omega arith;
  within = λ at branch next (p, e, l). omega arith;
}

-- the edge has this summand or a greater one, and leads on unless that is the last of so many
abbrev IsFrom : ℕ → ℕ → ℕ → ℕ → Option ℕ → Type 0
IsFrom at summand more branch next =
    MatchOption next (branch ≡ summand + more) (λ next. (summand ≤ branch) × (branch < summand + more) × (next ≡ at + branch))

is_from_later : (at summand more branch : ℕ) (next : Option ℕ) → IsFrom at (suc summand) more branch next → IsFrom at summand (suc more) branch next
is_from_later at summand more branch None e = omega arith
is_from_later at summand more branch (Some next) (low, high, e) = (omega arith, omega arith, e)

from_contained : (at summand more : ℕ) (edge : Edge ℕ ℕ) → Contains (edges_from at summand more) edge → IsFrom at summand more edge.branch edge.next
from_contained at summand zero edge m = elim (Contains-cons_cases (record { branch = summand; next = None }) [] edge m) [
  | inl e ↦ subst (λ (t : Edge ℕ ℕ). IsFrom at summand zero t.branch t.next) e (omega arith)
  | inr n ↦ absurd (not_Contains-nil edge n)
]
from_contained at summand (suc more) edge m =
    elim (Contains-cons_cases (record { branch = summand; next = Some (at + summand) }) (edges_from at (suc summand) more) edge m) [
      | inl e ↦ subst (λ (t : Edge ℕ ℕ). IsFrom at summand (suc more) t.branch t.next) e (omega arith, omega arith, refl)
      | inr n ↦ is_from_later at summand more edge.branch edge.next (from_contained at (suc summand) more edge n)
    ]

same_turn : (left right : ℕ) (next other : Option ℕ) → left ≡ right → next ≡ other
    → record { branch = left; next = next } ≡ (let t : Edge ℕ ℕ = record { branch = right; next = other } in t)
same_turn left right next other e f = λ i. record { branch = e i; next = f i }

contained_from : (at summand more branch : ℕ) (next : Option ℕ) → IsFrom at summand more branch next
    → Contains (edges_from at summand more) (record { branch = branch; next = next })
contained_from at summand zero branch None e =
    subst (Contains (edges_from at summand zero)) (same_turn summand branch None None (omega arith) refl) (Contains-first _ [])
contained_from at summand zero branch (Some next) (low, high, e) = absurd (omega arith)
contained_from at summand (suc more) branch None e =
    Contains-later _ (edges_from at (suc summand) more) _ (contained_from at (suc summand) more branch None (omega arith))
contained_from at summand (suc more) branch (Some next) (low, high, e) = elim (cases_lt summand branch) [
  | inl less ↦ Contains-later _ (edges_from at (suc summand) more) _ (contained_from at (suc summand) more branch (Some next) (omega arith, omega arith, e))
  | inr same ↦
      let here : summand ≡ branch = omega arith in
      subst (Contains (edges_from at summand (suc more)))
      (same_turn summand branch (Some (at + summand)) (Some next) here (ap (λ n. Some (at + n)) here ∙ ap Some (sym e))) (Contains-first _ _)
]

rising_from : (at summand more : ℕ) → IsStrictlySortedBy (on (λ (edge : Edge ℕ ℕ). edge.branch) nat_cmp) (edges_from at summand more)
unfolding IsStrictlySortedBy
rising_from at summand zero = (tt, tt)
rising_from at summand (suc more) =
    sorted-cons (on (λ (edge : Edge ℕ ℕ). edge.branch) nat_cmp) (record { branch = summand; next = Some (at + summand) }) (edges_from at (suc summand) more)
    (All-from_Contains _ (edges_from at (suc summand) more) (λ edge m. sym (nat_cmp_is summand edge.branch Less (above edge.branch edge.next (from_contained at (suc summand) more edge m)))))
    (rising_from at (suc summand) more)
  where
    above : (branch : ℕ) (next : Option ℕ) → IsFrom at (suc summand) more branch next → summand < branch
    above branch None e = omega arith
    above branch (Some next) (low, high, e) = omega arith

missing_rise : (at missing : ℕ) → IsStrictlySortedBy (on (λ (edge : Edge ℕ ℕ). edge.branch) nat_cmp) (edges_missing at missing)
unfolding IsStrictlySortedBy
missing_rise at zero = tt
missing_rise at (suc more) = rising_from at 1 more

turn_of_missing : (total at missing branch : ℕ) (next : Option ℕ) → missing ≡ total - at
    → Contains (edges_missing at missing) (record { branch = branch; next = next }) → IsEdge (sums total) at (record { branch = branch; next = next })
turn_of_missing total at zero branch next e m = absurd (not_Contains-nil _ m)
turn_of_missing total at (suc more) branch None e m = let h = from_contained at 1 more _ m in (omega arith, omega arith)
turn_of_missing total at (suc more) branch (Some next) e m =
    let h = from_contained at 1 more _ m in (omega (arith, h.0), h.2, omega (arith, h.1, h.2))

missing_of_turn : (total at missing branch : ℕ) (next : Option ℕ) → missing ≡ total - at
    → IsEdge (sums total) at (record { branch = branch; next = next }) → Contains (edges_missing at missing) (record { branch = branch; next = next })
missing_of_turn total at zero branch None e (above, is) = absurd (omega arith)
missing_of_turn total at zero branch (Some next) e (above, is, low) = absurd (omega arith)
missing_of_turn total at (suc more) branch None e (above, is) = contained_from at 1 more branch None (omega arith)
missing_of_turn total at (suc more) branch (Some next) e (above, is, low) =
    contained_from at 1 more branch (Some next) (omega arith, omega arith, is)

pub edges_are_written : (total : ℕ) → AreEdges (sums total) (edges_of_sums total)
edges_are_written total = record {
  rising = λ at. missing_rise at (total - at);
  members = λ at edge. (
    λ m. turn_of_missing total at (total - at) edge.branch edge.next refl m,
    λ is. missing_of_turn total at (total - at) edge.branch edge.next refl is,
  );
}
