-- A place that does not rise or lies outside refutes the rise or the bounds at its index; past the last index the invariant is the clause.
use Rattle.std.proofs.Common.{arith, ◌≡◌, ◌<◌, ◌≤◌, ◌+◌, ℕ, zero, suc, List, length, get_or, All, refl, subst}
use Rattle.std.specs.List.Sorted.{IsStrictlyIncreasing}
use Rattle.phoneme.proofs.line.rise_inside.Goals as goal
use Rattle.phoneme.proofs.line.rise_inside.Goals.{then-place-last-via-then-place-last, then-place-last-via-else-place-last+then-place-len}

not_above_the_last : (places : List ℕ) (len last index : ℕ) → ((k : ℕ) → k + 1 ≡ index → get_or places k 0 ≡ last) → (index ≡ 0 → last ≡ 0) → index < length places → get_or places index 0 ≤ last → IsStrictlyIncreasing places → All (λ place. (0 < place) × (place < len)) places → ⊥
not_above_the_last places len last zero kept first within low rising inside =
    omega (arith, low, first refl, (inside 0 0 within).0)
not_above_the_last places len last (suc k) kept first within low rising inside =
    let next : k + 1 ≡ suc k = omega arith in
    let IsAbove : ℕ → Type 0 = λ n. get_or places k 0 < get_or places n 0 in
    let above : IsAbove (suc k) = subst IsAbove next (rising k (omega (arith, within))) in
    omega (arith, low, kept k next, above)

pub returns-then-place-last : goal.returns-then-place-last
returns-then-place-last c =
    elim c.then-place-last.branch [
      | then-place-last-via-then-place-last w ↦ (
        λ h. cc,
        λ h. absurd (not_above_the_last _ _ _ _ c.loop-place.invariant.2 c.loop-place.invariant.3 c.loop-place-test.true w.if-place-last.true h.0 h.1),
      )
      | then-place-last-via-else-place-last+then-place-len w ↦ (
        λ h. cc,
        λ h. absurd (omega (arith, w.if-place-len.true, (h.1 c.loop-place.place-index 0 c.loop-place-test.true).1)),
      )
    ]

pub returns : goal.returns
returns c =
    let end = c.loop-place-test.false in
    (λ _. (λ k h. c.loop-place.invariant.0 k (omega (arith, end, h)), λ k d h. c.loop-place.invariant.1 k d (omega (arith, end, h))), λ _. refl)
