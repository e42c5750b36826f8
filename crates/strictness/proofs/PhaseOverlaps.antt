-- One phase after another, and the first overlaps of all phases.
use Rattle.std.proofs.Common.{◌≡◌, ℕ, ◌+◌, ◌<◌, ◌≤◌, ◌⊎◌, inl, inr, List, [], ◌++◌, length, map, sym, ap, subst, ◌∙◌, arith}
use Rattle.std.specs.List.{Contains}
use Rattle.std.specs.Cmp.{nat_cmp_is}
use Rattle.std.specs.List.Sorted.{IsStrictlySortedBy}
use Rattle.std.specs.declared.cmp.Ordering.TheVariants.{Less}
use Rattle.std.proofs.lemmas.Bool.{cases_lt}
use Rattle.std.proofs.lemmas.List.{get_or_past}
use Rattle.list_laws.specs.Firsts.{ComesAfter}
use Rattle.list_laws.proofs.Sorted.{not_Contains-nil}
use Rattle.lexicon_definitions.specs.Lexicons.{Lexicon, Form}
use Rattle.segmentation_definitions.specs.Overlaps.{Overlap, IsOverlap, compare_overlaps}
use Rattle.strictness.specs.Overlaps.{AreFirstOverlaps}
use Rattle.strictness.specs.Appending.{AppendsFirst}
use Rattle.strictness.specs.declared.found.Found.{Found}
use Rattle.strictness.proofs.OverlapOrder.{less_by_phase}
use Rattle.strictness.proofs.AppendedFirsts.{appends_none, appends_with, appends_both}
use Rattle.strictness.proofs.FormOverlaps.{IsOfPhase}

module _ (lexicon : Lexicon) where
  -- an overlap of a phase below this one
  abbrev pub IsOfPhaseBelow : ℕ → Overlap → Type 0
  IsOfPhaseBelow phase x = IsOverlap lexicon x × (x.phase < phase)

  pub no_phase : (found : Found) → AppendsFirst (IsOfPhaseBelow 0) found found
  no_phase found = appends_none (IsOfPhaseBelow 0) found (λ x h. omega (arith, h.1))

  pub phase_more : (phase : ℕ) (before between after : Found) → AppendsFirst (IsOfPhaseBelow phase) before between
      → AppendsFirst (IsOfPhase lexicon phase) between after → AppendsFirst (IsOfPhaseBelow (phase + 1)) before after
  phase_more phase before between after below these =
      let P = IsOfPhaseBelow phase in
      let Q = IsOfPhase lexicon phase in
      appends_with (λ x. P x ⊎ Q x) (IsOfPhaseBelow (phase + 1)) before after
      (λ x h. elim h [
        | inl b ↦ (b.0, omega (arith, b.1))
        | inr e ↦ (e.0, omega (arith, e.1))
      ])
      (λ x h. elim (cases_lt x.phase phase) [
        | inl low ↦ inl (h.0, low)
        | inr high ↦ inr (h.0, omega (arith, h.1))
      ])
      (appends_both P Q before between after below these
      (λ x y p q. less_by_phase x y (sym (nat_cmp_is x.phase y.phase Less (omega (arith, p.1, q.1))))))

  -- a phase that has a form is one of the lexicon's
  phase_within : (x : Overlap) → IsOverlap lexicon x → x.phase < length lexicon.phases
  phase_within x is = elim (cases_lt x.phase (length lexicon.phases)) [
    | inl below ↦ below
    | inr above ↦
        let none = get_or_past lexicon.phases x.phase [] above in
        absurd (not_Contains-nil x.form (subst (λ (forms : List Form). Contains (map (λ (form : Form). form.letters) forms) x.form) none is.of_phase))
  ]

  pub all_phases : (phase most : ℕ) (before after : Found) → length lexicon.phases ≤ phase → before.overlaps.items ≡ [] → before.most ≡ most
      → AppendsFirst (IsOfPhaseBelow phase) before after → AreFirstOverlaps lexicon most after.overlaps.items
  all_phases phase most before after all none wanted appends =
      let is : after.overlaps.items ≡ appends.added = appends.is ∙ ap (λ xs. xs ++ appends.added) none in
      let below = appends.at_most (omega (arith, ap length none)) in
      let same : after.most ≡ most = appends.most ∙ wanted in
      record {
        rising = subst (IsStrictlySortedBy compare_overlaps) (sym is) appends.rising;
        only = λ x m. (appends.only x (subst (λ xs. Contains xs x) is m)).0;
        at_most = omega (arith, below, same);
        first = λ x p. elim (appends.first x (p, omega (arith, phase_within x p))) [
          | inl m ↦ inl (subst (λ xs. Contains xs x) (sym is) m)
          | inr (full, b) ↦ inr (full ∙ same, subst (λ xs. ComesAfter compare_overlaps xs x) (sym is) b)
        ];
      }

  -- without rules there are no overlaps
  pub without_rules : (most : ℕ) → length lexicon.rules.rules ≡ 0 → AreFirstOverlaps lexicon most []
  unfolding IsStrictlySortedBy
  without_rules most none = record {
    rising = tt;
    only = λ x m. absurd (not_Contains-nil x m);
    at_most = omega arith;
    first = λ x p. absurd (omega (arith, p.rule));
  }
