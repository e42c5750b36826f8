-- The overlaps in one form: they rise with the rule before, then with the rule after; and they are overlaps of the lexicon
-- exactly where the phase has the form.
use Rattle.std.proofs.Common.{◌≡◌, ℕ, ◌+◌, ◌*◌, ◌<◌, ◌≤◌, List, length, length-append, sym, subst, ◌∙◌, arith}
use Rattle.std.specs.List.{All}
use Rattle.std.proofs.lemmas.List.Elements.{All-contains}
use Rattle.std.specs.Ordering.{nat_cmp}
use Rattle.lexicon_definitions.specs.declared.limits.TheConstants.{MOST_RULE_LETTERS}
use Rattle.lexicon_definitions.specs.Rules.{HasPhase}
use Rattle.lexicon_definitions.specs.Lexicons.{Lexicon, RuleSet, IsForm, rule_of}
use Rattle.lexicon_definitions.specs.Limits.{IsRuleSetWithinLimits}
use Rattle.segmentation_definitions.specs.Overlaps.{Overlap, IsOverlap}
use Rattle.list_laws.specs.Firsts.{AreAll}
use Rattle.strictness.specs.Matches.{BeginsForm, EndsForm, AreLonger, IsInForm}
use Rattle.strictness.specs.Appending.{Takes, AppendsFirst}
use Rattle.strictness.specs.declared.found.Found.{Found}
use Rattle.strictness.proofs.OverlapOrder.{less_by_before, less_by_after}
use Rattle.strictness.proofs.AppendedFirsts.{appends_none, appends_one}
use Rattle.strictness.proofs.KeyLoops.{RisesWith}
use Rattle.strictness.proofs.RuleMatches.{not_longer}

module _ (rules : RuleSet) (phase : ℕ) (form : List ℕ) where
  -- in the form, with this rule before it
  abbrev pub HasBefore : ℕ → Overlap → Type 0
  HasBefore before x = IsInForm rules phase form x × (x.before ≡ before)

  pub rises_after : (before : ℕ) → RisesWith nat_cmp (λ x. x.after) (HasBefore before)
  rises_after before x y p q less =
      less_by_after x y (p.0.phase_is ∙ sym q.0.phase_is) (p.0.form_is ∙ sym q.0.form_is) (p.1 ∙ sym q.1) less

  pub rises_before : RisesWith nat_cmp (λ x. x.before) (IsInForm rules phase form)
  rises_before x y p q less = less_by_before x y (p.phase_is ∙ sym q.phase_is) (p.form_is ∙ sym q.form_is) less

  -- the two rules overlap, and are taken
  pub takes_pair : (before after : ℕ) (one : Overlap) (old new : Found) → BeginsForm rules phase form before → EndsForm rules phase form after
      → AreLonger rules before after form → one.phase ≡ phase → one.form ≡ form → one.before ≡ before → one.after ≡ after
      → Takes one old new → AppendsFirst (λ x. HasBefore before x × (x.after ≡ after)) old new
  takes_pair before after one old new begins ends longer p f b a takes =
      appends_one (λ x. HasBefore before x × (x.after ≡ after)) old new one (
        (
          record {
            phase_is = p;
            form_is = f;
            begins = subst (BeginsForm rules phase form) (sym b) begins;
            ends = subst (EndsForm rules phase form) (sym a) ends;
            longer = subst (λ n. AreLonger rules n one.after form) (sym b) (subst (λ n. AreLonger rules before n form) (sym a) longer);
          },
          b,
        ),
        a,
      )
      (λ x h i. record {
        phase = (h.0.0.phase_is ∙ sym p) i;
        form = (h.0.0.form_is ∙ sym f) i;
        before = (h.0.1 ∙ sym b) i;
        after = (h.1 ∙ sym a) i;
      }) takes

  -- the two rules do not overlap
  pub leaves_pair : (before after : ℕ) (found : Found) → (AreLonger rules before after form → ⊥)
      → AppendsFirst (λ x. HasBefore before x × (x.after ≡ after)) found found
  leaves_pair before after found not =
      appends_none (λ x. HasBefore before x × (x.after ≡ after)) found
      (λ x h. not (subst (λ n. AreLonger rules n after form) h.0.1 (subst (λ n. AreLonger rules x.before n form) h.1 h.0.0.longer)))

  -- the longest u after the form does not reach over the rule before it
  pub leaves_rule : (before longest : ℕ) (afters : List ℕ) (found : Found) → AreAll nat_cmp (EndsForm rules phase form) afters
      → All (λ n. length (rule_of rules n).u ≤ longest) afters → (length form < length (rule_of rules before).v + longest → ⊥)
      → AppendsFirst (HasBefore before) found found
  leaves_rule before longest afters found all shorter not =
      appends_none (HasBefore before) found (λ x h.
      let u : length (rule_of rules x.after).u ≤ longest =
      All-contains (λ n. length (rule_of rules n).u ≤ longest) afters x.after shorter (all.complete x.after h.0.ends) in
      let longer : AreLonger rules before x.after form = subst (λ n. AreLonger rules n x.after form) h.1 h.0.longer in
      not (omega (arith, u, longer, length-append (rule_of rules before).v (rule_of rules x.after).u)))

  pub none_in_long : (found : Found) → IsRuleSetWithinLimits rules → 2 * MOST_RULE_LETTERS ≤ length form
      → AppendsFirst (IsInForm rules phase form) found found
  none_in_long found limits long =
      appends_none (IsInForm rules phase form) found
      (λ x h. not_longer rules x.before x.after form limits h.begins.rule h.ends.rule long h.longer)

  -- no rule begins the form
  pub none_without : (befores : List ℕ) (found : Found) → AreAll nat_cmp (BeginsForm rules phase form) befores → length befores ≡ 0
      → AppendsFirst (IsInForm rules phase form) found found
  none_without befores found all none =
      appends_none (IsInForm rules phase form) found (λ x h. omega (arith, (all.complete x.before h.begins).1))

-- what is in a form of a phase is an overlap of the lexicon, and an overlap is in its form
pub overlap_from : (lexicon : Lexicon) (phase : ℕ) (form : List ℕ) (x : Overlap) → IsForm lexicon phase form
    → IsInForm lexicon.rules phase form x → IsOverlap lexicon x
overlap_from lexicon phase form x is here = record {
  of_phase = subst (λ n. IsForm lexicon n x.form) (sym here.phase_is) (subst (IsForm lexicon phase) (sym here.form_is) is);
  inner = (here.begins.rule, here.begins.inner);
  rule = here.ends.rule;
  precedes = subst (HasPhase (rule_of lexicon.rules x.before).after) (sym here.phase_is) here.begins.precedes;
  follows = subst (HasPhase (rule_of lexicon.rules x.after).before) (sym here.phase_is) here.ends.follows;
  begins = (here.begins.begins.0, here.form_is ∙ here.begins.begins.1);
  ends = (here.ends.ends.0, here.form_is ∙ here.ends.ends.1);
  longer = subst (AreLonger lexicon.rules x.before x.after) (sym here.form_is) here.longer;
}

pub in_form_from : (lexicon : Lexicon) (x : Overlap) (phase : ℕ) (form : List ℕ) → x.phase ≡ phase → x.form ≡ form
    → IsOverlap lexicon x → IsInForm lexicon.rules phase form x
in_form_from lexicon x phase form p f is = record {
  phase_is = p;
  form_is = f;
  begins = record {
    rule = is.inner.0;
    inner = is.inner.1;
    precedes = subst (HasPhase (rule_of lexicon.rules x.before).after) p is.precedes;
    begins = (is.begins.0, sym f ∙ is.begins.1);
  };
  ends = record {
    rule = is.rule;
    follows = subst (HasPhase (rule_of lexicon.rules x.after).before) p is.follows;
    ends = (is.ends.0, sym f ∙ is.ends.1);
  };
  longer = subst (AreLonger lexicon.rules x.before x.after) f is.longer;
}

module _ (lexicon : Lexicon) (phase : ℕ) where
  -- an overlap of this phase
  abbrev pub IsOfPhase : Overlap → Type 0
  IsOfPhase x = IsOverlap lexicon x × (x.phase ≡ phase)
