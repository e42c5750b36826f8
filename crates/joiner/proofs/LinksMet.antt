-- Where there is no change any two forms fit, since the words of the rule are empty; and what is at fault from one link on is at fault
-- along all, where those before it meet.
use Rattle.std.proofs.Common.{◌≡◌, ℕ, ◌+◌, ◌-◌, ◌<◌, inl, List, [], ◌∷◌, ◌++◌, length, get_or, take, drop, sym, ◌∙◌, ap, subst, arith, append-nil}
use Rattle.std.proofs.lemmas.List.{drop_more, take_rest}
use Rattle.lexicon_definitions.specs.Lexicons.{RuleSet, rule_of}
use Rattle.segmentation_definitions.specs.Derivations.{Step, rule_after}
use Rattle.chain_definitions.specs.ChainFaults.{Why, Fault}
use Rattle.chain_definitions.specs.Chains.{BeginsWith, EndsWith, FitsBefore}
use Rattle.chain_definitions.specs.ChainReadings.{AreMeeting, IsWhyNotMeeting, IsFirstNotMeeting}

-- ---- no change

ends_empty : (form word : List ℕ) → word ≡ [] → EndsWith form word
ends_empty form word h = (form, sym (append-nil form) ∙ ap (λ (w : List ℕ). form ++ w) (sym h))

begins_empty : (form word : List ℕ) → word ≡ [] → BeginsWith form word
begins_empty form word h = (form, ap (λ (w : List ℕ). w ++ form) (sym h))

-- where there is no change, any two forms fit
pub fits_unchanged : (rules : RuleSet) (step : Step) (after : List Step) → step.rule ≡ 0 → FitsBefore rules step after
fits_unchanged rules step [] none = ends_empty step.form (rule_after rules step).u (ap (λ (n : ℕ). (rule_of rules n).u) none)
fits_unchanged rules step (next ∷ after) none = (
  ends_empty step.form (rule_after rules step).u (ap (λ (n : ℕ). (rule_of rules n).u) none),
  begins_empty next.form (rule_after rules step).v (ap (λ (n : ℕ). (rule_of rules n).v) none),
)

-- ---- along the links

-- what is at fault, or not, from the links that are left on, tells the same of all
pub record IsMetSoFar (rules : RuleSet) (all : List Step) (met : ℕ) : Type 0 where
  pub meeting : AreMeeting rules (drop met all) → AreMeeting rules all
  pub fault : (fault : Fault) → IsFirstNotMeeting rules (1 + met) (drop met all) fault → IsFirstNotMeeting rules 1 all fault

module _ (rules : RuleSet) (all : List Step) (met : ℕ) (link : Step) (so_far : IsMetSoFar rules all met) (low : met < length all)
    (is : link ≡ get_or all met link) where
  left : drop met all ≡ link ∷ drop (met + 1) all
  left = drop_more all met link low ∙ ap (λ (l : Step). l ∷ drop (met + 1) all) (sym is)

  -- this link does not meet the next
  pub link_unmet : (step : ℕ) (why : Why) → step ≡ met + 1
      → IsWhyNotMeeting rules link (take (length all - (met + 1)) (drop (met + 1) all)) why
      → IsFirstNotMeeting rules 1 all (record { step = step; why = why })
  link_unmet step why counted h =
      so_far.fault (record { step = step; why = why })
      (subst (λ (steps : List Step). IsFirstNotMeeting rules (1 + met) steps (record { step = step; why = why })) (sym left)
      (inl (omega (arith, counted), subst (λ (steps : List Step). IsWhyNotMeeting rules link steps why) (take_rest all (met + 1)) h)))
