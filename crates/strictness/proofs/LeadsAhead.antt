-- With which leads a form may begin: two words with which one form begins agree, and what agrees with a longer front agrees with a
-- shorter one; so the leads that may begin a longer front are among those of a shorter one.
use Rattle.std.proofs.Common.{◌≡◌, ℕ, zero, suc, ◌+◌, ◌<◌, inl, inr, List, [], ◌∷◌, ◌++◌, length, length-append, refl, sym, ap, subst, ◌∙◌, append_assoc, arith}
use Rattle.std.specs.List.{Contains}
use Rattle.std.specs.Ordering.{nat_cmp}
use Rattle.std.proofs.lemmas.List.{get_or_default}
use Rattle.list_laws.specs.Firsts.{AreAll}
use Rattle.list_laws.proofs.Sorted.{All-from_Contains}
use Rattle.lexicon_definitions.specs.Rules.{HasPhase, no_change}
use Rattle.lexicon_definitions.specs.Leads.{Lead, leads_of, lead_of}
use Rattle.lexicon_definitions.specs.Lexicons.{RuleSet, rule_of}
use Rattle.lexicon_definitions.proofs.LeadLaws.{Contains-leads_of}
use Rattle.segmentation_definitions.specs.Derivations.{IsRuleNumber}
use Rattle.strictness.specs.Matches.{BeginsForm}
use Rattle.strictness.specs.Walks.{Agree, lead_at, MayBegin, AreWithin}

both_begin : (a b r s : List ℕ) → a ++ r ≡ b ++ s → Agree a b
both_begin [] b r s e = inl (b, refl)
both_begin (x ∷ a) [] r s e = inr (x ∷ a, refl)
both_begin (x ∷ a) (y ∷ b) r s e =
    let same : x ≡ y = cc in
    let rest : a ++ r ≡ b ++ s = cc in
    elim (both_begin a b r s rest) [
      | inl (t, f) ↦ inl (t, λ i. sym same i ∷ f i)
      | inr (t, f) ↦ inr (t, λ i. same i ∷ f i)
    ]

agree_shorter : (v front : List ℕ) (letter : ℕ) → Agree v (front ++ letter ∷ []) → Agree v front
agree_shorter v front letter (inl (rest, e)) = both_begin v front rest (letter ∷ []) (sym e)
agree_shorter v front letter (inr (rest, e)) = inr (letter ∷ rest, e ∙ append_assoc front (letter ∷ []) rest)

module _ (rules : RuleSet) (phase longest : ℕ) where
  shorter_front : (front : List ℕ) (letter place : ℕ) → MayBegin rules phase longest (front ++ letter ∷ []) place → MayBegin rules phase longest front place
  shorter_front front letter place h = record {
    there = h.there;
    precedes = h.precedes;
    agrees = agree_shorter (lead_at rules place).v front letter h.agrees;
    near = let near = h.near in omega (arith, near, length-append front (letter ∷ []));
  }

  -- the leads of a front are candidates for a longer one
  pub further_leads : (front further : List ℕ) (letter : ℕ) (leads : List ℕ) → further ≡ front ++ letter ∷ [] → AreAll nat_cmp (MayBegin rules phase longest front) leads
      → AreWithin (MayBegin rules phase longest further) (length (leads_of rules.rules)) leads
  further_leads front further letter leads e all = record {
    rising = all.rising;
    within = All-from_Contains (λ n. n < length (leads_of rules.rules)) leads (λ n m. (all.only n m).there);
    complete = λ n h. all.complete n (shorter_front front letter n (subst (λ word. MayBegin rules phase longest word n) e h));
  }

  -- all leads are candidates
  pub leads_at_all : (front : List ℕ) (leads : List ℕ) → AreAll nat_cmp (λ place. place < length (leads_of rules.rules)) leads
      → AreWithin (MayBegin rules phase longest front) (length (leads_of rules.rules)) leads
  leads_at_all front leads all = record {
    rising = all.rising;
    within = All-from_Contains (λ n. n < length (leads_of rules.rules)) leads all.only;
    complete = λ n h. all.complete n h.there;
  }

  pub rule_among : (number : ℕ) → IsRuleNumber rules number → Contains rules.rules (rule_of rules number)
  rule_among zero within = absurd (omega arith)
  rule_among (suc number) within = (number, within.1, get_or_default rules.rules number (rule_of rules (suc number)) no_change within.1)

  -- where a rule begins a form that begins with the front, the front is near enough: its lead may begin the form
  pub lead_ahead : (front rest form : List ℕ) (number : ℕ) → BeginsForm rules phase form number → form ≡ front ++ rest
      → length form < length (rule_of rules number).v + longest → (place : ℕ) × MayBegin rules phase longest front place
  lead_ahead front rest form number begins e near =
      let rule = rule_of rules number in
      let (place, within, is) = (Contains-leads_of rules.rules (lead_of rule)).1 (rule, rule_among number begins.rule, begins.inner, refl, refl) in
      let at : lead_at rules place ≡ lead_of rule = get_or_default (leads_of rules.rules) place (record { v = []; after = 0 }) (lead_of rule) within ∙ is in (
        place,
        record {
          there = within;
          precedes = subst (λ (lead : Lead). HasPhase lead.after phase) (sym at) begins.precedes;
          agrees = subst (λ (lead : Lead). Agree lead.v front) (sym at) (both_begin rule.v front begins.begins.0 rest (sym begins.begins.1 ∙ e));
          near = subst (λ (lead : Lead). length front < length lead.v + longest) (sym at) (omega (arith, near, ap length e, length-append front rest));
        },
      )
