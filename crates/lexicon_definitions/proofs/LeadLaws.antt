-- The leads of rules rise, and they are just those of the inner ones, by induction on the rules: each puts its own in.
use Rattle.std.proofs.Common.{◌≡◌, ◌≢◌, ℕ, ◌≤◌, ◌⊎◌, ◌↔◌, inl, inr, List, [], ◌∷◌, ◌++◌, length, refl, sym, ◌∙◌, ap, subst, arith}
use Rattle.std.specs.List.{Contains}
use Rattle.std.specs.List.Sorted.{IsStrictlySortedBy}
use Rattle.std.specs.Cmp.{IsTotalOrder}
use Rattle.std.specs.Ordering.{nat_cmp}
use Rattle.std.proofs.lemmas.Cmp.{nat_cmp_total, nat_list_cmp_total, then_total, on_total}
use Rattle.std.proofs.lemmas.Map.Lookups.{CmpEqualImpliesEq, exact_unsigned, exact_bytes}
use Rattle.text_definitions.specs.Words.{compare_words}
use Rattle.lexicon_definitions.specs.Rules.{Rule, IsInner}
use Rattle.lexicon_definitions.specs.Leads.{Lead, compare_leads, with_lead, with_leads, leads_of, IsLeadOf}
use Rattle.list_laws.specs.RisingSets.{with_element}
use Rattle.list_laws.proofs.RisingSetLaws.{Contains-with_element, sorted-with_element, length-with_element}
use Rattle.list_laws.proofs.Sorted.{Contains-first, Contains-later, Contains-cons_cases, not_Contains-nil}
use Rattle.list_laws.proofs.Orderings.{equal_then_both}

-- leads are totally ordered
pub compare_leads_total : IsTotalOrder compare_leads
compare_leads_total = then_total (on_total (λ (lead : Lead). lead.v) nat_list_cmp_total) (on_total (λ (lead : Lead). lead.after) nat_cmp_total)

pub same_lead : (left right : Lead) → left.v ≡ right.v → left.after ≡ right.after → left ≡ right
same_lead left right v after = λ i. record { v = v i; after = after i }

-- leads that compare as equal are the same
pub compare_leads_exact : CmpEqualImpliesEq compare_leads
compare_leads_exact left right e =
    let parts = equal_then_both (compare_words left.v right.v) (nat_cmp left.after right.after) e in
    same_lead left right (exact_bytes _ _ parts.0) (exact_unsigned _ _ parts.1)

-- a final rule adds no lead
pub with_lead_none : (leads : List Lead) (v : List ℕ) (after : ℕ) → v ≡ [] → with_lead leads v after ≡ leads
with_lead_none leads [] after e = refl
with_lead_none leads (letter ∷ v) after e = cc

-- an inner rule adds its own
pub with_lead_some : (leads : List Lead) (v : List ℕ) (after : ℕ) → v ≢ []
    → with_lead leads v after ≡ with_element compare_leads leads (record { v = v; after = after })
with_lead_some leads [] after n = absurd (n refl)
with_lead_some leads (letter ∷ v) after n = refl

pub sorted-with_lead : (leads : List Lead) (v : List ℕ) (after : ℕ) → IsStrictlySortedBy compare_leads leads
    → IsStrictlySortedBy compare_leads (with_lead leads v after)
sorted-with_lead leads [] after s = s
sorted-with_lead leads (letter ∷ v) after s =
    sorted-with_element compare_leads_total compare_leads_exact leads (record { v = letter ∷ v; after = after }) s

sorted-with_leads : (leads : List Lead) (rules : List Rule) → IsStrictlySortedBy compare_leads leads
    → IsStrictlySortedBy compare_leads (with_leads leads rules)
sorted-with_leads leads [] s = s
sorted-with_leads leads (rule ∷ rules) s = sorted-with_leads (with_lead leads rule.v rule.after) rules (sorted-with_lead leads rule.v rule.after s)

-- the leads rise
pub leads_rise : (rules : List Rule) → IsStrictlySortedBy compare_leads (leads_of rules)
unfolding IsStrictlySortedBy
leads_rise rules = sorted-with_leads [] rules tt

-- no rule takes one away
pub length-with_lead : (leads : List Lead) (v : List ℕ) (after : ℕ) → length leads ≤ length (with_lead leads v after)
length-with_lead leads [] after = omega arith
length-with_lead leads (letter ∷ v) after = length-with_element compare_leads leads (record { v = letter ∷ v; after = after })

length-with_leads : (leads : List Lead) (rules : List Rule) → length leads ≤ length (with_leads leads rules)
length-with_leads leads [] = omega arith
length-with_leads leads (rule ∷ rules) =
    let here = length-with_lead leads rule.v rule.after in
    let later = length-with_leads (with_lead leads rule.v rule.after) rules in omega arith

pub with_leads-append : (leads : List Lead) (rules more : List Rule) → with_leads leads (rules ++ more) ≡ with_leads (with_leads leads rules) more
with_leads-append leads [] more = refl
with_leads-append leads (rule ∷ rules) more = with_leads-append (with_lead leads rule.v rule.after) rules more

-- the leads with one rule more
pub leads_of-push : (rules : List Rule) (rule : Rule) → leads_of (rules ++ rule ∷ []) ≡ with_lead (leads_of rules) rule.v rule.after
leads_of-push rules rule = with_leads-append [] rules (rule ∷ [])

-- there are no more leads of some of the rules than of all
pub leads_of-front : (rules more : List Rule) → length (leads_of rules) ≤ length (leads_of (rules ++ more))
leads_of-front rules more =
    let cut = with_leads-append [] rules more in
    let longer = length-with_leads (with_leads [] rules) more in
    omega (arith, ap length cut)

-- ---- which they are

of_lead : (leads : List Lead) (v : List ℕ) (after : ℕ) (lead : Lead) → Contains (with_lead leads v after) lead
    → Contains leads lead ⊎ ((v ≢ []) × (v ≡ lead.v) × (after ≡ lead.after))
of_lead leads [] after lead inside = inl inside
of_lead leads (letter ∷ v) after lead inside =
    elim ((Contains-with_element compare_leads_total compare_leads_exact leads (record { v = letter ∷ v; after = after }) lead).0 inside) [
      | inl there ↦ inl there
      | inr same ↦ inr ((λ e. cc), ap (λ (l : Lead). l.v) same, ap (λ (l : Lead). l.after) same)
    ]

kept_lead : (leads : List Lead) (v : List ℕ) (after : ℕ) (lead : Lead) → Contains leads lead → Contains (with_lead leads v after) lead
kept_lead leads [] after lead inside = inside
kept_lead leads (letter ∷ v) after lead inside =
    (Contains-with_element compare_leads_total compare_leads_exact leads (record { v = letter ∷ v; after = after }) lead).1 (inl inside)

own_lead : (leads : List Lead) (v : List ℕ) (after : ℕ) (lead : Lead) → v ≢ [] → v ≡ lead.v → after ≡ lead.after
    → Contains (with_lead leads v after) lead
own_lead leads [] after lead n e f = absurd (n refl)
own_lead leads (letter ∷ v) after lead n e f =
    (Contains-with_element compare_leads_total compare_leads_exact leads (record { v = letter ∷ v; after = after }) lead).1
    (inr (same_lead (record { v = letter ∷ v; after = after }) lead e f))

of_leads : (leads : List Lead) (rules : List Rule) (lead : Lead) → Contains (with_leads leads rules) lead
    → Contains leads lead ⊎ IsLeadOf rules lead
of_leads leads [] lead inside = inl inside
of_leads leads (rule ∷ rules) lead inside =
    elim (of_leads (with_lead leads rule.v rule.after) rules lead inside) [
      | inl here ↦ elim (of_lead leads rule.v rule.after lead here) [
        | inl there ↦ inl there
        | inr (inner, v, after) ↦ inr (rule, Contains-first rule rules, inner, v, after)
      ]
      | inr (other, there, inner, v, after) ↦ inr (other, Contains-later rule rules other there, inner, v, after)
    ]

kept_leads : (leads : List Lead) (rules : List Rule) (lead : Lead) → Contains leads lead → Contains (with_leads leads rules) lead
kept_leads leads [] lead inside = inside
kept_leads leads (rule ∷ rules) lead inside =
    kept_leads (with_lead leads rule.v rule.after) rules lead (kept_lead leads rule.v rule.after lead inside)

own_leads : (leads : List Lead) (rules : List Rule) (lead : Lead) → IsLeadOf rules lead → Contains (with_leads leads rules) lead
own_leads leads [] lead is = absurd (not_Contains-nil is.0 is.1)
own_leads leads (rule ∷ rules) lead (other, there, inner, v, after) =
    elim (Contains-cons_cases rule rules other there) [
      | inl same ↦ kept_leads (with_lead leads rule.v rule.after) rules lead
          (own_lead leads rule.v rule.after lead (subst IsInner (sym same) inner) (ap (λ (r : Rule). r.v) same ∙ v) (ap (λ (r : Rule). r.after) same ∙ after))
      | inr later ↦ own_leads (with_lead leads rule.v rule.after) rules lead (other, later, inner, v, after)
    ]

-- they are the leads of the inner rules
pub Contains-leads_of : (rules : List Rule) (lead : Lead) → Contains (leads_of rules) lead ↔ IsLeadOf rules lead
Contains-leads_of rules lead = (
  λ inside. elim (of_leads [] rules lead inside) [ inl none ↦ absurd (not_Contains-nil lead none) | inr is ↦ is ],
  own_leads [] rules lead,
)
