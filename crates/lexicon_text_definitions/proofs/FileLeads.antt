-- The leads of unlimited rules differ by their v alone; so those of rules are as many as the different v in the order of the
-- rules, by induction on the rules: both lists have the same v, and grow at the same rules.
use Rattle.std.proofs.Common.{◌≡◌, ◌≢◌, ℕ, ◌+◌, ◌≤◌, inl, inr, Bool, true, false, cond, ◌||◌, List, [], ◌∷◌, ◌++◌, length, get_or, All, arith, refl, sym, ap, subst}
use Rattle.std.specs.List.{AllByRecursion, Contains, list_any}
use Rattle.std.specs.Str.{bytes_eq}
use Rattle.std.specs.List.Sorted.{IsStrictlySortedBy}
use Rattle.std.specs.declared.cmp.Ordering.{Ordering}
use Rattle.std.specs.declared.cmp.Ordering.TheVariants.{Less, Equal, Greater}
use Rattle.std.proofs.lemmas.Bool.{or_parts}
use Rattle.std.proofs.lemmas.List.{length_push}
use Rattle.std.proofs.lemmas.List.Elements.{Contains-append_left, Contains-push, Contains-push_cases, recursion_from_All}
use Rattle.std.proofs.lemmas.List.Folds.{Any-from_list_any}
use Rattle.lexicon_definitions.specs.Rules.{Rule, IsUnlimited, all_phases}
use Rattle.lexicon_definitions.specs.Leads.{Lead, compare_leads, with_lead as with_lead_placed, with_leads, leads_of as leads_placed}
use Rattle.lexicon_definitions.proofs.LeadLaws.{compare_leads_total, compare_leads_exact, sorted-with_lead}
use Rattle.list_laws.specs.RisingSets.{put, with_element}
use Rattle.list_laws.proofs.RisingSetLaws.{Contains-with_element, with_element_there}
use Rattle.list_laws.proofs.Sorted.{Contains-first, Contains-later, Contains-cons_cases, not_Contains-nil, sorted_nil}
use Rattle.list_laws.specs.EmptyLists.{is_empty}
use Rattle.lexicon_text_definitions.specs.FileContents.{with_v, different_v_from, different_v}
use Rattle.list_laws.proofs.Texts.{bytes_same, bytes_itself}

-- ---- membership by a test

contained : (word : List ℕ) (words : List (List ℕ)) → list_any (bytes_eq word) words ≡ true → Contains words word
contained word words h =
    let (k, other, below, is, same) = Any-from_list_any (bytes_eq word) words h in
    (k, below, subst (λ w. get_or words k w ≡ w) (sym (bytes_same word other same)) is)

not_contained : (word : List ℕ) (words : List (List ℕ)) → list_any (bytes_eq word) words ≡ false → Contains words word → ⊥
not_contained word [] h inside = not_Contains-nil word inside
not_contained word (other ∷ words) h inside =
    let parts = or_parts (bytes_eq word other) (list_any (bytes_eq word) words) h in
    elim (Contains-cons_cases other words word inside) [
      | inl same ↦ let yes = bytes_itself word in let no : bytes_eq word word ≡ false = subst (λ w. bytes_eq word w ≡ false) same parts.0 in cc
      | inr there ↦ not_contained word words parts.1 there
    ]

-- ---- a new lead makes a list of leads longer by one

put_absent : (order : Ordering) (new other : Lead) (leads more : List Lead) → compare_leads other new ≡ order → (Contains (other ∷ leads) new → ⊥)
    → ((Contains leads new → ⊥) → length more ≡ length leads + 1) → length (put order new other leads more) ≡ length (other ∷ leads) + 1
put_absent Less new other leads more e n later = let h = later (λ inside. n (Contains-later other leads new inside)) in omega (arith, h)
put_absent Equal new other leads more e n later = absurd (n (subst (λ lead. Contains (other ∷ leads) lead) (compare_leads_exact other new e) (Contains-first other leads)))
put_absent Greater new other leads more e n later = omega arith

lead_absent : (leads : List Lead) (new : Lead) → (Contains leads new → ⊥) → length (with_element compare_leads leads new) ≡ length leads + 1
lead_absent [] new n = omega arith
lead_absent (other ∷ leads) new n = put_absent (compare_leads other new) new other leads (with_element compare_leads leads new) refl n (lead_absent leads new)

-- ---- the same leads in both lists

module _ (count : ℕ) where
  abbrev lead_with : List ℕ → Lead
  lead_with v = record { v = v; after = all_phases count }

  record SameLeads (rising : List Lead) (words : List (List ℕ)) : Type 0 where
    rises : IsStrictlySortedBy compare_leads rising
    there : (lead : Lead) → Contains rising lead → Contains words lead.v
    back : (v : List ℕ) → Contains words v → Contains rising (lead_with v)
    as_many : length rising ≡ length words

  same_by : (v : List ℕ) (rising : List Lead) (words : List (List ℕ)) (test : Bool) → list_any (bytes_eq v) words ≡ test → SameLeads rising words
      → IsStrictlySortedBy compare_leads (with_element compare_leads rising (lead_with v))
      → SameLeads (with_element compare_leads rising (lead_with v)) (cond test words (words ++ v ∷ []))
  same_by v rising words true e h s =
      let same = with_element_there compare_leads_total compare_leads_exact rising (lead_with v) h.rises (h.back v (contained v words e)) in
      subst (λ leads. SameLeads leads words) (sym same) h
  same_by v rising words false e h s =
      let has = Contains-with_element compare_leads_total compare_leads_exact rising (lead_with v) in
      let absent = lead_absent rising (lead_with v) (λ inside. not_contained v words e (h.there (lead_with v) inside)) in
      let long = length_push words v in
      record {
        rises = s;
        there = λ lead inside. elim ((has lead).0 inside) [
          | inl before ↦ Contains-append_left words (v ∷ []) lead.v (h.there lead before)
          | inr same ↦ subst (λ (l : Lead). Contains (words ++ v ∷ []) l.v) same (Contains-push words v)
        ];
        back = λ w inside. elim (Contains-push_cases words v w inside) [
          | inl before ↦ (has (lead_with w)).1 (inl (h.back w before))
          | inr same ↦ (has (lead_with w)).1 (inr (ap lead_with same))
        ];
        as_many = let old = h.as_many in omega (arith, absent, long, old);
      }

  same_with : (v : List ℕ) (after : ℕ) (rising : List Lead) (words : List (List ℕ)) → (v ≢ [] → after ≡ all_phases count) → SameLeads rising words
      → SameLeads (with_lead_placed rising v after) (with_v words v)
  same_with [] after rising words u h = h
  same_with (letter ∷ v) after rising words u h =
      let all = u (λ e. cc) in
      subst (λ phases. SameLeads (with_element compare_leads rising (record { v = letter ∷ v; after = phases })) (with_v words (letter ∷ v))) (sym all)
      (same_by (letter ∷ v) rising words (list_any (bytes_eq (letter ∷ v)) words) refl h (sorted-with_lead rising (letter ∷ v) (all_phases count) h.rises))

  same_from : (rules : List Rule) (rising : List Lead) (words : List (List ℕ)) → AllByRecursion (IsUnlimited count) rules → SameLeads rising words
      → SameLeads (with_leads rising rules) (different_v_from words rules)
  same_from [] rising words u h = h
  same_from (rule ∷ rules) rising words u h =
      same_from rules (with_lead_placed rising rule.v rule.after) (with_v words rule.v) u.1 (same_with rule.v rule.after rising words u.0.1 h)

  -- unlimited rules have as many leads as different v that are not empty
  pub leads_counted : (rules : List Rule) → All (IsUnlimited count) rules → length (leads_placed rules) ≡ length (different_v rules)
  leads_counted rules u =
      (same_from rules [] [] (recursion_from_All (IsUnlimited count) rules u)
      (record { rises = sorted_nil compare_leads; there = λ lead inside. absurd (not_Contains-nil lead inside); back = λ v inside. absurd (not_Contains-nil v inside); as_many = refl })).as_many

-- ---- one rule more

leads_append : (leads : List (List ℕ)) (rules more : List Rule) → different_v_from leads (rules ++ more) ≡ different_v_from (different_v_from leads rules) more
leads_append leads [] more = refl
leads_append leads (rule ∷ rules) more = leads_append (with_v leads rule.v) rules more

pub leads_with : (rules : List Rule) (rule : Rule) → different_v (rules ++ rule ∷ []) ≡ with_v (different_v rules) rule.v
leads_with rules rule = leads_append [] rules (rule ∷ [])

longer_by : (test : Bool) (leads : List (List ℕ)) (v : List ℕ) → length leads ≤ length (cond test leads (leads ++ v ∷ []))
longer_by true leads v = omega arith
longer_by false leads v = omega (arith, length_push leads v)

longer_from : (leads : List (List ℕ)) (rules : List Rule) → length leads ≤ length (different_v_from leads rules)
longer_from leads [] = omega arith
longer_from leads (rule ∷ rules) =
    omega (arith, longer_by (is_empty rule.v || list_any (bytes_eq rule.v) leads) leads rule.v, longer_from (with_v leads rule.v) rules)

-- the rules at the front have no more leads than all
pub leads_front : (rules more : List Rule) → length (different_v rules) ≤ length (different_v (rules ++ more))
leads_front rules more = let whole = ap length (leads_append [] rules more) in omega (arith, whole, longer_from (different_v rules) more)
