-- The line of a rule of either version is taken: in version 2 the rule is that of its triple, since it is unlimited.
use Rattle.std.proofs.Common.{◌≡◌, ◌≢◌, inl, inr, ℕ, ◌<◌, ◌≤◌, true, false, Ok, List, [], ◌∷◌, ◌++◌, length, AllPairs, eqb, refl, sym, ◌∙◌, ap, subst, arith}
use Rattle.std.specs.Prelude.{All}
use Rattle.std.specs.List.{AllByRecursion, list_all}
use Rattle.std.proofs.lemmas.Bool.{and_parts, or_cases, eqb-true, false_from_ne_true}
use Rattle.std.proofs.lemmas.List.{append_assoc, length-append}
use Rattle.std.proofs.lemmas.List.Elements.{All-from_recursion}
use Rattle.list_laws.specs.EmptyLists.{is_empty}
use Rattle.lexicon_definitions.specs.declared.limits.TheConstants.{MOST_RULES, MOST_LEADS}
use Rattle.lexicon_definitions.specs.Leads.{with_lead, leads_of}
use Rattle.lexicon_definitions.specs.Lexicons.{IsPhaseName}
use Rattle.lexicon_definitions.specs.Rules.{Rule, IsUnlimited, all_phases, phases_after, unlimited_rule}
use Rattle.lexicon_definitions.proofs.LeadLaws.{leads_of-front}
use Rattle.lexicon_text_definitions.specs.FileContents.{Told as Front, with_v, different_v}
use Rattle.lexicon_text_definitions.proofs.CleanBytes.{clean_utf8}
use Rattle.lexicon_text_definitions.proofs.FileLeads.{leads_with, leads_counted}
use Rattle.lexicon_text_definitions.proofs.FormPhases.{all_right}
use Rattle.lexicon_text_definitions.proofs.LineCuts.{ended_line}
use Rattle.lexicon_text_definitions.proofs.LineSteps.{with_rule, MayRule}
use Rattle.lexicon_text_definitions.proofs.LineTests.{IsOther, pairs_before}
use Rattle.trie_text_definitions.specs.TrieTexts.{rule_line_in}
use Rattle.trie_text_definitions.specs.Versions.{Version, Second, Third, is_unlimited, HasRulesOf}
use Rattle.trie_text_definitions.specs.VersionSteps.{Rules, Told, take_line, lacks_limited}
use Rattle.trie_text_definitions.proofs.LimitedRuleSteps.{MayLimited, IsAfterSet}
use Rattle.trie_text_definitions.proofs.RootForms.{passes_all}
use Rattle.trie_text_definitions.proofs.VersionLines.{with_told, MayCome}
use Rattle.trie_text_definitions.proofs.VersionsSoFar.{IsTextRule, leads_more}
use Rattle.trie_text_laws.proofs.CleanLines.{clean_rule_line_in}
use Rattle.trie_text_laws.proofs.FrontLines.{takes_second_rule_line}
use Rattle.trie_text_laws.proofs.LimitedRulesRead.{takes_limited_rule_line}

-- the rules of a text of the version, over so many phases
pub record AreRules (version : Version) (count : ℕ) (rules : List Rule) : Type 0 where
  pub each : AllByRecursion (IsTextRule count) rules
  pub unlimited : version ≡ Second → AllByRecursion (IsUnlimited count) rules
  pub others : AllPairs IsOther rules
  pub few : length rules ≤ MOST_RULES
  pub leads : length (leads_of rules) ≤ MOST_LEADS

after_by : (count : ℕ) (rule : Rule) (v : List ℕ) → rule.v ≡ v → IsTextRule count rule → IsUnlimited count rule → rule.after ≡ phases_after count v
after_by count rule [] e r u = r.rule_itself.after_none.1 e
after_by count rule (letter ∷ v) e r u = u.1 (λ none. let both = sym e ∙ none in cc (both))

-- an unlimited rule is that of its triple
between : (count : ℕ) (rule : Rule) → IsTextRule count rule → IsUnlimited count rule → rule ≡ unlimited_rule count rule.u rule.v rule.w
between count rule r u =
    let before = u.0 in
    let after = after_by count rule rule.v refl r u in
    λ i. record { u = rule.u; v = rule.v; w = rule.w; before = before i; after = after i }

after_set : (count : ℕ) (rule : Rule) → IsTextRule count rule → IsAfterSet count rule.v rule.after
after_set count rule r = record {
  none = r.rule_itself.after_none.1;
  some = λ n. record { some = above_none rule.after (λ e. n (r.rule_itself.after_none.0 e)); within = r.rule_itself.after_within };
}
  where
    above_none : (set : ℕ) → set ≢ 0 → 0 < set
    above_none set n = omega (arith, n)

module _ (told : Told) (before : List Rule) (rule : Rule) (more : List Rule) (same : told.front.rules ≡ before) (each : All IsPhaseName told.front.names)
    (apart : AllPairs (λ left right. left ≢ right) told.front.names) (f : MayCome told Rules) where
  abbrev count : ℕ
  count = length told.front.names

  abbrev Whole : Version → Type 0
  Whole version = AreRules version count (before ++ rule ∷ more)

  itself : (version : Version) → Whole version → IsTextRule count rule
  itself version h = (all_right (IsTextRule count) before (rule ∷ more) h.each).0

  few_leads : (version : Version) → Whole version → length (leads_of (before ++ rule ∷ [])) ≤ MOST_LEADS
  few_leads version h =
      let most = h.leads in
      let front = leads_of-front (before ++ rule ∷ []) more in
      let all = ap (λ rules. length (leads_of rules)) (append_assoc before (rule ∷ []) more) in
      omega (arith, most, front, all)

  few_rules : (version : Version) → Whole version → length told.front.rules < MOST_RULES
  few_rules version h =
      let few = h.few in
      let long = length-append before (rule ∷ more) in
      let here = ap (λ (rules : List Rule). length rules) same in
      omega (arith, few, long, here)

  others_before : (version : Version) → Whole version → All (λ other. IsOther other rule) told.front.rules
  others_before version h = subst_back (pairs_before IsOther before rule more h.others)
    where
      subst_back : All (λ other. IsOther other rule) before → All (λ other. IsOther other rule) told.front.rules
      subst_back a = subst (All (λ other. IsOther other rule)) (sym same) a

  second_taken : Whole Second → take_line Second told (ended_line (rule_line_in Second told.front.names rule)) ≡ Ok (with_told told Rules (with_rule told.front rule))
  second_taken h =
      let r = itself Second h in
      let i = r.rule_itself in
      let all = h.unlimited refl in
      let u = (all_right (IsUnlimited count) before (rule ∷ more) all).0 in
      let front = all_left before all in
      let counted = leads_counted count (before ++ rule ∷ []) (All-from_recursion (IsUnlimited count) (before ++ rule ∷ []) front) in
      let last_one = ap length (leads_with before rule) in
      let here = ap (λ rules. length (different_v_with rules)) same in
      let few = few_leads Second h in
      let may : MayRule told.front rule.u rule.v rule.w = record {
        u_word = i.u_is_word;
        v_word = i.v_is_word;
        w_word = i.w_is_word;
        u_some = i.strict.0;
        w_some = i.strict.1;
        few = few_rules Second h;
        leads = omega (arith, counted, last_one, here, few);
        u_short = r.short.u;
        v_short = r.short.v;
        w_short = r.short.w;
        other = others_before Second h;
      } in
      takes_second_rule_line told rule.u rule.v rule.w f (clean_utf8 (rule_line_in Second told.front.names rule) (clean_rule_line_in Second told.front.names each rule i)) may
      ∙ ap (λ new. Ok (with_told told Rules (with_rule told.front new))) (sym (between count rule r u))
    where
      different_v_with : List Rule → List (List ℕ)
      different_v_with rules = with_v (different_v rules) rule.v

      all_left : (before : List Rule) → AllByRecursion (IsUnlimited count) (before ++ rule ∷ more) → AllByRecursion (IsUnlimited count) (before ++ rule ∷ [])
      all_left [] a = (a.0, tt)
      all_left (first ∷ before) a = (a.0, all_left before a.1)

  third_taken : Whole Third → take_line Third told (ended_line (rule_line_in Third told.front.names rule)) ≡ Ok (with_told told Rules (with_rule told.front rule))
  third_taken h =
      let r = itself Third h in
      let i = r.rule_itself in
      let few = few_leads Third h in
      let leads = ap length (leads_more [] before rule) in
      let here = ap (λ rules. length (with_lead (leads_of rules) rule.v rule.after)) same in
      let may : MayLimited told rule = record {
        u_word = i.u_is_word;
        v_word = i.v_is_word;
        w_word = i.w_is_word;
        u_some = i.strict.0;
        w_some = i.strict.1;
        few = few_rules Third h;
        leads = omega (arith, few, leads, here);
        short = r.short;
        other = others_before Third h;
      } in
      takes_limited_rule_line told rule may each apart (record { some = i.before_some; within = i.before_within }) (after_set count rule r) f
      (clean_utf8 (rule_line_in Third told.front.names rule) (clean_rule_line_in Third told.front.names each rule i))

  pub takes_rule_line : (version : Version) → Whole version → take_line version told (ended_line (rule_line_in version told.front.names rule)) ≡ Ok (with_told told Rules (with_rule told.front rule))
  takes_rule_line Second h = second_taken h
  takes_rule_line Third h = third_taken h

-- ---- a limited rule

test_tells : (count : ℕ) (rule : Rule) → is_unlimited count rule ≡ true → IsUnlimited count rule
test_tells count rule h =
    let parts = and_parts _ _ h in (
      eqb-true rule.before (all_phases count) parts.0,
      λ inner. elim (or_cases (is_empty rule.v) (eqb rule.after (all_phases count)) parts.1) [
        | inl none ↦ absurd (inner (empty rule.v none))
        | inr same ↦ eqb-true rule.after (all_phases count) same
      ],
    )
  where
    empty : (v : List ℕ) → is_empty v ≡ true → v ≡ []
    empty [] e = refl
    empty (letter ∷ v) e = absurd (cc)

-- rules of version 3 have a limited one
pub limited_there : (version : Version) (front : Front) → HasRulesOf version (length front.names) front.rules → lacks_limited version front ≡ false
limited_there Second front h = refl
limited_there Third front (rule, m, limited) =
    false_from_ne_true (list_all (is_unlimited (length front.names)) front.rules)
    (λ all. limited (test_tells (length front.names) rule (passes_all (is_unlimited (length front.names)) front.rules rule all m)))
