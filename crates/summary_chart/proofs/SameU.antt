-- For each rule one with the same u: at first itself, and one that is put in place of another has its u.
use Rattle.std.proofs.Common.{◌≡◌, ◌≢◌, ◌⊎◌, ℕ, ◌+◌, ◌<◌, ◌≤◌, inl, inr, Bool, true, List, [], ◌∷◌, ◌++◌, length, get_or, set, All, sym, ap, ◌∙◌, refl, arith, length-set}
use Rattle.std.specs.declared.cmp.Ordering.{Ordering}
use Rattle.std.specs.declared.cmp.Ordering.TheVariants.{Less, Equal, Greater}
use Rattle.std.specs.Ordering.{is_eq}
use Rattle.std.proofs.lemmas.Bool.{cases_lt}
use Rattle.std.proofs.lemmas.List.{get_or_append_left, get_or_at, get_or_default, get_or-set_same, get_or-set_other}
use Rattle.std.proofs.lemmas.Map.Lookups.{exact_bytes}
use Rattle.text_definitions.specs.Words.{compare_words}
use Rattle.lexicon_definitions.specs.Lexicons.{RuleSet, rule_of}
use Rattle.summary_chart.specs.Summaries.{AreRuleNumbers, HaveSameU}

-- words that compare as equal are the same
equal_if : (order : Ordering) → is_eq order ≡ true → order ≡ Equal
equal_if Less e = absurd cc
equal_if Equal e = refl
equal_if Greater e = absurd cc

pub same_words : (left right : List ℕ) (order : Ordering) → order ≡ compare_words left right → (same : Bool) → same ≡ is_eq order → same ≡ true → left ≡ right
same_words left right order is same told equal =
    exact_bytes left right (equal_if (compare_words left right) (ap is_eq (sym is) ∙ sym told ∙ equal))

-- one number more stands in its place
pub one_numbered : (numbers : List ℕ) (count n : ℕ) → length numbers ≡ count → ((k : ℕ) → k < count → get_or numbers k 0 ≡ k) → n < count + 1
    → get_or (numbers ++ count ∷ []) n 0 ≡ n
one_numbered numbers count n size each below = elim (cases_lt n count) [
  | inl before ↦ get_or_append_left numbers (count ∷ []) 0 n (omega (arith, before, size)) ∙ each n before
  | inr last ↦
      let here : count ≡ n = omega (arith, last, below) in
      get_or_at numbers count [] 0 n (size ∙ here) ∙ here
]

-- each number stands in its place
pub each_itself : (rules : RuleSet) (numbers : List ℕ) → AreRuleNumbers rules numbers → HaveSameU rules numbers
each_itself rules numbers are = record {
  size = are.size;
  within = λ rule few. (let is = are.each rule few in omega (arith, is, few));
  each = λ rule few. ap (λ (r : ℕ). (rule_of rules r).u) (are.each rule few);
}

pub all_few : (rules : RuleSet) (numbers : List ℕ) → AreRuleNumbers rules numbers → All (λ (n : ℕ). n ≤ length rules.rules) numbers
all_few rules numbers are k d low =
    let size = are.size in
    let few : k ≤ length rules.rules = omega (arith, low, size) in
    let is = are.each k few in
    let same = get_or_default numbers k d 0 low in
    omega (arith, few, is, same)

-- a rule takes the place of one with the same u
pub one_put : (rules : RuleSet) (same : List ℕ) (rule other : ℕ) → HaveSameU rules same → rule ≤ length rules.rules → other ≤ length rules.rules
    → (rule_of rules other).u ≡ (rule_of rules rule).u → HaveSameU rules (set same rule other)
one_put rules same rule other are low there equal = record {
  size = length-set same rule other ∙ are.size;
  within = λ r few. elim (at_place r) [
    | inl here ↦ (let put = read_put r here in omega (arith, put, there))
    | inr apart ↦ (let put = get_or-set_other same rule r other 0 apart in let was = are.within r few in omega (arith, put, was))
  ];
  each = λ r few. elim (at_place r) [
    | inl here ↦ ap (λ (n : ℕ). (rule_of rules n).u) (read_put r here) ∙ equal ∙ ap (λ (n : ℕ). (rule_of rules n).u) (sym here)
    | inr apart ↦ ap (λ (n : ℕ). (rule_of rules n).u) (get_or-set_other same rule r other 0 apart) ∙ are.each r few
  ];
}
  where
    at_place : (r : ℕ) → (r ≡ rule) ⊎ (r ≢ rule)
    at_place r = elim (cases_lt r rule) [
      | inl less ↦ inr (omega (arith, less))
      | inr from ↦ elim (cases_lt rule r) [
        | inl more ↦ inr (omega (arith, more))
        | inr to ↦ inl (omega (arith, from, to))
      ]
    ]

    read_put : (r : ℕ) → r ≡ rule → get_or (set same rule other) r 0 ≡ other
    read_put r here =
        let size = are.size in
        ap (λ (n : ℕ). get_or (set same rule other) n 0) here ∙ get_or-set_same same rule other 0 (omega (arith, low, size))
