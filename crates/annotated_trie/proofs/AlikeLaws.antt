-- One phase more that no rule tells from the one with its number, which is the first such one.
use Rattle.std.proofs.Common.{◌≡◌, ℕ, ◌+◌, ◌<◌, ◌≤◌, inl, inr, List, [], ◌∷◌, ◌++◌, length, get_or, sym, subst, ◌∙◌, arith, length-append}
use Rattle.std.proofs.lemmas.Bool.{cases_lt}
use Rattle.std.proofs.lemmas.List.{get_or_append_left, get_or_at, get_or_past}
use Rattle.lexicon_definitions.specs.Lexicons.{RuleSet}
use Rattle.annotated_trie.specs.AlikePhases.{AreAlike, IsAlike}

-- a phase is not told from itself
same_alike : (rules : RuleSet) (phase : ℕ) → IsAlike rules phase phase
same_alike rules phase place none low = (λ has. has, λ has. has)

pub one_more_alike : (rules : RuleSet) (firsts : List ℕ) (first phase : ℕ) → length firsts ≡ phase → IsAlike rules first phase
    → ((other : ℕ) → IsAlike rules other phase → first ≤ other) → AreAlike rules phase firsts → AreAlike rules (phase + 1) (firsts ++ first ∷ [])
one_more_alike rules firsts first phase count is lowest are =
    record {
      alike = λ other. elim (cases_lt other phase) [
        | inl below ↦ subst (λ (n : ℕ). IsAlike rules n other) (sym (get_or_append_left firsts (first ∷ []) other other (omega (arith, below, count)))) (are.alike other)
        | inr from ↦ elim (cases_lt phase other) [
          | inl past ↦
              let long = length-append firsts (first ∷ []) in
              subst (λ (n : ℕ). IsAlike rules n other) (sym (get_or_past (firsts ++ first ∷ []) other other (omega (arith, long, past, count)))) (same_alike rules other)
          | inr low ↦
              let here : phase ≡ other = omega (arith, from, low) in
              subst (λ (n : ℕ). IsAlike rules n other) (sym (get_or_at firsts first [] other other (count ∙ here))) (subst (IsAlike rules first) here is)
        ]
      ];
      first = λ one other within alike. elim (cases_lt one phase) [
        | inl below ↦ subst (λ (n : ℕ). n ≤ other) (sym (get_or_append_left firsts (first ∷ []) one one (omega (arith, below, count)))) (are.first one other below alike)
        | inr from ↦
            let here : phase ≡ one = omega (arith, from, within) in
            subst (λ (n : ℕ). n ≤ other) (sym (get_or_at firsts first [] one one (count ∙ here))) (lowest other (subst (IsAlike rules other) (sym here) alike))
      ];
    }

-- what is told of a phase, of rules that are read as these, is no later than a phase that is like it
pub lowest_alike : (rules read : RuleSet) (firsts : List ℕ) (phase other : ℕ) → rules ≡ read → AreAlike rules (length rules.names) firsts
    → phase < length read.names → IsAlike read other phase → get_or firsts phase phase ≤ other
lowest_alike rules read firsts phase other same are =
    subst (λ (set : RuleSet). phase < length set.names → IsAlike set other phase → get_or firsts phase phase ≤ other) same (are.first phase other)
