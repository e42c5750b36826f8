-- Which rules can match a form: those whose v begins with its first letter, and those whose u ends with its last one, since
-- neither is empty.
use Rattle.std.proofs.Common.{◌≡◌, ◌≢◌, ℕ, zero, suc, ◌+◌, ◌-◌, ◌*◌, ◌<◌, ◌≤◌, List, [], ◌∷◌, ◌++◌, length, length-append, get_or, inl, inr, refl, sym, ap, subst, ◌∙◌, arith}
use Rattle.std.specs.Prelude.{Some, None, slice_get}
use Rattle.std.specs.Global.{Vec}
use Rattle.std.specs.Ordering.{nat_cmp}
use Rattle.std.proofs.lemmas.Bool.{cases_lt}
use Rattle.std.proofs.lemmas.Option.{none-some, slice_get-get_or}
use Rattle.std.proofs.lemmas.List.{get_or_append_left, get_or_at}
use Rattle.lexicon_definitions.specs.declared.limits.TheConstants.{MOST_RULE_LETTERS}
use Rattle.lexicon_definitions.specs.Lexicons.{RuleSet, IsRuleSet, rule_of}
use Rattle.lexicon_definitions.specs.Limits.{IsRuleSetWithinLimits, IsShortRule}
use Rattle.segmentation_definitions.specs.Derivations.{IsRuleNumber}
use Rattle.segmentation_definitions.proofs.Coverings.{rule_at_number}
use Rattle.list_laws.specs.Firsts.{AreAll}
use Rattle.list_laws.proofs.FirstOnes.{none_at_all}
use Rattle.list_laws.proofs.Sorted.{All-from_Contains}
use Rattle.strictness.specs.Matches.{BeginsForm, EndsForm, AreLonger, HasFirst, HasLast, AreCandidates}

-- a word that begins with a word that is not empty has its first letter
first_of_front : (front rest : List ℕ) → front ≢ [] → slice_get front 0 ≡ slice_get (front ++ rest) 0
first_of_front [] rest some = absurd (some refl)
first_of_front (x ∷ front) rest some = refl

-- a word that ends with a word that is not empty has its last letter
get-append : (front end : List ℕ) (k : ℕ) → slice_get (front ++ end) (length front + k) ≡ slice_get end k
get-append [] end k = let n : 0 + k ≡ k = omega arith in ap (λ m. slice_get end m) n
get-append (x ∷ front) end k =
    let n : suc (length front) + k ≡ suc (length front + k) = omega arith in
    ap (λ m. slice_get (x ∷ (front ++ end)) m) n ∙ get-append front end k

last_of_end : (front end : List ℕ) → end ≢ [] → slice_get end (length end - 1) ≡ slice_get (front ++ end) (length (front ++ end) - 1)
last_of_end front [] some = absurd (some refl)
last_of_end front (x ∷ end) some =
    let n : length (front ++ (x ∷ end)) - 1 ≡ length front + (length (x ∷ end) - 1) = omega (arith, length-append front (x ∷ end)) in
    sym (get-append front (x ∷ end) (length (x ∷ end) - 1)) ∙ ap (slice_get (front ++ (x ∷ end))) (sym n)

pub begins_with_first : (rules : RuleSet) (phase : ℕ) (form : List ℕ) (letter number : ℕ) → slice_get form 0 ≡ Some letter
    → BeginsForm rules phase form number → HasFirst rules letter number
begins_with_first rules phase form letter number first begins = record {
  rule = begins.rule;
  first = first_of_front (rule_of rules number).v begins.begins.0 begins.inner
      ∙ ap (λ word. slice_get word 0) (sym begins.begins.1) ∙ first;
}

pub ends_with_last : (rules : RuleSet) (phase : ℕ) (form : List ℕ) (letter number : ℕ) → IsRuleSet rules
    → slice_get form (length form - 1) ≡ Some letter → EndsForm rules phase form number → HasLast rules letter number
ends_with_last rules phase form letter number set last ends = record {
  rule = ends.rule;
  last = last_of_end ends.ends.0 (rule_of rules number).u (rule_at_number rules number set ends.rule).strict.0
      ∙ ap (λ word. slice_get word (length word - 1)) (sym ends.ends.1) ∙ last;
}

-- where the form has no letter, no rule begins or ends it
some_letter : (word : List ℕ) → word ≢ [] → None ≡ slice_get word 0 → ⊥
some_letter [] some e = some refl
some_letter (x ∷ word) some e = absurd (cc)

pub nothing_begins : (rules : RuleSet) (phase : ℕ) (form : List ℕ) → None ≡ slice_get form 0 → AreAll nat_cmp (BeginsForm rules phase form) []
nothing_begins rules phase form none =
    none_at_all nat_cmp (BeginsForm rules phase form) (λ n begins.
    some_letter (rule_of rules n).v begins.inner
    (none ∙ ap (λ word. slice_get word 0) begins.begins.1 ∙ sym (first_of_front (rule_of rules n).v begins.begins.0 begins.inner)))

some_last : (word : List ℕ) → word ≢ [] → None ≡ slice_get word (length word - 1) → ⊥
some_last [] some e = some refl
some_last (x ∷ word) some e =
    let at : slice_get (x ∷ word) (length word) ≡ Some (get_or (x ∷ word) (length word) 0) = slice_get-get_or (x ∷ word) (length word) 0 (omega arith) in
    let n : length (x ∷ word) - 1 ≡ length word = omega arith in
    none-some (get_or (x ∷ word) (length word) 0) (e ∙ ap (slice_get (x ∷ word)) n ∙ at)

pub nothing_ends : (rules : RuleSet) (phase : ℕ) (form : List ℕ) → IsRuleSet rules → None ≡ slice_get form (length form - 1)
    → AreAll nat_cmp (EndsForm rules phase form) []
nothing_ends rules phase form set none =
    none_at_all nat_cmp (EndsForm rules phase form) (λ n ends.
    let some = (rule_at_number rules n set ends.rule).strict.0 in
    some_last (rule_of rules n).u some
    (none ∙ ap (λ word. slice_get word (length word - 1)) ends.ends.1 ∙ sym (last_of_end ends.ends.0 (rule_of rules n).u some)))

-- all that have a property, where those of another are among them, are candidates for the other
pub candidates_from_all : (rules : RuleSet) (H P : ℕ → Type 0) (numbers : List ℕ) → ((n : ℕ) → H n → IsRuleNumber rules n)
    → ((n : ℕ) → P n → H n) → AreAll nat_cmp H numbers → AreCandidates rules P numbers
candidates_from_all rules H P numbers number from all = record {
  rising = all.rising;
  rule = All-from_Contains (λ n. n ≤ length rules.rules) numbers (λ n m. (number n (all.only n m)).1);
  complete = λ n p. all.complete n (from n p);
}

-- each rule is short
short_rule : (rules : RuleSet) (number : ℕ) → IsRuleSetWithinLimits rules → IsRuleNumber rules number → IsShortRule (rule_of rules number)
short_rule rules zero limits within = absurd (omega arith)
short_rule rules (suc number) limits within = limits.short_rules number (rule_of rules 0) within.1

-- so a v and a u together are no longer than twice what a part may have
pub not_longer : (rules : RuleSet) (before after : ℕ) (form : List ℕ) → IsRuleSetWithinLimits rules → IsRuleNumber rules before
    → IsRuleNumber rules after → 2 * MOST_RULE_LETTERS ≤ length form → AreLonger rules before after form → ⊥
not_longer rules before after form limits b a long longer =
    let v = (short_rule rules before limits b).v in
    let u = (short_rule rules after limits a).u in
    omega (arith, v, u, length-append (rule_of rules before).v (rule_of rules after).u)

-- the lists of one letter more
pub lists_more : (P : ℕ → ℕ → Type 0) (lists : List (Vec ℕ)) (count : ℕ) (new : List (Vec ℕ)) (one : Vec ℕ) → length lists ≡ count
    → ((letter : ℕ) (none : Vec ℕ) → letter < count → AreAll nat_cmp (P letter) (get_or lists letter none).items)
    → AreAll nat_cmp (P count) one.items → new ≡ lists ++ one ∷ []
    → (letter : ℕ) (none : Vec ℕ) → letter < count + 1 → AreAll nat_cmp (P letter) (get_or new letter none).items
lists_more P lists count new one n before here is letter none below = elim (cases_lt letter count) [
  | inl low ↦
      let at : get_or new letter none ≡ get_or lists letter none =
      ap (λ ls. get_or ls letter none) is ∙ get_or_append_left lists (one ∷ []) none letter (omega arith) in
      subst (λ (list : Vec ℕ). AreAll nat_cmp (P letter) list.items) (sym at) (before letter none low)
  | inr high ↦
      let e : count ≡ letter = omega arith in
      let at : get_or new count none ≡ one = ap (λ ls. get_or ls count none) is ∙ get_or_at lists one [] none count n in
      subst (λ k. AreAll nat_cmp (P k) (get_or new k none).items) e
      (subst (λ (list : Vec ℕ). AreAll nat_cmp (P count) list.items) (sym at) here)
]
