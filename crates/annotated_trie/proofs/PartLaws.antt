-- A rising list is put together of parts: by induction on the first rules of these, those of one part are left out of the list, and the
-- other parts lie in what is left. Two rules are of one part where their groups begin with one and the same rule.
use Rattle.std.proofs.Common.{◌≡◌, ◌≢◌, inl, inr, ℕ, suc, ◌+◌, ◌-◌, ◌<◌, ◌≤◌, Bool, true, false, not, eqb, cond, List, [], ◌∷◌, ◌++◌, length, get_or, refl, sym, ◌∙◌, ap, subst, arith}
use Rattle.std.specs.Global.{Vec}
use Rattle.std.specs.Prelude.{Contains}
use Rattle.std.specs.List.{filter, sum_by}
use Rattle.std.specs.declared.cmp.Ordering.TheVariants.{Less}
use Rattle.std.specs.Ordering.{nat_cmp}
use Rattle.std.specs.List.Sorted.{IsStrictlySortedBy}
use Rattle.std.proofs.lemmas.Bool.{cases_lt, eqb-true, eq-eqb, ne_eqb, false≢true}
use Rattle.std.proofs.lemmas.Cmp.{nat_cmp_total}
use Rattle.std.proofs.lemmas.List.{get_or_append_left, get_or_default, get_or_past, get_or_push, length_push}
use Rattle.std.proofs.lemmas.List.Elements.{All-contains, All-contains_itself, All-filter, filter_passes}
use Rattle.std.proofs.lemmas.List.Filters.{length-filter_both}
use Rattle.std.proofs.lemmas.List.Kept.{IsStrictlyIncreasing-filter}
use Rattle.std.proofs.lemmas.List.Sums.{count_by-le-length, length-filter, sum_by-cons}
use Rattle.std.proofs.lemmas.Map.Keys.{IsStrictlyIncreasing-from_sorted, sorted_from_strictly_increasing, sorted_tail}
use Rattle.list_laws.proofs.Sorted.{All-from_Contains, Contains-cons_cases, Contains-first, Contains-later, Less-from_later, later_from_Less, not_Contains-nil, not_Less-itself}
use Rattle.lexicon_definitions.specs.Rules.{no_change}
use Rattle.lexicon_definitions.specs.Lexicons.{RuleSet, rule_of}
use Rattle.annotated_trie.specs.Choices.{AnnotatedTrie, AreParts, HaveOneU, rules_of_part}
use Rattle.annotated_trie.specs.RuleParts.{ArePartRules, group_from}
use Rattle.annotated_trie.specs.Suffixes.{AreGroups, AreNumbers, IsListFrom, StandsFor}
use Rattle.annotated_trie.specs.Views.{begins_with, list_at, parts_in}
use Rattle.annotated_trie.proofs.SuffixLaws.{stands_for_one}

-- ---- rising lists of numbers

-- a rising list whose elements another one has is no longer
subset_few : (ys xs : List ℕ) → IsStrictlySortedBy nat_cmp ys → IsStrictlySortedBy nat_cmp xs → ((x : ℕ) → Contains xs x → Contains ys x) → length xs ≤ length ys
subset_few [] [] t s within = omega arith
subset_few [] (x ∷ xs) t s within = absurd (not_Contains-nil x (within x (Contains-first x xs)))
subset_few (y ∷ ys) [] t s within = omega arith
subset_few (y ∷ ys) (x ∷ xs) t s within =
    elim (Contains-cons_cases y ys x (within x (Contains-first x xs))) [
      | inl same ↦
          let fewer = subset_few ys xs (sorted_tail nat_cmp y ys t) (sorted_tail nat_cmp x xs s) (λ z among.
          later_from_Less nat_cmp_total y ys z (within z (Contains-later x xs z among))
          (subst (λ (n : ℕ). nat_cmp n z ≡ Less) (sym same) (Less-from_later nat_cmp_total x xs z s among))) in
          omega (arith, fewer)
      | inr later ↦
          let above = Less-from_later nat_cmp_total y ys x t later in
          let fewer = subset_few ys (x ∷ xs) (sorted_tail nat_cmp y ys t) s (λ z among.
          later_from_Less nat_cmp_total y ys z (within z among) (elim (Contains-cons_cases x xs z among) [
            | inl same ↦ subst (λ (n : ℕ). nat_cmp y n ≡ Less) same above
            | inr after ↦ nat_cmp_total.trans y x z above (Less-from_later nat_cmp_total x xs z s after)
          ])) in
          omega (arith, fewer)
    ]

-- an element that passes a filter stays
filter_keeps : (p : ℕ → Bool) (xs : List ℕ) (x : ℕ) → Contains xs x → p x ≡ true → Contains (filter p xs) x
filter_keeps p [] x among passes = absurd (not_Contains-nil x among)
filter_keeps p (y ∷ ys) x among passes =
    let go : (b : Bool) → p y ≡ b → Contains (cond b (y ∷ filter p ys) (filter p ys)) x =
    elim [
      | true ↦ λ e. elim (Contains-cons_cases y ys x among) [
        | inl same ↦ subst (λ (z : ℕ). Contains (y ∷ filter p ys) z) same (Contains-first y (filter p ys))
        | inr later ↦ Contains-later y (filter p ys) x (filter_keeps p ys x later passes)
      ]
      | false ↦ λ e. elim (Contains-cons_cases y ys x among) [
        | inl same ↦ absurd (false≢true (sym e ∙ (ap p same ∙ passes)))
        | inr later ↦ filter_keeps p ys x later passes
      ]
    ]
    in go (p y) refl

-- an element that a filter left is an element, and passes it
from_filter : (p : ℕ → Bool) (xs : List ℕ) (x : ℕ) → Contains (filter p xs) x → Contains xs x × (p x ≡ true)
from_filter p xs x among = (
  All-contains (Contains xs) (filter p xs) x (All-filter p (Contains xs) xs (All-contains_itself xs)) among,
  All-contains (λ (y : ℕ). p y ≡ true) (filter p xs) x (filter_passes p xs) among,
)

-- what a filter leaves of a rising list rises
filter_rising : (p : ℕ → Bool) (xs : List ℕ) → IsStrictlySortedBy nat_cmp xs → IsStrictlySortedBy nat_cmp (filter p xs)
filter_rising p xs rising = sorted_from_strictly_increasing (filter p xs) (IsStrictlyIncreasing-filter p xs (IsStrictlyIncreasing-from_sorted xs rising))

-- a filter leaves no more than there is
filter_few : (p : ℕ → Bool) (xs : List ℕ) → length (filter p xs) ≤ length xs
filter_few p xs =
    let size = length-filter p xs in
    let few = count_by-le-length p xs in
    omega (arith, size, few)

-- ---- rising parts, each with a first rule of its own, have together no more rules than a rising list that has them all
parts_few : (part : ℕ → List ℕ) (first_rule : ℕ → ℕ) (heads list : List ℕ) → IsStrictlySortedBy nat_cmp heads → IsStrictlySortedBy nat_cmp list
    → ((head : ℕ) → Contains heads head → IsStrictlySortedBy nat_cmp (part head))
    → ((head rule : ℕ) → Contains heads head → Contains (part head) rule → Contains list rule × (first_rule rule ≡ head))
    → sum_by (λ (head : ℕ). length (part head)) heads ≤ length list
parts_few part first_rule [] list rising up each of = omega arith
parts_few part first_rule (head ∷ heads) list rising up each of =
    let here : ℕ → Bool = λ rule. eqb (first_rule rule) head in
    let other : ℕ → Bool = λ rule. not (here rule) in
    let both = length-filter_both here other (λ rule. refl) list in
    let first = subset_few (filter here list) (part head) (filter_rising here list up) (each head (Contains-first head heads)) (λ rule has.
    let is = of head rule (Contains-first head heads) has in
    filter_keeps here list rule is.0 (eq-eqb (first_rule rule) head is.1)) in
    let rest = parts_few part first_rule heads (filter other list) (sorted_tail nat_cmp head heads rising) (filter_rising other list up)
    (λ later among. each later (Contains-later head heads later among))
    (λ later rule among has.
    let is = of later rule (Contains-later head heads later among) has in
    let apart : first_rule rule ≢ head = λ e. not_Less-itself nat_cmp_total head
    (subst (λ (n : ℕ). nat_cmp head n ≡ Less) (sym is.1 ∙ e) (Less-from_later nat_cmp_total head heads later rising among)) in
    (filter_keeps other list rule is.0 (ap not (ne_eqb (first_rule rule) head apart)), is.1)) in
    let sum = sum_by-cons (λ (h : ℕ). length (part h)) head heads in
    omega (arith, both, first, rest, sum)

-- ---- the groups of rules

-- no rule has its group yet
pub ArePartRules-none : (groups : List (Vec ℕ)) (part_rules : List (List ℕ)) → part_rules ≡ [] ∷ [] → ArePartRules groups [] part_rules
ArePartRules-none groups part_rules only = record {
  count = ap length only;
  nothing = ap (λ (lists : List (List ℕ)). get_or lists 0 []) only;
  each = λ k low. absurd (omega (arith, low));
}

-- one rule more
pub ArePartRules-push : (groups : List (Vec ℕ)) (numbers : List ℕ) (number : ℕ) (old new : List (List ℕ)) → ArePartRules groups numbers old
    → new ≡ old ++ group_from (list_at groups number) (length numbers + 1) ∷ [] → ArePartRules groups (numbers ++ number ∷ []) new
ArePartRules-push groups numbers number old new are pushed =
    let last = group_from (list_at groups number) (length numbers + 1) in
    let count = are.count in
    let long = length_push numbers number in
    let size = length_push old last in
    let same = ap (λ (lists : List (List ℕ)). length lists) pushed in
    record {
      count = omega (arith, count, long, size, same);
      nothing = ap (λ (lists : List (List ℕ)). get_or lists 0 []) pushed ∙ get_or_append_left old (last ∷ []) [] 0 (omega (arith, count)) ∙ are.nothing;
      each = λ k low. ap (λ (lists : List (List ℕ)). get_or lists (k + 1) []) pushed ∙ elim (cases_lt k (length numbers)) [
        | inl l ↦
            get_or_append_left old (last ∷ []) [] (k + 1) (omega (arith, l, count))
            ∙ are.each k l
            ∙ ap (λ (n : ℕ). group_from (list_at groups n) (k + 1)) (sym (get_or_append_left numbers (number ∷ []) 0 k l))
        | inr g ↦
            let here : length numbers ≡ k = omega (arith, g, low, long) in
            get_or_push old last [] (k + 1) (omega (arith, count, here))
            ∙ ap (λ (n : ℕ). group_from (list_at groups number) (n + 1)) here
            ∙ ap (λ (n : ℕ). group_from (list_at groups n) (k + 1)) (sym (get_or_push numbers number 0 k here))
      ];
    }

-- a group that is told begins with the rule
group_told : (group : List ℕ) (rule : ℕ) → 0 < rule → begins_with (group_from group rule) rule ≡ true → (group_from group rule ≡ group) × (get_or group 0 0 ≡ rule)
group_told group rule some told =
    let go : (b : Bool) → begins_with group rule ≡ b → (cond b group [] ≡ group) × (get_or group 0 0 ≡ rule) =
    elim [
      | true ↦ λ e. (refl, eqb-true (get_or group 0 0) rule e)
      | false ↦ λ e.
          let nothing : begins_with [] rule ≡ true = ap (λ (b : Bool). begins_with (cond b group []) rule) (sym e) ∙ told in
          let zero_is : 0 ≡ rule = eqb-true 0 rule nothing in
          absurd (omega (arith, zero_is, some))
    ]
    in go (begins_with group rule) refl

-- what is told of a group is in it
from_group : (group : List ℕ) (rule one : ℕ) → Contains (group_from group rule) one → Contains group one
from_group group rule one among =
    let go : (b : Bool) → Contains (cond b group []) one → Contains group one = elim [
      | true ↦ λ has. has
      | false ↦ λ has. absurd (not_Contains-nil one has)
    ]
    in go (begins_with group rule) among

-- the rules of a part are of one group, so that one number stands for the u of each
module _ (numbers : List ℕ) (groups : List (Vec ℕ)) (part_rules : List (List ℕ)) (grouped : AreGroups numbers groups) (are : ArePartRules groups numbers part_rules) where
  in_one_group : (part rule : ℕ) → Contains (get_or part_rules part []) rule → (0 < part) × (part ≤ length numbers) × Contains (list_at groups (get_or numbers (part - 1) 0)) rule
  in_one_group part rule among = elim (cases_lt 0 part) [
    | inl some ↦ elim (cases_lt (length numbers) part) [
      | inl past ↦
          let count = are.count in
          absurd (not_Contains-nil rule (subst (λ (list : List ℕ). Contains list rule) (get_or_past part_rules part [] (omega (arith, count, past))) among))
      | inr within ↦
          let low : part - 1 < length numbers = omega (arith, some, within) in
          let next : (part - 1) + 1 ≡ part = omega (arith, some) in
          let told = subst (λ (n : ℕ). get_or part_rules n [] ≡ group_from (list_at groups (get_or numbers (part - 1) 0)) n) next (are.each (part - 1) low) in
          (some, within, from_group (list_at groups (get_or numbers (part - 1) 0)) part rule (subst (λ (list : List ℕ). Contains list rule) told among))
    ]
    | inr none ↦
        let zero_is : part ≡ 0 = omega (arith, none) in
        absurd (not_Contains-nil rule (subst (λ (list : List ℕ). Contains list rule) (ap (λ (n : ℕ). get_or part_rules n []) zero_is ∙ are.nothing) among))
  ]

  pub HaveOneU-parts : (suffixes : List (ℕ × ℕ)) (rules : RuleSet) → AreNumbers suffixes rules.rules numbers → HaveOneU rules part_rules
  HaveOneU-parts suffixes rules stand part one other has_one has_other =
      let number = get_or numbers (part - 1) 0 in
      let (k, is, low, at) = (grouped.each number one).0 (in_one_group part one has_one).2 in
      let (m, other_is, other_low, other_at) = (grouped.each number other).0 (in_one_group part other has_other).2 in
      let here = subst (λ (n : ℕ). StandsFor suffixes n (get_or rules.rules k no_change).u) at (stand.each k no_change low) in
      let there = subst (λ (n : ℕ). StandsFor suffixes n (get_or rules.rules m no_change).u) other_at (stand.each m no_change other_low) in
      let one_is : one ≡ suc k = omega (arith, is) in
      let other_as : other ≡ suc m = omega (arith, other_is) in
      ap (λ (n : ℕ). (rule_of rules n).u) one_is
      ∙ stands_for_one suffixes (get_or rules.rules k no_change).u (get_or rules.rules m no_change).u number here there
      ∙ sym (ap (λ (n : ℕ). (rule_of rules n).u) other_as)

-- a group that begins with the rule is told
group_there : (group : List ℕ) (rule : ℕ) → get_or group 0 0 ≡ rule → group_from group rule ≡ group
group_there group rule first = ap (λ (b : Bool). cond b group []) (eq-eqb (get_or group 0 0) rule first)

module _ (numbers : List ℕ) (groups : List (Vec ℕ)) (tries : AnnotatedTrie) (grouped : AreGroups numbers groups) (are : ArePartRules groups numbers tries.part_rules) where
  -- the group of the rule, and its first rule
  abbrev group_of : ℕ → List ℕ
  group_of rule = list_at groups (get_or numbers (rule - 1) 0)

  abbrev first_rule : ℕ → ℕ
  first_rule rule = get_or (group_of rule) 0 0

  -- it is one of the rules
  abbrev IsOne : ℕ → Type 0
  IsOne rule = (0 < rule) × (rule ≤ length numbers)

  -- a rule of a group is a rule, and the group is its own
  in_group : (number rule : ℕ) → Contains (list_at groups number) rule → IsOne rule × (group_of rule ≡ list_at groups number)
  in_group number rule has =
      let (k, e, low, at) = (grouped.each number rule).0 has in
      let before : rule - 1 ≡ k = omega (arith, e) in
      ((omega (arith, e), omega (arith, e, low)), ap (λ (n : ℕ). list_at groups (get_or numbers n 0)) before ∙ ap (list_at groups) at)

  -- the first rule of a group is in it, and of the same group, whose first it is
  first_in : (number rule : ℕ) → Contains (list_at groups number) rule → Contains (list_at groups number) (get_or (list_at groups number) 0 0)
  first_in number rule has =
      let (k, low, e) = has in
      let group = list_at groups number in
      let some : 0 < length group = omega (arith, low) in
      (0, some, get_or_default group 0 (get_or group 0 0) 0 some)

  -- the part of a rule
  part_at : (rule : ℕ) → IsOne rule → rules_of_part tries rule ≡ group_from (group_of rule) rule
  part_at rule one =
      let some = one.0 in
      let low = one.1 in
      let next : (rule - 1) + 1 ≡ rule = omega (arith, some) in
      subst (λ (n : ℕ). rules_of_part tries n ≡ group_from (group_of rule) n) next (are.each (rule - 1) (omega (arith, some, low)))

  module _ (set list : List ℕ) (from : IsListFrom groups set list) where
    -- a rule of the list is one of the rules
    one : (rule : ℕ) → Contains list rule → IsOne rule
    one rule among =
        let is = (from.members rule).0 among in
        (in_group is.number rule is.has).0

    -- with a rule the list has the group of the rule
    closed : (rule other : ℕ) → Contains list rule → Contains (group_of rule) other → Contains list other
    closed rule other among has =
        let is = (from.members rule).0 among in
        (from.members other).1 (record { number = is.number; among = is.among; has = subst (λ (g : List ℕ). Contains g other) (in_group is.number rule is.has).1 has })

    -- a rule of the list is in its group
    own : (rule : ℕ) → Contains list rule → Contains (group_of rule) rule
    own rule among =
        let is = (from.members rule).0 among in
        subst (λ (g : List ℕ). Contains g rule) (sym (in_group is.number rule is.has).1) is.has

    -- what is a part of the list is the group of a rule of the list, whose first rule it is
    head : (rule : ℕ) → Contains (parts_in tries.part_rules list) rule → Contains list rule × (rules_of_part tries rule ≡ group_of rule) × (first_rule rule ≡ rule)
    head rule among =
        let passes : ℕ → Bool = λ n. begins_with (rules_of_part tries n) n in
        let is = from_filter passes list rule among in
        let is_one = one rule is.0 in
        let at = part_at rule is_one in
        let told = group_told (group_of rule) rule is_one.0 (ap (λ (g : List ℕ). begins_with g rule) (sym at) ∙ is.1) in
        (is.0, at ∙ told.0, told.1)

    -- the rules of a part are in the list, and of its group
    of_part : (part rule : ℕ) → Contains (parts_in tries.part_rules list) part → Contains (rules_of_part tries part) rule → Contains list rule × (first_rule rule ≡ part)
    of_part part rule among has =
        let is = head part among in
        let in_it : Contains (group_of part) rule = subst (λ (g : List ℕ). Contains g rule) is.1 has in
        (closed part rule is.0 in_it, ap (λ (g : List ℕ). get_or g 0 0) (in_group (get_or numbers (part - 1) 0) rule in_it).1 ∙ is.2)

    pub AreParts-list : AreParts tries list (parts_in tries.part_rules list)
    AreParts-list =
        let parts = parts_in tries.part_rules list in
        let passes : ℕ → Bool = λ n. begins_with (rules_of_part tries n) n in
        let count = are.count in
        record {
          there = All-from_Contains (λ (part : ℕ). part < length tries.part_rules) parts (λ part among.
              let low = (one part (head part among).0).1 in
              omega (arith, low, count));
          rules = λ rule. (
            λ (among : Contains list rule).
                let first = first_rule rule in
                let number = get_or numbers (rule - 1) 0 in
                let has = own rule among in
                let in_it : Contains (group_of rule) first = first_in number rule has in
                let same : group_of first ≡ group_of rule = (in_group number first in_it).1 in
                let there : Contains list first = closed rule first among in_it in
                let is_first : first_rule first ≡ first = ap (λ (g : List ℕ). get_or g 0 0) same in
                let whole : rules_of_part tries first ≡ group_of first = part_at first (one first there) ∙ group_there (group_of first) first is_first in
                let begins : passes first ≡ true = eq-eqb (get_or (rules_of_part tries first) 0 0) first (ap (λ (g : List ℕ). get_or g 0 0) whole ∙ is_first) in
                (first, filter_keeps passes list first there begins, subst (λ (g : List ℕ). Contains g rule) (sym (whole ∙ same)) has),
            λ (is : (part : ℕ) × Contains parts part × Contains (rules_of_part tries part) rule). (of_part is.0 rule is.1 is.2).0,
          );
          few = parts_few (rules_of_part tries) first_rule parts list (filter_rising passes list from.rising) from.rising
              (λ part among. subst (IsStrictlySortedBy nat_cmp) (sym (head part among).1) (grouped.rising (get_or numbers (part - 1) 0)))
              of_part;
          some = filter_few passes list;
        }
