-- The loop over the rules of a group, which rise: no path begins with the keys of those before, so the next with which one may begin is the
-- first.
use Rattle.std.proofs.Common.{◌≡◌, ◌≢◌, ℕ, ◌+◌, ◌<◌, ◌≤◌, ◌↔◌, inl, inr, Bool, true, false, Option, List, [], length, get_or, refl, sym, ◌∙◌, ap, subst, arith}
use Rattle.std.specs.Prelude.{Contains, IsTrue}
use Rattle.std.specs.Ordering.{nat_cmp}
use Rattle.std.specs.List.Sorted.{IsStrictlySortedBy}
use Rattle.std.proofs.lemmas.Bool.{cases_lt}
use Rattle.std.proofs.lemmas.Option.{same_Some}
use Rattle.std.proofs.lemmas.List.{get_or_default}
use Rattle.std.proofs.lemmas.List.Elements.{Contains-get_or}
use Rattle.std.proofs.lemmas.Map.Keys.{below_from_sorted}
use Rattle.text_definitions.specs.Lines.{Line}
use Rattle.lexicon_definitions.specs.Lexicons.{rule_of}
use Rattle.lexicon_definitions.specs.Tries.{row_of}
use Rattle.segmentation_definitions.specs.Items.{Choice}
use Rattle.segmentation_definitions.specs.Listings.{Key}
use Rattle.derivation.specs.declared.entrance.Entrance.{Entrance}
use Rattle.annotated_trie.specs.Choices.{LeadsToEnd, choices_of, choices_with}
use Rattle.annotated_trie.specs.Searched.{SearchedLexicon, IsSearchedLexicon}
use Rattle.search_frames.specs.declared.testing.Test.{Test}
use Rattle.search_frames.specs.declared.testing.Test.TheVariants.{Refused}
use Rattle.search_frames.specs.Configurations.{NumberedConfiguration, IsPossible, rules_in}
use Rattle.search_frames.specs.Walks.{IsNodeAt}
use Rattle.search_frames.specs.Turns.{BeginsPath}
use Rattle.search_frames.specs.FirstKeys.{IsFirstOf, HasNoneOf, IsJudged, IsRuleFrom, IsThisRuleFrom, IsUnchangedFrom}
use Rattle.search_frames.proofs.BegunPaths.{begins_stands, begins_possible}
use Rattle.search_frames.proofs.GroupedRules.{choice_of_group, letter_there, in_group}
use Rattle.search_frames.proofs.PossibleKeys.{change_possible, possible_ends, reached_there}

-- the key has one of the first rules of the group
abbrev pub IsTriedRule : Key → List ℕ → ℕ → Key → Type 0
IsTriedRule from group count key = IsRuleFrom from key × ((k : ℕ) × (k < count) × (get_or group k 0 ≡ key.rule))

module _ (searched : SearchedLexicon) (line : Line) (choices : List Choice) (here : NumberedConfiguration) (from : Key) where
  pub none_tried_at_first : (group : List ℕ) → HasNoneOf searched line choices here (IsTriedRule from group 0)
  none_tried_at_first group key begins (meant, tried) = omega (arith, tried.1)

  -- one rule more with which no path begins
  pub one_more_tried : (group : List ℕ) (count : ℕ) → HasNoneOf searched line choices here (IsTriedRule from group count)
      → (rule : ℕ) → rule ≡ get_or group count 0 → HasNoneOf searched line choices here (IsThisRuleFrom from rule)
      → HasNoneOf searched line choices here (IsTriedRule from group (count + 1))
  one_more_tried group count none rule rule_is refused key begins (meant, tried) = elim (cases_lt tried.0 count) [
    | inl below ↦ none key begins (meant, (tried.0, below, tried.2))
    | inr above ↦
        let low = tried.1 in
        let same : tried.0 ≡ count = omega arith in
        refused key begins (meant, sym (rule_is ∙ subst (λ (n : ℕ). get_or group n 0 ≡ key.rule) same tried.2))
  ]

  -- no path begins with a key that is told by its parts
  pub none_of_one : (rule : ℕ) → (BeginsPath searched line choices here (record { phase = from.phase; taken = from.taken; rule = rule }) → ⊥)
      → (key : Key) → BeginsPath searched line choices here key → from.phase ≡ key.phase → key.taken ≡ from.taken → key.rule ≡ rule → ⊥
  none_of_one rule none key begins phase taken same =
      let is : key ≡ record { phase = from.phase; taken = from.taken; rule = rule } = λ i. record { phase = sym phase i; taken = taken i; rule = same i } in
      none (subst (BeginsPath searched line choices here) is begins)

  -- no key from here on has no change
  pub none_unchanged : IsSearchedLexicon searched → (node : ℕ) → IsNodeAt searched line here from.phase from.taken node
      → (accepted : Bool) → (IsTrue accepted ↔ ((row_of searched.tries.trie.rows node).deltas ≢ [])) → accepted ≡ false
      → HasNoneOf searched line choices here (IsUnchangedFrom from)
  none_unchanged is node at accepted told none key begins ((phase, taken, rule), zero) =
      let walked : IsNodeAt searched line here key.phase key.taken node =
      subst (λ (n : ℕ). IsNodeAt searched line here n key.taken node) phase (subst (λ (n : ℕ). IsNodeAt searched line here from.phase n node) (sym taken) at) in
      let leads = possible_ends searched is line here key node walked (begins_possible searched line choices here key begins) in
      let ends = subst (λ (r : ℕ). LeadsToEnd searched.tries.trie.rows node (rule_of (rules_in searched) r).u) zero leads in
      let reached : node ≡ ends.reached = same_Some node ends.reached ends.walked in
      let yes : accepted ≡ true = told.1 (subst (λ (n : ℕ). (row_of searched.tries.trie.rows n).deltas ≢ []) (sym reached) ends.ends) in
      cc

  module _ (is : IsSearchedLexicon searched) (phase_low : from.phase < length (rules_in searched).names) (within : here.at + from.taken ≤ length line.letters)
      (node : ℕ) (at : IsNodeAt searched line here from.phase from.taken node) where
    -- the key without a change is possible where a form ends
    pub unchanged_possible : (row_of searched.tries.trie.rows node).deltas ≢ [] → from.rule ≡ 0 → IsPossible searched line here from
    unchanged_possible ends zero = change_possible searched is line here from node at phase_low within (inl (zero, ends))

    key_at_node : (key : Key) → from.phase ≡ key.phase → key.taken ≡ from.taken → IsNodeAt searched line here key.phase key.taken node
    key_at_node key phase taken =
        subst (λ (n : ℕ). IsNodeAt searched line here n key.taken node) phase (subst (λ (n : ℕ). IsNodeAt searched line here from.phase n node) (sym taken) at)

    -- no key has a rule where no letter is left
    pub none_at_end : length line.letters ≤ here.at + from.taken → HasNoneOf searched line choices here (IsRuleFrom from)
    none_at_end end key begins ((phase, taken, rule), some) =
        let stands = begins_stands searched line choices here key begins in
        let low = letter_there searched is line here key (begins_possible searched line choices here key begins) some stands.written in
        omega (arith, low, end, taken)

    -- a choice has a number
    choice_number : (rule : ℕ) → Contains (choices_of searched.tries node) rule → 0 < rule
    choice_number rule choice =
        let there = reached_there searched is from.phase node _ phase_low at in
        (((is.tries.each node there).members rule).0 choice).0

    -- the key with a choice is possible
    pub choice_possible : (rule : ℕ) → Contains (choices_of searched.tries node) rule → IsPossible searched line here (record { phase = from.phase; taken = from.taken; rule = rule })
    choice_possible rule choice =
        change_possible searched is line here (record { phase = from.phase; taken = from.taken; rule = rule }) node at phase_low within (inr choice)

    -- and the only one of its rule
    pub first_of_choice : (says : ℕ → Entrance → Option ℕ → Bool) (rule : ℕ) (does : Test) → Contains (choices_of searched.tries node) rule → from.rule ≤ rule
        → IsJudged searched line choices says here (record { phase = from.phase; taken = from.taken; rule = rule }) does → (does ≡ Refused → ⊥)
        → IsFirstOf searched line choices says here (IsThisRuleFrom from rule) (record { phase = from.phase; taken = from.taken; rule = rule }) does
    first_of_choice says rule does choice not_before judged goes = record {
      possible = choice_possible rule choice;
      meant = (((refl, refl, not_before), choice_number rule choice), refl);
      judged = judged;
      goes = goes;
      first = λ key begins meant. inr (meant.0.0.0, inr (meant.0.0.1, (let same = meant.1 in omega (arith, same))));
    }

    module _ (letter : ℕ) (letter_is : letter ≡ get_or line.letters (here.at + from.taken) 0) (rules : List ℕ) (rising : IsStrictlySortedBy nat_cmp rules)
        (left : (rule : ℕ) → Contains rules rule ↔ (Contains (choices_with searched.tries node letter) rule × (from.rule ≤ rule))) where
      -- each rule that is left is a choice, and does not come before the first one
      pub rule_chosen : (count rule : ℕ) → count < length rules → rule ≡ get_or rules count 0 → Contains (choices_of searched.tries node) rule × (from.rule ≤ rule)
      rule_chosen count rule low rule_is =
          let both = (left rule).0 (subst (Contains rules) (sym rule_is) (Contains-get_or rules count 0 low)) in
          (choice_of_group searched is node letter rule both.0, both.1)

      -- and each key with a rule with which a path begins has one of them
      rule_of_group : (key : Key) → BeginsPath searched line choices here key → IsRuleFrom from key → (k : ℕ) × (k < length rules) × (get_or rules k 0 ≡ key.rule)
      rule_of_group key begins ((phase, taken, rule), some) =
          let stands = begins_stands searched line choices here key begins in
          let next : letter ≡ get_or line.letters (here.at + key.taken) 0 = letter_is ∙ ap (λ (n : ℕ). get_or line.letters (here.at + n) 0) (sym taken) in
          let among = in_group searched is line here key (begins_possible searched line choices here key begins) some stands.written node letter (key_at_node key phase taken) next in
          let there : Contains rules key.rule = (left key.rule).1 (among, rule) in
          (there.0, there.1, get_or_default rules there.0 0 key.rule there.1 ∙ there.2)

      -- so where all were tried there is none
      pub none_of_group : HasNoneOf searched line choices here (IsTriedRule from rules (length rules)) → HasNoneOf searched line choices here (IsRuleFrom from)
      none_of_group none key begins meant = none key begins (meant, rule_of_group key begins meant)

      -- and the next one with which a path may begin is the first
      pub first_of_group : (says : ℕ → Entrance → Option ℕ → Bool) (count rule : ℕ) (found : Key) (does : Test) → count < length rules → rule ≡ get_or rules count 0
          → HasNoneOf searched line choices here (IsTriedRule from rules count)
          → IsFirstOf searched line choices says here (IsThisRuleFrom from rule) found does → IsFirstOf searched line choices says here (IsRuleFrom from) found does
      first_of_group says count rule found does low rule_is none at_rule = record {
        possible = at_rule.possible;
        meant = at_rule.meant.0;
        judged = at_rule.judged;
        goes = at_rule.goes;
        first = λ key begins meant.
            let there = rule_of_group key begins meant in
            let found_rule = at_rule.meant.1 in
            elim (cases_lt there.0 count) [
              | inl below ↦ absurd (none key begins (meant, (there.0, below, there.2)))
              | inr above ↦ inr (
                sym at_rule.meant.0.0.0 ∙ meant.0.0,
                inr (
                  meant.0.1 ∙ sym at_rule.meant.0.0.1,
                  elim (cases_lt count there.0) [
                    | inl more ↦ let less = below_from_sorted rules count there.0 0 rising more there.1 in let same = there.2 in omega (arith, less, rule_is, same, found_rule)
                    | inr no_more ↦
                        let same : there.0 ≡ count = omega arith in
                        let is_here = ap (λ (n : ℕ). get_or rules n 0) same in
                        let is_rule = there.2 in
                        omega (arith, is_here, rule_is, is_rule, found_rule)
                  ],
                ),
              )
            ];
      }
