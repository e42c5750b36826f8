-- The choices of a node whose w begins with the next letter of the line are all that can be written there, since a w is not empty.
use Rattle.std.proofs.Common.{◌≡◌, ◌≢◌, ℕ, zero, suc, ◌+◌, ◌-◌, ◌<◌, ◌≤◌, inl, inr, Bool, true, List, [], ◌∷◌, length, map, take, drop, get_or, refl, sym, ◌∙◌, ap, subst, arith, true≢false, eq-eqb}
use Rattle.std.specs.Prelude.{Contains, slice_index}
use Rattle.std.specs.List.{filter}
use Rattle.std.specs.Ordering.{nat_cmp}
use Rattle.std.specs.List.Sorted.{IsStrictlySortedBy}
use Rattle.std.proofs.lemmas.Bool.{cond_both}
use Rattle.std.proofs.lemmas.List.{get_or-drop, get_or-map, length-drop}
use Rattle.std.proofs.lemmas.List.Elements.{All-contains, All-contains_itself, All-filter}
use Rattle.std.proofs.lemmas.List.Kept.{IsStrictlySortedBy-filter}
use Rattle.list_laws.proofs.Sorted.{Contains-first, Contains-later, Contains-cons_cases, not_Contains-nil}
use Rattle.text_definitions.specs.Lines.{Line}
use Rattle.lexicon_definitions.specs.Rules.{no_change}
use Rattle.lexicon_definitions.specs.Lexicons.{rule_of}
use Rattle.segmentation_definitions.specs.Listings.{Key}
use Rattle.segmentation_definitions.proofs.Coverings.{rule_at_number}
use Rattle.annotated_trie.specs.Choices.{choices_of, choices_with, first_letter}
use Rattle.annotated_trie.specs.Searched.{SearchedLexicon, IsSearchedLexicon}
use Rattle.search_frames.specs.Configurations.{NumberedConfiguration, IsPossible, rules_in}
use Rattle.search_frames.specs.Walks.{IsNodeAt}
use Rattle.search_frames.proofs.PossibleKeys.{possible_change}

-- what passes the test is kept, and what is kept was there
filter_has : {X : Type 0} (p : X → Bool) (xs : List X) (x : X) → Contains xs x → p x ≡ true → Contains (filter p xs) x
filter_has p [] x among passes = absurd (not_Contains-nil x among)
filter_has p (y ∷ ys) x among passes =
    cond_both (p y) (y ∷ filter p ys) (filter p ys) (λ l. Contains l x)
    (λ yes. elim (Contains-cons_cases y ys x among) [
      | inl same ↦ subst (λ z. Contains (z ∷ filter p ys) x) (sym same) (Contains-first x (filter p ys))
      | inr later ↦ Contains-later y (filter p ys) x (filter_has p ys x later passes)
    ])
    (λ no. elim (Contains-cons_cases y ys x among) [
      | inl same ↦ let is = ap p same in absurd (true≢false (cc))
      | inr later ↦ filter_has p ys x later passes
    ])

filter_had : {X : Type 0} (p : X → Bool) (xs : List X) (x : X) → Contains (filter p xs) x → Contains xs x
filter_had p xs x among = All-contains (Contains xs) (filter p xs) x (All-filter p (Contains xs) xs (All-contains_itself xs)) among

-- the first letter of what is written is that of the w
first_written : (w letters : List ℕ) → w ≢ [] → take (length w) letters ≡ w → (0 < length letters) × (get_or letters 0 0 ≡ get_or w 0 0)
first_written [] letters some written = absurd (some refl)
first_written (x ∷ w) [] some written = absurd cc
first_written (x ∷ w) (y ∷ letters) some written = (omega arith, cc)

filter_fewer : {X : Type 0} (p : X → Bool) (xs : List X) → length (filter p xs) ≤ length xs
filter_fewer p [] = omega arith
filter_fewer p (x ∷ xs) =
    let rest = filter_fewer p xs in
    cond_both (p x) (x ∷ filter p xs) (filter p xs) (λ l. length l ≤ length (x ∷ xs)) (λ yes. omega (arith, rest)) (λ no. omega (arith, rest))

-- a group has no more rules than the node has choices
pub group_length : (searched : SearchedLexicon) (node letter : ℕ) → length (choices_with searched.tries node letter) ≤ length (choices_of searched.tries node)
group_length searched node letter = filter_fewer _ (choices_of searched.tries node)

module _ (searched : SearchedLexicon) (is : IsSearchedLexicon searched) where
  -- each rule of a group is a choice, and they rise
  pub choice_of_group : (node letter rule : ℕ) → Contains (choices_with searched.tries node letter) rule → Contains (choices_of searched.tries node) rule
  choice_of_group node letter rule among = filter_had _ (choices_of searched.tries node) rule among

  pub group_rises : (node letter : ℕ) → node < length searched.tries.trie.rows → IsStrictlySortedBy nat_cmp (choices_with searched.tries node letter)
  group_rises node letter there = IsStrictlySortedBy-filter nat_cmp _ (choices_of searched.tries node) (is.tries.each node there).rising

  module _ (line : Line) (here : NumberedConfiguration) (key : Key) (possible : IsPossible searched line here key) (rule : 0 < key.rule)
      (written : take (length (rule_of (rules_in searched) key.rule).w) (drop (here.at + key.taken) line.letters) ≡ (rule_of (rules_in searched) key.rule).w) where
    first_there : (0 < length (drop (here.at + key.taken) line.letters))
        × (get_or (drop (here.at + key.taken) line.letters) 0 0 ≡ get_or (rule_of (rules_in searched) key.rule).w 0 0)
    first_there =
        let strict = (rule_at_number (rules_in searched) key.rule is.lexicon.rules (rule, possible.number)).strict in
        first_written (rule_of (rules_in searched) key.rule).w (drop (here.at + key.taken) line.letters) strict.1 written

    -- a rule that is written has a letter of the line
    pub letter_there : here.at + key.taken < length line.letters
    letter_there = let some = first_there.0 in omega (arith, some, length-drop (here.at + key.taken) line.letters)

    first_of_rule : (number : ℕ) → key.rule ≡ number → slice_index searched.tries.firsts (key.rule - 1) ≡ get_or (rule_of (rules_in searched) key.rule).w 0 0
    first_of_rule zero none = absurd (omega arith)
    first_of_rule (suc number) at =
        let back : key.rule - 1 ≡ number = omega arith in
        let low : number < length (rules_in searched).rules = let most = possible.number in omega arith in
        ap (λ (firsts : List ℕ). get_or firsts (key.rule - 1) 0) is.tries.firsts
        ∙ ap (λ (n : ℕ). get_or (map first_letter (rules_in searched).rules) n 0) back
        ∙ get_or-map first_letter (rules_in searched).rules number no_change 0 low
        ∙ ap (λ (n : ℕ). get_or (rule_of (rules_in searched) n).w 0 0) (sym at)

    -- so it is in the group of this letter
    pub in_group : (node letter : ℕ) → IsNodeAt searched line here key.phase key.taken node → letter ≡ get_or line.letters (here.at + key.taken) 0
        → Contains (choices_with searched.tries node letter) key.rule
    in_group node letter at letter_is =
        let change = possible_change searched is line here key node at possible in
        let choice : Contains (choices_of searched.tries node) key.rule = elim (Contains-cons_cases 0 (choices_of searched.tries node) key.rule change) [
          | inl none ↦ absurd (omega (arith, none))
          | inr among ↦ among
        ] in
        let next : get_or (drop (here.at + key.taken) line.letters) 0 0 ≡ get_or line.letters (here.at + key.taken) 0 =
        get_or-drop (here.at + key.taken) line.letters 0 0 ∙ ap (λ (n : ℕ). get_or line.letters n 0) (omega arith) in
        filter_has _ (choices_of searched.tries node) key.rule choice
        (eq-eqb _ _ (first_of_rule key.rule refl ∙ sym first_there.1 ∙ next ∙ sym letter_is))
