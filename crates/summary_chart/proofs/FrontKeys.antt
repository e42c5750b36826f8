-- The keys with a front: no change where a form ends at its node, and the node's choices; of these only those whose w begins with the
-- letter of the line after the front can be written there.
use Rattle.std.proofs.Common.{◌≡◌, ◌≢◌, ℕ, zero, suc, ◌+◌, ◌-◌, ◌<◌, ◌≤◌, ◌==◌, inl, inr, Bool, true, false, cond, List, [], ◌∷◌, length, map, drop, get_or, All, Contains, sym, ap, subst, ◌∙◌, refl, arith}
use Rattle.std.specs.List.{filter}
use Rattle.std.proofs.lemmas.Bool.{eq-eqb, false≢true}
use Rattle.std.proofs.lemmas.List.{get_or-take, get_or-drop, get_or-map, get_or_default}
use Rattle.std.proofs.lemmas.List.Elements.{All-filter}
use Rattle.std.proofs.lemmas.List.Sums.{length-filter, count_by-le-length}
use Rattle.text_definitions.specs.Lines.{Line}
use Rattle.lexicon_definitions.specs.Rules.{no_change}
use Rattle.lexicon_definitions.specs.Lexicons.{rule_of}
use Rattle.lexicon_definitions.specs.Tries.{row_of}
use Rattle.segmentation_definitions.specs.Items.{Choice}
use Rattle.segmentation_definitions.proofs.Coverings.{some_letters, rule_at_number}
use Rattle.list_laws.proofs.Elements.{written_within}
use Rattle.list_laws.proofs.Sorted.{All-from_Contains, Contains-cons_cases, Contains-first, Contains-later, not_Contains-nil}
use Rattle.answer_paths.specs.Following.{MayStand}
use Rattle.annotated_trie.specs.Choices.{AnnotatedTrie, choices_of, choices_with, first_letter}
use Rattle.annotated_trie.specs.Searched.{SearchedLexicon, IsSearchedLexicon}
use Rattle.search_frames.specs.Configurations.{NumberedConfiguration, IsPossible, rules_in}
use Rattle.search_frames.proofs.PossibleKeys.{possible_change, possible_ends, change_possible, reached_there}
use Rattle.summary_chart.specs.Fronts.{IsFrontAt, front_after}
use Rattle.summary_chart.specs.Summaries.{key_with}

-- an element that passes a filter stays
pub filter_keeps : (p : ℕ → Bool) (xs : List ℕ) (x : ℕ) → Contains xs x → p x ≡ true → Contains (filter p xs) x
filter_keeps p [] x among passes = absurd (not_Contains-nil x among)
filter_keeps p (y ∷ ys) x among passes =
    let go : (b : Bool) → p y ≡ b → Contains (cond b (y ∷ filter p ys) (filter p ys)) x =
    elim [
      | true ↦ λ e. elim (Contains-cons_cases y ys x among) [
        | inl same ↦ subst (λ (z : ℕ). Contains (y ∷ filter p ys) z) same (Contains-first y (filter p ys))
        | inr later ↦ Contains-later y (filter p ys) x (filter_keeps p ys x later passes)
      ]
      | false ↦ λ e. elim (Contains-cons_cases y ys x among) [
        | inl same ↦ absurd (false≢true (sym e ∙ (ap p same ∙ passes)))
        | inr later ↦ filter_keeps p ys x later passes
      ]
    ]
    in go (p y) refl

-- no more choices begin with a letter than there are
pub few_written : (tries : AnnotatedTrie) (node letter : ℕ) → length (choices_with tries node letter) ≤ length (choices_of tries node)
few_written tries node letter =
    let begins : ℕ → Bool = λ number. get_or tries.firsts (number - 1) 0 == letter in
    omega (arith, length-filter begins (choices_of tries node), count_by-le-length begins (choices_of tries node))

module _ (searched : SearchedLexicon) (is : IsSearchedLexicon searched) (line : Line) (here : NumberedConfiguration) (phase taken node : ℕ)
    (front : IsFrontAt searched line here phase taken node) where
  -- the node is one of the trie
  pub front_node : node < length searched.tries.trie.rows
  front_node = reached_there searched is phase node (front_after line here taken) front.named front.walked

  -- ---- keys that are possible

  -- no change, where a form ends there
  pub unchanged_possible : (row_of searched.tries.trie.rows node).deltas ≢ [] → IsPossible searched line here (key_with phase taken 0)
  unchanged_possible ends =
      change_possible searched is line here (key_with phase taken 0) node front.walked front.named front.within (inl (refl, ends))

  -- a choice
  pub choice_possible : (rule : ℕ) → Contains (choices_of searched.tries node) rule → IsPossible searched line here (key_with phase taken rule)
  choice_possible rule among =
      change_possible searched is line here (key_with phase taken rule) node front.walked front.named front.within (inr among)

  pub choices_possible : (letter : ℕ) → All (λ (rule : ℕ). IsPossible searched line here (key_with phase taken rule)) (choices_with searched.tries node letter)
  choices_possible letter =
      All-filter (λ (number : ℕ). get_or searched.tries.firsts (number - 1) 0 == letter) (λ (rule : ℕ). IsPossible searched line here (key_with phase taken rule))
      (choices_of searched.tries node)
      (All-from_Contains (λ (rule : ℕ). IsPossible searched line here (key_with phase taken rule)) (choices_of searched.tries node) choice_possible)

  -- ---- and no others

  -- a form ends at the node where no change is possible
  pub ends_if_unchanged : IsPossible searched line here (key_with phase taken 0) → (row_of searched.tries.trie.rows node).deltas ≢ []
  ends_if_unchanged possible =
      let leads = possible_ends searched is line here (key_with phase taken 0) node front.walked possible in
      let same : node ≡ leads.reached = (let walked = leads.walked in cc) in
      subst (λ (n : ℕ). (row_of searched.tries.trie.rows n).deltas ≢ []) (sym same) leads.ends

  -- a rule that is possible is a choice
  pub choice_if_possible : (rule : ℕ) → 0 < rule → IsPossible searched line here (key_with phase taken rule) → Contains (choices_of searched.tries node) rule
  choice_if_possible rule some possible =
      elim (Contains-cons_cases 0 (choices_of searched.tries node) rule
      (possible_change searched is line here (key_with phase taken rule) node front.walked possible)) [
        | inl none ↦ absurd (omega (arith, none, some))
        | inr among ↦ among
      ]

  -- ---- what is written

  module _ (choices : List Choice) (rule : ℕ) (some : 0 < rule) (stands : MayStand searched.lexicon line choices here.at here.entrance (key_with phase taken rule)) where
    w_some : 0 < length (rule_of (rules_in searched) rule).w
    w_some = some_letters (rule_at_number (rules_in searched) rule is.lexicon.rules (some, stands.number)).strict.1

    -- letters are left
    pub letters_left : here.at + taken < length line.letters
    letters_left =
        let within = written_within line.letters (rule_of (rules_in searched) rule).w (here.at + taken) stands.within stands.written in
        omega (arith, within, w_some)

    -- the first letter of its w comes next
    pub first_next : get_or (rule_of (rules_in searched) rule).w 0 0 ≡ get_or line.letters (here.at + taken) 0
    first_next =
        let w = (rule_of (rules_in searched) rule).w in
        ap (λ (word : List ℕ). get_or word 0 0) (sym stands.written)
        ∙ get_or-take (length w) (drop (here.at + taken) line.letters) 0 0 w_some
        ∙ get_or-drop (here.at + taken) line.letters 0 0
        ∙ ap (λ (n : ℕ). get_or line.letters n 0) (omega arith)

    -- which is what the trie keeps of the rule
    first_kept : get_or searched.tries.firsts (rule - 1) 0 ≡ get_or (rule_of (rules_in searched) rule).w 0 0
    first_kept = kept rule some stands.number
      where
        kept : (number : ℕ) → 0 < number → number ≤ length (rules_in searched).rules
            → get_or searched.tries.firsts (number - 1) 0 ≡ get_or (rule_of (rules_in searched) number).w 0 0
        kept zero none few = absurd (omega (arith, none))
        kept (suc n) above few =
            let place : suc n - 1 ≡ n = omega arith in
            ap (λ (firsts : List ℕ). get_or firsts (suc n - 1) 0) is.tries.firsts
            ∙ ap (λ (m : ℕ). get_or (map first_letter (rules_in searched).rules) m 0) place
            ∙ get_or-map first_letter (rules_in searched).rules n no_change 0 (omega (arith, few))

    -- so it is among the choices with that letter
    pub among_written : (letter : ℕ) → letter ≡ get_or line.letters (here.at + taken) letter → IsPossible searched line here (key_with phase taken rule)
        → Contains (choices_with searched.tries node letter) rule
    among_written letter next possible =
        let same : get_or searched.tries.firsts (rule - 1) 0 ≡ letter =
        first_kept ∙ first_next ∙ get_or_default line.letters (here.at + taken) 0 letter letters_left ∙ sym next in
        filter_keeps (λ (number : ℕ). get_or searched.tries.firsts (number - 1) 0 == letter) (choices_of searched.tries node) rule
        (choice_if_possible rule some possible) (eq-eqb (get_or searched.tries.firsts (rule - 1) 0) letter same)
