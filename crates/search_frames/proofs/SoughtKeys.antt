-- A key that is possible at a place and whose w may be written there has its node and its change; else it is refused, whatever
-- the reader chooses.
use Rattle.std.proofs.Common.{◌≡◌, ◌≢◌, ℕ, ◌+◌, ◌<◌, ◌≤◌, ◌↔◌, inl, inr, Bool, true, false, [], length, take, drop, get_or, sym, subst, arith}
use Rattle.std.specs.Prelude.{Contains, IsTrue}
use Rattle.std.proofs.lemmas.Option.{same_Some}
use Rattle.text_definitions.specs.Lines.{Line}
use Rattle.lexicon_definitions.specs.declared.limits.TheConstants.{MOST_FORM_LETTERS}
use Rattle.lexicon_definitions.specs.Lexicons.{rule_of}
use Rattle.lexicon_definitions.specs.Tries.{row_of}
use Rattle.segmentation_definitions.specs.Listings.{Key}
use Rattle.annotated_trie.specs.Choices.{LeadsToEnd, choices_with}
use Rattle.annotated_trie.specs.Searched.{SearchedLexicon, IsSearchedLexicon}
use Rattle.search_frames.specs.Configurations.{NumberedConfiguration, IsPossible, rules_in}
use Rattle.search_frames.specs.Tests.{IsAlwaysRefused}
use Rattle.search_frames.specs.Walks.{IsNodeAt}
use Rattle.search_frames.proofs.ConfigurationRanks.{possible_if_leads, possible_if_ends}
use Rattle.search_frames.proofs.GroupedRules.{choice_of_group, in_group}
use Rattle.search_frames.proofs.PossibleKeys.{change_possible, possible_ends, possible_phase, possible_walks}
use Rattle.search_frames.proofs.TurnedPhases.{few_letters}

module _ (searched : SearchedLexicon) (is : IsSearchedLexicon searched) (line : Line) (here : NumberedConfiguration) (key : Key) where
  -- the w of the key's rule comes next after the letters that it takes
  abbrev pub IsWrittenAfter : Type 0
  IsWrittenAfter = take (length (rule_of (rules_in searched) key.rule).w) (drop (here.at + key.taken) line.letters) ≡ (rule_of (rules_in searched) key.rule).w

  -- what is not possible there, or not written, is refused
  refused_unless : (IsPossible searched line here key → IsWrittenAfter → ⊥) → IsAlwaysRefused searched line here key
  refused_unless none choices = record {
    leads_on = λ leads. none (possible_if_leads searched line choices here key leads) leads.stands.written;
    ends = λ ends. none (possible_if_ends searched line choices here key ends) ends.stands.written;
  }

  pub refused_phase : length (rules_in searched).names ≤ key.phase → IsAlwaysRefused searched line here key
  refused_phase past = refused_unless (λ possible written. let low = possible_phase searched is line here key possible in omega (arith, past, low))

  pub refused_letters : MOST_FORM_LETTERS < key.taken → IsAlwaysRefused searched line here key
  refused_letters many = refused_unless (λ possible written. let few = few_letters searched line here key is possible in omega (arith, many, few))

  pub refused_walk : (walked : ℕ) → walked ≤ key.taken
      → ((node : ℕ) → here.at + key.taken ≤ length line.letters → IsNodeAt searched line here key.phase key.taken node → key.taken < walked)
      → IsAlwaysRefused searched line here key
  refused_walk walked past reaches = refused_unless (λ possible written.
      let (node, at) = possible_walks searched is line here key possible in
      let low = reaches node possible.within at in
      omega (arith, past, low))

  module _ (node : ℕ) (at : IsNodeAt searched line here key.phase key.taken node) where
    pub refused_unchanged : key.rule ≡ 0 → (accepted : Bool) → (IsTrue accepted ↔ ((row_of searched.tries.trie.rows node).deltas ≢ [])) → accepted ≡ false
        → IsAlwaysRefused searched line here key
    refused_unchanged zero accepted told not_there = refused_unless (λ possible written.
        let leads = possible_ends searched is line here key node at possible in
        let ends = subst (λ (r : ℕ). LeadsToEnd searched.tries.trie.rows node (rule_of (rules_in searched) r).u) zero leads in
        let reached : node ≡ ends.reached = same_Some node ends.reached ends.walked in
        let there : accepted ≡ true = told.1 (subst (λ (n : ℕ). (row_of searched.tries.trie.rows n).deltas ≢ []) (sym reached) ends.ends) in
        cc)

    pub refused_choice : 0 < key.rule → (letter : ℕ) → letter ≡ get_or line.letters (here.at + key.taken) 0
        → (has : Bool) → (IsTrue has ↔ Contains (choices_with searched.tries node letter) key.rule) → has ≡ false → IsAlwaysRefused searched line here key
    refused_choice some letter letter_is has told not_there = refused_unless (λ possible written.
        let there : has ≡ true = told.1 (in_group searched is line here key possible some written node letter at letter_is) in
        cc)

    module _ (low : key.phase < length (rules_in searched).names) (within : here.at + key.taken ≤ length line.letters) where
      pub unchanged_there : key.rule ≡ 0 → (row_of searched.tries.trie.rows node).deltas ≢ [] → IsPossible searched line here key
      unchanged_there zero ends = change_possible searched is line here key node at low within (inl (zero, ends))

      pub choice_there : (letter : ℕ) → Contains (choices_with searched.tries node letter) key.rule → IsPossible searched line here key
      choice_there letter among = change_possible searched is line here key node at low within (inr (choice_of_group searched is node letter key.rule among))
