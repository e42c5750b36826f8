-- What the memo of a pass keeps of rules that were spread: it stays so while the table grows, what it has is there already, and what was
-- spread at a place where each key does what its rule does serves wherever a form ends so.
use Rattle.std.proofs.Common.{◌≡◌, ◌⊎◌, inl, inr, ℕ, ◌+◌, ◌<◌, ◌≤◌, ◌↔◌, Bool, Option, Some, None, List, length, Contains, refl, sym, ap, subst, ◌∙◌}
use Rattle.std.proofs.lemmas.List.Elements.{All-contains, All-filter}
use Rattle.list_laws.proofs.Sorted.{All-from_Contains}
use Rattle.text_definitions.specs.Lines.{Line}
use Rattle.segmentation_definitions.specs.Items.{Choice}
use Rattle.segmentation_definitions.specs.Listings.{Key}
use Rattle.derivation.specs.declared.entrance.Entrance.{Entrance}
use Rattle.annotated_trie.specs.AlikePhases.{IsAlike}
use Rattle.annotated_trie.specs.Choices.{AnnotatedTrie, choices_of, choices_with}
use Rattle.annotated_trie.specs.Searched.{SearchedLexicon, IsSearchedLexicon}
use Rattle.answer_paths.specs.Following.{MayStand, step_at}
use Rattle.search_frames.specs.declared.configuration.Configuration.{Configuration}
use Rattle.search_frames.specs.declared.letter_testing.LetterTest.TheVariants as test
use Rattle.search_frames.specs.Ahead.{MayBegin, RuleLeadsTo}
use Rattle.search_frames.specs.Configurations.{rules_in}
use Rattle.search_frames.specs.Frames.{numbered_of}
use Rattle.search_frames.specs.LetterTests.{DoAsTheseRules, MayLeadTo}
use Rattle.search_frames.proofs.AheadTests.{entrance_changed}
use Rattle.summary_chart.specs.declared.memo.Done.{Done}
use Rattle.summary_chart.specs.declared.memo.Memo.{Memo}
use Rattle.summary_chart.specs.declared.memo.Work.{Work}
use Rattle.summary_chart.specs.declared.state_set.StateSet.{StateSet}
use Rattle.summary_chart.specs.declared.table.Table.{Table}
use Rattle.summary_chart.specs.Fronts.{IsFrontAt}
use Rattle.summary_chart.specs.Effects.{AreEffects}
use Rattle.summary_chart.specs.Memos.{AreSpread, IsKnownWith, IsPartAt, IsSameWork, IsSpread, IsWork, KeepsKnown, rules_at, rules_told}
use Rattle.summary_chart.specs.Onward.{Puts, PutsAt}
use Rattle.summary_chart.specs.Spreading.{IsByRule, place_with}
use Rattle.summary_chart.specs.StateSets.{HasState}
use Rattle.summary_chart.specs.Summaries.{key_with}
use Rattle.summary_chart.specs.Tables.{IsIn}
use Rattle.summary_chart.proofs.AlikeKeys.{alike_back}
use Rattle.summary_chart.proofs.AlikeWorks.{rule_leads_alike}
use Rattle.summary_chart.proofs.FrontKeys.{choice_possible}

-- ---- choices

-- a choice that begins with a letter is a choice
pub choice_if_written : (tries : AnnotatedTrie) (node letter rule : ℕ) → Contains (choices_with tries node letter) rule → Contains (choices_of tries node) rule
choice_if_written tries node letter rule among =
    All-contains (λ (number : ℕ). Contains (choices_of tries node) number) (choices_with tries node letter) rule
    (All-filter _ (λ (number : ℕ). Contains (choices_of tries node) number) (choices_of tries node)
    (All-from_Contains (λ (number : ℕ). Contains (choices_of tries node) number) (choices_of tries node) (λ number is. is)))
    among

-- a choice has a number, counted from 1
pub choice_numbered : (searched : SearchedLexicon) (node rule : ℕ) → IsSearchedLexicon searched → node < length searched.tries.trie.rows
    → Contains (choices_of searched.tries node) rule → 0 < rule
choice_numbered searched node rule is low among = (((is.tries.each node low).members rule).0 among).0

-- work with all choices of a node
pub whole_work : (tries : AnnotatedTrie) (work : Work) → work.node < length tries.trie.rows → work.part ≡ None → IsWork tries work
whole_work tries work low all = record { node = low; part = subst (IsPartAt tries work.node) (sym all) tt }

pub whole_rules : (tries : AnnotatedTrie) (work : Work) → work.part ≡ None → rules_at tries work ≡ choices_of tries work.node
whole_rules tries work all = ap (rules_told tries work.node) all

-- a rule of a part of the node's choices, or of all of them, is a choice of the node
choice_told : (searched : SearchedLexicon) (node rule : ℕ) (part : Option ℕ) → IsSearchedLexicon searched → node < length searched.tries.trie.rows
    → IsPartAt searched.tries node part → Contains (rules_told searched.tries node part) rule → Contains (choices_of searched.tries node) rule
choice_told searched node rule None is low of_node among = among
choice_told searched node rule (Some part) is low of_node among = ((is.tries.parts node low).rules rule).1 (part, of_node, among)

-- a rule of a work is a choice of its node
pub choice_at_work : (searched : SearchedLexicon) (work : Work) (rule : ℕ) → IsSearchedLexicon searched → IsWork searched.tries work
    → Contains (rules_at searched.tries work) rule → Contains (choices_of searched.tries work.node) rule
choice_at_work searched work rule is of_trie among = choice_told searched work.node rule work.part is of_trie.node of_trie.part among

-- and so it is a rule of the lexicon
pub rule_at_work : (searched : SearchedLexicon) (work : Work) (rule : ℕ) → IsSearchedLexicon searched → IsWork searched.tries work
    → Contains (rules_at searched.tries work) rule → (0 < rule) × (rule ≤ length (rules_in searched).rules)
rule_at_work searched work rule is of_trie among =
    let members = ((is.tries.each work.node of_trie.node).members rule).0 (choice_at_work searched work rule is of_trie among) in
    (members.0, members.1)

-- ---- a memo, while the table grows

module _ (searched : SearchedLexicon) (line : Line) where
  pub spread_grown : (old new : Table) (done : Done) → ((place : Configuration) → IsIn old place → IsIn new place)
      → IsSpread searched line old done → IsSpread searched line new done
  spread_grown old new done keeps is rule at number entrance among leads has = keeps (place_with at entrance number) (is rule at number entrance among leads has)

  pub all_grown : (old new : Table) (memo : Memo) → ((place : Configuration) → IsIn old place → IsIn new place)
      → AreSpread searched line old memo → AreSpread searched line new memo
  all_grown old new memo keeps are = record {
    works = are.works;
    spread = λ done known. spread_grown old new done keeps (are.spread done known);
    effects = are.effects;
  }

  -- one work more
  pub all_with : (table : Table) (work : Work) (states : StateSet) (old new : Memo) → KeepsKnown work states old new
      → IsWork searched.tries work → IsSpread searched line table (record { work = work; states = states })
      → AreEffects (rules_in searched) new.effects → AreSpread searched line table old → AreSpread searched line table new
  all_with table work states old new keeps of_trie is effects are = record {
    works = λ done known. elim (keeps done known) [
      | inl before ↦ are.works done before
      | inr same ↦ subst (λ (d : Done). IsWork searched.tries d.work) (sym same) of_trie
    ];
    spread = λ done known. elim (keeps done known) [
      | inl before ↦ are.spread done before
      | inr same ↦ subst (IsSpread searched line table) (sym same) is
    ];
    effects = effects;
  }

  -- where a rule leads on to from a work that gives the same as one that was spread, each state of this is there
  pub there_if_spread : (table : Table) (done : Done) (work : Work) (rule at number : ℕ) (entrance : Entrance) → IsSpread searched line table done
      → IsSameWork searched.tries done.work work → Contains (rules_at searched.tries work) rule
      → RuleLeadsTo (rules_in searched) line work.end work.phase rule at entrance → HasState done.states number → IsIn table (place_with at entrance number)
  there_if_spread table done work rule at number entrance is same among leads has =
      is rule at number entrance
      (subst (λ (rules : List ℕ). Contains rules rule) (sym same.rules) among)
      (subst (λ (end : ℕ). RuleLeadsTo (rules_in searched) line end done.work.phase rule at entrance) (sym same.end)
      (subst (λ (phase : ℕ). RuleLeadsTo (rules_in searched) line work.end phase rule at entrance) (sym same.phase) leads))
      has

-- ---- at a place

module _ (searched : SearchedLexicon) (line : Line) (choices : List Choice) (place : Configuration) where
  -- where a key with a rule may lead on to, its rule leads on to after its letters
  pub leads_by_rule : (key : Key) (at : ℕ) (entrance : Entrance) → 0 < key.rule → MayLeadTo searched line choices (numbered_of searched place) key at entrance
      → RuleLeadsTo (rules_in searched) line (place.at + key.taken) key.phase key.rule at entrance
  leads_by_rule key at entrance some may = record {
    stands = record { follows = may.may.stands.follows some; written = may.may.stands.written };
    inner = may.may.inner some;
    at_is = may.at_is;
    entrance_is = may.entrance_is
        ∙ entrance_changed (rules_in searched) (step_at (rules_in searched) line place.at (numbered_of searched place).entrance key) some;
    over = may.over;
  }

  module _ (is : IsSearchedLexicon searched) (work : Work) (taken : ℕ) (end : work.end ≡ place.at + taken) (of_trie : IsWork searched.tries work)
      (phase : ℕ) (alike : IsAlike (rules_in searched) work.phase phase) (after : StateSet) (rules : List ℕ) where
    -- where the memo has all states that come after the form, nothing is left to be put into the table by rules of the work
    pub nothing_new : (table : Table) (memo : Memo) → AreSpread searched line table memo
        → ((number : ℕ) → HasState after number → IsKnownWith searched.tries memo work number)
        → ((rule : ℕ) → Contains rules rule → Contains (rules_at searched.tries work) rule)
        → Puts searched line choices (numbered_of searched place) after (IsByRule phase taken rules) table table
    nothing_new table memo are has among = record {
      keeps = λ other there. there;
      adds = λ key next told put. added key next told put;
      only = λ other within there. inl there;
    }
      where
        added : (key : Key) (next : Configuration) → IsByRule phase taken rules key
            → PutsAt searched line choices (numbered_of searched place) after key next → IsIn table next
        added key next (same_phase, same_taken, told) put =
            let of_work = among key.rule told in
            let (some, within) = rule_at_work searched work key.rule is of_trie of_work in
            let here = leads_by_rule key next.at next.entrance some put.leads in
            let by_end = subst (λ (e : ℕ). RuleLeadsTo (rules_in searched) line e key.phase key.rule next.at next.entrance)
            (ap (λ (t : ℕ). place.at + t) same_taken ∙ sym end) here in
            let by_phase = subst (λ (p : ℕ). RuleLeadsTo (rules_in searched) line work.end p key.rule next.at next.entrance) same_phase by_end in
            let by_work = rule_leads_alike (rules_in searched) line work.end phase work.phase key.rule (alike_back (rules_in searched) work.phase phase alike)
            some within next.at next.entrance by_phase in
            let (done, known, same, has_number) = has put.number put.has in
            let there = there_if_spread searched line table done work key.rule next.at put.number next.entrance (are.spread done known) same of_work by_work has_number in
            subst (IsIn table) (λ i. record { at = next.at; entrance = next.entrance; state = sym put.is i }) there

    -- where every key with this front and a rule of the work does what its rule does, each rule of the work that leads on was put into the table with the states that come
    -- after it, if all of them were looked at that may stand there
    pub newly_spread : (mid new : Table) (memo : Memo) (known all : StateSet) (may_end : Bool)
        → IsFrontAt searched line (numbered_of searched place) phase taken work.node
        → MayBegin (numbered_of searched place).entrance phase
        → DoAsTheseRules searched line choices (numbered_of searched place) taken may_end (rules_at searched.tries work)
        → AreSpread searched line mid memo
        → ((number : ℕ) → HasState known number → IsKnownWith searched.tries memo work number)
        → ((number : ℕ) → HasState all number ↔ (HasState known number ⊎ HasState after number))
        → ((rule : ℕ) → Contains (rules_at searched.tries work) rule → 0 < rule
        → MayStand searched.lexicon line choices place.at (numbered_of searched place).entrance (key_with phase taken rule) → Contains rules rule)
        → Puts searched line choices (numbered_of searched place) after (IsByRule phase taken rules) mid new
        → IsSpread searched line new (record { work = work; states = all })
    newly_spread mid new memo known all may_end front begins does are has union looked puts rule at number entrance among leads in_all =
        elim ((union number).0 in_all) [
          | inl before ↦
              let (done, is_known, same, had) = has number before in
              puts.keeps (place_with at entrance number)
              (there_if_spread searched line mid done work rule at number entrance (are.spread done is_known) same among leads had)
          | inr now ↦
              let here = numbered_of searched place in
              let key = key_with phase taken rule in
              let (some, within) = rule_at_work searched work rule is of_trie among in
              let possible = choice_possible searched is line here phase taken work.node front rule (choice_at_work searched work rule is of_trie among) in
              let by_phase = rule_leads_alike (rules_in searched) line work.end work.phase phase rule alike some within at entrance leads in
              let by_end = subst (λ (e : ℕ). RuleLeadsTo (rules_in searched) line e phase rule at entrance) end by_phase in
              let may : MayLeadTo searched line choices here key at entrance = does key (test.LeadsOn at entrance) refl some among possible begins by_end in
              puts.adds key (place_with at entrance number) (refl, refl, looked rule among some may.may.stands) (record { leads = may; number = number; has = now; is = refl })
        ]
