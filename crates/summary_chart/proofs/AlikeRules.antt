-- Rules that do the same lead on to the same and end the line at the same places, so a rule is passed over where one that does the same was
-- looked at.
use Rattle.std.proofs.Common.{◌≡◌, inl, inr, ℕ, ◌+◌, ◌<◌, ◌↔◌, Bool, List, [], ◌∷◌, ◌++◌, length, take, drop, get_or, All, Contains, refl, sym, ap, subst, ◌∙◌}
use Rattle.std.proofs.lemmas.List.{take_more}
use Rattle.std.proofs.lemmas.List.Elements.{All-contains, All-take, Contains-append_left, Contains-push_cases}
use Rattle.text_definitions.specs.Lines.{Line}
use Rattle.lexicon_definitions.specs.Lexicons.{RuleSet}
use Rattle.lexicon_definitions.specs.Rules.{HasPhase}
use Rattle.segmentation_definitions.specs.Items.{Choice}
use Rattle.segmentation_definitions.specs.Listings.{Key}
use Rattle.segmentation_definitions.specs.Configurations.{Lead}
use Rattle.derivation.specs.declared.entrance.Entrance.{Entrance}
use Rattle.annotated_trie.specs.Searched.{SearchedLexicon}
use Rattle.search_frames.specs.declared.configuration.Configuration.{Configuration}
use Rattle.search_frames.specs.declared.letter_testing.LetterTest.TheVariants as test
use Rattle.search_frames.specs.Ahead.{MayBegin, RuleEnds, RuleLeadsTo, RuleStands}
use Rattle.search_frames.specs.Configurations.{IsPossible, rules_in}
use Rattle.search_frames.specs.Frames.{numbered_of}
use Rattle.search_frames.specs.LetterTests.{DoAsRules}
use Rattle.summary_chart.specs.declared.memo.Work.{Work}
use Rattle.summary_chart.specs.declared.state_set.StateSet.{StateSet}
use Rattle.summary_chart.specs.declared.table.Table.{Table}
use Rattle.summary_chart.specs.Effects.{DoSame}
use Rattle.summary_chart.specs.Memos.{LivesBy}
use Rattle.summary_chart.specs.Onward.{LeadSame, Puts, PutsAt}
use Rattle.summary_chart.specs.Spreading.{IsByRule}
use Rattle.summary_chart.specs.StateSets.{HasState}
use Rattle.summary_chart.specs.Summaries.{key_with}
use Rattle.summary_chart.proofs.SpreadMemos.{leads_by_rule}

-- ---- what two rules do that do the same

module _ (rules : RuleSet) (line : Line) (end phase one other : ℕ) (same : DoSame rules one other) where
  pub stands_alike : RuleStands rules line end phase other → RuleStands rules line end phase one
  stands_alike stands = record {
    follows = subst (λ (before : ℕ). HasPhase before phase) (sym same.before) stands.follows;
    written = subst (λ (w : List ℕ). take (length w) (drop end line.letters) ≡ w) (sym same.w) stands.written;
  }

  pub leads_alike : (at : ℕ) (entrance : Entrance) → RuleLeadsTo rules line end phase other at entrance → RuleLeadsTo rules line end phase one at entrance
  leads_alike at entrance leads = record {
    stands = stands_alike leads.stands;
    inner = λ none. leads.inner (sym same.v ∙ none);
    at_is = leads.at_is ∙ ap (λ (w : List ℕ). end + length w) (sym same.w);
    entrance_is = leads.entrance_is ∙ (λ i. Lead (sym same.v i) (sym same.after i));
    over = leads.over;
  }

  pub ends_alike : (may_end : Bool) → RuleEnds rules line end may_end phase other → RuleEnds rules line end may_end phase one
  ends_alike may_end ends = record {
    stands = stands_alike ends.stands;
    final_rule = same.v ∙ ends.final_rule;
    all = ap (λ (w : List ℕ). end + length w) same.w ∙ ends.all;
    may = ends.may;
  }

-- ---- a rule that is passed over

module _ (rules : List ℕ) (count rule : ℕ) (low : count < length rules) (is : rule ≡ get_or rules count rule) (one : ℕ)
    (among : Contains (take count rules) one) where
  more : take (count + 1) rules ≡ take count rules ++ rule ∷ []
  more = take_more rules count rule low ∙ ap (λ (r : ℕ). take count rules ++ r ∷ []) (sym is)

  pub lives_passed : (searched : SearchedLexicon) (line : Line) (table : Table) (work : Work) → DoSame (rules_in searched) one rule → (living : StateSet)
      → ((number : ℕ) → HasState living number ↔ LivesBy searched line table work (Contains (take count rules)) number)
      → (number : ℕ) → HasState living number ↔ LivesBy searched line table work (Contains (take (count + 1) rules)) number
  lives_passed searched line table work same living before number = (
    λ has.
        let lives = (before number).0 has in (
          lives.0,
          subst (λ (some : List ℕ). Contains some lives.0) (sym more) (Contains-append_left (take count rules) (rule ∷ []) lives.0 lives.1),
          lives.2,
        ),
    λ lives. (before number).1 (elim (Contains-push_cases (take count rules) rule lives.0 (subst (λ (some : List ℕ). Contains some lives.0) more lives.1)) [
      | inl earlier ↦ (lives.0, earlier, lives.2)
      | inr now ↦ (
        one,
        among,
        elim lives.2 [
          | inl leads ↦ inl (
            leads.0,
            leads.1,
            leads_alike (rules_in searched) line work.end work.phase one rule same leads.0 leads.1
                (subst (λ (r : ℕ). RuleLeadsTo (rules_in searched) line work.end work.phase r leads.0 leads.1) (sym now) leads.2),
            leads.3,
          )
          | inr ends ↦ inr (
            ends_alike (rules_in searched) line work.end work.phase one rule same work.may_end
                (subst (RuleEnds (rules_in searched) line work.end work.may_end work.phase) (sym now) ends.0),
            ends.1,
          )
        ],
      )
    ]),
  )

  -- at a place where rules that do the same lead on to the same
  module _ (searched : SearchedLexicon) (line : Line) (choices : List Choice) (place : Configuration) (after : StateSet) (phase taken : ℕ)
      (leads : LeadSame searched line choices (numbered_of searched place) phase taken) (some : All (λ r. 0 < r) rules)
      (possible : All (λ r. IsPossible searched line (numbered_of searched place) (key_with phase taken r)) rules) where
    put_alike : DoSame (rules_in searched) one rule → 0 < rule → (next : Configuration)
        → PutsAt searched line choices (numbered_of searched place) after (key_with phase taken rule) next
        → PutsAt searched line choices (numbered_of searched place) after (key_with phase taken one) next
    put_alike same above next put =
        let here = numbered_of searched place in
        let some_one : 0 < one = All-contains (λ (r : ℕ). 0 < r) (take count rules) one (All-take (λ (r : ℕ). 0 < r) count rules some) among in
        let Possible = λ (r : ℕ). IsPossible searched line here (key_with phase taken r) in
        let possible_one = All-contains Possible (take count rules) one (All-take Possible count rules possible) among in
        record { leads = leads one rule next.at next.entrance same some_one above possible_one put.leads; number = put.number; has = put.has; is = put.is }

    pub spread_passed : DoSame (rules_in searched) one rule → 0 < rule → (old new : Table)
        → Puts searched line choices (numbered_of searched place) after (IsByRule phase taken (take count rules)) old new
        → Puts searched line choices (numbered_of searched place) after (IsByRule phase taken (take (count + 1) rules)) old new
    spread_passed same above old new puts = record {
      keeps = puts.keeps;
      adds = λ key next told put. elim (Contains-push_cases (take count rules) rule key.rule (subst (λ (r : List ℕ). Contains r key.rule) more told.2)) [
        | inl earlier ↦ puts.adds key next (told.0, told.1, earlier) put
        | inr now ↦
            let is_key : key ≡ key_with phase taken rule = λ i. record { phase = told.0 i; taken = told.1 i; rule = sym now i } in
            puts.adds (key_with phase taken one) next (refl, refl, among)
            (put_alike same above next (subst (λ (k : Key). PutsAt searched line choices (numbered_of searched place) after k next) is_key put))
      ];
      only = λ other within there. elim (puts.only other within there) [
        | inl had ↦ inl had
        | inr (key, told, put) ↦ inr (
          key,
          (told.0, told.1, subst (λ (r : List ℕ). Contains r key.rule) (sym more) (Contains-append_left (take count rules) (rule ∷ []) key.rule told.2)),
          put,
        )
      ];
    }

-- they do so where all keys with the front do what their rules do
pub lead_by_rules : (searched : SearchedLexicon) (line : Line) (choices : List Choice) (place : Configuration) (phase taken : ℕ) (may_end : Bool)
    → MayBegin (numbered_of searched place).entrance phase → DoAsRules searched line choices (numbered_of searched place) taken may_end
    → LeadSame searched line choices (numbered_of searched place) phase taken
lead_by_rules searched line choices place phase taken may_end begins does one other at entrance same some_one some_other possible may =
    does (key_with phase taken one) (test.LeadsOn at entrance) refl some_one possible begins
    (leads_alike (rules_in searched) line (place.at + taken) phase one other same at entrance
    (leads_by_rule searched line choices place (key_with phase taken other) at entrance some_other may))
