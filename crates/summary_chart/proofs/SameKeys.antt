-- Keys at a place whose rules do the same do the same there, where no choice is made: their forms begin with the same letter, so that both may
-- be entered or neither.
use Rattle.std.proofs.Common.{◌≡◌, inl, inr, ℕ, ◌+◌, ◌<◌, ◌≤◌, ◌↔◌, Bool, IsTrue, List, [], ◌∷◌, ◌++◌, All, Contains, length, take, drop, get_or, refl, sym, ap, subst, ◌∙◌, arith}
use Rattle.std.proofs.lemmas.List.{get_or-take, take_more}
use Rattle.std.proofs.lemmas.List.Elements.{All-contains, All-take, Contains-append_left, Contains-push_cases}
use Rattle.std.specs.Prelude.{slice_index}
use Rattle.text_definitions.specs.Lines.{Line}
use Rattle.lexicon_definitions.specs.Lexicons.{IsPlain, RuleSet, rule_of}
use Rattle.segmentation_definitions.specs.Configurations.{Entrance, Lead, Plain, Start}
use Rattle.segmentation_definitions.specs.Items.{Choice}
use Rattle.segmentation_definitions.specs.Listings.{Key}
use Rattle.segmentation_definitions.specs.LocalTests.{Allows}
use Rattle.derivation.specs.declared.entrance.Entrance.{Entrance as ProgramEntrance}
use Rattle.annotated_trie.specs.Searched.{SearchedLexicon}
use Rattle.answer_paths.specs.Following.{MayEnter, MayStand, is_start, placed_at, step_at}
use Rattle.search_frames.specs.declared.configuration.Configuration.{Configuration}
use Rattle.search_frames.specs.declared.letter_testing.LetterTest.TheVariants as test
use Rattle.search_frames.specs.Ahead.{FitsPlace, MayBegin}
use Rattle.search_frames.specs.Configurations.{IsPossible, rules_in}
use Rattle.search_frames.specs.Frames.{numbered_of}
use Rattle.search_frames.specs.LetterTests.{DoAsRules, DoAsTheseRules, MayEndLine, MayLeadTo}
use Rattle.search_frames.proofs.AheadTests.{rule_does}
use Rattle.summary_chart.specs.declared.site.SiteAhead.{SiteAhead}
use Rattle.summary_chart.specs.declared.state_set.StateSet.{StateSet}
use Rattle.summary_chart.specs.declared.table.Table.{Table}
use Rattle.summary_chart.specs.Effects.{DoSame}
use Rattle.summary_chart.specs.Onward.{DoAsRulesIfEntered, LeadSame, LivesByKey, LivesMore}
use Rattle.summary_chart.specs.Sites.{IsSiteAhead}
use Rattle.summary_chart.specs.Spreading.{IsByRule}
use Rattle.summary_chart.specs.Summaries.{key_with}
use Rattle.summary_chart.proofs.AlikeRules.{ends_alike, lead_by_rules, leads_alike}
use Rattle.summary_chart.proofs.SpreadMemos.{leads_by_rule}

-- words that begin with the same letter, or are empty, begin so after the same letters
begin_same : (before one other : List ℕ) → take 1 one ≡ take 1 other → take 1 (before ++ one) ≡ take 1 (before ++ other)
begin_same [] one other same = same
begin_same (letter ∷ letters) one other same = refl

first_same : (one other : List ℕ) → take 1 one ≡ take 1 other → slice_index one 0 ≡ slice_index other 0
first_same one other same =
    sym (get_or-take 1 one 0 0 (omega arith)) ∙ ap (λ (word : List ℕ). slice_index word 0) same ∙ get_or-take 1 other 0 0 (omega arith)

-- where forms begin so, both may be entered or neither
enters_same : (rules : RuleSet) (line : Line) (at : ℕ) (entrance : Entrance) (phase taken one other : ℕ)
    → take 1 (rule_of rules one).u ≡ take 1 (rule_of rules other).u
    → MayEnter rules entrance (step_at rules line at entrance (key_with phase taken other))
    → MayEnter rules entrance (step_at rules line at entrance (key_with phase taken one))
enters_same rules line at Start phase taken one other same enters = tt
enters_same rules line at (Plain letter) phase taken one other same enters =
    let letters = take taken (drop at line.letters) in
    subst (IsPlain rules letter)
    (first_same (letters ++ (rule_of rules other).u) (letters ++ (rule_of rules one).u) (begin_same letters (rule_of rules other).u (rule_of rules one).u (sym same)))
    enters
enters_same rules line at (Lead v after) phase taken one other same enters = enters

-- what keys do of which each does what its rule does, do those with some of the rules
pub these_do : (searched : SearchedLexicon) (line : Line) (choices : List Choice) (place : Configuration) (taken : ℕ) (may_end : Bool) (rules : List ℕ)
    → DoAsRules searched line choices (numbered_of searched place) taken may_end → DoAsTheseRules searched line choices (numbered_of searched place) taken may_end rules
these_do searched line choices place taken may_end rules does key test same some among possible begins is = does key test same some possible begins is

module _ (searched : SearchedLexicon) (line : Line) (choices : List Choice) (place : Configuration) (free : choices ≡ []) (phase taken one other : ℕ)
    (same : DoSame (rules_in searched) one other) (some_one : 0 < one) (some_other : 0 < other)
    (possible : IsPossible searched line (numbered_of searched place) (key_with phase taken one))
    (may_end : Bool) (says : IsTrue may_end ↔ All (λ blank. blank ≤ place.at) line.blanks) where
  fits_same : MayStand searched.lexicon line choices place.at (numbered_of searched place).entrance (key_with phase taken other)
      → FitsPlace searched line choices (numbered_of searched place) (key_with phase taken one)
  fits_same stands =
      let here = numbered_of searched place in
      record {
        number = possible.number;
        within = possible.within;
        form = possible.form;
        enters = enters_same (rules_in searched) line place.at here.entrance phase taken one other same.begins stands.enters;
        blanks = stands.blanks;
        allowed = subst (λ (some : List Choice). Allows (rules_in searched) (length line.letters) some (is_start here.entrance)
            (placed_at (rules_in searched) line place.at here.entrance (key_with phase taken one)))
            (sym free) (λ number none low. absurd (omega (arith, low)));
      }

  -- where the one may lead on to, the other may
  pub leads_same : (at : ℕ) (entrance : ProgramEntrance) → MayLeadTo searched line choices (numbered_of searched place) (key_with phase taken other) at entrance
      → MayLeadTo searched line choices (numbered_of searched place) (key_with phase taken one) at entrance
  leads_same at entrance may =
      rule_does searched line choices (numbered_of searched place) (key_with phase taken one) may_end says (test.LeadsOn at entrance) some_one (fits_same may.may.stands)
      (leads_alike (rules_in searched) line (place.at + taken) phase one other same at entrance
      (leads_by_rule searched line choices place (key_with phase taken other) at entrance some_other may))

  -- and where the one may end the line
  pub ends_same : MayEndLine searched line choices (numbered_of searched place) (key_with phase taken other)
      → MayEndLine searched line choices (numbered_of searched place) (key_with phase taken one)
  ends_same may =
      rule_does searched line choices (numbered_of searched place) (key_with phase taken one) may_end says test.Ends some_one (fits_same may.stands)
      (ends_alike (rules_in searched) line (place.at + taken) phase one other same may_end (record {
        stands = record { follows = may.stands.follows some_other; written = may.stands.written };
        final_rule = may.final_rule some_other;
        all = may.all;
        may = says.1 may.blanks_before;
      }))

-- ---- where each key whose form may be entered does what its rule does

module _ (here : SiteAhead) (taken : ℕ) (may_end : Bool) where
  -- rules that do the same lead on to the same
  pub lead_same_if_entered : (phase : ℕ) → IsSiteAhead here → MayBegin (numbered_of here.site.lexicon.now here.site.place.now).entrance phase → DoAsRulesIfEntered here taken may_end
      → LeadSame here.site.lexicon.now here.site.line.now here.site.choices.now (numbered_of here.site.lexicon.now here.site.place.now) phase taken
  lead_same_if_entered phase is begins (inl does) =
      lead_by_rules here.site.lexicon.now here.site.line.now here.site.choices.now here.site.place.now phase taken may_end begins does
  lead_same_if_entered phase is begins (inr free) = λ one other at entrance same some_one some_other possible may.
      leads_same here.site.lexicon.now here.site.line.now here.site.choices.now here.site.place.now free.0 phase taken one other same some_one some_other possible
      here.ahead.may_end is.ahead.ending at entrance may

  -- some of the rules do so, if they do where no choice is made
  pub these_do_if_entered : (rules : List ℕ) → DoAsRulesIfEntered here taken may_end
      → (here.site.choices.now ≡ [] → DoAsTheseRules here.site.lexicon.now here.site.line.now here.site.choices.now (numbered_of here.site.lexicon.now here.site.place.now) taken here.ahead.may_end rules)
      → DoAsTheseRules here.site.lexicon.now here.site.line.now here.site.choices.now (numbered_of here.site.lexicon.now here.site.place.now) taken may_end rules
  these_do_if_entered rules (inl does) own = these_do here.site.lexicon.now here.site.line.now here.site.choices.now here.site.place.now taken may_end rules does
  these_do_if_entered rules (inr free) own =
      subst (λ (e : Bool). DoAsTheseRules here.site.lexicon.now here.site.line.now here.site.choices.now (numbered_of here.site.lexicon.now here.site.place.now) taken e rules)
      (sym free.1) (own free.0)

-- a rule is passed over where one that does the same was looked at
module _ (searched : SearchedLexicon) (line : Line) (choices : List Choice) (place : Configuration) (table : Table) (free : choices ≡ []) (phase taken : ℕ)
    (may_end : Bool) (says : IsTrue may_end ↔ All (λ blank. blank ≤ place.at) line.blanks) (rules : List ℕ) (some : All (λ r. 0 < r) rules)
    (possible : All (λ r. IsPossible searched line (numbered_of searched place) (key_with phase taken r)) rules)
    (count rule : ℕ) (low : count < length rules) (is : rule ≡ get_or rules count rule) (one : ℕ) (among : Contains (take count rules) one) where
  more : take (count + 1) rules ≡ take count rules ++ rule ∷ []
  more = take_more rules count rule low ∙ ap (λ (r : ℕ). take count rules ++ r ∷ []) (sym is)

  lives_same : DoSame (rules_in searched) one rule → 0 < rule → (number : ℕ) → LivesByKey searched line choices (numbered_of searched place) table (key_with phase taken rule) number
      → LivesByKey searched line choices (numbered_of searched place) table (key_with phase taken one) number
  lives_same same above number lives =
      let some_one : 0 < one = All-contains (λ (r : ℕ). 0 < r) (take count rules) one (All-take (λ (r : ℕ). 0 < r) count rules some) among in
      let Possible = λ (r : ℕ). IsPossible searched line (numbered_of searched place) (key_with phase taken r) in
      let possible_one = All-contains Possible (take count rules) one (All-take Possible count rules possible) among in
      elim lives [
        | inl ends ↦ inl (ends_same searched line choices place free phase taken one rule same some_one above possible_one may_end says ends.0, ends.1)
        | inr leads ↦ inr (
          leads.0,
          leads.1,
          leads_same searched line choices place free phase taken one rule same some_one above possible_one may_end says leads.0 leads.1 leads.2,
          leads.3,
        )
      ]

  pub living_passed : DoSame (rules_in searched) one rule → 0 < rule → (old new : StateSet)
      → LivesMore searched line choices (numbered_of searched place) table (IsByRule phase taken (take count rules)) old new
      → LivesMore searched line choices (numbered_of searched place) table (IsByRule phase taken (take (count + 1) rules)) old new
  living_passed same above old new before number = (
    λ has. elim ((before number).0 has) [
      | inl had ↦ inl had
      | inr (key, told, lives) ↦ inr (
        key,
        (told.0, told.1, subst (λ (r : List ℕ). Contains r key.rule) (sym more) (Contains-append_left (take count rules) (rule ∷ []) key.rule told.2)),
        lives,
      )
    ],
    λ either. (before number).1 (elim either [
      | inl had ↦ inl had
      | inr (key, told, lives) ↦ elim (Contains-push_cases (take count rules) rule key.rule (subst (λ (r : List ℕ). Contains r key.rule) more told.2)) [
        | inl earlier ↦ inr (key, (told.0, told.1, earlier), lives)
        | inr now ↦
            let is_key : key ≡ key_with phase taken rule = λ i. record { phase = told.0 i; taken = told.1 i; rule = sym now i } in
            inr (
              key_with phase taken one,
              (refl, refl, among),
              lives_same same above number
                  (subst (λ (k : Key). LivesByKey searched line choices (numbered_of searched place) table k number) is_key lives),
            )
      ]
    ]),
  )
