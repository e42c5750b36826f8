-- Forms of a phase do from a place what forms of another phase do that has the same front there and that no rule tells from it, where no
-- choice is made.
use Rattle.std.proofs.Common.{◌≡◌, ◌⊎◌, inl, inr, ℕ, zero, suc, ◌+◌, ◌-◌, ◌<◌, ◌≤◌, Some, List, [], length, refl, sym, subst, ◌∙◌, arith}
use Rattle.std.proofs.lemmas.Bool.{cases_lt}
use Rattle.std.proofs.lemmas.List.Elements.{All-get_or}
use Rattle.std.specs.Prelude.{slice_index}
use Rattle.text_definitions.specs.Lines.{Line}
use Rattle.lexicon_definitions.specs.Lexicons.{IsPlain, RuleSet, rule_of}
use Rattle.lexicon_definitions.specs.Rules.{HasPhase, Rule, no_change}
use Rattle.lexicon_definitions.specs.Tries.{walk}
use Rattle.segmentation_definitions.specs.Configurations.{Entrance, Lead, Plain, Start}
use Rattle.segmentation_definitions.specs.Derivations.{Step}
use Rattle.segmentation_definitions.specs.Items.{Choice}
use Rattle.segmentation_definitions.specs.Listings.{Key}
use Rattle.segmentation_definitions.specs.LocalTests.{Allows}
use Rattle.derivation.specs.declared.entrance.Entrance.{Entrance as ProgramEntrance}
use Rattle.answer_paths.specs.Following.{MayEnter, MayStand, is_start, placed_at}
use Rattle.annotated_trie.specs.AlikePhases.{IsAlike}
use Rattle.annotated_trie.specs.Searched.{IsSearchedLexicon, SearchedLexicon}
use Rattle.search_frames.specs.Ahead.{MayBegin}
use Rattle.search_frames.specs.Configurations.{IsPossible, NumberedConfiguration, rules_in}
use Rattle.search_frames.specs.LetterTests.{MayEndLine, MayLeadTo}
use Rattle.search_frames.proofs.PossibleKeys.{possible_walks, root_in}
use Rattle.summary_chart.specs.AlikeFronts.{DoAlike, DoesAs}
use Rattle.summary_chart.specs.Fronts.{IsFrontAt, front_after}
use Rattle.summary_chart.specs.Summaries.{key_with}
use Rattle.summary_chart.specs.declared.site.Front.{Front}
use Rattle.summary_chart.proofs.FrontKeys.{choice_if_possible, choice_possible, ends_if_unchanged, unchanged_possible}
use Rattle.summary_chart.proofs.LongerFronts.{back_to_front, on_from_front}

-- ---- phases that no rule tells apart

pub alike_back : (rules : RuleSet) (one other : ℕ) → IsAlike rules one other → IsAlike rules other one
alike_back rules one other alike place none low = (let same = alike place none low in (same.1, same.0))

alike_through : (rules : RuleSet) (one other third : ℕ) → IsAlike rules one other → IsAlike rules other third → IsAlike rules one third
alike_through rules one other third first second place none low =
    let before = first place none low in
    let after = second place none low in
    (λ has. after.0 (before.0 has), λ has. before.1 (after.1 has))

-- a rule that may follow the one may follow the other
pub follows_alike : (rules : RuleSet) (one other : ℕ) → IsAlike rules one other → (number : ℕ) → 0 < number → number ≤ length rules.rules
    → HasPhase (rule_of rules number).before one → HasPhase (rule_of rules number).before other
follows_alike rules one other alike zero some few has = absurd (omega (arith, some))
follows_alike rules one other alike (suc n) some few has =
    let same = All-get_or (λ (rule : Rule). (HasPhase rule.before one → HasPhase rule.before other) × (HasPhase rule.before other → HasPhase rule.before one)) rules.rules n no_change
    (omega (arith, few)) alike in
    same.0 has

-- what may be entered by a form of a phase may be entered by the same form of another that may begin there
enters_alike : (rules : RuleSet) (entrance : Entrance) (one other : Step) → one.form ≡ other.form → MayBegin entrance other.phase → MayEnter rules entrance one
    → MayEnter rules entrance other
enters_alike rules Start one other same begins enters = tt
enters_alike rules (Plain letter) one other same begins enters = subst (λ (form : List ℕ). IsPlain rules letter (slice_index form 0)) same enters
enters_alike rules (Lead v after) one other same begins enters = begins

module _ (searched : SearchedLexicon) (line : Line) (choices : List Choice) (here : NumberedConfiguration) where
  -- forms of a phase that do what those of a front's phase do, do what those of an alike front's phase do
  pub does_alike : (one other : Front) (phase : ℕ) → DoAlike searched choices one other → DoesAs searched line choices here other phase
      → DoesAs searched line choices here one phase
  does_alike one other phase alike does = record {
    begins = does.begins;
    leads = subst (λ (taken : ℕ). IsFrontAt searched line here phase taken one.node) (sym alike.taken)
        (subst (IsFrontAt searched line here phase other.taken) (sym alike.node) does.leads);
    alike = inr (
      alike.free,
      elim does.alike [
        | inl same ↦ subst (IsAlike (rules_in searched) one.phase) (sym same) alike.alike
        | inr (free, as_other) ↦ alike_through (rules_in searched) one.phase other.phase phase alike.alike as_other
      ],
    );
  }

  module _ (is : IsSearchedLexicon searched) (front : Front) (one other : ℕ) (as_one : DoesAs searched line choices here front one)
      (as_other : DoesAs searched line choices here front other) where
    same_or_alike : (one ≡ other) ⊎ ((choices ≡ []) × IsAlike (rules_in searched) one other)
    same_or_alike = elim as_one.alike [
      | inl same ↦ elim as_other.alike [
        | inl same_other ↦ inl (same ∙ sym same_other)
        | inr (free, alike) ↦ inr (free, subst (λ (phase : ℕ). IsAlike (rules_in searched) phase other) (sym same) alike)
      ]
      | inr (free, alike) ↦
          let back = alike_back (rules_in searched) front.phase one alike in
          elim as_other.alike [
            | inl same_other ↦ inr (free, subst (IsAlike (rules_in searched) one) (sym same_other) back)
            | inr (none, alike_other) ↦ inr (free, alike_through (rules_in searched) one front.phase other back alike_other)
          ]
    ]

    -- where a longer front of the one phase leads, there leads that of the other
    pub front_alike : (taken node : ℕ) → front.taken ≤ taken → IsFrontAt searched line here one taken node → IsFrontAt searched line here other taken node
    front_alike taken node longer is_front =
        let further = taken - front.taken in
        let count : front.taken + further ≡ taken = omega (arith, longer) in
        let Leads = λ (phase taken : ℕ). walk searched.tries.trie.rows (root_in searched phase) (front_after line here taken) ≡ Some node in
        record {
          named = as_other.leads.named;
          within = is_front.within;
          walked = subst (Leads other) count
              (on_from_front searched line here other front.taken front.node as_other.leads further node
              (back_to_front searched line here one front.taken front.node as_one.leads further node (subst (Leads one) (sym count) is_front.walked)));
        }

    -- a key that is possible
    pub possible_alike : (key : Key) → key.phase ≡ one → front.taken ≤ key.taken → IsPossible searched line here key → IsPossible searched line here (key_with other key.taken key.rule)
    possible_alike key same longer possible =
        let (node, walked) = possible_walks searched is line here key possible in
        let as_key : key ≡ key_with one key.taken key.rule = λ i. record { phase = same i; taken = key.taken; rule = key.rule } in
        let own = subst (IsPossible searched line here) as_key possible in
        let is_front : IsFrontAt searched line here one key.taken node = record {
          named = as_one.leads.named;
          within = possible.within;
          walked = subst (λ (phase : ℕ). walk searched.tries.trie.rows (root_in searched phase) (front_after line here key.taken) ≡ Some node) same walked;
        } in
        let is_other = front_alike key.taken node longer is_front in
        elim (cases_lt 0 key.rule) [
          | inl some ↦
              choice_possible searched is line here other key.taken node is_other key.rule
              (choice_if_possible searched is line here one key.taken node is_front key.rule some own)
          | inr least ↦
              let none : key.rule ≡ 0 = omega (arith, least) in
              subst (λ (rule : ℕ). IsPossible searched line here (key_with other key.taken rule)) (sym none)
              (unchanged_possible searched is line here other key.taken node is_other
              (ends_if_unchanged searched is line here one key.taken node is_front
              (subst (λ (rule : ℕ). IsPossible searched line here (key_with one key.taken rule)) none own)))
        ]

    -- a step that may stand there
    pub stands_alike : (key : Key) → key.phase ≡ one → front.taken ≤ key.taken → MayStand searched.lexicon line choices here.at here.entrance key
        → MayStand searched.lexicon line choices here.at here.entrance (key_with other key.taken key.rule)
    stands_alike key same longer stands = elim same_or_alike [
      | inl one_is ↦
          subst (MayStand searched.lexicon line choices here.at here.entrance) (λ i. record { phase = (same ∙ one_is) i; taken = key.taken; rule = key.rule }) stands
      | inr (free, alike) ↦
          let possible = possible_alike key same longer (record { number = stands.number; within = stands.within; form = stands.form }) in
          record {
            number = stands.number;
            within = stands.within;
            form = possible.form;
            follows = λ some. follows_alike (rules_in searched) one other alike key.rule some stands.number
                (subst (HasPhase (rule_of (rules_in searched) key.rule).before) same (stands.follows some));
            written = stands.written;
            enters = enters_alike (rules_in searched) here.entrance _ _ refl as_other.begins stands.enters;
            blanks = stands.blanks;
            allowed = subst (λ (some : List Choice). Allows (rules_in searched) (length line.letters) some (is_start here.entrance)
                (placed_at (rules_in searched) line here.at here.entrance (key_with other key.taken key.rule)))
                (sym free) (λ place none low. absurd (omega (arith, low)));
          }
    ]

    -- where a key may lead on to, the same of the other phase may lead on to
    pub may_lead_alike : (key : Key) → key.phase ≡ one → front.taken ≤ key.taken → (at : ℕ) (entrance : ProgramEntrance) → MayLeadTo searched line choices here key at entrance
        → MayLeadTo searched line choices here (key_with other key.taken key.rule) at entrance
    may_lead_alike key same longer at entrance may = record {
      may = record { stands = stands_alike key same longer may.may.stands; inner = may.may.inner; left = may.may.left };
      at_is = may.at_is;
      entrance_is = may.entrance_is;
      within = may.within;
      over = may.over;
    }

    -- and where a key may end the line
    pub may_end_alike : (key : Key) → key.phase ≡ one → front.taken ≤ key.taken → MayEndLine searched line choices here key → MayEndLine searched line choices here (key_with other key.taken key.rule)
    may_end_alike key same longer may = record {
      stands = stands_alike key same longer may.stands;
      final_rule = may.final_rule;
      all = may.all;
      blanks_before = may.blanks_before;
    }
