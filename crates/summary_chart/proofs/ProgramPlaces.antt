-- Wherever a search comes to, there is a place of the program's: its letters are some of the line, its state is the machine's,
-- and its entrance is told by the last step of the front, whose rule has a lead.
use Rattle.std.proofs.Common.{◌≡◌, ℕ, zero, suc, ◌<◌, ◌≤◌, ◌⊎◌, inl, inr, List, [], ◌∷◌, length, refl, sym, ap, ◌∙◌, subst, arith}
use Rattle.std.proofs.lemmas.Bool.{eq-eqb, ne_eqb}
use Rattle.std.proofs.lemmas.List.{get_or_default}
use Rattle.std.proofs.lemmas.List.Elements.{Contains-get_or}
use Rattle.text_definitions.specs.Lines.{Line}
use Rattle.lexicon_definitions.specs.Rules.{IsInner, no_change}
use Rattle.lexicon_definitions.specs.Leads.{Lead, leads_of, lead_of}
use Rattle.lexicon_definitions.specs.Lexicons.{RuleSet, rule_of}
use Rattle.lexicon_definitions.proofs.LeadLaws.{Contains-leads_of}
use Rattle.segmentation_definitions.specs.Derivations.{Step, rule_after, phases_of, HasInnerRule}
use Rattle.segmentation_definitions.specs.Items.{Choice}
use Rattle.segmentation_definitions.specs.Configurations.{Entrance, entrance_after, entrance_after_step, GoesOn, last_letter}
use Rattle.segmentation_definitions.specs.Configurations as defined
use Rattle.segmentation_definitions.specs.Listings.{Key}
use Rattle.answer_paths.proofs.AnswerFronts.{led_lawful}
use Rattle.answer_paths.proofs.FrontParts.{left_after}
use Rattle.phase_automaton.specs.Automata.{IsStateIn}
use Rattle.derivation.specs.Guides.{IsEntranceOver, entrance_of}
use Rattle.derivation.specs.declared.entrance.Entrance.{Entrance as ProgramEntrance}
use Rattle.derivation.specs.declared.entrance.Entrance.TheVariants as program
use Rattle.annotated_trie.specs.Searched.{SearchedLexicon, IsSearchedLexicon}
use Rattle.search_frames.specs.declared.configuration.Configuration.{Configuration}
use Rattle.search_frames.specs.Configurations.{NumberedConfiguration, rules_in, ways_in}
use Rattle.search_frames.specs.Frames.{IsConfigurationIn, numbered_of}
use Rattle.search_frames.specs.Tests.{LeadsTo}
use Rattle.search_frames.specs.Reached.{IsReached}
use Rattle.search_frames.proofs.ReachedConfigurations.{reached_after}

-- an entrance of the program that stands for this one
pub record HasEntrance (leads : List Lead) (entrance : Entrance) : Type 0 where
  pub told : ProgramEntrance
  pub over : IsEntranceOver leads told
  pub is : entrance_of leads told ≡ entrance

-- the lead of an inner rule stands at a place of the leads
at_lead : (rules : RuleSet) (number : ℕ) → 0 < number → number ≤ length rules.rules → IsInner (rule_of rules number)
    → HasEntrance (leads_of rules.rules) (defined.Lead (rule_of rules number).v (rule_of rules number).after)
at_lead rules zero some within inner = absurd (omega arith)
at_lead rules (suc number) some within inner =
    let rule = rule_of rules (suc number) in
    let leads = leads_of rules.rules in
    let below : number < length rules.rules = omega arith in
    let (place, there, is) = (Contains-leads_of rules.rules (lead_of rule)).1 (rule, Contains-get_or rules.rules number no_change below, inner, refl, refl) in
    let same = get_or_default leads place (record { v = []; after = 0 }) (lead_of rule) there ∙ is in
    record { told = program.Lead place; over = there; is = ap (λ (lead : Lead). defined.Lead lead.v lead.after) same }

-- after a step there is no change, or a rule that has a lead
after_one : (rules : RuleSet) (step : Step) → (step.rule ≡ 0) ⊎ HasInnerRule rules step
    → HasEntrance (leads_of rules.rules) (entrance_after_step rules step)
after_one rules step (inl none) =
    let is : entrance_after_step rules step ≡ defined.Plain (last_letter step.form) = rw (eq-eqb step.rule 0 none) in
    record { told = program.Plain (last_letter step.form); over = tt; is = sym is }
after_one rules step (inr (number, inner, follows)) =
    let some : step.rule ≡ 0 → ⊥ = λ (e : step.rule ≡ 0). omega arith in
    let is : entrance_after_step rules step ≡ defined.Lead (rule_after rules step).v (rule_after rules step).after = rw (ne_eqb step.rule 0 some) in
    let lead = at_lead rules step.rule number.0 number.1 inner in
    record { told = lead.told; over = lead.over; is = lead.is ∙ sym is }

after_some : (rules : RuleSet) (step : Step) (steps : List Step) (entrance : Entrance) → GoesOn rules (step ∷ steps)
    → HasEntrance (leads_of rules.rules) (entrance_after rules entrance (step ∷ steps))
after_some rules step [] entrance goes = after_one rules step goes
after_some rules step (next ∷ steps) entrance goes = after_some rules next steps (entrance_after_step rules step) goes

after_front : (rules : RuleSet) (front : List Step) → GoesOn rules front
    → HasEntrance (leads_of rules.rules) (entrance_after rules defined.Start front)
after_front rules [] goes = record { told = program.Start; over = tt; is = refl }
after_front rules (step ∷ steps) goes = after_some rules step steps defined.Start goes

-- a place of the program at which a search stands so
pub record HasPlace (searched : SearchedLexicon) (line : Line) (here : NumberedConfiguration) : Type 0 where
  pub place : Configuration
  pub within : IsConfigurationIn searched line place
  pub is : numbered_of searched place ≡ here

pub place_of_reached : (searched : SearchedLexicon) (line : Line) (choices : List Choice) (here : NumberedConfiguration) → IsSearchedLexicon searched
    → IsReached searched line choices here → HasPlace searched line here
place_of_reached searched line choices here is reached =
    let rules = rules_in searched in
    let front = (led_lawful searched.lexicon line choices reached.front reached.led).0 in
    let entered = after_front rules reached.front front.goes_on in
    let left = left_after rules reached.front line.letters front.rest front.covers in
    let entrance_is : entrance_of (leads_of rules.rules) entered.told ≡ here.entrance = entered.is ∙ sym reached.entrance in
    record {
      place = record { at = here.at; entrance = entered.told; state = here.state };
      within = record {
        letters = omega (arith, left.all, reached.at);
        over = entered.over;
        state_in = subst (IsStateIn searched.machine) (sym reached.state) (is.recognizes.within (phases_of reached.front));
      };
      is = λ i. record { at = here.at; entrance = entrance_is i; state = here.state };
    }

-- where a key leads on to is such a place, which a search comes to
pub record HasLed (searched : SearchedLexicon) (line : Line) (choices : List Choice) (here next : NumberedConfiguration) (key : Key) : Type 0 where
  pub place : Configuration
  pub is : numbered_of searched place ≡ next
  pub leads : LeadsTo searched line choices here key place
  pub reached : IsReached searched line choices (numbered_of searched place)

pub led_place : (searched : SearchedLexicon) (line : Line) (choices : List Choice) (here next : NumberedConfiguration) (key : Key) → IsSearchedLexicon searched
    → IsReached searched line choices here → (ways_in searched line choices).leads here key next → HasLed searched line choices here next key
led_place searched line choices here next key is reached (leads, next_is) =
    let there = subst (IsReached searched line choices) (sym next_is) (reached_after searched line choices here key is reached leads) in
    let found = place_of_reached searched line choices next is there in
    record {
      place = found.place;
      is = found.is;
      leads = record { leads_on = leads; is = found.is ∙ next_is; within = found.within };
      reached = subst (IsReached searched line choices) (sym found.is) there;
    }
