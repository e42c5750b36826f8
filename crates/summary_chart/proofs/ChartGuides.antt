-- A place of the program's stands in an answer where it is living: a number stands for one state, so the standing of the place is
-- that of the answer's front. So a chart's table is a guide, and an exact one.
use Rattle.std.proofs.Common.{◌≡◌, ◌≢◌, ℕ, inr, IsSome, Option, Some, None, List, [], ◌∷◌, ◌++◌, length, refl, sym, subst, ◌∙◌, arith}
use Rattle.text_definitions.specs.Lines.{Line, IsLine}
use Rattle.lexicon_definitions.specs.Grammars.{Grammar, After, IsStateAfter}
use Rattle.lexicon_definitions.specs.Lexicons.{tree_of}
use Rattle.segmentation_definitions.specs.Derivations.{Step, phases_of}
use Rattle.segmentation_definitions.specs.Items.{Choice}
use Rattle.segmentation_definitions.specs.Answers.{IsAnswer}
use Rattle.segmentation_definitions.specs.Configurations.{StandsInAnswer}
use Rattle.listing_laws.specs.Ways.{HasPath}
use Rattle.answer_paths.specs.Fronts.{ways_of}
use Rattle.answer_paths.proofs.AnswerPaths.{keys_after, path_of_rest}
use Rattle.answer_paths.proofs.GuidedFronts.{stands_if_path}
use Rattle.phase_automaton.specs.Automata.{StateMachine, IsStateMachine, IsStateIn, Recognizes, state_at, state_after}
use Rattle.phase_automaton.proofs.NumberedStates.{same_numbers, live_state}
use Rattle.derivation.specs.Guides.{configuration_of}
use Rattle.annotated_trie.specs.Searched.{SearchedLexicon, IsSearchedLexicon}
use Rattle.search_frames.specs.declared.configuration.Configuration.{Configuration}
use Rattle.search_frames.specs.Configurations.{rules_in}
use Rattle.search_frames.specs.Frames.{IsConfigurationIn, numbered_of}
use Rattle.search_frames.specs.Guided.{IsGuideOf, IsExactOf}
use Rattle.search_frames.specs.Reached.{IsReached}
use Rattle.search_frames.proofs.ConfigurationPaths.{path_above_is_path}
use Rattle.summary_chart.specs.declared.table.Table.{Table}
use Rattle.summary_chart.specs.Spreading.{leads_in}
use Rattle.summary_chart.specs.Charts.{IsAlive, IsChartTable, CoversPlace, says_of}
use Rattle.summary_chart.specs.Tables.{IsStateNumber}
use Rattle.summary_chart.proofs.ChartAnswers.{says_if_in, in_if_says}
use Rattle.summary_chart.proofs.LivingReached.{goes_on}
use Rattle.summary_chart.proofs.TablePlaces.{has_set}

-- ---- numbers and states

number_within : (machine : StateMachine) (state : Option ℕ) → IsStateMachine machine → IsStateIn machine state → IsStateNumber state
number_within machine None is within = tt
number_within machine (Some number) is within = omega (arith, within, is.few)

none_if_dead : (state : Option ℕ) → (IsSome state → ⊥) → None ≡ state
none_if_dead None dead = refl
none_if_dead (Some number) dead = absurd (dead refl)

-- the number of the state after a front
after_front : (machine : StateMachine) (grammar : Grammar) (recognizes : Recognizes machine grammar) (phases : List ℕ) (state : Option ℕ) → IsStateIn machine state
    → IsStateAfter grammar phases (state_at recognizes.states state) → state ≡ state_after machine phases
after_front machine grammar recognizes phases None within after =
    none_if_dead (state_after machine phases) (λ some. (live_state machine grammar recognizes phases (After []) after).0 some refl)
after_front machine grammar recognizes phases (Some number) within after =
    let list = recognizes.reached number within in
    let there = subst (λ state. IsStateAfter grammar list.0 (state_at recognizes.states state)) list.1 (recognizes.after list.0) in
    let state = state_at recognizes.states (Some number) in
    sym list.1 ∙ (same_numbers machine grammar recognizes list.0 phases state state there after).1 refl

-- ---- living places and answers

has_path : (searched : SearchedLexicon) (line : Line) (choices : List Choice) (front rest : List Step) → IsSearchedLexicon searched → rest ≢ []
    → IsAnswer searched.lexicon line choices (front ++ rest) → HasPath (ways_of searched.lexicon line choices) front
has_path searched line choices front [] is some answer = absurd (some refl)
has_path searched line choices front (next ∷ rest) is some answer =
    (keys_after searched.lexicon.rules front (next ∷ rest), path_of_rest searched.lexicon line choices is.lexicon rest front next answer)

module _ (searched : SearchedLexicon) (line : Line) (choices : List Choice) (is : IsSearchedLexicon searched) (line_is : IsLine line)
    (recognizes : Recognizes searched.machine (tree_of (rules_in searched))) (place : Configuration) (within : IsConfigurationIn searched line place) where
  alive_if_stands : StandsInAnswer searched.lexicon line choices (configuration_of searched.lexicon recognizes.states place.at place.entrance place.state)
      → IsAlive searched line choices place
  alive_if_stands stands =
      let reached : IsReached searched line choices (numbered_of searched place) = record {
        front = stands.front;
        led = inr (goes_on searched line choices stands.front stands.rest is stands.proper stands.answer);
        at = stands.ends.covered;
        entrance = stands.ends.entrance;
        state = after_front searched.machine (tree_of (rules_in searched)) recognizes (phases_of stands.front) place.state within.state_in stands.ends.state;
      } in
      let path = has_path searched line choices stands.front stands.rest is stands.proper stands.answer in
      record {
        reached = reached;
        path = (path.0, (path_above_is_path searched line choices (numbered_of searched place) is line_is reached path.0).1 path.1);
      }

  stands_if_alive : IsAlive searched line choices place
      → StandsInAnswer searched.lexicon line choices (configuration_of searched.lexicon recognizes.states place.at place.entrance place.state)
  stands_if_alive alive =
      let reached = alive.reached in
      let (keys, path) = alive.path in
      stands_if_path searched.lexicon line choices reached.front
      (configuration_of searched.lexicon recognizes.states place.at place.entrance place.state)
      (record {
        covered = reached.at;
        entrance = reached.entrance;
        state = subst (λ state. IsStateAfter (tree_of (rules_in searched)) (phases_of reached.front) (state_at recognizes.states state))
            (sym reached.state) (recognizes.after (phases_of reached.front));
      })
      (keys, (path_above_is_path searched line choices (numbered_of searched place) is line_is reached keys).0 path)

module _ (searched : SearchedLexicon) (line : Line) (choices : List Choice) (table : Table) (is : IsSearchedLexicon searched) (line_is : IsLine line)
    (chart : IsChartTable searched line choices table) where
  pub chart_is_guide : IsStateMachine searched.machine → IsGuideOf searched line choices (CoversPlace table) (says_of table)
  chart_is_guide machine recognizes = record {
    covers_all = λ at entrance state within. (
      has_set (leads_in searched) (length line.letters) table at entrance chart.lawful within.letters within.over,
      number_within searched.machine state machine within.state_in,
    );
    never_false = λ at entrance state within stands.
        let place : Configuration = record { at = at; entrance = entrance; state = state } in
        says_if_in table place ((chart.exact place within).1 (alive_if_stands searched line choices is line_is recognizes place within stands));
  }

  pub chart_is_exact : IsExactOf searched line choices (says_of table)
  chart_is_exact recognizes = record {
    never_true = λ at entrance state within told.
        let place : Configuration = record { at = at; entrance = entrance; state = state } in
        stands_if_alive searched line choices is line_is recognizes place within ((chart.exact place within).0 (in_if_says table place told));
  }
