-- A living place is in a table that has the opening and is closed: by induction on the front of an answer that ends there, each
-- step of which leads on from a place of the program's to wherever the longer front ends.
use Rattle.std.proofs.Common.{◌≡◌, ◌≢◌, inr, List, [], ◌∷◌, ◌++◌, refl, sym, subst, ◌∙◌, append_assoc, append-nil}
use Rattle.text_definitions.specs.Lines.{Line, IsLine}
use Rattle.segmentation_definitions.specs.Derivations.{Step, phases_of}
use Rattle.segmentation_definitions.specs.Items.{Choice, covered_from}
use Rattle.segmentation_definitions.specs.Answers.{IsAnswer}
use Rattle.segmentation_definitions.specs.Configurations.{Start, entrance_after}
use Rattle.segmentation_definitions.proofs.Fronts.{lead_after}
use Rattle.segmentation_definitions.proofs.KeyLists.{key_at}
use Rattle.answer_paths.specs.Fronts.{MayGoOn, IsLedTo, ways_of}
use Rattle.answer_paths.proofs.AnswerPaths.{adds_step, answer_after}
use Rattle.answer_paths.proofs.AnswerFronts.{front_of_answer}
use Rattle.phase_automaton.specs.Automata.{state_after}
use Rattle.annotated_trie.specs.Searched.{SearchedLexicon, IsSearchedLexicon}
use Rattle.search_frames.specs.declared.configuration.Configuration.{Configuration}
use Rattle.search_frames.specs.Configurations.{NumberedConfiguration, rules_in, after}
use Rattle.search_frames.specs.Frames.{IsConfigurationIn, numbered_of}
use Rattle.search_frames.specs.Tests.{LeadsTo}
use Rattle.search_frames.specs.Reached.{IsReached}
use Rattle.search_frames.proofs.ReachedConfigurations.{leads_on_if_leads, reached_at}
use Rattle.search_frames.proofs.ConfigurationPaths.{path_above_is_path}
use Rattle.summary_chart.specs.declared.table.Table.{Table}
use Rattle.summary_chart.specs.Tables.{IsIn}
use Rattle.summary_chart.specs.Charts.{IsReachedBefore, HasReached, IsAlive, set_count}
use Rattle.summary_chart.proofs.ProgramPlaces.{place_of_reached}
use Rattle.summary_chart.proofs.TableStates.{index_within}
use Rattle.list_laws.proofs.Elements.{some_by_first}

-- where a search stands after a front
abbrev pub standing_after : SearchedLexicon → List Step → NumberedConfiguration
standing_after searched front = record {
  at = covered_from (rules_in searched) 0 [] front;
  entrance = entrance_after (rules_in searched) Start front;
  state = state_after searched.machine (phases_of front);
}

some_after : (rest more : List Step) → more ≢ [] → rest ++ more ≢ []
some_after [] more some e = some e
some_after (step ∷ rest) more some e = cc

-- what stands before other steps of an answer may go on
pub goes_on : (searched : SearchedLexicon) (line : Line) (choices : List Choice) (front rest : List Step) → IsSearchedLexicon searched → rest ≢ []
    → IsAnswer searched.lexicon line choices (front ++ rest) → MayGoOn searched.lexicon line choices front
goes_on searched line choices front [] is some answer = absurd (some refl)
goes_on searched line choices front (next ∷ rest) is some answer = front_of_answer searched.lexicon line choices front next rest is.lexicon answer

-- a step that leads to a front leads to where this ends
module _ (searched : SearchedLexicon) (line : Line) (choices : List Choice) (is : IsSearchedLexicon searched) (front : List Step) (step : Step)
    (led : IsLedTo searched.lexicon line choices front) (goes : MayGoOn searched.lexicon line choices (front ++ step ∷ [])) where
  reached_front : IsReached searched line choices (standing_after searched front)
  reached_front = record { front = front; led = led; at = refl; entrance = refl; state = refl }

  leads_there : (place other : Configuration) → numbered_of searched place ≡ standing_after searched front → IsConfigurationIn searched line other
      → numbered_of searched other ≡ standing_after searched (front ++ step ∷ [])
      → LeadsTo searched line choices (numbered_of searched place) (key_at (rules_in searched) (lead_after (rules_in searched) [] front) step) other
  unfolding reached_at reached_front
  leads_there place other here within there =
      let key = key_at (rules_in searched) (lead_after (rules_in searched) [] front) step in
      let longer = front ++ step ∷ [] in
      let from = standing_after searched front in
      let leads : (ways_of searched.lexicon line choices).leads front key longer = (adds_step (rules_in searched) front step, goes) in
      let on = leads_on_if_leads searched line choices from key is reached_front longer leads in
      let reached = reached_at searched line choices from key is reached_front longer leads in
      let ends : after searched line from key ≡ standing_after searched longer =
      λ i. record { at = reached.at i; entrance = reached.entrance i; state = reached.state i } in
      subst (λ (h : NumberedConfiguration). LeadsTo searched line choices h key other) (sym here)
      (record { leads_on = on; is = there ∙ sym ends; within = within })

module _ (searched : SearchedLexicon) (line : Line) (choices : List Choice) (table : Table) (is : IsSearchedLexicon searched)
    (closed : IsReachedBefore searched line choices (set_count searched line) table) where
  -- the table has every place where the front ends
  abbrev HasEnd : List Step → Type 0
  HasEnd front = (place : Configuration) → IsConfigurationIn searched line place → numbered_of searched place ≡ standing_after searched front → IsIn table place

  one_more : (front : List Step) (step : Step) → IsLedTo searched.lexicon line choices front → MayGoOn searched.lexicon line choices (front ++ step ∷ [])
      → HasEnd front → HasEnd (front ++ step ∷ [])
  one_more front step led goes has other within there =
      let here = place_of_reached searched line choices (standing_after searched front) is (reached_front searched line choices is front step led goes) in
      let inside = has here.place here.within here.is in
      closed.closed here.place other _ here.within (index_within searched line here.place inside.entrance here.within) inside
      (leads_there searched line choices is front step led goes here.place other here.is within there)

  along : (rest front more : List Step) → more ≢ [] → IsAnswer searched.lexicon line choices (front ++ (rest ++ more)) → HasEnd front → HasEnd (front ++ rest)
  along [] front more some answer has = subst HasEnd (sym (append-nil front)) has
  along (step ∷ rest) front more some answer has =
      let longer = front ++ step ∷ [] in
      let same : longer ++ (rest ++ more) ≡ front ++ (step ∷ rest ++ more) = append_assoc front (step ∷ []) (rest ++ more) in
      let answer' = subst (IsAnswer searched.lexicon line choices) (sym same) answer in
      let led : IsLedTo searched.lexicon line choices front =
      inr (goes_on searched line choices front (step ∷ rest ++ more) is (some_by_first step (rest ++ more)) answer) in
      let goes = goes_on searched line choices longer (rest ++ more) is (some_after rest more some) answer' in
      subst HasEnd (append_assoc front (step ∷ []) rest) (along rest longer more some answer' (one_more front step led goes has))

  pub living_in : IsLine line → (place : Configuration) → IsConfigurationIn searched line place → IsAlive searched line choices place → IsIn table place
  living_in line_is place within alive =
      let reached = alive.reached in
      let (keys, path) = alive.path in
      let added = answer_after searched.lexicon line choices keys reached.front
      ((path_above_is_path searched line choices (numbered_of searched place) is line_is reached keys).0 path) in
      along reached.front [] added.rest added.some added.answer closed.begun place within
      (λ i. record { at = reached.at i; entrance = reached.entrance i; state = reached.state i })

  pub has_reached : IsLine line → HasReached searched line choices table
  has_reached line_is = record { lawful = closed.lawful; reached = closed.reached; living = living_in line_is }
