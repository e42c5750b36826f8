-- A path from a front is what completes it, and what completes one front completes another that ends at the same
-- configuration.
use Rattle.std.proofs.Common.{◌≡◌, ◌≢◌, List, [], ◌∷◌, ◌++◌, refl, inl, inr, subst, sym, ap, ◌∙◌}
use Rattle.text_definitions.specs.Lines.{Line, IsLine}
use Rattle.lexicon_definitions.specs.Grammars.{State, Opening, After, IsStateAfter, IsLiveState}
use Rattle.lexicon_definitions.specs.Lexicons.{Lexicon, tree_of, IsLexicon}
use Rattle.segmentation_definitions.specs.Derivations.{Step, phases_of}
use Rattle.segmentation_definitions.specs.Items.{Choice}
use Rattle.segmentation_definitions.specs.Answers.{IsAnswer}
use Rattle.segmentation_definitions.specs.Configurations.{Configuration, EndsAt, IsReached, StandsInAnswer}
use Rattle.segmentation_definitions.proofs.SameRests.{same_rests}
use Rattle.listing_laws.specs.Ways.{HasPath}
use Rattle.listing_laws.specs.Stacks.{Frame, LeadTo}
use Rattle.segmentation_definitions.specs.Listings.{Key}
use Rattle.answer_paths.specs.Fronts.{IsLedTo, ways_of}
use Rattle.answer_paths.proofs.AnswerFronts.{front_of_answer, led_lawful}
use Rattle.answer_paths.proofs.LiveStates.{live_if_front}
use Rattle.answer_paths.proofs.AnswerPaths.{keys_after, path_of_rest, answer_after}

-- where keys lead from a front that a search comes to, it comes to the one that they lead to
pub led_on : (lexicon : Lexicon) (line : Line) (choices : List Choice) (start : List Step) (frames : List (Frame (List Step) Key)) (top : List Step)
    → IsLedTo lexicon line choices start → LeadTo (ways_of lexicon line choices) start frames top → IsLedTo lexicon line choices top
led_on lexicon line choices start [] top led same = subst (IsLedTo lexicon line choices) same led
led_on lexicon line choices start (frame ∷ frames) top led (same, next, leads, later) =
    led_on lexicon line choices next frames top (inr leads.1) later

pub led_to_top : (lexicon : Lexicon) (line : Line) (choices : List Choice) (frames : List (Frame (List Step) Key)) (top : List Step)
    → LeadTo (ways_of lexicon line choices) [] frames top → IsLedTo lexicon line choices top
led_to_top lexicon line choices frames top leads = led_on lexicon line choices [] frames top (inl refl) leads

-- where a front has a path, an answer stands at its configuration
pub stands_if_path : (lexicon : Lexicon) (line : Line) (choices : List Choice) (front : List Step) (configuration : Configuration)
    → EndsAt lexicon.rules front configuration → HasPath (ways_of lexicon line choices) front
    → StandsInAnswer lexicon line choices configuration
stands_if_path lexicon line choices front configuration ends has =
    let added = answer_after lexicon line choices has.0 front has.1 in
    record { front = front; rest = added.rest; proper = added.some; answer = added.answer; ends = ends }

-- what completes a front is a path from it
pub path_if_completed : (lexicon : Lexicon) (line : Line) (choices : List Choice) (front rest : List Step) → IsLexicon lexicon → rest ≢ []
    → IsAnswer lexicon line choices (front ++ rest) → HasPath (ways_of lexicon line choices) front
path_if_completed lexicon line choices front [] is some answer = absurd (some refl)
path_if_completed lexicon line choices front (next ∷ rest) is some answer =
    (keys_after lexicon.rules front (next ∷ rest), path_of_rest lexicon line choices is rest front next answer)

completed_is_led : (lexicon : Lexicon) (line : Line) (choices : List Choice) (front rest : List Step) → IsLexicon lexicon → rest ≢ []
    → IsAnswer lexicon line choices (front ++ rest) → IsLedTo lexicon line choices front
completed_is_led lexicon line choices front [] is some answer = absurd (some refl)
completed_is_led lexicon line choices front (next ∷ rest) is some answer = inr (front_of_answer lexicon line choices front next rest is answer)

-- where an answer stands at the configuration of a front that a search comes to, the front has a path
pub path_if_stands : (lexicon : Lexicon) (line : Line) (choices : List Choice) (front : List Step) (configuration : Configuration)
    → IsLexicon lexicon → IsLine line → IsLedTo lexicon line choices front → EndsAt lexicon.rules front configuration
    → StandsInAnswer lexicon line choices configuration → HasPath (ways_of lexicon line choices) front
path_if_stands lexicon line choices front configuration is line_is led ends stands =
    let other = led_lawful lexicon line choices stands.front
    (completed_is_led lexicon line choices stands.front stands.rest is stands.proper stands.answer) in
    let here = led_lawful lexicon line choices front led in
    path_if_completed lexicon line choices front stands.rest is stands.proper
    (same_rests lexicon line choices configuration stands.front front stands.rest is line_is other.0 stands.ends other.1
    here.0 ends here.1 stands.proper stands.answer)

-- the configuration of a front that a search comes to is reached
pub reached_if_led : (lexicon : Lexicon) (line : Line) (choices : List Choice) (front : List Step) (configuration : Configuration)
    → IsLedTo lexicon line choices front → EndsAt lexicon.rules front configuration → IsReached lexicon line.letters configuration
reached_if_led lexicon line choices front configuration led ends = record {
  steps = front;
  front = (led_lawful lexicon line choices front led).0;
  ends = ends;
  live = elim led [
    | inl none ↦
        let empty : phases_of front ≡ [] = ap phases_of none in
        live_at_start configuration.state (subst (λ phases. IsStateAfter (tree_of lexicon.rules) phases configuration.state) empty ends.state)
    | inr goes ↦ live_if_front (tree_of lexicon.rules) (phases_of front) goes.accepted.0 configuration.state ends.state goes.accepted.1
  ];
}
  where
    live_at_start : (state : State) → state ≡ Opening → IsLiveState state
    live_at_start state opening e = let same : Opening ≡ After [] = sym opening ∙ e in cc
