-- The paths of a search are those of the front where it stands, key by key; and where there is one, an answer stands at the
-- configuration, so a guide says true.
use Rattle.std.proofs.Common.{◌≡◌, ◌↔◌, ℕ, Bool, true, Option, List, [], ◌∷◌, ◌++◌, refl, sym, subst}
use Rattle.text_definitions.specs.Lines.{Line, IsLine}
use Rattle.lexicon_definitions.specs.Lexicons.{tree_of}
use Rattle.lexicon_definitions.specs.Grammars.{IsStateAfter}
use Rattle.segmentation_definitions.specs.Derivations.{phases_of}
use Rattle.segmentation_definitions.specs.Items.{Choice}
use Rattle.segmentation_definitions.specs.Listings.{Key}
use Rattle.segmentation_definitions.specs.Configurations.{EndsAt}
use Rattle.listing_laws.specs.Ways.{IsPath}
use Rattle.answer_paths.specs.Fronts.{ways_of}
use Rattle.answer_paths.specs.Following.{step_at}
use Rattle.answer_paths.proofs.GuidedFronts.{stands_if_path, path_if_stands}
use Rattle.phase_automaton.specs.Automata.{state_at}
use Rattle.derivation.specs.Guides.{configuration_of}
use Rattle.derivation.specs.declared.entrance.Entrance.{Entrance as ProgramEntrance}
use Rattle.annotated_trie.specs.Searched.{SearchedLexicon, IsSearchedLexicon}
use Rattle.search_frames.specs.declared.configuration.Configuration.{Configuration}
use Rattle.search_frames.specs.Configurations.{NumberedConfiguration, after, opening, ways_in}
use Rattle.search_frames.specs.Frames.{numbered_of, IsConfigurationIn}
use Rattle.search_frames.specs.Guided.{IsGuideOf, IsExactOf}
use Rattle.search_frames.specs.Reached.{IsReached}
use Rattle.search_frames.proofs.ReachedConfigurations.{ends_at_front, leads_from_front, leads_on_if_leads, reached_at, opening_reached}

module _ (searched : SearchedLexicon) (line : Line) (choices : List Choice) (is : IsSearchedLexicon searched) (line_is : IsLine line) where
  path_at_front : (keys : List Key) (here : NumberedConfiguration) (reached : IsReached searched line choices here)
      → IsPath (ways_in searched line choices) here keys → IsPath (ways_of searched.lexicon line choices) reached.front keys
  unfolding reached_at
  path_at_front [] here reached path = path
  path_at_front (key ∷ []) here reached path = (ends_at_front searched line choices here key is reached line_is).0 path
  path_at_front (key ∷ later ∷ keys) here reached (next, (leads, next_is), path) =
      let step = step_at searched.lexicon.rules line here.at here.entrance key in
      let from_front = leads_from_front searched line choices here key is reached leads in (
        reached.front ++ step ∷ [],
        from_front,
        path_at_front (later ∷ keys) (after searched line here key)
            (reached_at searched line choices here key is reached (reached.front ++ step ∷ []) from_front)
            (subst (λ next. IsPath (ways_in searched line choices) next (later ∷ keys)) next_is path),
      )

  path_of_front : (keys : List Key) (here : NumberedConfiguration) (reached : IsReached searched line choices here)
      → IsPath (ways_of searched.lexicon line choices) reached.front keys → IsPath (ways_in searched line choices) here keys
  unfolding reached_at
  path_of_front [] here reached path = path
  path_of_front (key ∷ []) here reached path = (ends_at_front searched line choices here key is reached line_is).1 path
  path_of_front (key ∷ later ∷ keys) here reached (next, leads, path) = (
    after searched line here key,
    (leads_on_if_leads searched line choices here key is reached next leads, refl),
    path_of_front (later ∷ keys) (after searched line here key) (reached_at searched line choices here key is reached next leads) path,
  )

-- the paths from where a search stands are those from the front that ends there
pub path_above_is_path : (searched : SearchedLexicon) (line : Line) (choices : List Choice) (here : NumberedConfiguration) → IsSearchedLexicon searched → IsLine line
    → (reached : IsReached searched line choices here) → (keys : List Key)
    → IsPath (ways_in searched line choices) here keys ↔ IsPath (ways_of searched.lexicon line choices) reached.front keys
path_above_is_path searched line choices here is line_is reached keys = (
  path_at_front searched line choices is line_is keys here reached,
  path_of_front searched line choices is line_is keys here reached,
)

-- the paths from the opening are those from the empty front
pub path_from_opening : (searched : SearchedLexicon) (line : Line) (choices : List Choice) → IsSearchedLexicon searched → IsLine line → (keys : List Key)
    → IsPath (ways_in searched line choices) opening keys ↔ IsPath (ways_of searched.lexicon line choices) [] keys
unfolding opening_reached
path_from_opening searched line choices is line_is keys =
    path_above_is_path searched line choices opening is line_is (opening_reached searched line choices) keys

-- ---- the guide

module _ (searched : SearchedLexicon) (line : Line) (choices : List Choice) (covers : ℕ → ProgramEntrance → Option ℕ → Type 0)
    (says : ℕ → ProgramEntrance → Option ℕ → Bool) (place : Configuration) (is : IsSearchedLexicon searched) (guide : IsGuideOf searched line choices covers says)
    (within : IsConfigurationIn searched line place) where
  -- the guide covers each place of the lexicon and the line
  pub guide_covers : covers place.at place.entrance place.state
  guide_covers = (guide is.recognizes).covers_all place.at place.entrance place.state within

  -- the front ends at the configuration that the program's place stands for
  ends_at_place : (reached : IsReached searched line choices (numbered_of searched place))
      → EndsAt searched.lexicon.rules reached.front (configuration_of searched.lexicon is.recognizes.states place.at place.entrance place.state)
  ends_at_place reached = record {
    covered = reached.at;
    entrance = reached.entrance;
    state = subst (λ state. IsStateAfter (tree_of searched.lexicon.rules) (phases_of reached.front) (state_at is.recognizes.states state))
        (sym reached.state) (is.recognizes.after (phases_of reached.front));
  }

  -- the guide says true of a place with a path
  pub guide_says : IsLine line → IsReached searched line choices (numbered_of searched place) → (keys : List Key)
      → IsPath (ways_in searched line choices) (numbered_of searched place) keys → says place.at place.entrance place.state ≡ true
  guide_says line_is reached keys path =
      (guide is.recognizes).never_false place.at place.entrance place.state within
      (stands_if_path searched.lexicon line choices reached.front
      (configuration_of searched.lexicon is.recognizes.states place.at place.entrance place.state) (ends_at_place reached)
      (keys, (path_above_is_path searched line choices (numbered_of searched place) is line_is reached keys).0 path))

  -- and where an exact one says true there is a path
  pub path_if_exact : IsExactOf searched line choices says → IsLine line → IsReached searched line choices (numbered_of searched place)
      → says place.at place.entrance place.state ≡ true → (keys : List Key) × IsPath (ways_in searched line choices) (numbered_of searched place) keys
  path_if_exact exact line_is reached true_here =
      let has = path_if_stands searched.lexicon line choices reached.front
      (configuration_of searched.lexicon is.recognizes.states place.at place.entrance place.state) is.lexicon line_is reached.led (ends_at_place reached)
      ((exact is.recognizes).never_true place.at place.entrance place.state within true_here) in
      (has.0, (path_above_is_path searched line choices (numbered_of searched place) is line_is reached has.0).1 has.1)
