-- An item is one of a step of an answer exactly where some living place goes further by a step with this item: an answer is taken
-- apart at the step, and its front ends at a place from which the rest is a path; and a front that ends at a living place, the
-- key, and what completes it, are an answer.
use Rattle.std.proofs.Common.{◌≡◌, ◌≢◌, ◌⊎◌, inl, inr, ℕ, List, [], ◌∷◌, ◌++◌, length, map, take, drop, refl, sym, ap, subst, ◌∙◌, append_assoc}
use Rattle.std.specs.List.{Contains}
use Rattle.std.proofs.lemmas.List.{map-append}
use Rattle.std.proofs.lemmas.List.Elements.{Contains-append_right}
use Rattle.std.proofs.Math.Seq.{take-append_seam}
use Rattle.text_definitions.specs.Lines.{Line, IsLine}
use Rattle.lexicon_definitions.specs.Lexicons.{RuleSet}
use Rattle.segmentation_definitions.specs.Derivations.{Step, rule_after, phases_of, Covers}
use Rattle.segmentation_definitions.specs.Items.{Placed, placed, placed_from, covered_from, next_at, taken_by, Item, item_of, items_of, Choice}
use Rattle.segmentation_definitions.specs.Answers.{IsAnswer}
use Rattle.segmentation_definitions.specs.Listings.{Key, key_of, keys_of, IsItemOfAnswer}
use Rattle.segmentation_definitions.specs.Configurations.{Start, entrance_after}
use Rattle.segmentation_definitions.proofs.Coverings.{taken_length}
use Rattle.segmentation_definitions.proofs.Fronts.{lead_after, covers_split, placed-append}
use Rattle.segmentation_definitions.proofs.KeyLists.{key_at, same_cons}
use Rattle.list_laws.proofs.Sorted.{Contains-first, Contains-cons_cases, not_Contains-nil}
use Rattle.listing_laws.specs.Ways.{IsPath, HasPath}
use Rattle.answer_paths.specs.Fronts.{supplied}
use Rattle.answer_paths.specs.Following.{step_at, placed_at}
use Rattle.answer_paths.proofs.FrontParts.{left_after, supplied_after}
use Rattle.answer_paths.proofs.AnswerPaths.{path_of_rest, answer_after}
use Rattle.answer_paths.proofs.AnswerFronts.{front_of_answer}
use Rattle.phase_automaton.specs.Automata.{state_after}
use Rattle.annotated_trie.specs.Searched.{SearchedLexicon, IsSearchedLexicon}
use Rattle.search_frames.specs.declared.configuration.Configuration.{Configuration}
use Rattle.search_frames.specs.Configurations.{NumberedConfiguration, Ends, after, ways_in, rules_in}
use Rattle.search_frames.specs.Frames.{IsConfigurationIn, numbered_of}
use Rattle.search_frames.specs.Tests.{LeadsTo}
use Rattle.search_frames.specs.Reached.{IsReached}
use Rattle.search_frames.proofs.ReachedConfigurations.{reached_after}
use Rattle.search_frames.proofs.ConfigurationPaths.{path_above_is_path}
use Rattle.summary_chart.specs.Charts.{IsAlive}
use Rattle.summary_chart.specs.Summaries.{item_with}
use Rattle.summary_chart.proofs.ProgramPlaces.{place_of_reached}

-- ---- a list of steps taken apart at the step of an item

-- the step that stands after a front, in its place
abbrev placed_after : RuleSet → ℕ → List ℕ → List Step → Step → Placed
placed_after rules start lead front step = record {
  step = step;
  at = covered_from rules start lead front;
  lead = length (lead_after rules lead front);
  taken = taken_by rules (lead_after rules lead front) step;
}

record HasStepOf (rules : RuleSet) (start : ℕ) (lead : List ℕ) (steps : List Step) (item : Item) : Type 0 where
  front : List Step
  step : Step
  rest : List Step
  steps_are : steps ≡ front ++ step ∷ rest
  item_is : item_of (placed_after rules start lead front step) ≡ item

step_of_item : (rules : RuleSet) (item : Item) (steps : List Step) (start : ℕ) (lead : List ℕ)
    → Contains (map item_of (placed_from rules start lead steps)) item → HasStepOf rules start lead steps item
step_of_item rules item [] start lead inside = absurd (not_Contains-nil item inside)
step_of_item rules item (step ∷ steps) start lead inside =
    elim (Contains-cons_cases _ (map item_of (placed_from rules (next_at rules start lead step) (rule_after rules step).v steps)) item inside) [
      | inl here ↦ record { front = []; step = step; rest = steps; steps_are = refl; item_is = here }
      | inr later ↦
          let found = step_of_item rules item steps (next_at rules start lead step) (rule_after rules step).v later in
          record {
            front = step ∷ found.front;
            step = found.step;
            rest = found.rest;
            steps_are = ap (λ steps. step ∷ steps) found.steps_are;
            item_is = found.item_is;
          }
    ]

-- and the step's item is one of the whole list
item_of_step : (rules : RuleSet) (front : List Step) (step : Step) (rest : List Step)
    → Contains (items_of rules (front ++ step ∷ rest)) (item_of (placed_after rules 0 [] front step))
item_of_step rules front step rest =
    let later = placed_from rules (covered_from rules 0 [] front) (lead_after rules [] front) (step ∷ rest) in
    let whole : items_of rules (front ++ step ∷ rest) ≡ items_of rules front ++ map item_of later =
    ap (map item_of) (placed-append rules 0 [] front (step ∷ rest)) ∙ map-append item_of (placed rules front) later in
    subst (λ items. Contains items (item_of (placed_after rules 0 [] front step))) (sym whole)
    (Contains-append_right (items_of rules front) (map item_of later) _ (Contains-first _ _))

-- the step after a front of an answer is the one with its key where the front ends
step_after_front : (rules : RuleSet) (line : Line) (front : List Step) (step : Step) (rest : List Step)
    → Covers rules [] (front ++ step ∷ rest) line.letters []
    → step ≡ step_at rules line (covered_from rules 0 [] front) (entrance_after rules Start front) (key_at rules (lead_after rules [] front) step)
step_after_front rules line front step rest covers =
    let both = covers_split rules [] front (step ∷ rest) line.letters [] covers in
    let left = left_after rules front line.letters both.between both.first in
    let (taken, following, form, word, end) = both.second in
    let lead = lead_after rules [] front in
    let at = covered_from rules 0 [] front in
    let u = (rule_after rules step).u in
    let w = (rule_after rules step).w in
    let count = taken_length rules lead step taken form in
    let there : drop at line.letters ≡ taken ++ (w ++ following) = sym left.is ∙ word ∙ append_assoc taken w following in
    let taken_is : take (taken_by rules lead step) (drop at line.letters) ≡ taken =
    ap (take (taken_by rules lead step)) there ∙ ap (λ n. take n (taken ++ (w ++ following))) count ∙ take-append_seam taken (w ++ following) in
    let form_is = form ∙ ap (λ l. l ++ taken ++ u) (supplied_after rules front)
    ∙ ap (λ t. supplied (entrance_after rules Start front) ++ t ++ u) (sym taken_is) in
    λ i. record { phase = step.phase; form = form_is i; rule = step.rule }

-- so its item is told by where the front ends and by its key
item_after_front : (rules : RuleSet) (line : Line) (front : List Step) (step : Step) (rest : List Step)
    → Covers rules [] (front ++ step ∷ rest) line.letters []
    → item_of (placed_after rules 0 [] front step)
    ≡ item_of (placed_at rules line (covered_from rules 0 [] front) (entrance_after rules Start front) (key_at rules (lead_after rules [] front) step))
item_after_front rules line front step rest covers =
    let step_is = step_after_front rules line front step rest covers in
    let supplied_is = supplied_after rules front in
    λ i. record { at = covered_from rules 0 [] front; lead = length (supplied_is i); phase = step.phase; form = (step_is i).form }

-- ---- the key of the step, among those of the list

same_later : {X : Type 0} (front left right : List X) → front ++ left ≡ front ++ right → left ≡ right
same_later [] left right same = same
same_later (x ∷ front) left right same = same_later front left right (same_cons x x (front ++ left) (front ++ right) same).1

key_after_front : (rules : RuleSet) (front : List Step) (step : Step) (rest : List Step) (key : Key) (keys : List Key)
    → keys_of rules (front ++ step ∷ rest) ≡ keys_of rules front ++ key ∷ keys → key_at rules (lead_after rules [] front) step ≡ key
key_after_front rules front step rest key keys same =
    let later = placed_from rules (covered_from rules 0 [] front) (lead_after rules [] front) (step ∷ rest) in
    let whole : keys_of rules (front ++ step ∷ rest) ≡ keys_of rules front ++ map key_of later =
    ap (map key_of) (placed-append rules 0 [] front (step ∷ rest)) ∙ map-append key_of (placed rules front) later in
    (same_cons _ key _ keys (same_later (keys_of rules front) (map key_of later) (key ∷ keys) (sym whole ∙ same))).0

-- ---- living places

-- the key ends the line, or leads on to a living place
abbrev pub GoesOnAlive : SearchedLexicon → Line → List Choice → NumberedConfiguration → Key → Type 0
GoesOnAlive searched line choices here key =
    Ends searched line choices here key ⊎ ((next : Configuration) × LeadsTo searched line choices here key next × IsAlive searched line choices next)

-- a living place goes further by a step with this item
pub record IsItemOfLiving (searched : SearchedLexicon) (line : Line) (choices : List Choice) (item : Item) : Type 0 where
  pub place : Configuration
  pub within : IsConfigurationIn searched line place
  pub alive : IsAlive searched line choices place
  pub key : Key
  pub further : GoesOnAlive searched line choices (numbered_of searched place) key
  pub is : item ≡ item_with searched line place.at place.entrance key

module _ (searched : SearchedLexicon) (line : Line) (choices : List Choice) (is : IsSearchedLexicon searched) (line_is : IsLine line) where
  -- where a place stands for what is reached and has a path, it lives
  alive_at : (place : Configuration) (here : NumberedConfiguration) → numbered_of searched place ≡ here → IsReached searched line choices here
      → HasPath (ways_in searched line choices) here → IsAlive searched line choices place
  alive_at place here there reached path = record {
    reached = subst (IsReached searched line choices) (sym there) reached;
    path = subst (HasPath (ways_in searched line choices)) (sym there) path;
  }

  -- the first key of a path goes on so
  first_goes_on : (here : NumberedConfiguration) (key : Key) (keys : List Key) → IsReached searched line choices here
      → IsPath (ways_in searched line choices) here (key ∷ keys) → GoesOnAlive searched line choices here key
  first_goes_on here key [] reached ends = inl ends
  first_goes_on here key (later ∷ keys) reached (next, (leads_on, next_is), path) =
      let reached' = reached_after searched line choices here key is reached leads_on in
      let there = place_of_reached searched line choices (after searched line here key) is reached' in
      inr (
        there.place,
        record { leads_on = leads_on; is = there.is; within = there.within },
        alive_at there.place (after searched line here key) there.is reached'
            (later ∷ keys, subst (λ h. IsPath (ways_in searched line choices) h (later ∷ keys)) next_is path),
      )

  -- and a key that goes on so begins a path
  path_if_goes_on : (here : NumberedConfiguration) (key : Key) → GoesOnAlive searched line choices here key
      → (keys : List Key) × IsPath (ways_in searched line choices) here (key ∷ keys)
  path_if_goes_on here key (inl ends) = ([], ends)
  path_if_goes_on here key (inr (next, leads, alive)) = on alive.path.0 alive.path.1
    where
      on : (keys : List Key) → IsPath (ways_in searched line choices) (numbered_of searched next) keys
          → (keys : List Key) × IsPath (ways_in searched line choices) here (key ∷ keys)
      on [] path = absurd path
      on (later ∷ keys) path = (later ∷ keys, (numbered_of searched next, (leads.leads_on, leads.is), path))

  -- ---- from an answer

  living_if_answer : (front : List Step) (step : Step) (rest : List Step) (item : Item) → IsAnswer searched.lexicon line choices (front ++ step ∷ rest)
      → item_of (placed_after (rules_in searched) 0 [] front step) ≡ item → IsItemOfLiving searched line choices item
  living_if_answer front step rest item answer item_is =
      let rules = rules_in searched in
      let here : NumberedConfiguration = record {
        at = covered_from rules 0 [] front;
        entrance = entrance_after rules Start front;
        state = state_after searched.machine (phases_of front);
      } in
      let reached : IsReached searched line choices here = record {
        front = front;
        led = inr (front_of_answer searched.lexicon line choices front step rest is.lexicon answer);
        at = refl;
        entrance = refl;
        state = refl;
      } in
      let key = key_at rules (lead_after rules [] front) step in
      let later = map key_of (placed_from rules (next_at rules (covered_from rules 0 [] front) (lead_after rules [] front) step) (rule_after rules step).v rest) in
      let path : IsPath (ways_in searched line choices) here (key ∷ later) =
      (path_above_is_path searched line choices here is line_is reached (key ∷ later)).1 (path_of_rest searched.lexicon line choices is.lexicon rest front step answer) in
      let there = place_of_reached searched line choices here is reached in
      let as_told = item_after_front rules line front step rest answer.derives.covers in
      record {
        place = there.place;
        within = there.within;
        alive = alive_at there.place here there.is reached (key ∷ later, path);
        key = key;
        further = subst (λ h. GoesOnAlive searched line choices h key) (sym there.is) (first_goes_on here key later reached path);
        is = sym item_is ∙ as_told ∙ ap (λ (h : NumberedConfiguration). item_of (placed_at rules line h.at h.entrance key)) (sym there.is);
      }

  pub item_of_living : (item : Item) → IsItemOfAnswer searched.lexicon line choices item → IsItemOfLiving searched line choices item
  item_of_living item (steps, answer, inside) =
      let found = step_of_item (rules_in searched) item steps 0 [] inside in
      living_if_answer found.front found.step found.rest item (subst (IsAnswer searched.lexicon line choices) found.steps_are answer) found.item_is

  -- ---- and to one

  answer_if_completed : (item : Item) (front rest : List Step) (key : Key) (keys : List Key) → rest ≢ []
      → IsAnswer searched.lexicon line choices (front ++ rest) → keys_of (rules_in searched) (front ++ rest) ≡ keys_of (rules_in searched) front ++ key ∷ keys
      → item ≡ item_of (placed_at (rules_in searched) line (covered_from (rules_in searched) 0 [] front) (entrance_after (rules_in searched) Start front) key)
      → IsItemOfAnswer searched.lexicon line choices item
  answer_if_completed item front [] key keys some answer same item_is = absurd (some refl)
  answer_if_completed item front (step ∷ rest) key keys some answer same item_is =
      let rules = rules_in searched in
      let key_is = key_after_front rules front step rest key keys same in
      let as_told = item_after_front rules line front step rest answer.derives.covers in
      let item_is' : item ≡ item_of (placed_after rules 0 [] front step) =
      item_is ∙ ap (λ k. item_of (placed_at rules line (covered_from rules 0 [] front) (entrance_after rules Start front) k)) (sym key_is) ∙ sym as_told in (
        front ++ step ∷ rest,
        answer,
        subst (Contains (items_of rules (front ++ step ∷ rest))) (sym item_is') (item_of_step rules front step rest),
      )

  pub item_of_answer : (item : Item) → IsItemOfLiving searched line choices item → IsItemOfAnswer searched.lexicon line choices item
  item_of_answer item living =
      let rules = rules_in searched in
      let here = numbered_of searched living.place in
      let reached = living.alive.reached in
      let path = path_if_goes_on here living.key living.further in
      let added = answer_after searched.lexicon line choices (living.key ∷ path.0) reached.front
      ((path_above_is_path searched line choices here is line_is reached (living.key ∷ path.0)).0 path.1) in
      let at = reached.at in
      let entrance = reached.entrance in
      answer_if_completed item reached.front added.rest living.key path.0 added.some added.answer added.keys
      (living.is ∙ (λ i. item_of (placed_at rules line (at i) (entrance i) living.key)))
