-- A search comes only to where the front of an answer ends: it begins at the empty front, and a key that leads on adds the
-- step with this key. The machine's state is that after the front's phases, so it says which keys may follow.
use Rattle.std.proofs.Common.{◌≡◌, ◌↔◌, ℕ, IsTrue, IsSome, Option, inl, inr, List, [], ◌∷◌, ◌++◌, refl, sym, ap, subst, ◌∙◌, append_assoc}
use Rattle.text_definitions.specs.Lines.{Line, IsLine}
use Rattle.lexicon_definitions.specs.Lexicons.{IsPhaseWord}
use Rattle.segmentation_definitions.specs.Derivations.{Step, phases_of}
use Rattle.segmentation_definitions.specs.Items.{Choice}
use Rattle.segmentation_definitions.specs.Listings.{Key}
use Rattle.answer_paths.specs.Fronts.{ways_of}
use Rattle.answer_paths.specs.Following.{step_at, MayFollow, MayEnd}
use Rattle.answer_paths.proofs.LocalKeys.{leads_locally, ends_locally}
use Rattle.answer_paths.proofs.LeadingOn.{ends_after}
use Rattle.phase_automaton.specs.Automata.{next_state, state_after, is_accepting}
use Rattle.annotated_trie.specs.Searched.{SearchedLexicon, IsSearchedLexicon}
use Rattle.search_frames.specs.Configurations.{NumberedConfiguration, rules_in, LeadsOn, Ends, after, opening}
use Rattle.search_frames.specs.Reached.{IsReached}
use Rattle.phase_automaton.proofs.NumberedStates.{state_after-push}

-- ---- the machine's state

module _ (searched : SearchedLexicon) (is : IsSearchedLexicon searched) (phases : List ℕ) (phase : ℕ) (state : Option ℕ)
    (state_is : state ≡ state_after searched.machine phases) where
  pub next_state_is : next_state searched.machine state phase ≡ state_after searched.machine (phases ++ phase ∷ [])
  next_state_is = ap (λ state. next_state searched.machine state phase) state_is ∙ sym (state_after-push searched.machine phases phase)

  -- some list goes on from the phases and one more exactly where the state after these is not dead
  word_if_live : IsSome (next_state searched.machine state phase) → (rest : List ℕ) × IsPhaseWord (rules_in searched) (phases ++ phase ∷ rest)
  word_if_live live =
      let word = (is.recognizes.live (phases ++ phase ∷ [])).0 (subst IsSome next_state_is live) in
      (word.0, subst (IsPhaseWord (rules_in searched)) (append_assoc phases (phase ∷ []) word.0) word.1)

  live_if_word : ((rest : List ℕ) × IsPhaseWord (rules_in searched) (phases ++ phase ∷ rest)) → IsSome (next_state searched.machine state phase)
  live_if_word (rest, word) =
      subst IsSome (sym next_state_is)
      ((is.recognizes.live (phases ++ phase ∷ [])).1 (rest, subst (IsPhaseWord (rules_in searched)) (sym (append_assoc phases (phase ∷ []) rest)) word))

  -- the phases and one more are a word exactly where the state after these ends words
  word_if_accepted : IsTrue (is_accepting searched.machine (next_state searched.machine state phase)) → IsPhaseWord (rules_in searched) (phases ++ phase ∷ [])
  word_if_accepted accepted =
      (is.recognizes.accepts (phases ++ phase ∷ [])).0 (subst (λ state. IsTrue (is_accepting searched.machine state)) next_state_is accepted)

  accepted_if_word : IsPhaseWord (rules_in searched) (phases ++ phase ∷ []) → IsTrue (is_accepting searched.machine (next_state searched.machine state phase))
  accepted_if_word word =
      subst (λ state. IsTrue (is_accepting searched.machine state)) (sym next_state_is) ((is.recognizes.accepts (phases ++ phase ∷ [])).1 word)

-- ---- what may follow or end after the front, told by the machine

module _ (searched : SearchedLexicon) (line : Line) (choices : List Choice) (here : NumberedConfiguration) (key : Key) (is : IsSearchedLexicon searched)
    (reached : IsReached searched line choices here) where
  follows_if_leads_on : LeadsOn searched line choices here key → MayFollow searched.lexicon line choices here.at here.entrance (phases_of reached.front) key
  follows_if_leads_on leads = record {
    stands = leads.stands;
    inner = leads.inner;
    left = leads.left;
    accepted = word_if_live searched is (phases_of reached.front) key.phase here.state reached.state leads.live;
  }

  pub leads_on_if_follows : MayFollow searched.lexicon line choices here.at here.entrance (phases_of reached.front) key → LeadsOn searched line choices here key
  leads_on_if_follows follows = record {
    stands = follows.stands;
    inner = follows.inner;
    left = follows.left;
    live = live_if_word searched is (phases_of reached.front) key.phase here.state reached.state follows.accepted;
  }

  may_end_if_ends : Ends searched line choices here key → MayEnd searched.lexicon line choices here.at here.entrance (phases_of reached.front) key
  may_end_if_ends ends = record {
    stands = ends.stands;
    final_rule = ends.final_rule;
    all = ends.all;
    blanks_before = ends.blanks_before;
    accepted = word_if_accepted searched is (phases_of reached.front) key.phase here.state reached.state ends.accepted;
  }

  ends_if_may_end : MayEnd searched.lexicon line choices here.at here.entrance (phases_of reached.front) key → Ends searched line choices here key
  ends_if_may_end ends = record {
    stands = ends.stands;
    final_rule = ends.final_rule;
    all = ends.all;
    blanks_before = ends.blanks_before;
    accepted = accepted_if_word searched is (phases_of reached.front) key.phase here.state reached.state ends.accepted;
  }

  -- a key ends where the search stands exactly where it ends after the front
  pub ends_at_front : IsLine line → Ends searched line choices here key ↔ (ways_of searched.lexicon line choices).ends reached.front key
  ends_at_front line_is =
      let locally = ends_locally searched.lexicon line choices reached.front key here.at here.entrance is.lexicon line_is reached.led reached.at reached.entrance in
      (λ ends. locally.1 (may_end_if_ends ends), λ ends. ends_if_may_end (locally.0 ends))

  -- a key that leads on leads from the front to the one with its step more
  pub leads_from_front : LeadsOn searched line choices here key → (ways_of searched.lexicon line choices).leads reached.front key
      (reached.front ++ step_at searched.lexicon.rules line here.at here.entrance key ∷ [])
  leads_from_front leads =
      (leads_locally searched.lexicon line choices reached.front (reached.front ++ step_at searched.lexicon.rules line here.at here.entrance key ∷ []) key
      here.at here.entrance is.lexicon reached.led reached.at reached.entrance).1 (refl, follows_if_leads_on leads)

  -- a key that leads from the front leads on
  pub leads_on_if_leads : (next : List Step) → (ways_of searched.lexicon line choices).leads reached.front key next → LeadsOn searched line choices here key
  leads_on_if_leads next leads =
      let locally = leads_locally searched.lexicon line choices reached.front next key here.at here.entrance is.lexicon reached.led reached.at reached.entrance in
      leads_on_if_follows (locally.0 leads).1

  -- a front to which the key leads ends where the search stands after it
  unfoldable pub reached_at : (next : List Step) → (ways_of searched.lexicon line choices).leads reached.front key next
      → IsReached searched line choices (after searched line here key)
  reached_at next leads =
      let ends = ends_after searched.lexicon line choices reached.front next key here.at here.entrance reached.at reached.entrance leads in
      record {
        front = next;
        led = inr leads.1;
        at = sym ends.covered;
        entrance = sym ends.entered;
        state = next_state_is searched is (phases_of reached.front) key.phase here.state reached.state ∙ ap (state_after searched.machine) (sym ends.phases);
      }

-- ---- where a search comes to

-- before all steps stands the empty front
unfoldable pub opening_reached : (searched : SearchedLexicon) (line : Line) (choices : List Choice) → IsReached searched line choices opening
opening_reached searched line choices = record { front = []; led = inl refl; at = refl; entrance = refl; state = refl }

-- a key that leads on leads to the end of a front
pub reached_after : (searched : SearchedLexicon) (line : Line) (choices : List Choice) (here : NumberedConfiguration) (key : Key) → IsSearchedLexicon searched
    → IsReached searched line choices here → LeadsOn searched line choices here key → IsReached searched line choices (after searched line here key)
reached_after searched line choices here key is reached leads =
    reached_at searched line choices here key is reached _ (leads_from_front searched line choices here key is reached leads)
