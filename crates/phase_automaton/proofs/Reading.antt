-- What is read of a text without a fault before its states: its automaton, or too many states.
use Rattle.std.proofs.Common.{◌≡◌, ℕ, ◌+◌, ◌<◌, ◌≤◌, Bool, true, false, nat_lt, Option, Some, None, Result, Ok, Err, List, length, refl, sym, ◌∙◌, arith, subst}
use Rattle.std.specs.Prelude.{IfOk, OnOk, IfErr}
use Rattle.std.proofs.lemmas.Bool.{le-ltb}
use Rattle.std.proofs.lemmas.List.{length-map}
use Rattle.lexicon_definitions.specs.declared.limits.TheConstants.{MOST_GRAMMAR_BYTES, MOST_GRAMMAR_NAMES, MOST_GRAMMAR_STATES}
use Rattle.lexicon_definitions.specs.GrammarTexts.{grammar_of}
use Rattle.lexicon_definitions.specs.GrammarFaults.{Fault, States, Long, Syntax, UnknownPhase, Places, first_fault_of, fault_before_states, syntax_fault, first_unknown, names_from, HasMoreStates, IsFirstFault, IsGrammarTextWithinLimits}
use Rattle.lexicon_definitions.proofs.GrammarPhases.{phases_below}
use Rattle.phase_automaton.specs.declared.fault.GrammarError.{GrammarError}
use Rattle.phase_automaton.specs.declared.position_set.PositionSet.{PositionSet}
use Rattle.phase_automaton.specs.declared.position.Position.{Position}
use Rattle.phase_automaton.specs.Faults.{IfFault}
use Rattle.phase_automaton.specs.Names.{position_of_name, positions_of}
use Rattle.phase_automaton.specs.Readers.{IsNet}
use Rattle.phase_automaton.specs.Automata.{StateMachine, Recognizes}
use Rattle.phase_automaton.specs.Subsets.{HasMoreSets, IsSubsetMachine}
use Rattle.phase_automaton.proofs.FaultCases.{if_fault_weaker}
use Rattle.phase_automaton.proofs.ReachedSets.{more_states}
use Rattle.phase_automaton.proofs.Recognition.{recognizes}
use Rattle.phase_automaton.proofs.StateCounts.{no_more_states}

no_fault : (long : Bool) (syntax unknown : Option ℕ) (many : Bool) → long ≡ false → syntax ≡ None → unknown ≡ None → many ≡ false
    → first_fault_of long syntax unknown many ≡ None
no_fault true syntax unknown many a b c d = cc
no_fault false (Some at) unknown many a b c d = cc
no_fault false None (Some at) many a b c d = cc
no_fault false None None true a b c d = cc
no_fault false None None false a b c d = refl

pub none_before : (names : List (List ℕ)) (text : List ℕ) → length text ≤ MOST_GRAMMAR_BYTES → syntax_fault text ≡ None
    → first_unknown names (names_from 0 text) ≡ None → length (positions_of names text) ≤ MOST_GRAMMAR_NAMES + 1 → fault_before_states names text ≡ None
none_before names text short syntax known few =
    no_fault (nat_lt MOST_GRAMMAR_BYTES (length text)) (syntax_fault text) (first_unknown names (names_from 0 text)) (nat_lt MOST_GRAMMAR_NAMES (length (names_from 0 text)))
    (le-ltb MOST_GRAMMAR_BYTES (length text) short) syntax known
    (le-ltb MOST_GRAMMAR_NAMES (length (names_from 0 text)) (let size = length-map (names_from 0 text) (position_of_name names) in omega (arith, few, size)))

module _ (names : List (List ℕ)) (text : List ℕ) (some : 0 < length names) (none : fault_before_states names text ≡ None)
    (positions : List Position) (room : 0 < length positions) (ends : PositionSet) (net : IsNet positions ends (grammar_of names text))
    (result : Result StateMachine GrammarError)
  where
    pub read_ok : IfOk result (λ machine. IsSubsetMachine positions ends machine) → IfOk result (λ machine. machine.phases ≡ length names)
        → IfOk result (λ machine. Recognizes machine (grammar_of names text))
    read_ok = go result
      where
        go : (r : Result StateMachine GrammarError) → IfOk r (λ machine. IsSubsetMachine positions ends machine) → IfOk r (λ machine. machine.phases ≡ length names)
            → IfOk r (λ machine. Recognizes machine (grammar_of names text))
        go (Err e) h k = tt
        go (Ok machine) h k =
            recognizes positions ends (grammar_of names text) machine net h
            (λ before phase position l. (let below = phases_below names text some before phase position l in omega (arith, below, k))) room

    without_faults : (fault : Fault) → IsFirstFault names text fault → (HasMoreStates (grammar_of names text) MOST_GRAMMAR_STATES → ⊥) → ⊥
    without_faults Long h few = let e = sym h ∙ none in cc
    without_faults (Syntax at) h few = let e = sym h ∙ none in cc
    without_faults (UnknownPhase at) h few = let e = sym h ∙ none in cc
    without_faults Places h few = let e = sym h ∙ none in cc
    without_faults States h few = few h.1

    pub read_text : IfOk result (λ machine. IsSubsetMachine positions ends machine) → IfOk result (λ machine. machine.phases ≡ length names)
        → OnOk result (IsGrammarTextWithinLimits names text)
    read_text = go result
      where
        go : (r : Result StateMachine GrammarError) → IfOk r (λ machine. IsSubsetMachine positions ends machine) → IfOk r (λ machine. machine.phases ≡ length names)
            → OnOk r (IsGrammarTextWithinLimits names text)
        go (Err e) h k = tt
        go (Ok machine) h k = λ fault f.
            let recognized = recognizes positions ends (grammar_of names text) machine net h
            (λ before phase position l. (let below = phases_below names text some before phase position l in omega (arith, below, k))) room in
            let few : length machine.states ≤ MOST_GRAMMAR_STATES = omega (arith, h.count, h.states.few) in
            without_faults fault f (no_more_states machine (grammar_of names text) recognized MOST_GRAMMAR_STATES few)

    pub read_fault : IfErr result (λ e. IfFault e (λ fault. (fault ≡ States) × HasMoreSets positions))
        → IfErr result (λ e. IfFault e (IsFirstFault names text))
    read_fault = go result
      where
        go : (r : Result StateMachine GrammarError) → IfErr r (λ e. IfFault e (λ fault. (fault ≡ States) × HasMoreSets positions))
            → IfErr r (λ e. IfFault e (IsFirstFault names text))
        go (Ok machine) h = tt
        go (Err e) h = if_fault_weaker e (λ fault. (fault ≡ States) × HasMoreSets positions) (IsFirstFault names text)
            (λ fault k. subst (λ f. IsFirstFault names text f) (sym k.0)
            (none, more_states positions ends (grammar_of names text) net room k.1)) h
