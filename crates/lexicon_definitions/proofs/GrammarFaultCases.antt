-- A text's first fault is told by its size and by the first fault of its bytes and names; only where it has no such fault can
-- it have too many states. By cases on both faults.
use Rattle.std.proofs.Common.{◌≡◌, ℕ, Bool, true, false, nat_lt, Option, Some, None, List, length, refl, sym, ◌∙◌}
use Rattle.lexicon_definitions.specs.GrammarFaults.{Fault, Long, Syntax, UnknownPhase, Places, States, fault_before_states, IsFirstFault, IsGrammarTextWithinLimits, first_fault_of, syntax_fault, first_unknown, names_from}
use Rattle.lexicon_definitions.specs.declared.limits.TheConstants.{MOST_GRAMMAR_BYTES, MOST_GRAMMAR_NAMES}
use Rattle.lexicon_definitions.specs.Lexicons.{IsGrammarOver}

-- a first fault but for too many states is the one before the states
earlier_fault : (names : List (List ℕ)) (text : List ℕ) (first second : Fault) → fault_before_states names text ≡ Some first
    → IsFirstFault names text second → first ≡ second
earlier_fault names text first Long h k = let e = sym h ∙ k in cc
earlier_fault names text first (Syntax at) h k = let e = sym h ∙ k in cc
earlier_fault names text first (UnknownPhase at) h k = let e = sym h ∙ k in cc
earlier_fault names text first Places h k = let e = sym h ∙ k in cc
earlier_fault names text first States h k = let e = sym h ∙ k.0 in cc

-- too many states come with no fault before them
states_last : (names : List (List ℕ)) (text : List ℕ) (second : Fault) → fault_before_states names text ≡ None
    → IsFirstFault names text second → States ≡ second
states_last names text Long h k = let e = sym h ∙ k in cc
states_last names text (Syntax at) h k = let e = sym h ∙ k in cc
states_last names text (UnknownPhase at) h k = let e = sym h ∙ k in cc
states_last names text Places h k = let e = sym h ∙ k in cc
states_last names text States h k = refl

pub one_first_fault : (names : List (List ℕ)) (text : List ℕ) (first second : Fault) → IsFirstFault names text first
    → IsFirstFault names text second → first ≡ second
one_first_fault names text Long second h k = earlier_fault names text Long second h k
one_first_fault names text (Syntax at) second h k = earlier_fault names text (Syntax at) second h k
one_first_fault names text (UnknownPhase at) second h k = earlier_fault names text (UnknownPhase at) second h k
one_first_fault names text Places second h k = earlier_fault names text Places second h k
one_first_fault names text States second h k = states_last names text second h.0 k

over_by : (names : List (List ℕ)) (text : List ℕ) (long : Bool) (syntax unknown : Option ℕ) (places : Bool) → nat_lt MOST_GRAMMAR_BYTES (length text) ≡ long
    → syntax_fault text ≡ syntax → first_unknown names (names_from 0 text) ≡ unknown → nat_lt MOST_GRAMMAR_NAMES (length (names_from 0 text)) ≡ places
    → IsGrammarTextWithinLimits names text → (syntax ≡ None) × (unknown ≡ None)
over_by names text true syntax unknown places a b c d h = absurd (h Long (λ i. first_fault_of (a i) (b i) (c i) (d i)))
over_by names text false (Some at) unknown places a b c d h = absurd (h (Syntax at) (λ i. first_fault_of (a i) (b i) (c i) (d i)))
over_by names text false None (Some at) places a b c d h = absurd (h (UnknownPhase at) (λ i. first_fault_of (a i) (b i) (c i) (d i)))
over_by names text false None None places a b c d h = (refl, refl)

-- a grammar text within the limits is one over its names
pub grammar_over : (names : List (List ℕ)) (text : List ℕ) → IsGrammarTextWithinLimits names text → IsGrammarOver names text
grammar_over names text h = over_by names text _ _ _ _ refl refl refl refl h
