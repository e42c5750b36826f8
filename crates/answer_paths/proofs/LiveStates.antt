-- A list of phases goes on to a word of the grammar exactly where the state after it is live: what is read at a position is
-- a front of a word, and a front of a word is read at some position.
use Rattle.std.proofs.Common.{◌≡◌, ◌≢◌, ℕ, List, [], ◌∷◌, ◌++◌, refl, sym, ap, subst, ◌∙◌, append_assoc}
use Rattle.std.proofs.lemmas.List.{map-append}
use Rattle.std.specs.List.{Contains}
use Rattle.lexicon_definitions.specs.Grammars.{Grammar, Accepts, Mark, State, Opening, After, IsStateAfter, IsLiveState, IsPositionAfter, phases_of}
use Rattle.lexicon_definitions.proofs.GrammarPositions.{reads_accepts, front_of, position_of}
use Rattle.list_laws.proofs.Elements.{some_by_last}
use Rattle.list_laws.proofs.Sorted.{not_Contains-nil, Contains-first}

-- where there is a position after the phases, they go on
goes_on_at : (grammar : Grammar) (phases : List ℕ) (position : ℕ) → IsPositionAfter grammar phases position
    → (rest : List ℕ) × Accepts grammar (phases ++ rest)
goes_on_at grammar phases position (front, last, rest, reads, phases_is, at) =
    let word = reads_accepts grammar 1 (front ++ last ∷ rest) reads in
    let phase : Mark → ℕ = λ mark. mark.phase in
    let whole : phases_of (front ++ last ∷ rest) ≡ phases ++ phases_of rest =
    ap phases_of (sym (append_assoc front (last ∷ []) rest)) ∙ map-append phase (front ++ last ∷ []) rest
    ∙ ap (λ p. p ++ phases_of rest) (sym phases_is) in
    (phases_of rest, subst (Accepts grammar) whole word)

pub goes_on_if_live : (grammar : Grammar) (phases : List ℕ) (phase : ℕ) (state : State) → IsStateAfter grammar (phases ++ phase ∷ []) state
    → IsLiveState state → (rest : List ℕ) × Accepts grammar (phases ++ phase ∷ rest)
goes_on_if_live grammar phases phase state is live =
    let some = from (phases ++ phase ∷ []) state (some_by_last phases phase) is live in
    (some.0, subst (Accepts grammar) (append_assoc phases (phase ∷ []) some.0) some.1)
  where
    from : (read : List ℕ) (state : State) → read ≢ [] → IsStateAfter grammar read state → IsLiveState state
        → (rest : List ℕ) × Accepts grammar (read ++ rest)
    from [] state some is live = absurd (some refl)
    from (first ∷ read) Opening some is live = absurd is
    from (first ∷ read) (After []) some is live = absurd (live refl)
    from (first ∷ read) (After (position ∷ positions)) some is live =
        goes_on_at grammar (first ∷ read) position ((is.1 position).0 (Contains-first position positions))

-- after a front of a word the state is live
pub live_if_front : (grammar : Grammar) (read rest : List ℕ) (state : State) → IsStateAfter grammar read state → Accepts grammar (read ++ rest)
    → IsLiveState state
live_if_front grammar [] rest state is word e =
    let opening : Opening ≡ After [] = sym is ∙ e in
    cc
live_if_front grammar (first ∷ read) rest Opening is word e = absurd is
live_if_front grammar (first ∷ read) rest (After positions) is word e =
    let some : first ∷ read ≢ [] = λ e. cc in
    let nothing : positions ≡ [] = cc in
    let front = front_of grammar (first ∷ read) rest some word in
    let position = position_of grammar (first ∷ read) rest front in
    not_Contains-nil _ (subst (λ positions. Contains positions front.last.position) nothing ((is.1 front.last.position).1 position))

pub live_if_goes_on : (grammar : Grammar) (phases : List ℕ) (phase : ℕ) (state : State) → IsStateAfter grammar (phases ++ phase ∷ []) state
    → (rest : List ℕ) → Accepts grammar (phases ++ phase ∷ rest) → IsLiveState state
live_if_goes_on grammar phases phase state is rest word =
    live_if_front grammar (phases ++ phase ∷ []) rest state is
    (subst (Accepts grammar) (sym (append_assoc phases (phase ∷ []) rest)) word)
