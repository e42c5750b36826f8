-- The first key of a phase and of all phases, from one on: its parts are the keys with one length and the phases, one after another.
use Rattle.std.proofs.Common.{◌≡◌, ℕ, ◌+◌, ◌<◌, ◌≤◌, ◌⊎◌, ◌↔◌, inl, inr, Bool, Option, Some, None, List, length, take, drop, length-append, sym, ◌∙◌, ap, subst, arith}
use Rattle.std.specs.Prelude.{is_some, MatchOption}
use Rattle.derivation.specs.Steps.{key_meant}
use Rattle.derivation.specs.declared.step.Key.{Key as ProgramKey}
use Rattle.std.proofs.lemmas.List.{length-drop, length-take-le}
use Rattle.std.proofs.lemmas.Bool.{cases_lt, cases_eq}
use Rattle.text_definitions.specs.Lines.{Line}
use Rattle.lexicon_definitions.specs.declared.limits.TheConstants.{MOST_FORM_LETTERS}
use Rattle.segmentation_definitions.specs.Items.{Choice}
use Rattle.segmentation_definitions.specs.Listings.{Key}
use Rattle.derivation.specs.declared.entrance.Entrance.{Entrance}
use Rattle.annotated_trie.specs.Searched.{SearchedLexicon, IsSearchedLexicon}
use Rattle.search_frames.specs.declared.testing.Test.{Test}
use Rattle.search_frames.specs.Configurations.{NumberedConfiguration, IsPossible}
use Rattle.search_frames.specs.Walks.{IsNodeAt}
use Rattle.search_frames.specs.Turns.{BeginsPath}
use Rattle.search_frames.specs.FirstKeys.{IsFirstOf, HasNoneOf, IsUnchangedFrom, IsRuleFrom, IsAtNodeFrom, IsInPhaseFrom, IsShorterFrom, IsFrom}
use Rattle.search_frames.proofs.BegunPaths.{begins_possible}
use Rattle.search_frames.proofs.FirstOfKeys.{none_of_both, first_of_first, first_of_rest, first_told, none_told}
use Rattle.search_frames.proofs.PossibleKeys.{front_at, possible_walks, possible_phase, short_walks}
use Rattle.answer_paths.specs.Fronts.{supplied}

-- a key at a node has no change or a rule
at_node_cases : (from key : Key) → IsAtNodeFrom from key → IsUnchangedFrom from key ⊎ IsRuleFrom from key
at_node_cases from key at = elim (cases_lt 0 key.rule) [ inl some ↦ inr (at, some) | inr none ↦ inl (at, omega arith) ]

-- the keys that take no fewer letters than this
abbrev pub IsDoneFrom : Key → ℕ → ℕ → Key → Type 0
IsDoneFrom from letters limit key = IsShorterFrom from letters key × (limit ≤ key.taken)

-- the keys of the phases so far
abbrev pub IsPassedFrom : Key → ℕ → Key → Type 0
IsPassedFrom from phase key = IsFrom from key × (key.phase < phase)

-- no form takes more letters than this
pub few_letters : (searched : SearchedLexicon) (line : Line) (here : NumberedConfiguration) (key : Key) → IsSearchedLexicon searched → IsPossible searched line here key
    → key.taken ≤ MOST_FORM_LETTERS
few_letters searched line here key is possible =
    let (node, walked) = possible_walks searched is line here key possible in
    let short = short_walks searched is key.phase (front_at line here key.taken) (possible_phase searched is line here key possible) (ap is_some walked) in
    let both = length-append (supplied here.entrance) (take key.taken (drop here.at line.letters)) in
    let left = length-drop here.at line.letters in
    let within = possible.within in
    let whole = length-take-le key.taken (drop here.at line.letters) (omega (arith, left, within)) in
    omega (arith, short, both, whole)

module _ (searched : SearchedLexicon) (line : Line) (choices : List Choice) (says : ℕ → Entrance → Option ℕ → Bool) (here : NumberedConfiguration) (from : Key) where
  -- ---- at a node

  pub node_unchanged : (found : Key) (does : Test) → IsFirstOf searched line choices says here (IsUnchangedFrom from) found does
      → IsFirstOf searched line choices says here (IsAtNodeFrom from) found does
  node_unchanged found does first =
      first_of_first searched line choices says here (IsUnchangedFrom from) (IsRuleFrom from) (IsAtNodeFrom from) (λ key begins at. at_node_cases from key at)
      found does (λ meant. meant.0)
      (λ key rule meant. inr (
        sym meant.0.0 ∙ rule.0.0,
        inr (rule.0.1 ∙ sym meant.0.1, (let zero = meant.1 in omega (arith, zero))),
      ))
      first

  pub node_by_rule : (found : Key) (does : Test) → HasNoneOf searched line choices here (IsUnchangedFrom from)
      → IsFirstOf searched line choices says here (IsRuleFrom from) found does → IsFirstOf searched line choices says here (IsAtNodeFrom from) found does
  node_by_rule found does none first =
      first_of_rest searched line choices says here (IsUnchangedFrom from) (IsRuleFrom from) (IsAtNodeFrom from) (λ key begins at. at_node_cases from key at)
      found does none (λ meant. meant.0) first

  pub node_none : HasNoneOf searched line choices here (IsUnchangedFrom from) → HasNoneOf searched line choices here (IsRuleFrom from)
      → HasNoneOf searched line choices here (IsAtNodeFrom from)
  node_none none others =
      none_of_both searched line choices says here (IsUnchangedFrom from) (IsRuleFrom from) (IsAtNodeFrom from) (λ key begins at. at_node_cases from key at) none others

  -- what comes of the rest is what comes of all
  pub node_found : (found : Option (ProgramKey × Test)) → HasNoneOf searched line choices here (IsUnchangedFrom from)
      → MatchOption found (HasNoneOf searched line choices here (IsRuleFrom from)) (λ f. IsFirstOf searched line choices says here (IsRuleFrom from) (key_meant f.0) f.1)
      → MatchOption found (HasNoneOf searched line choices here (IsAtNodeFrom from)) (λ f. IsFirstOf searched line choices says here (IsAtNodeFrom from) (key_meant f.0) f.1)
  node_found None none others = node_none none others
  node_found (Some f) none first = node_by_rule (key_meant f.0) f.1 none first

  -- ---- length by length

  module _ (letters : ℕ) where
    pub none_done_at_first : HasNoneOf searched line choices here (IsDoneFrom from letters letters)
    none_done_at_first key begins done = let below = done.0.1 in let more = done.1 in omega (arith, below, more)

    -- no length is left
    pub all_done : (limit : ℕ) → limit ≤ 0 → HasNoneOf searched line choices here (IsDoneFrom from letters limit)
        → HasNoneOf searched line choices here (IsShorterFrom from letters)
    all_done limit none_left none key begins meant = none key begins (meant, omega (arith, none_left))

    -- the greatest length that is left
    module _ (limit taken : ℕ) (first : Key) (next : limit ≡ taken + 1) (low : limit ≤ letters)
        (meant_at : (key : Key) → IsAtNodeFrom first key ↔ (IsInPhaseFrom from key × (key.taken ≡ taken)))
        (none : HasNoneOf searched line choices here (IsDoneFrom from letters limit)) where
      -- a key comes before it, with it, or after it
      length_cases : (key : Key) → IsShorterFrom from letters key → (limit ≤ key.taken) ⊎ ((key.taken ≡ taken) ⊎ (key.taken < taken))
      length_cases key meant = elim (cases_lt key.taken limit) [
        | inr above ↦ inl above
        | inl below ↦ inr (elim (cases_lt key.taken taken) [ inl less ↦ inr less | inr no_less ↦ inl (omega (arith, next)) ])
      ]

      pub length_found : (found : Key) (does : Test) → IsFirstOf searched line choices says here (IsAtNodeFrom first) found does
          → IsFirstOf searched line choices says here (IsShorterFrom from letters) found does
      length_found found does at =
          let told_found = (meant_at found).0 at.meant in
          let found_taken = told_found.1 in
          record {
            possible = at.possible;
            meant = (told_found.0, omega (arith, found_taken, next, low));
            judged = at.judged;
            goes = at.goes;
            first = λ key begins meant. elim (length_cases key meant) [
              | inl above ↦ absurd (none key begins (meant, above))
              | inr (inl same) ↦ at.first key begins ((meant_at key).1 (meant.0, same))
              | inr (inr less) ↦ inr (sym told_found.0.0 ∙ meant.0.0, inl (omega (arith, less, found_taken)))
            ];
          }

      pub length_done : HasNoneOf searched line choices here (IsAtNodeFrom first) → HasNoneOf searched line choices here (IsDoneFrom from letters taken)
      length_done nothing key begins (meant, no_less) = elim (length_cases key meant) [
        | inl above ↦ none key begins (meant, above)
        | inr (inl same) ↦ nothing key begins ((meant_at key).1 (meant.0, same))
        | inr (inr less) ↦ omega (arith, less, no_less)
      ]

  -- ---- a phase

  module _ (walked : ℕ) (is : IsSearchedLexicon searched)
      (reaches : (taken node : ℕ) → taken ≤ from.taken → here.at + taken ≤ length line.letters → IsNodeAt searched line here from.phase taken node → taken < walked) where
    -- each key with which a path begins takes as many letters as lead somewhere in the trie
    in_lengths : (key : Key) → BeginsPath searched line choices here key → IsInPhaseFrom from key → IsShorterFrom from walked key
    in_lengths key begins meant =
        let possible = begins_possible searched line choices here key begins in
        let (node, at) = possible_walks searched is line here key possible in
        let few : key.taken ≤ from.taken = elim meant.1 [ inl fewer ↦ omega (arith, fewer) | inr same ↦ (let taken = same.0 in omega (arith, taken)) ] in
        (meant, reaches key.taken node few possible.within (subst (λ (n : ℕ). IsNodeAt searched line here n key.taken node) (sym meant.0) at))

    -- what comes of these lengths is what comes of the phase
    pub phase_told : (found : Option (ProgramKey × Test))
        → MatchOption found (HasNoneOf searched line choices here (IsShorterFrom from walked)) (λ f. IsFirstOf searched line choices says here (IsShorterFrom from walked) (key_meant f.0) f.1)
        → MatchOption found (HasNoneOf searched line choices here (IsInPhaseFrom from)) (λ f. IsFirstOf searched line choices says here (IsInPhaseFrom from) (key_meant f.0) f.1)
    phase_told None none = none_told searched line choices says here (IsShorterFrom from walked) (IsInPhaseFrom from) in_lengths none
    phase_told (Some f) first =
        first_told searched line choices says here (IsShorterFrom from walked) (IsInPhaseFrom from) (key_meant f.0) f.1 in_lengths (λ meant. meant.0) first

  -- ---- phase by phase

  -- no form takes more letters than this
  pub few_taken : IsSearchedLexicon searched → (key : Key) → IsPossible searched line here key → key.taken ≤ MOST_FORM_LETTERS
  few_taken is key possible = few_letters searched line here key is possible

  -- no phase comes before the first
  pub none_passed_at_first : HasNoneOf searched line choices here (IsPassedFrom from from.phase)
  none_passed_at_first key begins (meant, low) = elim meant [ inl later ↦ omega (arith, later, low) | inr within ↦ (let same = within.0 in omega (arith, same, low)) ]

  module _ (is : IsSearchedLexicon searched) (phase : ℕ) (first : Key) (phase_is : first.phase ≡ phase)
      (told : (key : Key) → key.taken ≤ MOST_FORM_LETTERS → key.phase ≡ phase → IsFrom from key ↔ IsInPhaseFrom first key)
      (none : HasNoneOf searched line choices here (IsPassedFrom from phase)) where
    short : (key : Key) → BeginsPath searched line choices here key → key.taken ≤ MOST_FORM_LETTERS
    short key begins = few_taken is key (begins_possible searched line choices here key begins)

    pub next_phase_found : (found : Key) (does : Test) → IsFirstOf searched line choices says here (IsInPhaseFrom first) found does
        → IsFirstOf searched line choices says here (IsFrom from) found does
    next_phase_found found does at =
        let found_phase : found.phase ≡ phase = sym at.meant.0 ∙ phase_is in
        record {
          possible = at.possible;
          meant = (told found (few_taken is found at.possible) found_phase).1 at.meant;
          judged = at.judged;
          goes = at.goes;
          first = λ key begins meant. elim (cases_lt key.phase phase) [
            | inl before ↦ absurd (none key begins (meant, before))
            | inr no_less ↦ elim (cases_eq key.phase phase) [
              | inl same ↦ at.first key begins ((told key (short key begins) same).0 meant)
              | inr other ↦ inl (omega (arith, found_phase))
            ]
          ];
        }

    pub next_phase_passed : HasNoneOf searched line choices here (IsInPhaseFrom first) → HasNoneOf searched line choices here (IsPassedFrom from (phase + 1))
    next_phase_passed nothing key begins (meant, low) = elim (cases_lt key.phase phase) [
      | inl before ↦ none key begins (meant, before)
      | inr no_less ↦ nothing key begins ((told key (short key begins) (omega arith)).0 meant)
    ]

  -- a key with which a path begins has a phase of the lexicon
  pub all_passed : IsSearchedLexicon searched → (phases : ℕ) → length (searched.lexicon.rules.names) ≤ phases → HasNoneOf searched line choices here (IsPassedFrom from phases)
      → HasNoneOf searched line choices here (IsFrom from)
  all_passed is phases most none key begins meant =
      let low = possible_phase searched is line here key (begins_possible searched line choices here key begins) in
      none key begins (meant, omega (arith, low, most))
