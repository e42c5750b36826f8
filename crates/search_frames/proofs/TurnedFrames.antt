-- A frame is brought to the first of the keys that it has still to try with which a path may begin, and then fewer are left.
use Rattle.std.proofs.Common.{◌≡◌, ◌↔◌, ℕ, suc, ◌+◌, ◌-◌, ◌*◌, ◌<◌, ◌≤◌, ◌⊎◌, inl, inr, Bool, Option, List, length, refl, sym, ap, subst, arith}
use Rattle.std.specs.declared.cmp.Ordering.TheVariants.{Less}
use Rattle.std.proofs.Math.Nat.{suc-mul, mul-le-mul_right}
use Rattle.std.proofs.lemmas.Bool.{cases_lt}
use Rattle.text_definitions.specs.Lines.{Line}
use Rattle.lexicon_definitions.specs.declared.limits.TheConstants.{MOST_RULES, MOST_FORM_LETTERS}
use Rattle.segmentation_definitions.specs.Items.{Choice}
use Rattle.segmentation_definitions.specs.Listings.{Key, compare_keys}
use Rattle.derivation.specs.Steps.{key_meant}
use Rattle.derivation.specs.declared.entrance.Entrance.{Entrance}
use Rattle.derivation.specs.declared.step.Key.{Key as ProgramKey}
use Rattle.annotated_trie.specs.Searched.{SearchedLexicon, IsSearchedLexicon}
use Rattle.search_frames.specs.declared.configuration.Configuration.{Configuration}
use Rattle.search_frames.specs.declared.frame.TheConstants.{NODES_OF_FRAME}
use Rattle.search_frames.specs.declared.guiding.ToTry.{ToTry}
use Rattle.search_frames.specs.declared.guiding.ToTry.TheVariants.{All, Later}
use Rattle.search_frames.specs.declared.testing.Test.{Test}
use Rattle.search_frames.specs.declared.testing.Test.TheVariants as test
use Rattle.search_frames.specs.declared.resumption.Resumption.{Resumption}
use Rattle.search_frames.specs.Configurations.{NumberedConfiguration, IsPossible, Ends, rules_in}
use Rattle.search_frames.specs.FirstKeys.{IsFirstOf, HasNoneOf, IsFrom}
use Rattle.search_frames.specs.Frames.{IsPlaced, HasSet, configuration_at, frame_of, here_of, key_at, numbered_of, step_of}
use Rattle.search_frames.specs.Stacks.{IsStack}
use Rattle.search_frames.specs.Tests.{LeadsTo}
use Rattle.search_frames.specs.Turns.{BeginsPath, HasTurned, HasNoTurn, HasFallen, IsToTry, IsTurn, StandsToTry, first_to_try, keys_left}
use Rattle.search_frames.proofs.BegunPaths.{begins_possible}
use Rattle.search_frames.proofs.PossibleKeys.{possible_phase}
use Rattle.search_frames.proofs.SetFrames.{set_key, set_place, set_placed}
use Rattle.search_frames.proofs.StepKeys.{before_from_less, less_from_before}
use Rattle.search_frames.proofs.TurnedPhases.{few_letters}

-- ---- the first key to try

-- the keys that are to try are those from the first one on
pub told_first : (last : Key) (what : ToTry) (key : Key) → key.taken ≤ MOST_FORM_LETTERS → IsFrom (first_to_try last what) key ↔ IsToTry last what key
told_first last All key few = (
  λ from. tt,
  λ to_try. elim (cases_lt 0 key.phase) [
    | inl later ↦ inl later
    | inr first ↦ inr (omega arith, elim (cases_lt key.taken MOST_FORM_LETTERS) [ inl less ↦ inl less | inr no_less ↦ inr (omega arith, omega arith) ])
  ],
)
told_first last Later key few = (
  λ from. less_from_before last key (elim from [
    | inl later ↦ inl later
    | inr (phase, inl fewer) ↦ inr (phase, inl fewer)
    | inr (phase, inr (taken, rule)) ↦ inr (phase, inr (taken, omega (arith, rule)))
  ]),
  λ less. elim (before_from_less last key less) [
    | inl later ↦ inl later
    | inr (phase, inl fewer) ↦ inr (phase, inl fewer)
    | inr (phase, inr (taken, rule)) ↦ inr (phase, inr (taken, omega (arith, rule)))
  ],
)

module _ (searched : SearchedLexicon) (line : Line) (is : IsSearchedLexicon searched) where
  pub first_phase : (stack : Resumption) (level : ℕ) (what : ToTry) → StandsToTry searched line stack level what
      → (first_to_try (key_at stack level) what).phase < length (rules_in searched).names
  first_phase stack level All stands = is.limits.some_phase
  first_phase stack level Later stands = possible_phase searched is line (here_of searched stack level) (key_at stack level) stands

  pub first_taken : (stack : Resumption) (level : ℕ) (what : ToTry) → StandsToTry searched line stack level what
      → (first_to_try (key_at stack level) what).taken ≤ MOST_FORM_LETTERS
  first_taken stack level All stands = omega arith
  first_taken stack level Later stands = few_letters searched line (here_of searched stack level) (key_at stack level) is stands

  pub few_rules : (stack : Resumption) (level : ℕ) (what : ToTry) → StandsToTry searched line stack level what → what ≡ Later → (step_of stack level).rule ≤ MOST_RULES
  few_rules stack level All stands later = absurd (cc)
  few_rules stack level Later stands later = let most = is.limits.rules in let number = stands.number in omega (arith, most, number)

  -- ---- a number that falls

  -- what has fewer of the higher digit is less
  less_by_first : (a b c d : ℕ) → a < b → c < MOST_RULES + 1 → a * (MOST_RULES + 1) + c < b * (MOST_RULES + 1) + d
  less_by_first a b c d less low =
      let more : suc a * (MOST_RULES + 1) ≤ b * (MOST_RULES + 1) = mul-le-mul_right (MOST_RULES + 1) less in
      let one = suc-mul a (MOST_RULES + 1) in
      omega (arith, more, one, low)

  pub fallen : (here : NumberedConfiguration) (last key : Key) (what : ToTry) → IsPossible searched line here key → IsToTry last what key
      → keys_left searched key Later < keys_left searched last what
  fallen here last key All possible to_try =
      let few = few_letters searched line here key is possible in
      let zero = less_by_first ((length (rules_in searched).names - key.phase) * NODES_OF_FRAME + key.taken) ((length (rules_in searched).names + 1) * NODES_OF_FRAME)
      (MOST_RULES - key.rule) 0 (omega (arith, few)) (omega arith) in
      omega (arith, zero)
  fallen here last key Later possible to_try =
      let count = length (rules_in searched).names in
      let few = few_letters searched line here key is possible in
      let low = possible_phase searched is line here key possible in
      let most = is.limits.rules in
      let number = possible.number in
      elim (before_from_less last key to_try) [
        | inl later ↦ less_by_first ((count - key.phase) * NODES_OF_FRAME + key.taken) ((count - last.phase) * NODES_OF_FRAME + last.taken)
            (MOST_RULES - key.rule) (MOST_RULES - last.rule) (omega (arith, later, low, few)) (omega arith)
        | inr (phase, inl fewer) ↦ less_by_first ((count - key.phase) * NODES_OF_FRAME + key.taken) ((count - last.phase) * NODES_OF_FRAME + last.taken)
            (MOST_RULES - key.rule) (MOST_RULES - last.rule) (omega (arith, phase, fewer)) (omega arith)
        | inr (phase, inr (taken, rule)) ↦
            let front : (count - key.phase) * NODES_OF_FRAME + key.taken ≡ (count - last.phase) * NODES_OF_FRAME + last.taken = omega (arith, phase, taken) in
            let whole = ap (λ (n : ℕ). n * (MOST_RULES + 1)) front in
            omega (arith, whole, rule, most, number)
      ]

  -- ---- the turn

  module _ (choices : List Choice) (says : ℕ → Entrance → Option ℕ → Bool) (level : ℕ) (what : ToTry) (old : Resumption) (from : Key) (from_is : from ≡ first_to_try (key_at old level) what) where
    from_if_to_try : (key : Key) → BeginsPath searched line choices (here_of searched old level) key → IsToTry (key_at old level) what key → IsFrom from key
    from_if_to_try key begins to_try =
        let few = few_letters searched line (here_of searched old level) key is (begins_possible searched line choices (here_of searched old level) key begins) in
        subst (λ (f : Key). IsFrom f key) (sym from_is) ((told_first (key_at old level) what key few).1 to_try)

    -- nothing was found
    pub no_turn : (place : Configuration) → place ≡ configuration_at old level → HasNoneOf searched line choices (numbered_of searched place) (IsFrom from)
        → HasNoTurn searched line choices level what old
    no_turn place place_is none key begins to_try =
        none key (subst (λ (p : Configuration). BeginsPath searched line choices (numbered_of searched p) key) (sym place_is) begins) (from_if_to_try key begins to_try)

    -- a key was found, and the frame brought to it
    module _ (mid new : Resumption) (key : ProgramKey) (placed : IsPlaced searched line old level)
        (steps : mid.steps.items ≡ old.steps.items) (frames : mid.frames.items ≡ old.frames.items)
        (set : HasSet level (record (step_of mid level) { phase = key.phase; taken = key.taken; rule = key.rule }) (frame_of mid level) mid new) where
      key_is : key_at new level ≡ key_meant key
      key_is = set_key level old mid new key steps frames set

      module _ (does : Test) (first : IsFirstOf searched line choices says (here_of searched old level) (IsFrom from) (key_meant key) does) where
        few : (key_meant key).taken ≤ MOST_FORM_LETTERS
        few = few_letters searched line (here_of searched old level) (key_meant key) is first.possible

        to_try_key : IsToTry (key_at old level) what (key_meant key)
        to_try_key = (told_first (key_at old level) what (key_meant key) few).0 (subst (λ (f : Key). IsFrom f (key_meant key)) from_is first.meant)

        -- what comes from a key on is the key or comes after it
        or_later : (other : Key) → IsFrom (key_meant key) other → (key_meant key ≡ other) ⊎ (compare_keys (key_meant key) other ≡ Less)
        or_later other (inl later) = inr (less_from_before (key_meant key) other (inl later))
        or_later other (inr (phase, inl fewer)) = inr (less_from_before (key_meant key) other (inr (phase, inl fewer)))
        or_later other (inr (phase, inr (taken, rule))) = elim (cases_lt key.rule other.rule) [
          | inl less ↦ inr (less_from_before (key_meant key) other (inr (phase, inr (taken, less))))
          | inr no_less ↦
              let same : key.rule ≡ other.rule = omega arith in
              inl (λ i. record { phase = phase i; taken = sym taken i; rule = same i })
        ]

        turned : HasTurned searched line choices level what old new
        turned = record {
          placed = set_placed level old mid new key steps frames set searched line placed;
          same_configuration = set_place level old mid new key steps frames set;
          possible = subst (IsPossible searched line (here_of searched old level)) (sym key_is) first.possible;
          to_try = subst (IsToTry (key_at old level) what) (sym key_is) to_try_key;
          first = λ other begins to_try.
              subst (λ (k : Key). (k ≡ other) ⊎ (compare_keys k other ≡ Less)) (sym key_is) (or_later other (first.first other begins (from_if_to_try other begins to_try)));
        }

        falls : keys_left searched (key_at new level) Later < keys_left searched (key_at old level) what
        falls = subst (λ (k : Key). keys_left searched k Later < keys_left searched (key_at old level) what) (sym key_is)
            (fallen (here_of searched old level) (key_at old level) (key_meant key) what first.possible to_try_key)

      -- so it was turned
      pub is_turn : (does : Test) → IsFirstOf searched line choices says (here_of searched old level) (IsFrom from) (key_meant key) does
          → IsTurn searched line choices says level what old new does
      is_turn test.Refused first = absurd (first.goes refl)
      is_turn test.Ends first = (turned test.Ends first, subst (Ends searched line choices (here_of searched old level)) (sym key_is) first.judged)
      is_turn (test.LeadsOn next) first = (
        turned (test.LeadsOn next) first,
        subst (λ (k : Key). LeadsTo searched line choices (here_of searched old level) k next) (sym key_is) first.judged.0,
        first.judged.1,
      )

      pub has_fallen : (does : Test) → IsFirstOf searched line choices says (here_of searched old level) (IsFrom from) (key_meant key) does
          → HasFallen searched level what old new does
      has_fallen test.Refused first = tt
      has_fallen test.Ends first = falls test.Ends first
      has_fallen (test.LeadsOn next) first = falls (test.LeadsOn next) first

-- a stack has room for the nodes along a form
pub room_for_nodes : (stack : Resumption) → IsStack stack → NODES_OF_FRAME ≤ length stack.nodes.items
room_for_nodes stack is = let nodes = is.nodes in omega (arith, nodes)
