-- Where frames stand along a path from the opening, their steps stand in the line, cover its word, and have the path's keys, so
-- they are the path's answer: by induction on the keys. The first path is the next answer, since both are compared by keys.
use Rattle.std.proofs.Common.{◌≡◌, ℕ, zero, suc, ◌+◌, ◌<◌, ◌≤◌, ◌⊎◌, inl, inr, List, [], ◌∷◌, length, take, drop, refl, sym, ap, ◌∙◌, subst, arith, length-take}
use Rattle.std.specs.declared.cmp.Ordering.TheVariants.{Less}
use Rattle.std.specs.Ordering.{ordering_then}
use Rattle.std.specs.Cmp.Lexicographic.{slice_cmp}
use Rattle.std.proofs.lemmas.Cmp.{tied_itself}
use Rattle.std.proofs.lemmas.List.{drop_more, drop_all, get_or-take, length-map}
use Rattle.text_definitions.specs.Lines.{Line, IsLine}
use Rattle.lexicon_definitions.specs.Lexicons.{RuleSet, rule_of}
use Rattle.segmentation_definitions.specs.Derivations.{Step, Covers}
use Rattle.segmentation_definitions.specs.Items.{Choice}
use Rattle.segmentation_definitions.specs.Answers.{IsAnswer}
use Rattle.segmentation_definitions.specs.Listings.{Key, keys_of, compare_keys, BeforeFirst, AtAnswer, IsAbove, IsNext}
use Rattle.segmentation_definitions.proofs.KeyLists.{compare_keys_total, compare_keys_exact}
use Rattle.listing_laws.specs.Ways.{IsPath}
use Rattle.listing_laws.specs.Cursors.{IsFirst}
use Rattle.answer_paths.specs.Fronts.{supplied, ways_of}
use Rattle.answer_paths.specs.Following.{step_at, MayStand}
use Rattle.answer_paths.proofs.FrontParts.{supplied_after}
use Rattle.answer_paths.proofs.AnswerPaths.{answer_with_keys, path_of_answer}
use Rattle.answer_paths.proofs.NextPaths.{next_if_first}
use Rattle.derivation.specs.Steps.{steps_of, steps_from, StandsAt, StandFrom, StandIn}
use Rattle.derivation.specs.Steps as program
use Rattle.derivation.specs.declared.step.Step.{Step as ProgramStep}
use Rattle.derivation.proofs.PlacedSteps.{same_keys}
use Rattle.annotated_trie.specs.Searched.{SearchedLexicon, IsSearchedLexicon}
use Rattle.search_frames.specs.declared.resumption.Resumption.{Resumption}
use Rattle.search_frames.specs.Configurations.{NumberedConfiguration, rules_in, Ends, after, opening, ways_in}
use Rattle.search_frames.specs.Frames.{IsPlaced, here_of, key_at, step_of}
use Rattle.search_frames.proofs.PossibleKeys.{possible_phase}
use Rattle.segmenter.specs.Chains.{AreFrames, HasNone, Every, ComesAfter, LeadAlong}
use Rattle.search_frames.specs.Stacks.{steps_in}
use Rattle.search_frames.proofs.ConfigurationPaths.{path_from_opening}
use Rattle.search_frames.proofs.ConfigurationRanks.{not_both}
use Rattle.segmenter.proofs.PathsFound.{GoesOn, first_of_path}
use Rattle.list_laws.proofs.Orderings.{less_then_cases}
use Rattle.list_laws.proofs.Elements.{parts_from}

-- ---- steps that stand from a place on to the end of the line

-- the steps stand from the place on, entered with the lead, cover what is left of the letters, and have the keys
pub record StandToEnd (rules : RuleSet) (letters : List ℕ) (at : ℕ) (lead : List ℕ) (keys : List Key) (steps : List ProgramStep) : Type 0 where
  pub stand : StandFrom rules letters at lead steps
  pub covers : Covers rules lead (steps_from rules letters lead steps) (drop at letters) []
  pub same : program.keys_of steps ≡ keys

module _ (rules : RuleSet) (letters : List ℕ) where
  none_to_end : (at : ℕ) (lead : List ℕ) → length letters ≤ at → StandToEnd rules letters at lead [] []
  none_to_end at lead le = record { stand = tt; covers = drop_all at letters le; same = refl }

  first_to_end : (at : ℕ) (lead : List ℕ) (step : ProgramStep) (keys : List Key) (steps : List ProgramStep) → StandsAt rules letters at lead step
      → StandToEnd rules letters (at + step.taken + length (rule_of rules step.rule).w) (rule_of rules step.rule).v keys steps
      → StandToEnd rules letters at lead (program.key_of step ∷ keys) (step ∷ steps)
  first_to_end at lead step keys steps stands later =
      let w = (rule_of rules step.rule).w in
      let v = (rule_of rules step.rule).v in
      let u = (rule_of rules step.rule).u in
      let start : at ≡ step.at = sym stands.at in
      record {
        stand = (stands, subst (λ at. StandFrom rules letters (at + step.taken + length w) v steps) start later.stand);
        covers = subst (λ at. Covers rules lead (steps_from rules letters lead (step ∷ steps)) (drop at letters) []) stands.at (
          take step.taken (drop step.at letters),
          drop (step.at + step.taken + length w) letters,
          refl,
          parts_from letters w step.at step.taken stands.following,
          subst (λ at. Covers rules v (steps_from rules letters v steps) (drop (at + step.taken + length w) letters) []) start later.covers,
        );
        same = ap (λ keys. program.key_of step ∷ keys) later.same;
      }

-- ---- the steps of frames

module _ (searched : SearchedLexicon) (line : Line) (choices : List Choice) (stack : Resumption) where
  -- the phase of a key that may stand is one
  stands_phase : IsSearchedLexicon searched → (here : NumberedConfiguration) (key : Key) → MayStand searched.lexicon line choices here.at here.entrance key
      → key.phase < length (rules_in searched).names
  stands_phase is here key stands =
      possible_phase searched is line here key (record { number = stands.number; within = stands.within; form = stands.form })

  -- the step of a frame whose key may stand there stands there
  frame_stands : IsSearchedLexicon searched → (level : ℕ) → IsPlaced searched line stack level
      → MayStand searched.lexicon line choices (here_of searched stack level).at (here_of searched stack level).entrance (key_at stack level)
      → StandsAt (rules_in searched) line.letters (here_of searched stack level).at (supplied (here_of searched stack level).entrance) (step_of stack level)
  frame_stands is level frame stands = record {
    phase = stands_phase is (here_of searched stack level) (key_at stack level) stands;
    rule = stands.number;
    at = refl;
    lead_length = frame.lead;
    taken = stands.within;
    following = stands.written;
  }

  -- the steps in use from a level on begin with that of the level
  steps_from_level : (level : ℕ) → level < stack.depth → IsPlaced searched line stack level
      → drop level (steps_in stack) ≡ step_of stack level ∷ drop (level + 1) (steps_in stack)
  steps_from_level level below frame =
      let there = frame.there in
      let count = frame.is_stack.steps in
      let d : ProgramStep = record { phase = 0; rule = 0; at = 0; lead = 0; taken = 0 } in
      let inside : level < length (steps_in stack) = omega (arith, length-take stack.depth stack.steps.items) in
      drop_more (steps_in stack) level d inside
      ∙ ap (λ step. step ∷ drop (level + 1) (steps_in stack)) (get_or-take stack.depth stack.steps.items level d below)

  -- frames from a level on are as many as the keys
  pub frames_count : (keys : List Key) (level : ℕ) (here : NumberedConfiguration) → AreFrames searched line stack level here keys → level + length keys ≡ stack.depth
  frames_count [] level here frames = let e : level ≡ stack.depth = frames in omega arith
  frames_count (key ∷ keys) level here frames =
      let later = frames_count keys (level + 1) (after searched line here key) frames.4 in omega (arith, later)

  -- what is supplied after a step is the v of its rule
  supplied_v : (here : NumberedConfiguration) (key : Key) → supplied (after searched line here key).entrance ≡ (rule_of (rules_in searched) key.rule).v
  supplied_v here key = sym (supplied_after (rules_in searched) (step_at (rules_in searched) line here.at here.entrance key ∷ []))

  stands_here : IsSearchedLexicon searched → (level : ℕ) (here : NumberedConfiguration) (key : Key) → IsPlaced searched line stack level → here_of searched stack level ≡ here → key_at stack level ≡ key
      → MayStand searched.lexicon line choices here.at here.entrance key
      → StandsAt (rules_in searched) line.letters here.at (supplied here.entrance) (step_of stack level)
  stands_here is level here key frame here_is key_is stands =
      subst (λ (h : NumberedConfiguration). StandsAt (rules_in searched) line.letters h.at (supplied h.entrance) (step_of stack level)) here_is
      (frame_stands is level frame
      (subst (λ (h : NumberedConfiguration). MayStand searched.lexicon line choices h.at h.entrance (key_at stack level)) (sym here_is)
      (subst (λ key. MayStand searched.lexicon line choices here.at here.entrance key) (sym key_is) stands)))

  -- what stands after the first key of a path
  after_first : (keys : List Key) (level : ℕ) (here : NumberedConfiguration) (key : Key) → AreFrames searched line stack level here (key ∷ keys)
      → (IsPath (ways_in searched line choices) (after searched line here key) keys
      → StandToEnd (rules_in searched) line.letters (after searched line here key).at (supplied (after searched line here key).entrance) keys (drop (level + 1) (steps_in stack)))
      → (Ends searched line choices here key × (keys ≡ [])) ⊎ GoesOn searched line choices here key keys
      → MayStand searched.lexicon line choices here.at here.entrance key
      × StandToEnd (rules_in searched) line.letters (after searched line here key).at (rule_of (rules_in searched) key.rule).v keys (drop (level + 1) (steps_in stack))
  after_first keys level here key frames later (inl (ends, none)) =
      let at = (after searched line here key).at in
      let v = (rule_of (rules_in searched) key.rule).v in
      let count = frames_count (key ∷ keys) level here frames in
      let all = ends.all in
      let lengths = ap length none in
      let no_steps : drop (level + 1) (steps_in stack) ≡ [] =
      drop_all (level + 1) (steps_in stack) (omega (arith, count, lengths, length-take stack.depth stack.steps.items)) in (
        ends.stands,
        subst (λ steps. StandToEnd (rules_in searched) line.letters at v keys steps) (sym no_steps)
            (subst (λ keys. StandToEnd (rules_in searched) line.letters at v keys []) (sym none)
            (none_to_end (rules_in searched) line.letters at v (omega (arith, all)))),
      )
  after_first keys level here key frames later (inr goes) = (
    goes.leads.stands,
    subst (λ lead. StandToEnd (rules_in searched) line.letters (after searched line here key).at lead keys (drop (level + 1) (steps_in stack))) (supplied_v here key)
        (later goes.path),
  )

  -- frames along a path stand to the end of the line
  frames_to_end : IsSearchedLexicon searched → (keys : List Key) (level : ℕ) (here : NumberedConfiguration) → AreFrames searched line stack level here keys
      → IsPath (ways_in searched line choices) here keys
      → StandToEnd (rules_in searched) line.letters here.at (supplied here.entrance) keys (drop level (steps_in stack))
  frames_to_end is [] level here frames path = absurd path
  frames_to_end is (key ∷ keys) level here frames path =
      let count = frames_count (key ∷ keys) level here frames in
      let key_is = frames.3 in
      let both = after_first keys level here key frames (λ path. frames_to_end is keys (level + 1) (after searched line here key) frames.4 path)
      (first_of_path searched line choices here key keys path) in
      subst (λ steps. StandToEnd (rules_in searched) line.letters here.at (supplied here.entrance) (key ∷ keys) steps)
      (sym (steps_from_level level (omega (arith, count)) frames.0))
      (subst (λ key. StandToEnd (rules_in searched) line.letters here.at (supplied here.entrance) (key ∷ keys)
      (step_of stack level ∷ drop (level + 1) (steps_in stack))) key_is
      (first_to_end (rules_in searched) line.letters here.at (supplied here.entrance) (step_of stack level) keys (drop (level + 1) (steps_in stack))
      (stands_here is level here key frames.0 frames.1 key_is both.0)
      (subst (λ (key : Key). StandToEnd (rules_in searched) line.letters (here.at + key.taken + length (rule_of (rules_in searched) key.rule).w)
      (rule_of (rules_in searched) key.rule).v keys (drop (level + 1) (steps_in stack))) (sym key_is) both.1)))

-- the steps in use stand in the line, are some, and are the answer with the keys
pub record StandAsAnswer (searched : SearchedLexicon) (line : Line) (choices : List Choice) (stack : Resumption) (keys : List Key) : Type 0 where
  pub stands : StandIn (rules_in searched) line.letters (steps_in stack)
  pub some : 0 < length (steps_in stack)
  pub answer : IsAnswer searched.lexicon line choices (steps_of (rules_in searched) line.letters (steps_in stack))
  pub same : keys_of (rules_in searched) (steps_of (rules_in searched) line.letters (steps_in stack)) ≡ keys

pub frames_stand : (searched : SearchedLexicon) (line : Line) (choices : List Choice) (stack : Resumption) (keys : List Key)
    → IsSearchedLexicon searched → IsLine line → AreFrames searched line stack 0 opening keys → IsPath (ways_in searched line choices) opening keys
    → StandAsAnswer searched line choices stack keys
frames_stand searched line choices stack keys is line_is frames path =
    let all = frames_to_end searched line choices stack is keys 0 opening frames path in
    let stands : StandIn (rules_in searched) line.letters (steps_in stack) = all.stand in
    let same = sym (same_keys (rules_in searched) line.letters (steps_in stack) stands) ∙ all.same in
    record {
      stands = stands;
      some = some_steps keys path all.same;
      answer = answer_with_keys searched.lexicon line choices (steps_of (rules_in searched) line.letters (steps_in stack)) keys all.covers same
          ((path_from_opening searched line choices is line_is keys).0 path);
      same = same;
    }
  where
    some_steps : (keys : List Key) → IsPath (ways_in searched line choices) opening keys → program.keys_of (steps_in stack) ≡ keys → 0 < length (steps_in stack)
    some_steps [] path same = absurd path
    some_steps (key ∷ keys) path same = let lengths = ap length same in omega (arith, lengths, length-map (steps_in stack) program.key_of)

-- ---- the first path is the next answer

module _ (searched : SearchedLexicon) (line : Line) (choices : List Choice) (is : IsSearchedLexicon searched) (line_is : IsLine line) where
  -- the first path of the search that is wanted is the first from the empty front
  first_from_front : (IsWanted IsAsked : List Key → Type 0) → ((keys : List Key) → IsPath (ways_in searched line choices) opening keys → IsWanted keys → IsAsked keys)
      → ((keys : List Key) → IsPath (ways_in searched line choices) opening keys → IsAsked keys → IsWanted keys) → (keys : List Key)
      → IsFirst (ways_in searched line choices) opening IsWanted keys → IsFirst (ways_of searched.lexicon line choices) [] IsAsked keys
  first_from_front IsWanted IsAsked asked wanted keys first = record {
    path = (path_from_opening searched line choices is line_is keys).0 first.path;
    wanted = asked keys first.path first.wanted;
    least = λ other path_of is_asked.
        let path = (path_from_opening searched line choices is line_is other).1 path_of in
        first.least other path (wanted other path is_asked);
  }

  -- the keys of an answer are a path of the search
  pub path_of : (steps : List Step) → IsAnswer searched.lexicon line choices steps
      → IsPath (ways_in searched line choices) opening (keys_of (rules_in searched) steps)
  path_of steps answer =
      (path_from_opening searched line choices is line_is (keys_of (rules_in searched) steps)).1
      (path_of_answer searched.lexicon line choices steps is.lexicon answer)

  pub next_from_first : (keys : List Key) (answer : List Step) → IsFirst (ways_in searched line choices) opening Every keys
      → IsAnswer searched.lexicon line choices answer → keys_of (rules_in searched) answer ≡ keys → IsNext searched.lexicon line choices BeforeFirst answer
  next_from_first keys answer first answer_is same =
      next_if_first searched.lexicon line choices is.lexicon BeforeFirst answer answer_is
      (subst (λ keys. IsFirst (ways_of searched.lexicon line choices) [] (λ path. Unit {0}) keys) (sym same)
      (first_from_front Every (λ path. Unit {0}) (λ other path wanted. tt) (λ other path asked. tt) keys first))

  pub none_from_first : HasNone searched line choices Every opening → (answer : List Step) → IsAnswer searched.lexicon line choices answer → ⊥
  none_from_first none answer answer_is = none (keys_of (rules_in searched) answer) (path_of answer answer_is) tt

-- ---- the later path is the next answer

-- keys that come after others are greater
pub less_if_after : (earlier keys : List Key) → ComesAfter earlier keys → slice_cmp compare_keys earlier keys ≡ Less
less_if_after [] keys later = absurd later
less_if_after (first ∷ earlier) [] later = absurd later
less_if_after (first ∷ earlier) (key ∷ keys) (inl less) = ap (λ order. ordering_then order (slice_cmp compare_keys earlier keys)) less
less_if_after (first ∷ earlier) (key ∷ keys) (inr (same, later)) =
    ap (λ key. ordering_then (compare_keys first key) (slice_cmp compare_keys earlier keys)) (sym same)
    ∙ ap (λ order. ordering_then order (slice_cmp compare_keys earlier keys)) (tied_itself compare_keys_total first)
    ∙ less_if_after earlier keys later

module _ (searched : SearchedLexicon) (line : Line) (choices : List Choice) where
  -- of two paths from one place the greater comes after the other, since neither begins with the other
  pub after_if_less : (earlier keys : List Key) (here : NumberedConfiguration) → IsPath (ways_in searched line choices) here earlier
      → IsPath (ways_in searched line choices) here keys → slice_cmp compare_keys earlier keys ≡ Less → ComesAfter earlier keys
  after_if_less [] keys here path other less = absurd path
  after_if_less (first ∷ earlier) [] here path other less = absurd other
  after_if_less (first ∷ earlier) (key ∷ keys) here path other less =
      elim (less_then_cases (compare_keys first key) (slice_cmp compare_keys earlier keys) less) [
        | inl before ↦ inl before
        | inr (equal, rest) ↦
            let same : first ≡ key = compare_keys_exact first key equal in
            let other_first : IsPath (ways_in searched line choices) here (first ∷ keys) =
            subst (λ key. IsPath (ways_in searched line choices) here (key ∷ keys)) (sym same) other in
            inr (
              same,
              elim (first_of_path searched line choices here first earlier path) [
                | inl ends ↦ elim (first_of_path searched line choices here first keys other_first) [
                  | inl alone ↦ absurd (no_less earlier keys ends.1 alone.1 rest)
                  | inr goes ↦ absurd (not_both searched line choices here first ends.0 goes.leads)
                ]
                | inr leads ↦ elim (first_of_path searched line choices here first keys other_first) [
                  | inl alone ↦ absurd (not_both searched line choices here first alone.0 leads.leads)
                  | inr goes ↦ after_if_less earlier keys (after searched line here first) leads.path goes.path rest
                ]
              ],
            )
      ]
    where
      no_less : (earlier keys : List Key) → earlier ≡ [] → keys ≡ [] → slice_cmp compare_keys earlier keys ≡ Less → ⊥
      no_less [] [] none nothing less = cc
      no_less [] (key ∷ keys) none nothing less = absurd (cc)
      no_less (first ∷ earlier) keys none nothing less = absurd (cc)

module _ (searched : SearchedLexicon) (line : Line) (choices : List Choice) (is : IsSearchedLexicon searched) (line_is : IsLine line)
    (here : List Step) (here_is : IsAnswer searched.lexicon line choices here) (earlier : List Key) (earlier_is : keys_of (rules_in searched) here ≡ earlier) where
  earlier_path : IsPath (ways_in searched line choices) opening earlier
  earlier_path = subst (IsPath (ways_in searched line choices) opening) earlier_is (path_of searched line choices is line_is here here_is)

  -- the path is above that of the answer
  IsLater : List Key → Type 0
  IsLater keys = slice_cmp compare_keys (keys_of (rules_in searched) here) keys ≡ Less

  later_if_after : (keys : List Key) → ComesAfter earlier keys → IsLater keys
  unfolding IsLater
  later_if_after keys later = ap (λ earlier. slice_cmp compare_keys earlier keys) earlier_is ∙ less_if_after earlier keys later

  after_if_later : (keys : List Key) → IsPath (ways_in searched line choices) opening keys → IsLater keys → ComesAfter earlier keys
  unfolding IsLater
  after_if_later keys path later =
      after_if_less searched line choices earlier keys opening earlier_path path
      (sym (ap (λ earlier. slice_cmp compare_keys earlier keys) earlier_is) ∙ later)

  pub next_from_later : (keys : List Key) (answer : List Step) → IsFirst (ways_in searched line choices) opening (ComesAfter earlier) keys
      → IsAnswer searched.lexicon line choices answer → keys_of (rules_in searched) answer ≡ keys → IsNext searched.lexicon line choices (AtAnswer here) answer
  unfolding IsLater
  next_from_later keys answer first answer_is same =
      next_if_first searched.lexicon line choices is.lexicon (AtAnswer here) answer answer_is
      (subst (λ keys. IsFirst (ways_of searched.lexicon line choices) [] IsLater keys) (sym same)
      (first_from_front searched line choices is line_is (ComesAfter earlier) IsLater (λ other path wanted. later_if_after other wanted) after_if_later keys first))

  pub none_from_later : HasNone searched line choices (ComesAfter earlier) opening → (answer : List Step)
      → IsAnswer searched.lexicon line choices answer → IsAbove (rules_in searched) (AtAnswer here) answer → ⊥
  unfolding IsLater
  none_from_later none answer answer_is above =
      let path = path_of searched line choices is line_is answer answer_is in
      none (keys_of (rules_in searched) answer) path (after_if_later (keys_of (rules_in searched) answer) path above)

-- ---- frames along a front of a path

module _ (searched : SearchedLexicon) (line : Line) (choices : List Choice) where
  -- each key of a path but the last leads on
  pub along_path : (keys : List Key) (here : NumberedConfiguration) → IsPath (ways_in searched line choices) here keys → LeadAlong searched line choices here keys
  along_path [] here path = path
  along_path (key ∷ []) here path = tt
  along_path (key ∷ later ∷ keys) here (next, (leads, same), path) =
      (leads, along_path (later ∷ keys) (after searched line here key) (subst (λ next. IsPath (ways_in searched line choices) next (later ∷ keys)) same path))

  -- and so does each of its first keys but the last of them
  pub along_front : (n : ℕ) (keys : List Key) (here : NumberedConfiguration) → LeadAlong searched line choices here keys → 1 ≤ n
      → LeadAlong searched line choices here (take n keys)
  along_front zero keys here along some = absurd (omega arith)
  along_front (suc n) [] here along some = along
  along_front (suc zero) (key ∷ keys) here along some = tt
  along_front (suc (suc n)) (key ∷ []) here along some = tt
  along_front (suc (suc n)) (key ∷ later ∷ keys) here along some =
      (along.0, along_front (suc n) (later ∷ keys) (after searched line here key) along.1 (omega arith))

-- the stack with so many frames in use
abbrev pub with_depth : ℕ → Resumption → Resumption
with_depth depth stack =
    record { cursor = stack.cursor; depth = depth; steps = stack.steps; frames = stack.frames; nodes = stack.nodes }

-- where only the first frames stay in use they stand along the first keys
pub frames_front : (searched : SearchedLexicon) (line : Line) (stack : Resumption) (depth n : ℕ) (keys : List Key) (level : ℕ) (here : NumberedConfiguration)
    → AreFrames searched line stack level here keys → n ≤ length keys → depth ≡ level + n
    → AreFrames searched line (with_depth depth stack) level here (take n keys)
frames_front searched line stack depth zero keys level here frames most is = omega (arith, is)
frames_front searched line stack depth (suc n) [] level here frames most is = absurd (omega (arith, most))
frames_front searched line stack depth (suc n) (key ∷ keys) level here frames most is = (
  record {
    is_stack = record { steps = frames.0.is_stack.steps; nodes = frames.0.is_stack.nodes };
    there = frames.0.there;
    within = frames.0.within;
    lead = frames.0.lead;
  },
  frames.1,
  frames.2,
  frames.3,
  frames_front searched line stack depth n keys (level + 1) (after searched line here key) frames.4 (omega (arith, most)) (omega (arith, is)),
)
