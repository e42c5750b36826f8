-- What a move spends, level by level: under an exact guide nothing is found only where the guide says so, so each frame that a
-- move leaves stood when it began, and each that it enters stands when it ends; there are at most twice as many of either as
-- letters, and each takes one turn.
use Rattle.std.proofs.Common.{◌≡◌, ℕ, ◌+◌, ◌-◌, ◌*◌, ◌<◌, ◌≤◌, Bool, true, false, Option, List, [], ◌∷◌, length, ap, ◌∙◌, subst, arith, add-one}
use Rattle.std.specs.Bool.{OnTrue, OnFalse}
use Rattle.std.proofs.Math.Nat.{add-mul, suc-mul, mul_assoc, mul-le-mul_left, mul-le-mul_right}
use Rattle.text_definitions.specs.Lines.{Line, IsLine}
use Rattle.segmentation_definitions.specs.Items.{Choice}
use Rattle.segmentation_definitions.specs.Listings.{Key}
use Rattle.segmentation_definitions.specs.StepBounds.{looks_at_one, advance_bound}
use Rattle.derivation.specs.declared.entrance.Entrance.{Entrance}
use Rattle.annotated_trie.specs.Searched.{SearchedLexicon, IsSearchedLexicon}
use Rattle.search_frames.specs.declared.resumption.Resumption.{Resumption}
use Rattle.search_frames.specs.Configurations.{NumberedConfiguration, after, opening}
use Rattle.search_frames.specs.Reached.{rank}
use Rattle.search_frames.specs.Costs.{HasAtMostRules, steps_of_frame}
use Rattle.search_frames.proofs.FrameCosts.{some_steps, steps_within}
use Rattle.search_frames.proofs.ConfigurationRanks.{rank_rises, rank_within}
use Rattle.segmenter.specs.Chains.{LeadAlong}
use Rattle.segmenter.specs.Searches.{SearchValue, StandsAtAnswer}
use Rattle.segmenter.specs.MoveCosts.{AreKnownExact, steps_of_levels, levels_from, levels_after}
use Rattle.segmenter.proofs.FramesAlong.{frames_count}
use Rattle.segmenter.proofs.SearchStacks.{path_leads_along}

-- what holds in each case holds
pub either_way : {P Q R : Type 0} (b : Bool) → (P → R) → (Q → R) → OnTrue b P → OnFalse b Q → R
either_way true f g p q = f p
either_way false f g p q = g q

pub found_only : {P : Type 0} (b : Bool) → b ≡ true → OnTrue b P → P
found_only true is_true p = p
found_only false is_true p = absurd (cc)

-- ---- levels

more_levels : (cost m n : ℕ) → m ≤ n → m * cost ≤ n * cost
more_levels cost m n le = mul-le-mul_right cost le

one_level : (cost m n : ℕ) → n ≡ m + 1 → n * cost ≡ m * cost + cost
one_level cost m n is = ap (λ (k : ℕ). k * cost) (is ∙ add-one m) ∙ suc-mul m cost

-- a frame is opened and a path is found from it: its levels are one more than those after it
pub found_opened : (cost bound here start now : ℕ) → here ≤ bound → now ≤ start + cost + (bound - here) * cost → now ≤ start + (bound + 1 - here) * cost
found_opened cost bound here start now within found =
    let one = one_level cost (bound - here) (bound + 1 - here) (omega (arith, within)) in
    omega (arith, found, one)

-- a path is found below a key of the frame: its levels are fewer than those after this one
pub found_below : (cost bound here next start key now : ℕ) → here < next → key ≤ start + cost → now ≤ key + (bound + 1 - next) * cost
    → now ≤ start + cost + (bound - here) * cost
found_below cost bound here next start key now rises went found =
    let fewer = more_levels cost (bound + 1 - next) (bound - here) (omega (arith, rises)) in
    omega (arith, went, found, fewer)

-- nothing was found from the frame below on, and the one before it takes one turn
module _ (cost depth level below start mid now : ℕ) (more : level < below) (in_use : below ≤ depth) (spent : mid ≤ start + (depth - below) * cost) where
  pub later_none_costs : now ≤ mid + cost → now ≤ start + (depth - (below - 1)) * cost
  later_none_costs found =
      let one = one_level cost (depth - below) (depth - (below - 1)) (omega (arith, more, in_use)) in
      omega (arith, spent, found, one)

  pub later_found_costs : (levels most : ℕ) → levels ≤ most → now ≤ mid + cost + levels * cost → now ≤ start + (depth - level + most) * cost
  later_found_costs levels most few found =
      let one = one_level cost (depth - below) (depth - (below - 1)) (omega (arith, more, in_use)) in
      let all = add-mul (depth - (below - 1)) levels cost in
      let fewer = more_levels cost (depth - (below - 1) + levels) (depth - level + most) (omega (arith, more, few)) in
      omega (arith, spent, found, one, all, fewer)

-- ---- frames

module _ (searched : SearchedLexicon) (line : Line) (choices : List Choice) (is : IsSearchedLexicon searched) where
  -- keys along which each leads on are no more than the ranks
  few_keys : (keys : List Key) (here : NumberedConfiguration) → LeadAlong searched line choices here keys → rank here ≤ 2 * length line.letters
      → rank here + length keys ≤ 2 * length line.letters + 1
  few_keys [] here along within = absurd along
  few_keys (key ∷ []) here along within = omega (arith, within)
  few_keys (key ∷ next ∷ keys) here along within =
      let rises = rank_rises searched line choices here key is along.0 in
      let later = few_keys (next ∷ keys) (after searched line here key) along.1 (rank_within searched line choices here key along.0) in
      omega (arith, rises, later)

  -- so an answer has no more frames than twice the letters
  pub few_frames : IsLine line → (stack : Resumption) → StandsAtAnswer searched line choices stack → stack.depth ≤ 2 * length line.letters
  few_frames line_is stack stands =
      let some = line_is.not_empty in
      let count = frames_count searched line stack stands.keys 0 opening stands.frames in
      let few = few_keys stands.keys opening (path_leads_along searched line choices stands.keys opening stands.path) (omega (arith, some)) in
      omega (arith, count, few)

  -- ---- whole moves

  -- from the opening there are twice as many levels as letters
  pub first_move : (most steps now : ℕ) → IsLine line → (here : NumberedConfiguration) → here ≡ opening
      → now ≤ steps + 1 + steps_of_levels searched most (levels_from line here) → now ≤ steps + steps_of_levels searched most (4 * length line.letters)
  first_move most steps now line_is here here_is found =
      let cost = steps_of_frame searched most in
      let count = length line.letters in
      let some = line_is.not_empty in
      let one = some_steps searched most is.limits.some_phase in
      let at_first = subst (λ h. now ≤ steps + 1 + steps_of_levels searched most (levels_from line h)) here_is found in
      let less = more_levels cost (2 * count + 1 - 1) (2 * count) (omega arith) in
      let all = add-mul (2 * count) (2 * count) cost in
      let whole : 1 * cost ≤ 2 * count * cost = more_levels cost 1 (2 * count) (omega (arith, some)) in
      let double : 4 * count * cost ≡ (2 * count + 2 * count) * cost = ap (λ (n : ℕ). n * cost) (omega arith) in
      omega (arith, at_first, less, all, whole, double, one)

  pub no_first_move : (most steps now : ℕ) → IsLine line → now ≤ steps + 1 → now ≤ steps + steps_of_levels searched most (4 * length line.letters)
  no_first_move most steps now line_is found =
      let cost = steps_of_frame searched most in
      let count = length line.letters in
      let some = line_is.not_empty in
      let one = some_steps searched most is.limits.some_phase in
      let whole : 1 * cost ≤ 4 * count * cost = more_levels cost 1 (4 * count) (omega (arith, some)) in
      omega (arith, found, whole, one)

  -- from an answer those of its frames are left, and then as many entered
  pub later_move : (most steps now depth : ℕ) (here : NumberedConfiguration) → here ≡ opening → depth ≤ 2 * length line.letters
      → now ≤ steps + steps_of_levels searched most (depth - 0 + levels_after line here) → now ≤ steps + steps_of_levels searched most (4 * length line.letters)
  later_move most steps now depth here here_is few found =
      let count = length line.letters in
      let at_first = subst (λ h. now ≤ steps + steps_of_levels searched most (depth - 0 + levels_after line h)) here_is found in
      let less = more_levels (steps_of_frame searched most) (depth - 0 + (2 * count - 1)) (4 * count) (omega (arith, few)) in
      omega (arith, at_first, less)

  pub no_later_move : (most steps now depth : ℕ) → depth ≤ 2 * length line.letters → now ≤ steps + steps_of_levels searched most (depth - 0)
      → now ≤ steps + steps_of_levels searched most (4 * length line.letters)
  no_later_move most steps now depth few found =
      let less = more_levels (steps_of_frame searched most) (depth - 0) (4 * length line.letters) (omega (arith, few)) in
      omega (arith, found, less)

  -- four times the letters, each a frame, are within the bound
  pub move_within : (most steps now : ℕ) → now ≤ steps + steps_of_levels searched most (4 * length line.letters)
      → now ≤ steps + advance_bound searched.lexicon most (length line.letters)
  move_within most steps now found =
      let cost = steps_of_frame searched most in
      let looks = looks_at_one searched.lexicon most in
      let count = length line.letters in
      let each = steps_within searched most is.lexicon.count in
      let all : 4 * count * cost ≤ 4 * count * (3 * looks) = mul-le-mul_left (4 * count) each in
      let apart = mul_assoc (4 * count) 3 looks in
      let same : 4 * count * 3 * looks ≡ 12 * count * looks = ap (λ (n : ℕ). n * looks) (omega arith) in
      omega (arith, found, all, apart, same)

-- ---- what contracts see of a move

-- where each guide of which this is known is exact, and no node has more choices than most, so many steps more than before are
-- within the bound
abbrev pub CostsAtMost : (Guide : Type 0) → (Guide → SearchedLexicon → Line → List Choice → Type 0) → (Guide → ℕ → Entrance → Option ℕ → Bool) → SearchValue
    → ℕ → ℕ → Type 0
CostsAtMost Guide known says search before now =
    AreKnownExact Guide known says search → (most : ℕ) → HasAtMostRules search.searched.tries most
    → now ≤ before + advance_bound search.searched.lexicon most (length search.line.letters)
