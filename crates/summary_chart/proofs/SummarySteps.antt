-- A pass takes as many steps for each set of the table at most, which is within the bound, since four such passes are.
use Rattle.std.proofs.Common.{◌≡◌, ℕ, ◌+◌, ◌*◌, ◌≤◌, length, ap, sym, subst, arith}
use Rattle.std.proofs.Math.Nat.{mul-le-mul_left, mul-le-mul_right}
use Rattle.text_definitions.specs.Lines.{Line}
use Rattle.lexicon_definitions.specs.declared.limits.TheConstants.{MOST_PHASES, MOST_RULE_LETTERS}
use Rattle.segmentation_definitions.specs.StepBounds.{chart_bound, configuration_count}
use Rattle.annotated_trie.specs.Searched.{SearchedLexicon, IsSearchedLexicon}
use Rattle.search_frames.specs.declared.frame.TheConstants.{NODES_OF_FRAME}
use Rattle.search_frames.specs.declared.way.TheConstants.{MOST_WAYS}
use Rattle.search_frames.specs.Configurations.{rules_in}
use Rattle.summary_chart.specs.Spreading.{leads_in}
use Rattle.summary_chart.specs.Charts.{set_count}
use Rattle.summary_chart.specs.Summaries.{steps_after_first, steps_of_front, steps_of_fronts, steps_of_items, steps_of_summary}
use Rattle.summary_chart.proofs.PassCosts.{frame_and_skip, one_frame_more}

-- four times what a place takes is at most 96 steps for each look
place_within : (phases most : ℕ) → 4 * (phases * (1 + (8 + 65 + 65 * (3 * most + 6)))) ≤ 96 * (phases * 65 * (most + 1))
place_within phases most =
    let each : 4 * (1 + (8 + 65 + 65 * (3 * most + 6))) ≤ 96 * (65 * (most + 1)) = omega arith in
    let all = mul-le-mul_left phases each in
    let four : phases * (4 * (1 + (8 + 65 + 65 * (3 * most + 6)))) ≡ 4 * (phases * (1 + (8 + 65 + 65 * (3 * most + 6)))) = omega arith in
    let looks : phases * (96 * (65 * (most + 1))) ≡ 96 * (phases * 65 * (most + 1)) = omega arith in
    omega (arith, all, four, looks)

all_within : (sets place looks : ℕ) → 4 * place ≤ 96 * looks → 4 * (sets * place) ≤ 3 * looks * (sets * 32)
all_within sets place looks few =
    let all = mul-le-mul_left sets few in
    let four : sets * (4 * place) ≡ 4 * (sets * place) = omega arith in
    let same : sets * (96 * looks) ≡ 96 * (looks * sets) = omega arith in
    let bound : 3 * looks * (sets * 32) ≡ 96 * (looks * sets) = omega arith in
    omega (arith, all, four, same, bound)

-- one front more, and one phase more
pub one_more_within : (start count each now then : ℕ) → now ≤ start + count * each → then ≤ now + each → then ≤ start + (count + 1) * each
one_more_within start count each now then spent more = one_frame_more start count each now then spent more

-- to find the fronts of all phases, and to walk on from each, takes no more than there is for the phases
pub alike_within : (names most : ℕ) → names ≤ MOST_PHASES
    → names * (1 + MOST_RULE_LETTERS + names) + names * steps_after_first most ≤ names * (1 + steps_of_fronts most)
alike_within names most few =
    let each : 1 + 8 + names + (1 + 65 * (6 + 2 * most)) ≤ 1 + (8 + 65 + 65 * (3 * most + 6)) = omega (arith, few) in
    let all = mul-le-mul_left names each in
    omega (arith, all)

-- one level more of fronts that are no more than the phases, each of which takes its steps and, where it was walked, one to be kept
pub one_level_more : (names most count start now walked fronts then more : ℕ) → fronts ≤ names → now + walked ≤ start + count * (names * (6 + 2 * most))
    → then ≤ now + fronts * (5 + 2 * most) → more ≤ walked + fronts → then + more ≤ start + (count + 1) * (names * (6 + 2 * most))
one_level_more names most count start now walked fronts then more few spent steps longer =
    let all = mul-le-mul_right (6 + 2 * most) few in
    omega (arith, spent, steps, longer, all)

-- to find the fronts of all phases and to go over all levels takes no more than there is for the phases
pub levels_within : (names most count start now walked : ℕ) → names ≤ MOST_PHASES → count ≤ NODES_OF_FRAME
    → now + walked ≤ start + names * (1 + MOST_RULE_LETTERS + names) + count * (names * (6 + 2 * most)) → now + walked ≤ start + names * (1 + steps_of_fronts most)
levels_within names most count start now walked few low spent =
    let levels = mul-le-mul_right (names * (6 + 2 * most)) low in
    let all = alike_within names most few in
    omega (arith, spent, levels, all)

-- fewer fronts, or phases, than there are take no more
pub fewer_within : (count all each : ℕ) → count ≤ all → count * each ≤ all * each
fewer_within count all each few = mul-le-mul_right each few

-- the fronts of earlier phases are few, so to look at them and to go over those of one phase takes no more than a walk and fronts
pub phase_within : (searched : SearchedLexicon) (most fronts : ℕ) → IsSearchedLexicon searched → fronts ≤ length (rules_in searched).names
    → fronts + steps_after_first most ≤ NODES_OF_FRAME + NODES_OF_FRAME * steps_of_front most
phase_within searched most fronts is few =
    let names : length (rules_in searched).names ≤ MOST_PHASES = is.limits.phases in
    omega (arith, few, names)

-- a place takes more than three steps for each of as many ways as are kept from one, since there is a phase
pub ways_within : (searched : SearchedLexicon) (most count : ℕ) → IsSearchedLexicon searched → count ≤ MOST_WAYS → 3 * count ≤ steps_of_items searched most
ways_within searched most count is few =
    let one : 1 ≤ length (rules_in searched).names = is.limits.some_phase in
    let all : 1 * (1 + (8 + 65 + 65 * (3 * most + 6))) ≤ length (rules_in searched).names * (1 + (8 + 65 + 65 * (3 * most + 6))) =
    mul-le-mul_right (1 + (8 + 65 + 65 * (3 * most + 6))) one in
    omega (arith, all, few)

module _ (searched : SearchedLexicon) (line : Line) (most : ℕ) where
  -- one place more
  pub place_and_skip : (index next start now then : ℕ) → index + 1 ≤ next → now ≤ start + index * steps_of_items searched most
      → then ≤ now + steps_of_items searched most → then ≤ start + next * steps_of_items searched most
  place_and_skip index next start now then rises spent more = frame_and_skip start index next (steps_of_items searched most) now then rises spent more

  -- as many places as there are sets at most
  pub places_within : (index start now : ℕ) → index ≤ set_count searched line → now ≤ start + index * steps_of_items searched most
      → now ≤ start + steps_of_summary searched line most
  places_within index start now low spent =
      let all : index * steps_of_items searched most ≤ set_count searched line * steps_of_items searched most = mul-le-mul_right (steps_of_items searched most) low in
      omega (arith, spent, all)

  -- and where each place is gone over twice
  pub places_twice : (index start now : ℕ) → index ≤ set_count searched line → now ≤ start + index * (2 * steps_of_items searched most)
      → now ≤ start + 2 * steps_of_summary searched line most
  places_twice index start now low spent =
      let all : index * (2 * steps_of_items searched most) ≤ set_count searched line * (2 * steps_of_items searched most) =
      mul-le-mul_right (2 * steps_of_items searched most) low in
      let twice : set_count searched line * (2 * steps_of_items searched most) ≡ 2 * (set_count searched line * steps_of_items searched most) = omega arith in
      omega (arith, spent, all, twice)

  -- four passes take less than all looks
  four_within : IsSearchedLexicon searched
      → 4 * steps_of_summary searched line most ≤ chart_bound searched.lexicon most (length line.letters) (length (leads_in searched))
  four_within is =
      let phases = length (rules_in searched).names in
      let leads = length (leads_in searched) in
      let looks = phases * 65 * (most + 1) in
      let place = place_within phases most in
      let all = all_within ((length line.letters + 1) * (leads + 51)) (steps_of_items searched most) looks place in
      let count : length searched.lexicon.phases ≡ phases = is.lexicon.count in
      let same_looks = ap (λ (n : ℕ). n * 65 * (most + 1)) count in
      let width : leads + 51 ≡ 51 + leads = omega arith in
      subst (λ (n : ℕ). 4 * steps_of_summary searched line most ≤ 3 * n * configuration_count (length line.letters) leads) (sym same_looks)
      (subst (λ (n : ℕ). 4 * steps_of_summary searched line most ≤ 3 * looks * ((length line.letters + 1) * n * 32)) width all)

  pub passes_within : (start now : ℕ) → IsSearchedLexicon searched → now ≤ start + 4 * steps_of_summary searched line most
      → now ≤ start + chart_bound searched.lexicon most (length line.letters) (length (leads_in searched))
  passes_within start now is spent = (let bound = four_within is in omega (arith, spent, bound))

  pub summary_within : (start now : ℕ) → IsSearchedLexicon searched → now ≤ start + steps_of_summary searched line most
      → now ≤ start + chart_bound searched.lexicon most (length line.letters) (length (leads_in searched))
  summary_within start now is spent = (let bound = four_within is in omega (arith, spent, bound))
