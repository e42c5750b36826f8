-- What a frame takes is bounded by the looks of the definitions.
use Rattle.std.proofs.Common.{◌≡◌, ℕ, ◌+◌, ◌*◌, ◌<◌, ◌≤◌, length, ap, arith}
use Rattle.std.proofs.Math.Nat.{mul_assoc, mul-le-mul_left, mul-le-mul_right}
use Rattle.segmentation_definitions.specs.StepBounds.{looks_at_one}
use Rattle.annotated_trie.specs.Searched.{SearchedLexicon}
use Rattle.search_frames.specs.Configurations.{rules_in}
use Rattle.search_frames.specs.Costs.{steps_of_phase, steps_of_frame}

-- a frame takes a step at least where there is a phase, and at most three for each look
pub some_steps : (searched : SearchedLexicon) (most : ℕ) → 0 < length (rules_in searched).names → 1 ≤ steps_of_frame searched most
some_steps searched most some =
    let one : 1 * steps_of_phase most ≤ length (rules_in searched).names * steps_of_phase most = mul-le-mul_right (steps_of_phase most) some in
    omega (arith, one)

pub steps_within : (searched : SearchedLexicon) (most : ℕ) → length searched.lexicon.phases ≡ length (rules_in searched).names
    → steps_of_frame searched most ≤ 3 * looks_at_one searched.lexicon most
steps_within searched most count =
    let phases = length searched.lexicon.phases in
    let each : steps_of_phase most ≤ 3 * (65 * (most + 1)) = omega arith in
    let all : phases * steps_of_phase most ≤ phases * (3 * (65 * (most + 1))) = mul-le-mul_left phases each in
    let same = ap (λ (n : ℕ). n * steps_of_phase most) count in
    let looks = mul_assoc phases 65 (most + 1) in
    let three = mul_assoc phases 3 (65 * (most + 1)) in
    let other : phases * 3 ≡ 3 * phases = omega arith in
    let back : 3 * phases * (65 * (most + 1)) ≡ 3 * (phases * (65 * (most + 1))) = mul_assoc 3 phases (65 * (most + 1)) in
    let turned = ap (λ (n : ℕ). n * (65 * (most + 1))) other in
    omega (arith, all, same, looks, three, turned, back)
