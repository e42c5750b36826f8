-- The set of the phases after an unlimited rule, by cases of its v.
use Rattle.std.proofs.Common.{◌≡◌, ◌≢◌, ℕ, ◌<◌, ◌^◌, ◌↔◌, List, [], ◌∷◌, refl, arith}
use Rattle.std.proofs.Math.Pow.{ones_lt}
use Rattle.std.proofs.lemmas.Nat.{pow_pos}
use Rattle.lexicon_definitions.specs.Rules.{all_phases, phases_after}
use Rattle.lexicon_definitions.proofs.WrittenRules.{some_phases}

pub after_within_by : (count : ℕ) (v : List ℕ) → phases_after count v < 2 ^ count
after_within_by count [] = pow_pos count
after_within_by count (letter ∷ v) = ones_lt count

pub after_none_by : (count : ℕ) (v : List ℕ) → 0 < count → (phases_after count v ≡ 0) ↔ (v ≡ [])
after_none_by count [] n = (λ e. refl, λ e. refl)
after_none_by count (letter ∷ v) n = (λ e. let some = some_phases count n in absurd (omega arith), λ e. absurd (cc))

pub unlimited_by : (count : ℕ) (v : List ℕ) → v ≢ [] → phases_after count v ≡ all_phases count
unlimited_by count [] n = absurd (n refl)
unlimited_by count (letter ∷ v) n = refl
