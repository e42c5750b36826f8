-- A text with dots at the places 1 and 4 falls into three parts there.
use Rattle.std.proofs.Common.{◌≡◌, ℕ, ◌-◌, ◌≤◌, List, [], ◌∷◌, length, get_or, take, drop, refl, ap, ◌∙◌, arith}
use Rattle.std.proofs.lemmas.List.{take_rest}
use Rattle.lexicon_definitions.specs.Tags.{before_dot}

parts : (text : List ℕ) → 8 ≤ length text → get_or text 1 0 ≡ 46 → get_or text 4 0 ≡ 46
    → before_dot (take 1 text) (before_dot (take 2 (drop 2 text)) (drop 5 text)) ≡ text
parts (a ∷ b ∷ c ∷ d ∷ e ∷ rest) least dot other = rw (dot, other) refl
parts (a ∷ b ∷ c ∷ d ∷ []) least dot other = absurd (omega arith)
parts (a ∷ b ∷ c ∷ []) least dot other = absurd (omega arith)
parts (a ∷ b ∷ []) least dot other = absurd (omega arith)
parts (a ∷ []) least dot other = absurd (omega arith)
parts [] least dot other = absurd (omega arith)

-- the last part as a slice to the end has it
pub placed_parts : (text : List ℕ) → 8 ≤ length text → get_or text 1 0 ≡ 46 → get_or text 4 0 ≡ 46
    → before_dot (take 1 text) (before_dot (take 2 (drop 2 text)) (take (length text - 5) (drop 5 text))) ≡ text
placed_parts text least dot other =
    ap (λ rest. before_dot (take 1 text) (before_dot (take 2 (drop 2 text)) rest)) (take_rest text 5)
    ∙ parts text least dot other
