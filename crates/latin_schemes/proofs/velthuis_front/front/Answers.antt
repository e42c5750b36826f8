-- No spelling begins the empty text; where there is a byte, the check computes the fronts of one to three bytes.
use Rattle.std.proofs.Common.{◌≡◌, ℕ, ◌<◌, List, [], ◌∷◌, length, None, arith, refl}
use Rattle.text_definitions.specs.Velthuis.{velthuis_table, velthuis_capital, velthuis_letter, velthuis_front}
use Rattle.latin_schemes.proofs.velthuis_front.front.Goals as goal

front_of_none : (text : List ℕ) → length text < 1 → None ≡ velthuis_front text
unfolding velthuis_table velthuis_capital velthuis_letter velthuis_front
front_of_none [] h = refl
front_of_none (byte ∷ text) h = absurd (omega arith)

pub returns-in_default-clause-value : goal.returns-in_default-clause-value
returns-in_default-clause-value c = front_of_none c.args.text.now c.in_default.len_below
