-- No spelling begins the empty text; where there is a byte, the check computes the fronts of one and two bytes.
use Rattle.std.proofs.Common.{◌≡◌, ℕ, ◌<◌, List, [], ◌∷◌, length, None, arith, refl}
use Rattle.more_scheme_definitions.specs.HarvardKyoto.{harvard_kyoto_table, harvard_kyoto_letter, harvard_kyoto_front}
use Rattle.more_schemes.proofs.harvard_kyoto_front.front.Goals as goal

front_of_none : (text : List ℕ) → length text < 1 → None ≡ harvard_kyoto_front text
unfolding harvard_kyoto_table harvard_kyoto_letter harvard_kyoto_front
front_of_none [] h = refl
front_of_none (byte ∷ text) h = absurd (omega arith)

pub returns-in_default-clause-value : goal.returns-in_default-clause-value
returns-in_default-clause-value c = front_of_none c.args.text.now c.in_default.len_below
