-- No spelling begins the empty text; where there is a byte, the check computes the fronts of one to four bytes.
use Rattle.std.proofs.Common.{◌≡◌, ℕ, ◌<◌, List, [], ◌∷◌, length, None, arith, refl}
use Rattle.more_scheme_definitions.specs.Iast.{iast_front}
use Rattle.more_scheme_definitions.proofs.IastTable.{iast_bytes}
use Rattle.more_schemes.proofs.iast_front.front.Goals as goal

front_of_none : (text : List ℕ) → length text < 1 → None ≡ iast_front text
unfolding iast_bytes iast_front
front_of_none [] h = refl
front_of_none (byte ∷ text) h = absurd (omega arith)

pub returns-in_default-clause-value : goal.returns-in_default-clause-value
returns-in_default-clause-value c = front_of_none c.args.text.now c.in_default.len_below
