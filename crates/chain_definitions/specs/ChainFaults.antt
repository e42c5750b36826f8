-- Why a text is not read as a chain (own).
use Rattle.std.specs.Prelude.{ℕ}

-- the text has not the shape of one; a name is that of no phase; the phase has not the form; no rule has these words; the
-- rule does not allow the phases; or two forms do not meet so
pub data Why : Type 0 where
  Shape : Why
  Phase : Why
  Form : Why
  Rule : Why
  Barred : Why
  Meet : Why

-- the step at fault, counted from 1, or 0 where the shape is; and the reason
pub record Fault : Type 0 where
  pub step : ℕ
  pub why : Why
