-- A spelling of four bytes has no longer one, and there is none of no byte.
use Rattle.std.proofs.Common.{arith}
use Rattle.more_scheme_definitions.proofs.IastTable.{iast_not_lengthened}
use Rattle.more_schemes.proofs.iast_front.is_lengthened.Goals as goal

pub returns-in_default : goal.returns-in_default
returns-in_default c = grind (arith, iast_not_lengthened)

pub returns-in_default-2 : goal.returns-in_default-2
returns-in_default-2 c = grind (arith, iast_not_lengthened)
