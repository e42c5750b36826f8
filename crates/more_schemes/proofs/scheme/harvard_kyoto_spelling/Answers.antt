-- The entry of the static table is the entry of the scheme's table at the same place, and none is empty.
use Rattle.std.proofs.Common.{◌-◌, ◌<◌, [], length, get_or, subst, sym, ap}
use Rattle.more_scheme_definitions.specs.HarvardKyoto.{harvard_kyoto_table}
use Rattle.more_scheme_definitions.proofs.HarvardKyotoTable.{harvard_kyoto_some}
use Rattle.more_schemes.proofs.Entries.{entry_now}
use Rattle.more_schemes.proofs.scheme.harvard_kyoto_spelling.Goals as goal

pub returns-clause-value : goal.returns-clause-value
unfolding harvard_kyoto_table
returns-clause-value c = rw entry_now (ap (λ code. get_or harvard_kyoto_table (code - 1) []) c.code.ensures.value)

pub returns-clause-length : goal.returns-clause-length
unfolding harvard_kyoto_table
returns-clause-length c =
    rw entry_now (subst (λ code. 0 < length (get_or harvard_kyoto_table (code - 1) [])) (sym c.code.ensures.value) (harvard_kyoto_some c.args.letter c.code.ensures.letter))
