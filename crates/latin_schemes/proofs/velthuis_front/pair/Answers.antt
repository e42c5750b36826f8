-- Two bytes of which the first begins no spelling spell no letter.
use Rattle.std.proofs.Common.{rules}
use Rattle.latin_schemes.proofs.VelthuisCodes.{no_pair}
use Rattle.latin_schemes.proofs.velthuis_front.pair.Goals as goal

pub returns-in_default-15 : goal.returns-in_default-15
returns-in_default-15 c = record { value = no_pair c.args.first c.args.second (search rules) }
