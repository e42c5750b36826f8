-- Two bytes of which the first begins no spelling spell no letter.
use Rattle.std.proofs.Common.{rules}
use Rattle.more_schemes.proofs.SpelledBytes.{no_pair}
use Rattle.more_schemes.proofs.iast_front.pair.Goals as goal

pub returns-in_default-13 : goal.returns-in_default-13
returns-in_default-13 c = record { value = no_pair c.args.first c.args.second (search rules) }
