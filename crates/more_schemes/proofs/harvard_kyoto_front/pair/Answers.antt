-- Two bytes of which the first begins no spelling spell no letter.
use Rattle.std.proofs.Common.{rules}
use Rattle.more_schemes.proofs.SpelledBytes.{no_harvard_kyoto_pair}
use Rattle.more_schemes.proofs.harvard_kyoto_front.pair.Goals as goal

pub returns-in_default-14 : goal.returns-in_default-14
returns-in_default-14 c = record { value = no_harvard_kyoto_pair c.args.first c.args.second (search rules) }
