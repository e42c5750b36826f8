-- Three bytes that are none of the spellings spell no letter.
use Rattle.std.proofs.Common.{rules}
use Rattle.more_schemes.proofs.SpelledBytes.{no_triple}
use Rattle.more_schemes.proofs.iast_front.triple.Goals as goal

pub returns-in_default : goal.returns-in_default
returns-in_default c = record { value = no_triple c.args.first c.args.second c.args.third (search rules) }

pub returns-in_default-2 : goal.returns-in_default-2
returns-in_default-2 c = record { value = no_triple c.args.first c.args.second c.args.third (search rules) }

pub returns-in_default-3 : goal.returns-in_default-3
returns-in_default-3 c = record { value = no_triple c.args.first c.args.second c.args.third (search rules) }

pub returns-in_default-4 : goal.returns-in_default-4
returns-in_default-4 c = record { value = no_triple c.args.first c.args.second c.args.third (search rules) }
