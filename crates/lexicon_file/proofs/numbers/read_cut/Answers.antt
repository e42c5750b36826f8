-- A cut has few digits.
use Rattle.std.proofs.Common.{sym, arith}
use Rattle.lexicon_file.proofs.NumberLemmas.{long_cut}
use Rattle.lexicon_file.proofs.numbers.read_cut.Goals as goal

pub returns-then-text-gt-MOST_NODE_DIGITS : goal.returns-then-text-gt-MOST_NODE_DIGITS
returns-then-text-gt-MOST_NODE_DIGITS c =
    let many = c.if-text-gt-MOST_NODE_DIGITS.true in sym (long_cut c.args.text.now (omega (arith, many)))
