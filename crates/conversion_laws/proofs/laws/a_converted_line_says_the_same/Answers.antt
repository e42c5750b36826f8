-- There, and so back again.
use Rattle.std.proofs.Common.{◌∙◌}
use Rattle.conversion_laws.proofs.ConvertedLines.{line_says_same}
use Rattle.conversion_laws.proofs.laws.a_converted_line_says_the_same.Goals as goal

pub returns-clause-there : goal.returns-clause-there
returns-clause-there c = line_says_same

pub returns-clause-back : goal.returns-clause-back
returns-clause-back c = λ from to line result back there again.
    line_says_same to from result back again ∙ line_says_same from to line result there
