-- The parts of a line that is cut in two are those on both sides, and those of a line without a blank are the line alone.
use Rattle.std.proofs.Common.{sym, ap}
use Rattle.lexicon_text_definitions.specs.FileLines.{Parts}
use Rattle.session_definitions.specs.Requests.{after_blank}
use Rattle.reader_session.proofs.CutLemmas.{whole, in_two}
use Rattle.reader_session.proofs.cutting.word_and_rest.Goals as goal

pub returns-in-Some-clause-word : goal.returns-in-Some-clause-word
returns-in-Some-clause-word c =
    ap (λ (parts : Parts). parts.kind) (sym (in_two c.args.line.now c.in-Some.word.now c.in-Some.rest.now c.in-Some.ensures))

pub returns-in-Some-clause-rest : goal.returns-in-Some-clause-rest
returns-in-Some-clause-rest c =
    ap (λ (parts : Parts). after_blank parts.rest)
    (sym (in_two c.args.line.now c.in-Some.word.now c.in-Some.rest.now c.in-Some.ensures))

pub returns-in-None-clause-word : goal.returns-in-None-clause-word
returns-in-None-clause-word c = ap (λ (parts : Parts). parts.kind) (sym (whole c.args.line.now c.in-None.ensures))

pub returns-in-None-clause-rest : goal.returns-in-None-clause-rest
returns-in-None-clause-rest c =
    ap (λ (parts : Parts). after_blank parts.rest) (sym (whole c.args.line.now c.in-None.ensures))
