-- What version 1 tells of the text is told.
use Rattle.std.proofs.Common.{Some}
use Rattle.lexicon_file.proofs.AnswerLemmas.{grammar_taken}
use Rattle.lexicon_file.proofs.told.TrieTold.take_grammar.Goals as goal

pub returns : goal.returns
returns c =
    grammar_taken _ c.args.self.now c.take_grammar.new.self (Some c.args.text.now) c.self.view_is c.in_ok-take_grammar.ensures.0 c.in_ok-take_grammar.ensures.1
