-- Fewer answers than were asked for are a page after which no answer is left; else the next move tells whether one is.
use Rattle.std.proofs.Common.{rules}
use Rattle.demo_counts.proofs.PassedAnswers.{counted_fewer, counted_full}
use Rattle.demo_counts.proofs.counting.count_page.Goals as goal

pub returns-then-answers-count : goal.returns-then-answers-count
returns-then-answers-count g c =
    counted_fewer c.args.search.now c.pass_answers-answers.new.search c.args.count c.pass_answers-answers.result c.pass_answers-answers.ensures (search rules)

pub returns : goal.returns
returns g c =
    counted_full c.args.search.now c.pass_answers-answers.new.search c.advance.new.self c.args.count c.pass_answers-answers.result c.advance.result
    c.pass_answers-answers.ensures (search rules) c.advance.ensures.moved c.advance.ensures.ended
