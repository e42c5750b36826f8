-- By the law that charts are exact.
use Rattle.batch_reader.proofs.bounded_moves.moves_under_a_chart_are_bounded.Goals as goal

pub returns : goal.returns
returns c = λ search is line_is chart known.
    c.charts_are_exact.ensures.exact search.searched search.line search.choices chart is line_is known
