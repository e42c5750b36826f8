-- A skip leads to the next front.
use Rattle.search_split.proofs.FrontsReached.{on_skip_moved, on_skip_ended}
use Rattle.search_split.proofs.fronts.go_to_next_front.Goals as goal

pub returns-clause-moved : goal.returns-clause-moved
returns-clause-moved g c =
    on_skip_moved c.args.depth c.args.search.now c.skip.new.self c.skip.result c.current.result c.current.ensures.answer c.if-is_none.ensures
    c.skip.ensures.moved

pub returns-clause-ended : goal.returns-clause-ended
returns-clause-ended g c =
    on_skip_ended c.args.depth c.args.search.now c.skip.new.self c.skip.result c.current.result c.current.ensures.answer c.if-is_none.ensures
    c.skip.ensures.ended
