-- The empty stack is one of each search.
use Rattle.segmenter.proofs.search.Search.new.Goals as goal

pub go_on-requires-clause-stack : goal.go_on-requires-clause-stack
go_on-requires-clause-stack g c = c.in_ok-stack.ensures.ok c.args.choices.now
