-- The empty stack is one of each search.
use Rattle.segmenter.proofs.search.Search.resume.Goals as goal

pub go_to_keys-requires-clause-stack : goal.go_to_keys-requires-clause-stack
go_to_keys-requires-clause-stack g c = c.in_ok-stack.ensures.ok c.args.choices.now
