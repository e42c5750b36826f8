-- Answers of one front stand together.
use Rattle.derivation.specs.Steps.{keys_meant}
use Rattle.search_split.proofs.CurrentFronts.{gone_on, none_left_of_front}
use Rattle.search_split.proofs.listing.go_on_in_front.Goals as goal

pub returns-clause-moved : goal.returns-clause-moved
returns-clause-moved g c =
    gone_on c.args.depth (keys_meant c.args.front.now) c.args.search.now c.advance.new.self c.if-not-advance.ensures.moved c.is_in_front.result
    c.is_in_front.ensures

pub returns-clause-ended : goal.returns-clause-ended
returns-clause-ended g c =
    none_left_of_front c.args.depth (keys_meant c.args.front.now) c.args.search.now c.advance.new.self c.if-not-advance.ensures.moved c.is_in_front.result
    c.is_in_front.ensures
