-- The lemmas on levels, at the newest item.
use Rattle.std.proofs.Common.{refl}
use Rattle.lexicon_definitions.specs.Grammars.{AnyTimes, OnceOrMore}
use Rattle.phase_automaton.proofs.LevelTrees.{repeat_keeps, repeat_item, link_within}
use Rattle.phase_automaton.proofs.level.Level.with_repetition.Goals as goal

pub returns-in-AnyTimes-clause-others : goal.returns-in-AnyTimes-clause-others
returns-in-AnyTimes-clause-others c =
    let old = c.args.positions.now in
    let new = c.any_times-item.new.positions in
    let item = c.in-Some.item in
    repeat_keeps old new c.args.self item c.in-Some.is c.any_times-item.ensures.linked.count
    (λ tree from h. link_within old new item tree from item.first h c.any_times-item.ensures.linked)

pub returns-in-AnyTimes-clause-level : goal.returns-in-AnyTimes-clause-level
returns-in-AnyTimes-clause-level c =
    let old = c.args.positions.now in
    let new = c.any_times-item.new.positions in
    let item = c.in-Some.item in
    let x = repeat_item old new c.args.self item c.any_times-item.result AnyTimes (λ tree. refl) c.in-Some.is c.any_times-item.ensures.linked.count
    (λ tree from h. link_within old new item tree from item.first h c.any_times-item.ensures.linked) c.any_times-item.ensures.piece in
    rw c.in-AnyTimes.is x

pub returns-in-OnceOrMore-clause-others : goal.returns-in-OnceOrMore-clause-others
returns-in-OnceOrMore-clause-others c =
    let old = c.args.positions.now in
    let new = c.once_or_more-item.new.positions in
    let item = c.in-Some.item in
    repeat_keeps old new c.args.self item c.in-Some.is c.once_or_more-item.ensures.linked.count
    (λ tree from h. link_within old new item tree from item.first h c.once_or_more-item.ensures.linked)

pub returns-in-OnceOrMore-clause-level : goal.returns-in-OnceOrMore-clause-level
returns-in-OnceOrMore-clause-level c =
    let old = c.args.positions.now in
    let new = c.once_or_more-item.new.positions in
    let item = c.in-Some.item in
    let x = repeat_item old new c.args.self item c.once_or_more-item.result OnceOrMore (λ tree. refl) c.in-Some.is c.once_or_more-item.ensures.linked.count
    (λ tree from h. link_within old new item tree from item.first h c.once_or_more-item.ensures.linked) c.once_or_more-item.ensures.piece in
    rw c.in-OnceOrMore.is x
