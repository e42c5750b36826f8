-- Each key with such a form may be entered, and the choices allow it just where it is not last, or may be last.
use Rattle.std.proofs.lemmas.Bool.{OnTrue_at}
use Rattle.search_frames.specs.Frames.{numbered_of}
use Rattle.search_frames.specs.Configurations.{rules_in}
use Rattle.search_frames.proofs.AheadTests.{do_as_rules}
use Rattle.search_frames.proofs.ahead.Ahead.end_by_rules.Goals as goal

pub returns-else-self : goal.returns-else-self
returns-else-self c =
    let searched = c.args.lexicon.now in
    let line = c.args.line.now in
    let here = numbered_of searched c.args.place.now in
    do_as_rules searched line c.args.choices.now here c.args.taken c.args.self c.requires.ahead c.requires.limit
    (λ key same within begins. OnTrue_at c.if-not-lets_all_in.false c.lets_all_in.ensures (rules_in searched) line key c.requires.ahead same within begins)
    c.in_ok-may_end.may_end c.args.self.may_end
    (λ may. absurd (cc), λ both. both.0) (rw c.rules.ensures.value at c.in_ok-may_end.ensures)

pub returns-then-self : goal.returns-then-self
returns-then-self c =
    let searched = c.args.lexicon.now in
    let line = c.args.line.now in
    let here = numbered_of searched c.args.place.now in
    do_as_rules searched line c.args.choices.now here c.args.taken c.args.self c.requires.ahead c.requires.limit
    (λ key same within begins. OnTrue_at c.if-not-lets_all_in.false c.lets_all_in.ensures (rules_in searched) line key c.requires.ahead same within begins)
    c.in_ok-may_end.may_end c.in_ok-may_end.may_end
    (λ may. (c.if-self.true, may), λ both. both.1) (rw c.rules.ensures.value at c.in_ok-may_end.ensures)
