-- By how far the search moved: once, or twice.
use Rattle.std.proofs.Common.{rules}
use Rattle.annotation.proofs.FoundAnswers.{one_found, two_found}
use Rattle.annotation.proofs.only_answers.only_answer.Goals as goal

pub returns-in_default-2 : goal.returns-in_default-2
returns-in_default-2 g c = record {
  found = one_found c.args.search.now c.next_steps.new.search c.next_steps-2.new.search c.in-Some.only.items c.requires.before (search rules) (search rules);
}

pub returns : goal.returns
returns g c = record {
  found = two_found c.args.search.now c.next_steps.new.search c.next_steps-2.new.search c.in-Some.only.items c.in-Some-2.next.items _ _ c.requires.before
      (search rules) (search rules) (search rules) (search rules);
}
