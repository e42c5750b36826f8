-- For each rule there is one with the same u, and none was made of these since there were lists.
use Rattle.std.proofs.Common.{rules, inl, inr, arith}
use Rattle.std.proofs.lemmas.Bool.{cases_lt}
use Rattle.std.proofs.lemmas.List.{get_or_past}
use Rattle.summary_chart.proofs.collected.Collected.expect.Goals as goal

pub returns-in_ok-resize-clause-collected : goal.returns-in_ok-resize-clause-collected
returns-in_ok-resize-clause-collected c =
    let made = c.resize.new.self.items in
    let count = c.len.result in
    record {
      same = λ some. c.in_ok-same_u.ensures;
      size = search rules;
      within = λ place. elim (cases_lt place count) [
        | inl low ↦ (let none = c.in_ok-resize.ensures.by_index.1 place 0 (search rules) (omega (arith, c.new-made.ensures.len)) low in omega (arith, none))
        | inr past ↦ (let none = get_or_past made place 0 (omega (arith, past, c.in_ok-resize.ensures.len, c.resize.new.self.ok)) in omega (arith, none))
      ];
    }
