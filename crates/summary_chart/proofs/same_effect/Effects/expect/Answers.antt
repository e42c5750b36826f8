-- Each rule stands for itself or for one that does the same, and none has a round yet.
use Rattle.std.proofs.Common.{rules, ◌≡◌, inl, inr, length, arith}
use Rattle.std.proofs.lemmas.Bool.{cases_lt}
use Rattle.std.proofs.lemmas.List.{get_or_past}
use Rattle.summary_chart.proofs.same_effect.Effects.expect.Goals as goal

pub returns : goal.returns
returns c =
    let are = c.in_ok-same.ensures in
    let size = are.size in
    let as_many : length c.resize.new.self.items ≡ length c.in_ok-same.same.items = search rules in
    record {
      each = λ rule few. are.each rule (omega (arith, few, size));
      within = λ rule few. (let low = are.within rule (omega (arith, few, size)) in omega (arith, low, size, as_many));
      rounds = λ rule. elim (cases_lt rule c.len.result) [
        | inl low ↦ (let none = c.in_ok-resize.ensures.by_index.1 rule 0 (search rules) (omega (arith, c.clear.ensures.len)) low in omega (arith, none))
        | inr past ↦
            let none = get_or_past c.resize.new.self.items rule 0 (omega (arith, past, c.in_ok-resize.ensures.len, c.resize.new.self.ok)) in
            omega (arith, none)
      ];
    }
