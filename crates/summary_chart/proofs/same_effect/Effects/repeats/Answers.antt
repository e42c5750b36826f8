-- The rule that stands for this one has the round now, and this one does the same; where it had it already, or where none stands for it,
-- all stays as it was (`SameEffects`).
use Rattle.std.proofs.Common.{rules, ◌≡◌, ◌<◌, length, get_or, subst, ◌∙◌, sym, arith, length-set}
use Rattle.std.proofs.lemmas.List.{get_or_read}
use Rattle.summary_chart.specs.Effects.{DoSame}
use Rattle.summary_chart.proofs.SameEffects.{looked_put, rounds_put, still_looked, was_looked}
use Rattle.summary_chart.proofs.same_effect.Effects.repeats.Goals as goal

pub returns-in_default-clause-effects : goal.returns-in_default-clause-effects
returns-in_default-clause-effects c = c.requires.effects

pub returns-in_default-clause-looked : goal.returns-in_default-clause-looked
returns-in_default-clause-looked c looked have = still_looked c.args.rules.now looked c.args.rule c.args.self.now have

pub returns-in_default-clause-same : goal.returns-in_default-clause-same
returns-in_default-clause-same c = tt

pub returns-then-index-self-clause-effects : goal.returns-then-index-self-clause-effects
returns-then-index-self-clause-effects c = c.requires.effects

pub returns-then-index-self-clause-looked : goal.returns-then-index-self-clause-looked
returns-then-index-self-clause-looked c looked have = still_looked c.args.rules.now looked c.args.rule c.args.self.now have

pub returns-then-index-self-clause-same : goal.returns-then-index-self-clause-same
returns-then-index-self-clause-same c looked have =
    let same = c.in-Some.same.now in
    let effects = c.args.self.now in
    let listed : c.args.rule < length effects.same.items = search rules in
    let is : get_or effects.same.items c.args.rule 0 ≡ same = search rules in
    let low : same < length effects.seen.items = search rules in
    let now : get_or effects.seen.items same 0 ≡ effects.round =
    sym (get_or_read effects.seen.items same c.index.result.now low c.index.ensures 0) ∙ c.if-index-self.true in
    was_looked c.args.rules.now looked c.args.rule same effects
    (subst (λ n. DoSame c.args.rules.now n c.args.rule) is (c.requires.effects.each c.args.rule listed)) low now have

pub returns-clause-effects : goal.returns-clause-effects
returns-clause-effects c =
    let same = c.in-Some.same.now in
    let effects = c.args.self.now in
    let are = c.requires.effects in
    let low : same < length effects.seen.items = search rules in
    record {
      each = are.each;
      within = λ rule few. (let within = are.within rule few in let size = length-set effects.seen.items same effects.round in omega (arith, within, size));
      rounds = rounds_put c.args.rules.now effects c.args.rule same low are.rounds;
    }

pub returns-clause-looked : goal.returns-clause-looked
returns-clause-looked c looked have =
    let same = c.in-Some.same.now in
    let effects = c.args.self.now in
    let listed : c.args.rule < length effects.same.items = search rules in
    let is : get_or effects.same.items c.args.rule 0 ≡ same = search rules in
    let low : same < length effects.seen.items = search rules in
    looked_put c.args.rules.now effects c.args.rule same low looked
    (subst (λ n. DoSame c.args.rules.now n c.args.rule) is (c.requires.effects.each c.args.rule listed)) have

pub returns-clause-same : goal.returns-clause-same
returns-clause-same c = tt
