-- One part more (`PartRules`); the rules of all parts are together no more than the choices.
use Rattle.std.proofs.Common.{◌≡◌, ◌<◌, ◌≤◌, ℕ, List, get_or, length, sym, ap, subst, ◌∙◌, arith}
use Rattle.std.proofs.lemmas.List.{get_or_default}
use Rattle.std.proofs.lemmas.List.Sums.{sum_by-take-le, sum_by_more, sum_by_more_le}
use Rattle.annotated_trie.specs.Choices.{AnnotatedTrie, AreParts, choices_of, parts_of, rules_of_part}
use Rattle.search_frames.specs.Frames.{numbered_of}
use Rattle.search_frames.specs.Ahead.{LetIn}
use Rattle.search_frames.proofs.AheadTests.{do_as_these, none_stands}
use Rattle.summary_chart.specs.declared.table.Table.{Table}
use Rattle.summary_chart.proofs.FrontKeys.{front_node}
use Rattle.summary_chart.proofs.PartRules.{part_numbers, part_there, visit_all_parts, visit_no_part, visit_part, visit_part_passed}
use Rattle.summary_chart.proofs.PutKeys.{put_visit}
use Rattle.summary_chart.proofs.SameKeys.{lead_same_if_entered, these_do_if_entered}
use Rattle.summary_chart.proofs.spreading.spread_parts.Goals as goal

pub parts-parts-requires : goal.parts-parts-requires
parts-parts-requires g c =
    let searched = c.args.onward.here.site.lexicon.now in
    let there = front_node searched c.requires.onward.here.site.searched c.args.onward.here.site.line.now (numbered_of searched c.args.onward.here.site.place.now) c.args.ruled.front.now.phase c.args.ruled.front.now.taken c.args.ruled.front.now.node c.requires.front in
    subst (λ (t : AnnotatedTrie). c.args.ruled.front.now.node < length t.trie.rows) (sym c.tries.ensures.value) there

pub loop-part-init : goal.loop-part-init
loop-part-init g c =
    let searched = c.args.onward.here.site.lexicon.now in
    let line = c.args.onward.here.site.line.now in
    let choices = c.args.onward.here.site.choices.now in
    let place = c.args.onward.here.site.place.now in
    let front = c.args.ruled.front.now in
    let visit = put_visit searched line choices place c.args.onward.after in
    record {
      low = omega arith;
      memo = c.requires.memo;
      lawful = c.requires.table;
      spreads = visit_no_part searched line choices place Table visit front.phase front.taken front.node c.args.table.now;
      spent = omega arith;
    }

pub returns-in_err-spread_part-clause-steps : goal.returns-in_err-spread_part-clause-steps
returns-in_err-spread_part-clause-steps g c =
    let searched = c.args.onward.here.site.lexicon.now in
    let inv = c.loop-part.invariant in
    let f : ℕ → ℕ = λ part. length (rules_of_part searched.tries part) in
    let parts = c.parts-parts.result.now in
    let value : parts ≡ parts_of searched.tries c.args.ruled.front.now.node =
    c.parts-parts.ensures.value ∙ ap (λ (t : AnnotatedTrie). parts_of t c.args.ruled.front.now.node) c.tries.ensures.value in
    let there = front_node searched c.requires.onward.here.site.searched c.args.onward.here.site.line.now (numbered_of searched c.args.onward.here.site.place.now) c.args.ruled.front.now.phase c.args.ruled.front.now.taken c.args.ruled.front.now.node c.requires.front in
    let are = subst (AreParts searched.tries (choices_of searched.tries c.args.ruled.front.now.node)) (sym value) (c.requires.onward.here.site.searched.tries.parts c.args.ruled.front.now.node there) in
    let within = sum_by_more_le f parts c.loop-part.part-index 0 c.loop-part-test.true in
    omega (arith, inv.spent, c.spread_part.ensures.steps, within, are.few, are.some, c.loop-part-test.true)

pub lets_part_in-requires-clause-part : goal.lets_part_in-requires-clause-part
lets_part_in-requires-clause-part g c =
    let searched = c.args.onward.here.site.lexicon.now in
    let front = c.args.ruled.front.now in
    let value : c.parts-parts.result.now ≡ parts_of searched.tries front.node =
    c.parts-parts.ensures.value ∙ ap (λ (t : AnnotatedTrie). parts_of t front.node) c.tries.ensures.value in
    let there = front_node searched c.requires.onward.here.site.searched c.args.onward.here.site.line.now (numbered_of searched c.args.onward.here.site.place.now) front.phase front.taken front.node c.requires.front in
    part_there searched front.node c.requires.onward.here.site.searched there c.parts-parts.result.now c.loop-part.part-index value c.loop-part-test.true

pub lets_part_in-requires-clause-rules : goal.lets_part_in-requires-clause-rules
lets_part_in-requires-clause-rules g c =
    let searched = c.args.onward.here.site.lexicon.now in
    let front = c.args.ruled.front.now in
    let value : c.parts-parts.result.now ≡ parts_of searched.tries front.node =
    c.parts-parts.ensures.value ∙ ap (λ (t : AnnotatedTrie). parts_of t front.node) c.tries.ensures.value in
    let there = front_node searched c.requires.onward.here.site.searched c.args.onward.here.site.line.now (numbered_of searched c.args.onward.here.site.place.now) front.phase front.taken front.node c.requires.front in
    part_numbers searched front.node c.requires.onward.here.site.searched there c.parts-parts.result.now c.loop-part.part-index value c.loop-part-test.true

pub spread_part-requires-clause-leads : goal.spread_part-requires-clause-leads
spread_part-requires-clause-leads g c =
    lead_same_if_entered c.args.onward.here c.args.ruled.front.now.taken c.args.ruled.may_end c.args.ruled.front.now.phase c.requires.onward.here c.requires.onward.begins c.requires.does

pub spread_part-requires-clause-does : goal.spread_part-requires-clause-does
spread_part-requires-clause-does g c =
    let here = c.args.onward.here in
    let site = here.site in
    let searched = site.lexicon.now in
    let taken = c.args.ruled.front.now.taken in
    let rules = rules_of_part searched.tries (get_or c.parts-parts.result.now c.loop-part.part-index 0) in
    let place = numbered_of searched site.place.now in
    let lets = subst (LetIn searched site.line.now place taken rules) c.if-not-lets_part_in.false (c.lets_part_in.ensures site.line.now c.requires.onward.here.ahead) in
    these_do_if_entered here taken c.args.ruled.may_end rules c.requires.does
    (λ free. do_as_these searched site.line.now place taken rules site.choices.now here.ahead free c.requires.onward.here.ahead c.requires.limit lets)

pub loop-part-preserved-then-not-lets_part_in : goal.loop-part-preserved-then-not-lets_part_in
loop-part-preserved-then-not-lets_part_in g c =
    let searched = c.args.onward.here.site.lexicon.now in
    let line = c.args.onward.here.site.line.now in
    let choices = c.args.onward.here.site.choices.now in
    let place = c.args.onward.here.site.place.now in
    let front = c.args.ruled.front.now in
    let visit = put_visit searched line choices place c.args.onward.after in
    let parts = c.parts-parts.result.now in
    let value : parts ≡ parts_of searched.tries c.args.ruled.front.now.node =
    c.parts-parts.ensures.value ∙ ap (λ (t : AnnotatedTrie). parts_of t c.args.ruled.front.now.node) c.tries.ensures.value in
    let inv = c.loop-part.invariant in
    let index = c.loop-part.part-index in
    let part = get_or parts index 0 in
    let f : ℕ → ℕ = λ one. length (rules_of_part searched.tries one) in
    let low = subst (λ (some : List ℕ). index < length some) value c.loop-part-test.true in
    let is : part ≡ get_or (parts_of searched.tries front.node) index part =
    subst (λ (some : List ℕ). part ≡ get_or some index part) value (get_or_default parts index 0 part c.loop-part-test.true) in
    let more = sum_by_more f parts index 0 c.loop-part-test.true in
    let here = numbered_of searched place in
    let rules = rules_of_part searched.tries part in
    let lets = subst (LetIn searched line here front.taken rules) c.if-not-lets_part_in.true (c.lets_part_in.ensures line c.requires.onward.here.ahead) in
    let none = none_stands searched line here front.taken rules choices lets in
    record {
      low = omega (arith, c.loop-part-test.true);
      memo = inv.memo;
      lawful = inv.lawful;
      spreads = visit_part searched line choices place Table visit front.phase front.taken front.node index part low is c.args.table.now c.loop-part.table c.loop-part.table
          inv.spreads (visit_part_passed searched line choices place Table visit front.phase front.taken front.node part none c.loop-part.table);
      spent = omega (arith, inv.spent, c.tick.ensures, more);
    }

pub loop-part-preserved : goal.loop-part-preserved
loop-part-preserved g c =
    let searched = c.args.onward.here.site.lexicon.now in
    let line = c.args.onward.here.site.line.now in
    let choices = c.args.onward.here.site.choices.now in
    let place = c.args.onward.here.site.place.now in
    let front = c.args.ruled.front.now in
    let visit = put_visit searched line choices place c.args.onward.after in
    let parts = c.parts-parts.result.now in
    let value : parts ≡ parts_of searched.tries c.args.ruled.front.now.node =
    c.parts-parts.ensures.value ∙ ap (λ (t : AnnotatedTrie). parts_of t c.args.ruled.front.now.node) c.tries.ensures.value in
    let inv = c.loop-part.invariant in
    let index = c.loop-part.part-index in
    let part = get_or parts index 0 in
    let f : ℕ → ℕ = λ one. length (rules_of_part searched.tries one) in
    let low = subst (λ (some : List ℕ). index < length some) value c.loop-part-test.true in
    let is : part ≡ get_or (parts_of searched.tries front.node) index part =
    subst (λ (some : List ℕ). part ≡ get_or some index part) value (get_or_default parts index 0 part c.loop-part-test.true) in
    let more = sum_by_more f parts index 0 c.loop-part-test.true in
    record {
      low = omega (arith, c.loop-part-test.true);
      memo = c.in_ok-spread_part.ensures.memo;
      lawful = c.in_ok-spread_part.ensures.table;
      spreads = visit_part searched line choices place Table visit front.phase front.taken front.node index part low is c.args.table.now c.loop-part.table c.spread_part.new.table
          inv.spreads c.in_ok-spread_part.ensures.spreads;
      spent = omega (arith, inv.spent, c.spread_part.ensures.steps, more);
    }

pub returns-clause-memo : goal.returns-clause-memo
returns-clause-memo g c = c.loop-part.invariant.memo

pub returns-clause-spreads : goal.returns-clause-spreads
returns-clause-spreads g c =
    let searched = c.args.onward.here.site.lexicon.now in
    let line = c.args.onward.here.site.line.now in
    let choices = c.args.onward.here.site.choices.now in
    let place = c.args.onward.here.site.place.now in
    let front = c.args.ruled.front.now in
    let visit = put_visit searched line choices place c.args.onward.after in
    let parts = c.parts-parts.result.now in
    let value : parts ≡ parts_of searched.tries c.args.ruled.front.now.node =
    c.parts-parts.ensures.value ∙ ap (λ (t : AnnotatedTrie). parts_of t c.args.ruled.front.now.node) c.tries.ensures.value in
    let there = front_node searched c.requires.onward.here.site.searched c.args.onward.here.site.line.now (numbered_of searched c.args.onward.here.site.place.now) c.args.ruled.front.now.phase c.args.ruled.front.now.taken c.args.ruled.front.now.node c.requires.front in
    visit_all_parts searched line choices place Table visit front.phase front.taken front.node c.loop-part.part-index c.requires.onward.here.site.searched there
    (subst (λ (some : List ℕ). length some ≤ c.loop-part.part-index) value (omega (arith, c.loop-part-test.false))) c.args.table.now c.loop-part.table c.loop-part.invariant.spreads

pub returns-clause-steps : goal.returns-clause-steps
returns-clause-steps g c =
    let searched = c.args.onward.here.site.lexicon.now in
    let inv = c.loop-part.invariant in
    let f : ℕ → ℕ = λ part. length (rules_of_part searched.tries part) in
    let parts = c.parts-parts.result.now in
    let value : parts ≡ parts_of searched.tries c.args.ruled.front.now.node =
    c.parts-parts.ensures.value ∙ ap (λ (t : AnnotatedTrie). parts_of t c.args.ruled.front.now.node) c.tries.ensures.value in
    let there = front_node searched c.requires.onward.here.site.searched c.args.onward.here.site.line.now (numbered_of searched c.args.onward.here.site.place.now) c.args.ruled.front.now.phase c.args.ruled.front.now.taken c.args.ruled.front.now.node c.requires.front in
    let are = subst (AreParts searched.tries (choices_of searched.tries c.args.ruled.front.now.node)) (sym value) (c.requires.onward.here.site.searched.tries.parts c.args.ruled.front.now.node there) in
    let all = sum_by-take-le f parts c.loop-part.part-index in
    omega (arith, inv.spent, inv.low, all, are.few, are.some)
