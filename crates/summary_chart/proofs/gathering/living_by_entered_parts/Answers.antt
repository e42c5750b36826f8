-- One part more (`PartRules`), which is passed over where no key with its rules may stand; what its rules do, the keys do (`LivingVisits`). The
-- rules of all parts are together no more than the choices.
use Rattle.std.proofs.Common.{◌≡◌, ◌<◌, ◌≤◌, ◌+◌, ◌↔◌, ℕ, None, List, Contains, get_or, length, take, sym, ap, subst, ◌∙◌, arith}
use Rattle.std.proofs.lemmas.List.{get_or_default}
use Rattle.std.proofs.lemmas.List.Sums.{sum_by-take-le, sum_by_more, sum_by_more_le}
use Rattle.annotated_trie.specs.Choices.{AnnotatedTrie, AreParts, choices_of, parts_of, rules_of_part}
use Rattle.search_frames.specs.Frames.{numbered_of}
use Rattle.search_frames.specs.Ahead.{LetIn}
use Rattle.search_frames.proofs.AheadTests.{do_as_these, none_stands}
use Rattle.summary_chart.specs.declared.memo.Work.{Work}
use Rattle.summary_chart.specs.declared.state_set.StateSet.{StateSet}
use Rattle.summary_chart.specs.Memos.{IsByPart, LivesBy}
use Rattle.summary_chart.specs.Spreading.{IsByRule}
use Rattle.summary_chart.specs.StateSets.{HasState}
use Rattle.summary_chart.proofs.AlikeWorks.{lives_alike}
use Rattle.summary_chart.proofs.FrontKeys.{front_node}
use Rattle.summary_chart.proofs.LivingKeys.{choice_number}
use Rattle.summary_chart.proofs.LivingVisits.{all_living, lives_found, living_by_these, living_visit, none_living}
use Rattle.summary_chart.proofs.PartRules.{of_no_part, part_among, part_numbers, part_there, visit_all_parts, visit_part, visit_part_passed}
use Rattle.summary_chart.proofs.gathering.living_by_entered_parts.Goals as goal

pub parts-parts-requires : goal.parts-parts-requires
parts-parts-requires g c =
    let searched = c.args.here.site.lexicon.now in
    let front = c.args.front.now in
    let there = front_node searched c.requires.here.site.searched c.args.here.site.line.now (numbered_of searched c.args.here.site.place.now) front.phase front.taken front.node c.requires.front in
    subst (λ (t : AnnotatedTrie). front.node < length t.trie.rows) (sym c.tries.ensures.value) there

pub loop-part-init : goal.loop-part-init
loop-part-init g c =
    let searched = c.args.here.site.lexicon.now in
    let front = c.args.front.now in
    record {
      low = omega arith;
      memo = c.requires.memo;
      ends = λ ends. ends;
      living = none_living searched c.args.here.site.line.now c.args.here.site.choices.now c.args.here.site.place.now c.args.table.now
          (IsByPart searched.tries front.phase front.taken (take 0 (parts_of searched.tries front.node))) c.empty-living.result
          (λ key told. of_no_part searched.tries (parts_of searched.tries front.node) key.rule told.2) c.empty-living.ensures.none;
      spent = omega arith;
    }

pub lets_part_in-requires-clause-part : goal.lets_part_in-requires-clause-part
lets_part_in-requires-clause-part g c =
    let searched = c.args.here.site.lexicon.now in
    let front = c.args.front.now in
    let value : c.parts-parts.result.now ≡ parts_of searched.tries front.node =
    c.parts-parts.ensures.value ∙ ap (λ (t : AnnotatedTrie). parts_of t front.node) c.tries.ensures.value in
    let there = front_node searched c.requires.here.site.searched c.args.here.site.line.now (numbered_of searched c.args.here.site.place.now) front.phase front.taken front.node c.requires.front in
    part_there searched front.node c.requires.here.site.searched there c.parts-parts.result.now c.loop-part.part-index value c.loop-part-test.true

pub lets_part_in-requires-clause-rules : goal.lets_part_in-requires-clause-rules
lets_part_in-requires-clause-rules g c =
    let searched = c.args.here.site.lexicon.now in
    let front = c.args.front.now in
    let value : c.parts-parts.result.now ≡ parts_of searched.tries front.node =
    c.parts-parts.ensures.value ∙ ap (λ (t : AnnotatedTrie). parts_of t front.node) c.tries.ensures.value in
    let there = front_node searched c.requires.here.site.searched c.args.here.site.line.now (numbered_of searched c.args.here.site.place.now) front.phase front.taken front.node c.requires.front in
    part_numbers searched front.node c.requires.here.site.searched there c.parts-parts.result.now c.loop-part.part-index value c.loop-part-test.true

pub living_by_part-requires-clause-node : goal.living_by_part-requires-clause-node
living_by_part-requires-clause-node g c =
    let searched = c.args.here.site.lexicon.now in
    let front = c.args.front.now in
    front_node searched c.requires.here.site.searched c.args.here.site.line.now (numbered_of searched c.args.here.site.place.now) front.phase front.taken front.node c.requires.front

pub returns-in_err-found-clause-steps : goal.returns-in_err-found-clause-steps
returns-in_err-found-clause-steps g c =
    let searched = c.args.here.site.lexicon.now in
    let front = c.args.front.now in
    let inv = c.loop-part.invariant in
    let f : ℕ → ℕ = λ part. length (rules_of_part searched.tries part) in
    let parts = c.parts-parts.result.now in
    let value : parts ≡ parts_of searched.tries front.node = c.parts-parts.ensures.value ∙ ap (λ (t : AnnotatedTrie). parts_of t front.node) c.tries.ensures.value in
    let there = front_node searched c.requires.here.site.searched c.args.here.site.line.now (numbered_of searched c.args.here.site.place.now) front.phase front.taken front.node c.requires.front in
    let are = subst (AreParts searched.tries (choices_of searched.tries front.node)) (sym value) (c.requires.here.site.searched.tries.parts front.node there) in
    let within = sum_by_more_le f parts c.loop-part.part-index 0 c.loop-part-test.true in
    omega (arith, inv.spent, c.living_by_part.ensures.steps, within, are.few, are.some, c.loop-part-test.true)

pub loop-part-preserved-then-not-lets_part_in : goal.loop-part-preserved-then-not-lets_part_in
loop-part-preserved-then-not-lets_part_in g c =
    let searched = c.args.here.site.lexicon.now in
    let line = c.args.here.site.line.now in
    let choices = c.args.here.site.choices.now in
    let place = c.args.here.site.place.now in
    let front = c.args.front.now in
    let visit = living_visit searched line choices place c.args.table.now in
    let parts = c.parts-parts.result.now in
    let value : parts ≡ parts_of searched.tries front.node = c.parts-parts.ensures.value ∙ ap (λ (t : AnnotatedTrie). parts_of t front.node) c.tries.ensures.value in
    let inv = c.loop-part.invariant in
    let index = c.loop-part.part-index in
    let part = get_or parts index 0 in
    let f : ℕ → ℕ = λ one. length (rules_of_part searched.tries one) in
    let low = subst (λ (some : List ℕ). index < length some) value c.loop-part-test.true in
    let is : part ≡ get_or (parts_of searched.tries front.node) index part =
    subst (λ (some : List ℕ). part ≡ get_or some index part) value (get_or_default parts index 0 part c.loop-part-test.true) in
    let more = sum_by_more f parts index 0 c.loop-part-test.true in
    let standing = numbered_of searched place in
    let rules = rules_of_part searched.tries part in
    let lets = subst (LetIn searched line standing front.taken rules) c.if-not-lets_part_in.true (c.lets_part_in.ensures line c.requires.here.ahead) in
    let none = none_stands searched line standing front.taken rules choices lets in
    record {
      low = omega (arith, c.loop-part-test.true);
      memo = inv.memo;
      ends = inv.ends;
      living = λ empty nothing. visit_part searched line choices place StateSet visit front.phase front.taken front.node index part low is empty c.loop-part.living c.loop-part.living
          (inv.living empty nothing) (visit_part_passed searched line choices place StateSet visit front.phase front.taken front.node part none c.loop-part.living);
      spent = omega (arith, inv.spent, c.tick.ensures, more);
    }

pub loop-part-preserved : goal.loop-part-preserved
loop-part-preserved g c =
    let searched = c.args.here.site.lexicon.now in
    let line = c.args.here.site.line.now in
    let choices = c.args.here.site.choices.now in
    let place = c.args.here.site.place.now in
    let table = c.args.table.now in
    let front = c.args.front.now in
    let searches = c.requires.here.site.searched in
    let visit = living_visit searched line choices place table in
    let parts = c.parts-parts.result.now in
    let value : parts ≡ parts_of searched.tries front.node = c.parts-parts.ensures.value ∙ ap (λ (t : AnnotatedTrie). parts_of t front.node) c.tries.ensures.value in
    let there = front_node searched searches line (numbered_of searched place) front.phase front.taken front.node c.requires.front in
    let inv = c.loop-part.invariant in
    let index = c.loop-part.part-index in
    let part = get_or parts index 0 in
    let rules = rules_of_part searched.tries part in
    let f : ℕ → ℕ = λ one. length (rules_of_part searched.tries one) in
    let low = subst (λ (some : List ℕ). index < length some) value c.loop-part-test.true in
    let is : part ≡ get_or (parts_of searched.tries front.node) index part =
    subst (λ (some : List ℕ). part ≡ get_or some index part) value (get_or_default parts index 0 part c.loop-part-test.true) in
    let among = part_among searched front.node searches there parts index value c.loop-part-test.true in
    let chosen : (rule : ℕ) → Contains rules rule → Contains (choices_of searched.tries front.node) rule =
    λ rule has. ((searches.tries.parts front.node there).rules rule).1 (part, among, has) in
    let standing = numbered_of searched place in
    let lets = subst (LetIn searched line standing front.taken rules) c.if-not-lets_part_in.false (c.lets_part_in.ensures line c.requires.here.ahead) in
    let does = do_as_these searched line standing front.taken rules choices c.args.here.ahead c.requires.free c.requires.here.ahead c.requires.limit lets in
    let found = c.in_ok-found.found in
    let end = place.at + front.taken in
    let alike = lives_alike searched line table front.node end None c.args.here.ahead.may_end (Contains rules)
    (λ rule has. choice_number searched front.node rule searches there (chosen rule has)) c.alike_phase.result front.phase c.alike_phase.ensures.alike in
    let own : Work = record { node = front.node; part = None; end = end; may_end = c.args.here.ahead.may_end; phase = front.phase } in
    let lives : (number : ℕ) → HasState found number ↔ LivesBy searched line table own (Contains rules) number = λ number. (
      λ has. (alike number).0 ((c.in_ok-found.ensures.living number).0 has),
      λ by. (c.in_ok-found.ensures.living number).1 ((alike number).1 by),
    ) in
    let are = living_by_these searched line choices place table searches front.phase front.taken front.node c.requires.front c.args.here.ahead.may_end rules chosen does c.requires.begins found lives in
    let more = sum_by_more f parts index 0 c.loop-part-test.true in
    record {
      low = omega (arith, c.loop-part-test.true);
      memo = c.in_ok-found.ensures.memo;
      ends = λ ends. c.in_ok-found.ensures.ends place.at (omega arith) (inv.ends ends);
      living = λ empty nothing. visit_part searched line choices place StateSet visit front.phase front.taken front.node index part low is empty c.loop-part.living c.union-living.result
          (inv.living empty nothing)
          (lives_found searched line choices place table (IsByRule front.phase front.taken rules) c.loop-part.living found c.union-living.result are c.union-living.ensures);
      spent = omega (arith, inv.spent, c.living_by_part.ensures.steps, more);
    }

pub returns-clause-living : goal.returns-clause-living
returns-clause-living g c =
    let searched = c.args.here.site.lexicon.now in
    let line = c.args.here.site.line.now in
    let choices = c.args.here.site.choices.now in
    let place = c.args.here.site.place.now in
    let table = c.args.table.now in
    let front = c.args.front.now in
    let parts = c.parts-parts.result.now in
    let value : parts ≡ parts_of searched.tries front.node = c.parts-parts.ensures.value ∙ ap (λ (t : AnnotatedTrie). parts_of t front.node) c.tries.ensures.value in
    let there = front_node searched c.requires.here.site.searched line (numbered_of searched place) front.phase front.taken front.node c.requires.front in
    let none = c.empty-living.ensures.none in
    all_living searched line choices place table (IsByRule front.phase front.taken (choices_of searched.tries front.node)) c.empty-living.result c.loop-part.living none
    (visit_all_parts searched line choices place StateSet (living_visit searched line choices place table) front.phase front.taken front.node c.loop-part.part-index c.requires.here.site.searched there
    (subst (λ (some : List ℕ). length some ≤ c.loop-part.part-index) value (omega (arith, c.loop-part-test.false))) c.empty-living.result c.loop-part.living
    (c.loop-part.invariant.living c.empty-living.result none))

pub returns-clause-steps : goal.returns-clause-steps
returns-clause-steps g c =
    let searched = c.args.here.site.lexicon.now in
    let front = c.args.front.now in
    let inv = c.loop-part.invariant in
    let f : ℕ → ℕ = λ part. length (rules_of_part searched.tries part) in
    let parts = c.parts-parts.result.now in
    let value : parts ≡ parts_of searched.tries front.node = c.parts-parts.ensures.value ∙ ap (λ (t : AnnotatedTrie). parts_of t front.node) c.tries.ensures.value in
    let there = front_node searched c.requires.here.site.searched c.args.here.site.line.now (numbered_of searched c.args.here.site.place.now) front.phase front.taken front.node c.requires.front in
    let are = subst (AreParts searched.tries (choices_of searched.tries front.node)) (sym value) (c.requires.here.site.searched.tries.parts front.node there) in
    let all = sum_by-take-le f parts c.loop-part.part-index in
    omega (arith, inv.spent, inv.low, all, are.few, are.some)
