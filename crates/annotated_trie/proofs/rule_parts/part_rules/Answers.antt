-- the group of one rule more, where it is the first of it
use Rattle.std.proofs.Common.{◌≡◌, ◌+◌, ℕ, List, [], ◌∷◌, ◌++◌, length, take, get_or, sym, ◌∙◌, ap, subst, arith}
use Rattle.std.proofs.lemmas.List.{length-take-le, take_more}
use Rattle.annotated_trie.specs.RuleParts.{ArePartRules, group_from}
use Rattle.annotated_trie.specs.Views.{list_at}
use Rattle.annotated_trie.proofs.ListPlaces.{list_at-read}
use Rattle.annotated_trie.proofs.PartLaws.{ArePartRules-push}
use Rattle.annotated_trie.proofs.rule_parts.part_rules.Goals as goal

pub loop-number-preserved : goal.loop-number-preserved
loop-number-preserved c =
    let k = c.loop-number.number-index in
    let numbers = c.args.numbers.now in
    let groups = c.args.groups.now in
    let number = get_or numbers k 0 in
    let here = c.loop-number.invariant.rule in
    let low = c.requires.within k 0 c.loop-number-test.true in
    let so_far : length (take k numbers) ≡ k = length-take-le k numbers (let l = c.loop-number-test.true in omega (arith, l)) in
    let read : list_at groups number ≡ c.index-groups-number.result.items = list_at-read groups number c.index-groups-number.result low c.index-groups-number.is in
    let place : c.loop-number.rule + 1 ≡ length (take k numbers) + 1 = omega (arith, here, so_far) in
    let told : c.group_from.result.now ≡ group_from (list_at groups number) (length (take k numbers) + 1) =
    c.group_from.ensures ∙ ap (λ (group : List ℕ). group_from group (c.loop-number.rule + 1)) (c.as_slice.ensures.value ∙ sym read) ∙ ap (group_from (list_at groups number)) place in
    let pushed : c.push-in-loop-number.new.self ≡ c.loop-number.parts ++ group_from (list_at groups number) (length (take k numbers) + 1) ∷ [] =
    c.in_ok-push-2.ensures.ok ∙ ap (λ (group : List ℕ). c.loop-number.parts ++ group ∷ []) told in
    record {
      rule = omega (arith, here);
      parts = subst (λ (ns : List ℕ). ArePartRules groups ns c.push-in-loop-number.new.self) (sym (take_more numbers k 0 c.loop-number-test.true))
          (ArePartRules-push groups (take k numbers) number c.loop-number.parts c.push-in-loop-number.new.self c.loop-number.invariant.parts pushed);
    }
