-- All forms that take a letter of the line begin with its next one, and those that take none with the one u of the part.
use Rattle.std.proofs.Common.{◌≡◌, ◌↔◌, ℕ, List, IsTrue, Contains, get_or, ap, subst, ◌∙◌, arith}
use Rattle.std.proofs.lemmas.List.{get_or_default}
use Rattle.annotated_trie.specs.Choices.{AnnotatedTrie, rules_of_part}
use Rattle.search_frames.specs.Ahead.{LetsRuleIn}
use Rattle.search_frames.specs.Configurations.{rules_in}
use Rattle.search_frames.specs.Frames.{numbered_of}
use Rattle.search_frames.proofs.AheadTests.{let_in_with_letter, let_in_with_rule}
use Rattle.search_frames.proofs.ahead.Ahead.lets_part_in.Goals as goal

pub returns-then-taken-gt0 : goal.returns-then-taken-gt0
returns-then-taken-gt0 c line is =
    let searched = c.args.lexicon.now in
    let_in_with_letter searched line (numbered_of searched c.args.place.now) c.args.taken (rules_of_part searched.tries c.args.part) c.args.self is c.if-taken-gt0.true

pub returns-in-len1-up : goal.returns-in-len1-up
returns-in-len1-up c line is =
    let searched = c.args.lexicon.now in
    let here = numbered_of searched c.args.place.now in
    let rules = rules_of_part searched.tries c.args.part in
    let list = c.rules_of_part.result.now in
    let first = get_or list 0 0 in
    let value : list ≡ rules = c.rules_of_part.ensures.value ∙ ap (λ (t : AnnotatedTrie). rules_of_part t c.args.part) c.tries.ensures.value in
    let some : Contains rules first = subst (λ (l : List ℕ). Contains l first) value (0, c.in-len1-up.len_at_least, get_or_default list 0 first 0 c.in-len1-up.len_at_least) in
    let none : c.args.taken ≡ 0 = (let low = c.if-taken-gt0.false in omega (arith, low)) in
    let says : IsTrue c.lets_rule_in.result ↔ LetsRuleIn (rules_in searched) here.entrance first = rw c.rules.ensures.value at c.lets_rule_in.ensures in
    let_in_with_rule searched line here c.args.taken rules c.rules.ensures.searched none first
    (λ other has. c.rules.ensures.searched.tries.one_u c.args.part first other some has) c.lets_rule_in.result says
