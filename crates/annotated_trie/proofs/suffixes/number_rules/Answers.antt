-- the u of one rule more
use Rattle.std.proofs.Common.{◌≡◌, ◌+◌, ℕ, List, [], ◌∷◌, ◌++◌, length, take, sym, ◌∙◌, ap, subst, arith, length-append}
use Rattle.std.proofs.lemmas.List.{take_more}
use Rattle.lexicon_definitions.specs.Limits.{IsShortRule}
use Rattle.lexicon_definitions.specs.Rules.{Rule}
use Rattle.annotated_trie.specs.Suffixes.{AreNumbers, StandsFor}
use Rattle.annotated_trie.proofs.SuffixLaws.{AreNumbers-push}
use Rattle.annotated_trie.proofs.suffixes.number_rules.Goals as goal

pub loop-rule-preserved : goal.loop-rule-preserved
loop-rule-preserved c =
    let k = c.loop-rule.rule-index in
    let rules = c.args.rules.now in
    let rule = c.rule-item.result in
    let first = c.args.suffixes.now.keys in
    let old = c.loop-rule.suffixes.keys in
    let new = c.number_suffix.new.suffixes.keys in
    let numbers = c.loop-rule.numbers.items in
    let number = c.in_ok-number.number in
    let u : c.as_slice.result.now ≡ rule.u = c.as_slice.ensures.value ∙ ap (λ (r : Rule). r.u) c.rule.view_is in
    let adds = c.in_ok-number.ensures.grown in
    let stands : StandsFor new number rule.u = subst (StandsFor new number) u c.in_ok-number.ensures.ok in
    let short = (subst IsShortRule (sym c.rule-item.is) (c.requires.short k rule c.loop-rule-test.true)).u in
    let u_long = ap (λ (word : List ℕ). length word) u in
    let so_far = c.loop-rule.invariant.few in
    let added = adds.few in
    let new_long : length new ≡ length (old ++ adds.more) = ap (λ (keys : List (ℕ × ℕ)). length keys) adds.is in
    let long = length-append old adds.more in
    let longer : take (k + 1) rules ≡ take k rules ++ rule ∷ [] =
    take_more rules k rule c.loop-rule-test.true ∙ ap (λ (r : Rule). take k rules ++ r ∷ []) (sym c.rule-item.is) in
    let pushed : c.push.new.self.items ≡ numbers ++ number ∷ [] = c.in_ok-push.ensures.items in
    record {
      few = omega (arith, so_far, added, new_long, long, short, u_long);
      numbers = subst (λ (rs : List Rule). AreNumbers new rs c.push.new.self.items) (sym longer) (subst (AreNumbers new (take k rules ++ rule ∷ [])) (sym pushed)
          (AreNumbers-push (length c.as_slice.result.now) old new (take k rules) rule numbers number c.loop-rule.invariant.numbers adds c.in_ok-number.ensures.low stands));
    }
