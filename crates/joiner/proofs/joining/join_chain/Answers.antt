-- What is found is the first overlap; where nothing is, the links cover the one word.
use Rattle.std.proofs.Common.{[], All, sym, subst}
use Rattle.std.specs.Prelude.{Some, None}
use Rattle.lexicon_definitions.specs.Lexicons.{RuleSet}
use Rattle.segmentation_definitions.specs.Derivations.{Covers}
use Rattle.joiner.specs.Joining.{HasNumber, IsFirstFound}
use Rattle.joiner.proofs.LinkSteps.{have_numbers}
use Rattle.joiner.proofs.FoundOverlaps.{found_in_chain, covered_if_none}
use Rattle.joiner.proofs.joining.join_chain.Goals as goal

pub first_overlap-requires : goal.first_overlap-requires
first_overlap-requires c =
    subst (λ (rules : RuleSet). All (HasNumber rules) c.args.links.now) (sym c.rules-rules.ensures.value)
    (have_numbers c.args.lexicon.now.lexicon c.args.links.now c.requires.chain)

pub covered_word-requires-clause-rules : goal.covered_word-requires-clause-rules
covered_word-requires-clause-rules c =
    subst (λ (rules : RuleSet). All (HasNumber rules) c.args.links.now) (sym c.rules-rules.ensures.value)
    (have_numbers c.args.lexicon.now.lexicon c.args.links.now c.requires.chain)

pub returns-in-Some : goal.returns-in-Some
returns-in-Some c = record {
  ok = found_in_chain c.args.lexicon.now.lexicon c.args.links.now c.in-Some.overlap c.requires.chain
      (subst (λ (rules : RuleSet). IsFirstFound rules 0 c.args.links.now (Some c.in-Some.overlap)) c.rules-rules.ensures.value
      (subst (IsFirstFound c.rules-rules.result.now 0 c.args.links.now) c.in-Some.is c.in_ok-overlap.ensures.ok));
}

pub covered_word-requires-clause-covered : goal.covered_word-requires-clause-covered
covered_word-requires-clause-covered c =
    let covered = covered_if_none c.args.lexicon.now.lexicon c.args.links.now c.requires.chain
    (subst (λ (rules : RuleSet). IsFirstFound rules 0 c.args.links.now None) c.rules-rules.ensures.value
    (subst (IsFirstFound c.rules-rules.result.now 0 c.args.links.now) c.in_default.is c.in_ok-overlap.ensures.ok)) in
    (covered.0, subst (λ (rules : RuleSet). Covers rules [] c.args.links.now covered.0 []) (sym c.rules-rules.ensures.value) covered.1)
