-- A key past the limit, or of a phase that may not begin there, does nothing.
use Rattle.std.proofs.Common.{subst, rules}
use Rattle.lexicon_definitions.specs.Leads.{leads_of}
use Rattle.lexicon_definitions.specs.Lexicons.{RuleSet}
use Rattle.derivation.specs.Guides.{entrance_of}
use Rattle.derivation.specs.Steps.{key_of}
use Rattle.search_frames.specs.Ahead.{IsAhead}
use Rattle.search_frames.specs.Frames.{numbered_of}
use Rattle.search_frames.proofs.AheadTests.{past_limit, not_begun}
use Rattle.search_frames.proofs.letter_testing.test_letters.Goals as goal
use Rattle.search_frames.proofs.letter_testing.test_letters.Goals.{then-ahead-place-via-then-ahead-place, then-ahead-place-via-else-ahead-place+then-not-may_begin}

pub returns-then-ahead-place : goal.returns-then-ahead-place
returns-then-ahead-place c =
    let searched = c.args.lexicon.now in
    let line = c.args.line.now in
    let choices = c.args.choices.now in
    let place = c.args.place.now in
    let here = numbered_of searched place in
    let key = key_of c.args.step.now in
    let same = c.rules-rules.ensures.value in
    let is = subst (λ (rules : RuleSet). IsAhead rules line place.at (entrance_of (leads_of rules.rules) place.entrance) c.of-ahead.result) same c.of-ahead.ensures in
    record {
      exact = elim c.then-ahead-place.branch [
        | then-ahead-place-via-then-ahead-place w ↦ past_limit searched line choices here key c.of-ahead.result is (search rules)
        | then-ahead-place-via-else-ahead-place+then-not-may_begin w ↦ not_begun searched line choices here key (search rules)
      ];
    }
