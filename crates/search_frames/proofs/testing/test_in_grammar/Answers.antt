-- A key that neither leads on nor ends the line as its letters tell is refused.
use Rattle.std.proofs.Common.{subst}
use Rattle.search_frames.specs.Frames.{numbered_of}
use Rattle.search_frames.specs.LetterTests.{IsLetterTestOf}
use Rattle.search_frames.proofs.ConfigurationRanks.{may_if_leads, may_if_ends}
use Rattle.search_frames.proofs.testing.test_in_grammar.Goals as goal

pub returns-in-Refused : goal.returns-in-Refused
returns-in-Refused c = record {
  exact = λ line choices key within phase possible may.
      let searched = c.args.lexicon.now in
      let here = numbered_of searched c.args.place.now in
      let neither = subst (λ test. IsLetterTestOf searched line choices here key test) c.in-Refused.is may in
      record {
        leads_on = λ leads. neither.leads_on (may_if_leads searched line choices here key leads);
        ends = λ ends. neither.ends (may_if_ends searched line choices here key ends);
      };
}
