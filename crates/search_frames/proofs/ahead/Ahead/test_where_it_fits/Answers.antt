-- What the rule does after the letters of the key, the key does where it fits; where it does not, it does nothing.
use Rattle.std.proofs.Common.{refl}
use Rattle.derivation.specs.Steps.{key_meant}
use Rattle.search_frames.specs.Frames.{numbered_of}
use Rattle.search_frames.proofs.AheadTests.{rule_does, not_fitting}
use Rattle.search_frames.proofs.ahead.Ahead.test_where_it_fits.Goals as goal

pub returns-then-fits : goal.returns-then-fits
returns-then-fits c =
    let searched = c.args.lexicon.now in
    let here = numbered_of searched c.args.place.now in
    let key = key_meant c.args.way.key in
    record {
      exact = rule_does searched c.args.line.now c.args.choices.now here key c.args.self.may_end c.requires.ahead.ending c.args.way.test c.requires.rule
          (c.if-fits.ensures.0 refl) c.requires.test;
    }

pub returns-else-fits : goal.returns-else-fits
returns-else-fits c =
    let searched = c.args.lexicon.now in
    let here = numbered_of searched c.args.place.now in
    record { exact = not_fitting searched c.args.line.now c.args.choices.now here (key_meant c.args.way.key) (λ fits. absurd (cc (c.if-fits.ensures.1 fits))) }
