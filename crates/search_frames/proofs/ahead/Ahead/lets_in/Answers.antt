-- The first letter of the form is the next one of the line, or that of the rule's u.
use Rattle.std.proofs.Common.{◌≡◌, arith}
use Rattle.lexicon_definitions.specs.Leads.{leads_of}
use Rattle.derivation.specs.Guides.{entrance_of}
use Rattle.derivation.specs.Steps.{key_meant}
use Rattle.search_frames.proofs.AheadTests.{enters_with_letter, enters_with_rule}
use Rattle.search_frames.proofs.ahead.Ahead.lets_in.Goals as goal

pub returns-then-key-gt0 : goal.returns-then-key-gt0
returns-then-key-gt0 c line is within begins some =
    let entrance = entrance_of (leads_of c.args.rules.now.rules) c.args.place.now.entrance in
    enters_with_letter c.args.rules.now line c.args.place.now.at entrance (key_meant c.args.key) c.args.self.enters within c.if-key-gt0.true begins is.entering

pub returns-else-key-gt0 : goal.returns-else-key-gt0
returns-else-key-gt0 c line is within begins some =
    let entrance = entrance_of (leads_of c.args.rules.now.rules) c.args.place.now.entrance in
    let low = c.if-key-gt0.false in
    let none : c.args.key.taken ≡ 0 = omega (arith, low) in
    enters_with_rule c.args.rules.now line c.args.place.now.at entrance (key_meant c.args.key) c.lets_rule_in.result none some begins c.lets_rule_in.ensures
