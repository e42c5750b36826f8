-- The rules are the lexicon's; the form may be entered, no blank stands before the limit, and the choices allow what they are asked.
use Rattle.std.proofs.Common.{refl}
use Rattle.derivation.specs.Steps.{key_meant}
use Rattle.search_frames.specs.Frames.{numbered_of}
use Rattle.search_frames.proofs.AheadTests.{some_letter, no_blank_inside}
use Rattle.search_frames.proofs.ahead.Ahead.fits.Goals as goal

pub returns-then-lets_in : goal.returns-then-lets_in
returns-then-lets_in c =
    let searched = c.args.lexicon.now in
    let line = c.args.line.now in
    let here = numbered_of searched c.args.place.now in
    let key = key_meant c.args.key in
    let possible = c.requires.possible in
    let some = some_letter searched key.phase _ c.rules-rules.ensures.searched possible.form in
    let lets = rw c.rules-rules.ensures.value at (c.if-lets_in.ensures line) in
    let allowed = rw c.rules-rules.ensures.value at c.is_allowed.ensures in (
      λ t. record {
        number = possible.number;
        within = possible.within;
        form = possible.form;
        enters = (lets c.requires.ahead possible.within c.requires.begins some).0 refl;
        blanks = no_blank_inside searched line c.args.choices.now here key c.args.self c.requires.ahead c.requires.limit;
        allowed = allowed.0 t;
      },
      λ fits. allowed.1 fits.allowed,
    )

pub returns-else-lets_in : goal.returns-else-lets_in
returns-else-lets_in c =
    let searched = c.args.lexicon.now in
    let line = c.args.line.now in
    let key = key_meant c.args.key in
    let possible = c.requires.possible in
    let some = some_letter searched key.phase _ c.rules-rules.ensures.searched possible.form in
    let lets = rw c.rules-rules.ensures.value at (c.lets_in.ensures line) in
    (λ t. absurd (cc), λ fits. (lets c.requires.ahead possible.within c.requires.begins some).1 fits.enters)
