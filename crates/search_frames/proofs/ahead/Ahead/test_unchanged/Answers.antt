-- A form that has no rule is what is supplied and the letters that are taken, and has a letter.
use Rattle.std.proofs.Common.{List, ℕ, ◌++◌, take, drop}
use Rattle.answer_paths.specs.Fronts.{supplied}
use Rattle.search_frames.specs.Frames.{numbered_of}
use Rattle.search_frames.proofs.AheadTests.{some_letter, some_unchanged}
use Rattle.search_frames.proofs.ahead.Ahead.test_unchanged.Goals as goal

pub last_taken-last-requires-clause-some : goal.last_taken-last-requires-clause-some
last_taken-last-requires-clause-some c =
    let searched = c.args.lexicon.now in
    let place = c.args.place.now in
    let front : List ℕ = supplied (numbered_of searched place).entrance ++ take c.args.key.taken (drop place.at c.args.line.now.letters) in
    let some = some_letter searched c.args.key.phase _ c.rules.ensures.searched c.requires.possible.form in
    rw c.rules.ensures.value (some_unchanged searched.lexicon.rules front c.args.key.rule c.requires.unchanged some)
