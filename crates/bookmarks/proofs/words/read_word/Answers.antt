-- A text that is empty or too long is read as no word; any other that spells a word is read as it.
use Rattle.std.proofs.Common.{◌<◌, length, arith}
use Rattle.std.proofs.lemmas.Bool.Decides.{nat_tests}
use Rattle.bookmarks.proofs.WordsRead.{no_short_word, short_word}
use Rattle.bookmarks.proofs.words.read_word.Goals as goal
use Rattle.bookmarks.proofs.words.read_word.Goals.{then-is_empty-via-then-is_empty, then-is_empty-via-else-is_empty+then-text-most}

pub returns-then-is_empty : goal.returns-then-is_empty
returns-then-is_empty c =
    no_short_word c.args.most c.args.text.now (λ some few.
    elim c.then-is_empty.branch [
      | then-is_empty-via-then-is_empty w ↦ grind (arith, nat_tests)
      | then-is_empty-via-else-is_empty+then-text-most w ↦ omega arith
    ])

pub returns-in-Ok : goal.returns-in-Ok
returns-in-Ok c =
    let some : 0 < length c.args.text.now = grind (arith, nat_tests) in
    short_word c.args.most c.args.text.now c.in-Ok.word c.in-Ok.ensures.ok some c.if-text-most.false
