-- The trie has a root for each phase of the lexicon, and as many pairs as the lexicon has lines; and what was found can be printed.
use Rattle.std.proofs.Common.{sym, subst, ◌∙◌}
use Rattle.std.specs.List.{All}
use Rattle.form_file.specs.Contents.{lexicon_of}
use Rattle.run_definitions.specs.declared.limits.TheConstants.{CHECK_OVERLAPS}
use Rattle.commands.specs.Checks.{CanBePrinted}
use Rattle.commands.proofs.CheckedOverlaps.{can_be_printed}
use Rattle.commands.proofs.check.print_check.Goals as goal

pub first_overlaps-requires : goal.first_overlaps-requires
first_overlaps-requires c = c.requires.trie.count ∙ c.requires.lexicon.count

pub print_counts-requires-clause-pairs : goal.print_counts-requires-clause-pairs
print_counts-requires-clause-pairs c = c.requires.pairs

pub print_counts-requires-clause-few : goal.print_counts-requires-clause-few
print_counts-requires-clause-few c = c.requires.limits.lines

pub push_overlaps-requires : goal.push_overlaps-requires
push_overlaps-requires c =
    subst (All (CanBePrinted c.args.contents.now.rules)) (sym c.as_slice.ensures.value)
    (can_be_printed (lexicon_of c.args.contents.now) c.in_ok-found.found.overlaps.items CHECK_OVERLAPS c.in_ok-found.found.more c.requires.lexicon.count
    c.in_ok-found.ensures.ok)
