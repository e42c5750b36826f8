-- The words are a name and the words after it.
use Rattle.std.proofs.Common.{◌≡◌, ◌≤◌, length, map, string_bytes, arith, subst, sym}
use Rattle.std.proofs.lemmas.List.{length-map}
use Rattle.std.specs.List.{All}
use Rattle.std.proofs.lemmas.List.Elements.{All-map}
use Rattle.std.proofs.lemmas.Option.{IfSome_then}
use Rattle.run_definitions.specs.declared.limits.TheConstants.{MOST_WORD_BYTES}
use Rattle.run_definitions.specs.Commands.{name_of_command}
use Rattle.command_words.specs.Meant.{command_meant, given_meant}
use Rattle.command_words.proofs.WordLists.{after_first, length_after_first, head_and_rest, All-unmap}
use Rattle.command_words.proofs.CommandsRead.{too_many, too_long, taken_by}
use Rattle.command_words.proofs.command.command_of.Goals as goal

pub returns-then-following-clause-none : goal.returns-then-following-clause-none
returns-then-following-clause-none c =
    let words = c.args.words.now in
    let are = head_and_rest string_bytes words c.name-item.result c.in-len1-up.len_at_least c.name-item.is in
    let many = c.if-following.true in
    too_many (map string_bytes words) (string_bytes c.name-item.result) (map string_bytes (after_first words)) are
    (omega (arith, many, length-map (after_first words) string_bytes, length_after_first words))

pub returns-then-not-are_within_limit-clause-none : goal.returns-then-not-are_within_limit-clause-none
returns-then-not-are_within_limit-clause-none c =
    let words = c.args.words.now in
    let are = head_and_rest string_bytes words c.name-item.result c.in-len1-up.len_at_least c.name-item.is in
    too_long (map string_bytes words) (string_bytes c.name-item.result) (map string_bytes (after_first words)) are
    (λ all. let yes = c.are_within_limit.ensures.1 (All-unmap (λ word. length word ≤ MOST_WORD_BYTES) string_bytes (after_first words) all) in
    let not = c.if-not-are_within_limit.true in cc (yes, not))

pub returns-in-Some-clause-command : goal.returns-in-Some-clause-command
returns-in-Some-clause-command c =
    let words = c.args.words.now in
    let are = head_and_rest string_bytes words c.name-item.result c.in-len1-up.len_at_least c.name-item.is in
    let name = string_bytes c.name-item.result in
    let following = map string_bytes (after_first words) in
    let all : All (λ word. length word ≤ MOST_WORD_BYTES) following =
    All-map (λ word. length word ≤ MOST_WORD_BYTES) string_bytes (after_first words) (c.are_within_limit.ensures.0 (c.if-not-are_within_limit.false)) in
    let give = rw c.in-Some.is at c.in_ok-given.ensures in
    IfSome_then c.command_with.result c.command_with.ensures.some
    (λ command told. taken_by (map string_bytes words) name following are (given_meant c.in-Some.given) (sym give) (command_meant command) all
    (subst (λ n. n ≡ name_of_command (command_meant command)) c.as_str.ensures.value told.0) told.1)
