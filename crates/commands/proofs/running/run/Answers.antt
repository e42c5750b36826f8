-- The words are a command's or no command's; the run ended as the command did, or the words are refused.
use Rattle.std.proofs.Common.{refl, ap, ◌∙◌, inl, inr, map, string_bytes}
use Rattle.outside.specs.Told.{bytes_after}
use Rattle.std.specs.Prelude.{codes}
use Rattle.segmentation_definitions.specs.PrintedAnswers.{output_line}
use Rattle.run_definitions.specs.Commands.{AreWordsOf, AreOfNoCommand}
use Rattle.run_definitions.specs.Refusals.{usage_outcome}
use Rattle.run_definitions.specs.Outcomes.{OfNone}
use Rattle.command_words.specs.Meant.{command_meant}
use Rattle.commands.specs.Sessions.{source_told}
use Rattle.commands.proofs.Runs.{may_end}
use Rattle.commands.proofs.RunOutcomes.{no_command, writes_nothing, writes_none}
use Rattle.commands.proofs.StatusesTold.{wrote_all, tells_end}
use Rattle.commands.proofs.CommandRuns.{command_outcome, command_missing, command_prefix, command_replies, command_usage, command_read_fault, command_write_fault, command_files, command_failed_writes, command_other_files, command_done_files, command_read_fault_files, command_read_fault_output, command_write_fault_files, command_input, command_unread_input}
use Rattle.commands.proofs.running.run.Goals as goal

pub returns-in-Ok-Some-clause-outcome : goal.returns-in-Ok-Some-clause-outcome
returns-in-Ok-Some-clause-outcome g c own files old told written is_told =
    let words = map string_bytes c.args.words.now.items in
    let command = command_meant c.in-Ok-Some.command in
    let are : AreWordsOf command words = rw (c.in-Ok-Some.field-0-is, c.as_slice.ensures.value) at c.in-Ok-Some.ensures.command in
    wrote_all _ _ _ _ _ (command_outcome words command are _ _ _ _ _ _ c.run_command.ensures.ran own files old told written is_told)

pub returns-in-Ok-Some-clause-fault : goal.returns-in-Ok-Some-clause-fault
returns-in-Ok-Some-clause-fault g c own files old told written is_told =
    let words = map string_bytes c.args.words.now.items in
    let command = command_meant c.in-Ok-Some.command in
    let are : AreWordsOf command words = rw (c.in-Ok-Some.field-0-is, c.as_slice.ensures.value) at c.in-Ok-Some.ensures.command in
    tells_end _ _ _ _ _ (command_outcome words command are _ _ _ _ _ _ c.run_command.ensures.ran own files old told written is_told)

pub returns-in-Ok-Some-clause-missing : goal.returns-in-Ok-Some-clause-missing
returns-in-Ok-Some-clause-missing g c fault files old told written =
    let words = map string_bytes c.args.words.now.items in
    let command = command_meant c.in-Ok-Some.command in
    let are : AreWordsOf command words = rw (c.in-Ok-Some.field-0-is, c.as_slice.ensures.value) at c.in-Ok-Some.ensures.command in
    elim (command_missing words command are _ _ _ _ _ _ c.run_command.ensures.ran fault files old told written) [
      | inl failed ↦ inl failed
      | inr all ↦ inr (wrote_all _ _ _ _ _ all)
    ]

pub returns-in-Ok-Some-clause-prefix : goal.returns-in-Ok-Some-clause-prefix
returns-in-Ok-Some-clause-prefix g c files told is_told =
    let words = map string_bytes c.args.words.now.items in
    let command = command_meant c.in-Ok-Some.command in
    let are : AreWordsOf command words = rw (c.in-Ok-Some.field-0-is, c.as_slice.ensures.value) at c.in-Ok-Some.ensures.command in
    command_prefix words command are _ _ _ _ _ _ c.run_command.ensures.ran files told is_told

pub returns-in-Ok-Some-clause-replies : goal.returns-in-Ok-Some-clause-replies
returns-in-Ok-Some-clause-replies g c fault lex too files bytes old told left written =
    let words = map string_bytes c.args.words.now.items in
    let command = command_meant c.in-Ok-Some.command in
    let are : AreWordsOf command words = rw (c.in-Ok-Some.field-0-is, c.as_slice.ensures.value) at c.in-Ok-Some.ensures.command in
    command_replies words command are _ _ _ _ _ _ (λ same. λ i. source_told (g.I.Source.left (same i)) (g.I.Source.faults (same i))) c.run_command.ensures.ran fault lex too files bytes old told left written

pub returns-in-Ok-Some-clause-usage : goal.returns-in-Ok-Some-clause-usage
returns-in-Ok-Some-clause-usage g c usage =
    let words = map string_bytes c.args.words.now.items in
    let command = command_meant c.in-Ok-Some.command in
    let are : AreWordsOf command words = rw (c.in-Ok-Some.field-0-is, c.as_slice.ensures.value) at c.in-Ok-Some.ensures.command in
    absurd (command_usage words command are _ _ _ _ _ _ c.run_command.ensures.ran usage)

pub returns-in-Ok-Some-clause-no_command : goal.returns-in-Ok-Some-clause-no_command
returns-in-Ok-Some-clause-no_command g c none =
    let words = map string_bytes c.args.words.now.items in
    let command = command_meant c.in-Ok-Some.command in
    let are : AreWordsOf command words = rw (c.in-Ok-Some.field-0-is, c.as_slice.ensures.value) at c.in-Ok-Some.ensures.command in
    absurd (none command are)

pub returns-in-Ok-Some-clause-read_fault : goal.returns-in-Ok-Some-clause-read_fault
returns-in-Ok-Some-clause-read_fault g c fault =
    let words = map string_bytes c.args.words.now.items in
    let command = command_meant c.in-Ok-Some.command in
    let are : AreWordsOf command words = rw (c.in-Ok-Some.field-0-is, c.as_slice.ensures.value) at c.in-Ok-Some.ensures.command in
    command_read_fault words command are _ _ _ _ _ _ c.run_command.ensures.ran fault

pub returns-in-Ok-Some-clause-write_fault : goal.returns-in-Ok-Some-clause-write_fault
returns-in-Ok-Some-clause-write_fault g c fault =
    let words = map string_bytes c.args.words.now.items in
    let command = command_meant c.in-Ok-Some.command in
    let are : AreWordsOf command words = rw (c.in-Ok-Some.field-0-is, c.as_slice.ensures.value) at c.in-Ok-Some.ensures.command in
    command_write_fault words command are _ _ _ _ _ _ c.run_command.ensures.ran fault

pub returns-in-Ok-Some-clause-files : goal.returns-in-Ok-Some-clause-files
returns-in-Ok-Some-clause-files g c none =
    let words = map string_bytes c.args.words.now.items in
    let command = command_meant c.in-Ok-Some.command in
    let are : AreWordsOf command words = rw (c.in-Ok-Some.field-0-is, c.as_slice.ensures.value) at c.in-Ok-Some.ensures.command in
    command_files words command are _ _ _ _ _ _ c.run_command.ensures.ran none

pub returns-in-Ok-Some-clause-other_files : goal.returns-in-Ok-Some-clause-other_files
returns-in-Ok-Some-clause-other_files g c written writes =
    let words = map string_bytes c.args.words.now.items in
    let command = command_meant c.in-Ok-Some.command in
    let are : AreWordsOf command words = rw (c.in-Ok-Some.field-0-is, c.as_slice.ensures.value) at c.in-Ok-Some.ensures.command in
    command_other_files words command are _ _ _ _ _ _ c.run_command.ensures.ran written writes

pub returns-in-Ok-Some-clause-done_files : goal.returns-in-Ok-Some-clause-done_files
returns-in-Ok-Some-clause-done_files g c files outcome told is not =
    let words = map string_bytes c.args.words.now.items in
    let command = command_meant c.in-Ok-Some.command in
    let are : AreWordsOf command words = rw (c.in-Ok-Some.field-0-is, c.as_slice.ensures.value) at c.in-Ok-Some.ensures.command in
    command_done_files words command are _ _ _ _ _ _ c.run_command.ensures.ran files outcome told is not

pub returns-in-Ok-Some-clause-read_fault_files : goal.returns-in-Ok-Some-clause-read_fault_files
returns-in-Ok-Some-clause-read_fault_files g c fault =
    let words = map string_bytes c.args.words.now.items in
    let command = command_meant c.in-Ok-Some.command in
    let are : AreWordsOf command words = rw (c.in-Ok-Some.field-0-is, c.as_slice.ensures.value) at c.in-Ok-Some.ensures.command in
    command_read_fault_files words command are _ _ _ _ _ _ c.run_command.ensures.ran fault

pub returns-in-Ok-Some-clause-write_fault_files : goal.returns-in-Ok-Some-clause-write_fault_files
returns-in-Ok-Some-clause-write_fault_files g c fault out writes files told =
    let words = map string_bytes c.args.words.now.items in
    let command = command_meant c.in-Ok-Some.command in
    let are : AreWordsOf command words = rw (c.in-Ok-Some.field-0-is, c.as_slice.ensures.value) at c.in-Ok-Some.ensures.command in
    command_write_fault_files words command are _ _ _ _ _ _ c.run_command.ensures.ran fault out writes files told

pub returns-in-Ok-Some-clause-failed_writes : goal.returns-in-Ok-Some-clause-failed_writes
returns-in-Ok-Some-clause-failed_writes g c none =
    let words = map string_bytes c.args.words.now.items in
    let command = command_meant c.in-Ok-Some.command in
    let are : AreWordsOf command words = rw (c.in-Ok-Some.field-0-is, c.as_slice.ensures.value) at c.in-Ok-Some.ensures.command in
    command_failed_writes words command are _ _ _ _ _ _ c.run_command.ensures.ran none

pub returns-in-Ok-Some-clause-unused_shelf : goal.returns-in-Ok-Some-clause-unused_shelf
returns-in-Ok-Some-clause-unused_shelf g c reads writes =
    let words = map string_bytes c.args.words.now.items in
    let command = command_meant c.in-Ok-Some.command in
    let are : AreWordsOf command words = rw (c.in-Ok-Some.field-0-is, c.as_slice.ensures.value) at c.in-Ok-Some.ensures.command in
    c.run_command.ensures.unused_shelf (reads command are) (writes_none command (writes_nothing words command are writes))

pub returns-in-Ok-Some-clause-failed_reads : goal.returns-in-Ok-Some-clause-failed_reads
returns-in-Ok-Some-clause-failed_reads g c reads =
    let words = map string_bytes c.args.words.now.items in
    let command = command_meant c.in-Ok-Some.command in
    let are : AreWordsOf command words = rw (c.in-Ok-Some.field-0-is, c.as_slice.ensures.value) at c.in-Ok-Some.ensures.command in
    c.run_command.ensures.failed_reads (reads command are)

pub returns-in-Ok-Some-clause-read_fault_output : goal.returns-in-Ok-Some-clause-read_fault_output
returns-in-Ok-Some-clause-read_fault_output g c fault not =
    let words = map string_bytes c.args.words.now.items in
    let command = command_meant c.in-Ok-Some.command in
    let are : AreWordsOf command words = rw (c.in-Ok-Some.field-0-is, c.as_slice.ensures.value) at c.in-Ok-Some.ensures.command in
    command_read_fault_output words command are _ _ _ _ _ _ c.run_command.ensures.ran fault not

pub returns-in-Ok-Some-clause-input : goal.returns-in-Ok-Some-clause-input
returns-in-Ok-Some-clause-input g c not =
    let words = map string_bytes c.args.words.now.items in
    let command = command_meant c.in-Ok-Some.command in
    let are : AreWordsOf command words = rw (c.in-Ok-Some.field-0-is, c.as_slice.ensures.value) at c.in-Ok-Some.ensures.command in
    command_input words command are _ _ _ _ _ _ c.run_command.ensures.ran not

pub returns-in-Ok-Some-clause-unread_input : goal.returns-in-Ok-Some-clause-unread_input
returns-in-Ok-Some-clause-unread_input g c lex too files told =
    let words = map string_bytes c.args.words.now.items in
    let command = command_meant c.in-Ok-Some.command in
    let are : AreWordsOf command words = rw (c.in-Ok-Some.field-0-is, c.as_slice.ensures.value) at c.in-Ok-Some.ensures.command in
    command_unread_input words command are _ _ _ _ _ _ c.run_command.ensures.ran lex too files told

-- ---- words of no command

pub returns-in-Ok-None-clause-outcome : goal.returns-in-Ok-None-clause-outcome
returns-in-Ok-None-clause-outcome g c own files old told written is_told =
    let words = map string_bytes c.args.words.now.items in
    let none : AreOfNoCommand words = rw (c.in-Ok-None.field-0-is, c.as_slice.ensures.value) at c.in-Ok-None.ensures.none in
    let (same, all) = c.finish.ensures.all own in
    record {
      outcome = usage_outcome files;
      is_it = no_command words files _ none;
      output = all ∙ ap (λ x. bytes_after x (output_line (codes "usage"))) written;
      files = told;
      status = rw same refl;
    }

pub returns-in-Ok-None-clause-fault : goal.returns-in-Ok-None-clause-fault
returns-in-Ok-None-clause-fault g c own files old told written is_told =
    let words = map string_bytes c.args.words.now.items in
    let none : AreOfNoCommand words = rw (c.in-Ok-None.field-0-is, c.as_slice.ensures.value) at c.in-Ok-None.ensures.none in
    let (same, all) = c.finish.ensures.all own in
    record { outcome = usage_outcome files; is_it = no_command words files _ none; told = rw same refl }

pub returns-in-Ok-None-clause-read_fault_output : goal.returns-in-Ok-None-clause-read_fault_output
returns-in-Ok-None-clause-read_fault_output g c fault not = absurd (c.finish.ensures.read_fault fault)

pub returns-in-Ok-None-clause-prefix : goal.returns-in-Ok-None-clause-prefix
returns-in-Ok-None-clause-prefix g c files told is_told =
    let words = map string_bytes c.args.words.now.items in
    let none : AreOfNoCommand words = rw (c.in-Ok-None.field-0-is, c.as_slice.ensures.value) at c.in-Ok-None.ensures.none in
    inr (output_line (codes "usage"), OfNone none refl, c.finish.ensures.prefix)

pub returns-in-Ok-None-clause-replies : goal.returns-in-Ok-None-clause-replies
returns-in-Ok-None-clause-replies g c fault lex too files bytes old told left written =
    let words = map string_bytes c.args.words.now.items in
    let none : AreOfNoCommand words = rw (c.in-Ok-None.field-0-is, c.as_slice.ensures.value) at c.in-Ok-None.ensures.none in
    absurd (c.finish.ensures.read_fault fault)

pub returns-in-Ok-None-clause-usage : goal.returns-in-Ok-None-clause-usage
returns-in-Ok-None-clause-usage g c usage =
    let words = map string_bytes c.args.words.now.items in
    let none : AreOfNoCommand words = rw (c.in-Ok-None.field-0-is, c.as_slice.ensures.value) at c.in-Ok-None.ensures.none in
    none

pub returns-in-Ok-None-clause-no_command : goal.returns-in-Ok-None-clause-no_command
returns-in-Ok-None-clause-no_command g c none = may_end _ _ _ _ _ _ c.finish.ensures

pub returns-in-Ok-None-clause-write_fault_files : goal.returns-in-Ok-None-clause-write_fault_files
returns-in-Ok-None-clause-write_fault_files g c fault out writes files told =
    let words = map string_bytes c.args.words.now.items in
    let none : AreOfNoCommand words = rw (c.in-Ok-None.field-0-is, c.as_slice.ensures.value) at c.in-Ok-None.ensures.none in
    inr (usage_outcome files, no_command words files _ none, told)
