-- The text of a number is short, and is read in one way, without a fault.
use Rattle.demo_counts.proofs.InputsRead.{text_is_short, line_is}
use Rattle.demo_counts.proofs.ErrorsRead.{no_line_error}
use Rattle.demo_counts.proofs.counts.read_text.Goals as goal

pub read_line-requires : goal.read_line-requires
read_line-requires c = text_is_short c.args.text.now c.requires.0 c.requires.1

pub unreachable-requires : goal.unreachable-requires
unreachable-requires c =
    let is = c.in-Err-Spell.field-0-is in
    no_line_error c.args.text.now c.requires.0 c.requires.1 c.in-Err-Spell.field-0 (λ e. cc) c.in-Err-Spell.ensures.fault

pub unreachable-requires-in-Err-NoLetters : goal.unreachable-requires-in-Err-NoLetters
unreachable-requires-in-Err-NoLetters c =
    let is = c.in-Err-NoLetters.field-0-is in
    no_line_error c.args.text.now c.requires.0 c.requires.1 c.in-Err-NoLetters.field-0 (λ e. cc) c.in-Err-NoLetters.ensures.fault

pub unreachable-requires-in-Err-TooLong : goal.unreachable-requires-in-Err-TooLong
unreachable-requires-in-Err-TooLong c =
    let is = c.in-Err-TooLong.field-0-is in
    no_line_error c.args.text.now c.requires.0 c.requires.1 c.in-Err-TooLong.field-0 (λ e. cc) c.in-Err-TooLong.ensures.fault

pub returns-in-Ok : goal.returns-in-Ok
returns-in-Ok c = record { ok = λ number is. line_is c.args.text.now number is c.in-Ok.line c.in-Ok.ensures.ok }
