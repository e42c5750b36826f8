-- Line by line, what is read from the next line on is what is read of all lines.
use Rattle.std.proofs.Common.{refl, sym, ◌∙◌, ap, arith}
use Rattle.lexicon_text_definitions.specs.FileLines.{lines_of_bytes}
use Rattle.lexicon_text_definitions.specs.FileReadings.{read_lines}
use Rattle.form_file.specs.Kinds.{kind_of}
use Rattle.form_file.proofs.LinesTaken.{last_not_end}
use Rattle.form_file.proofs.ReadLemmas.{reads_on, told_to_end}
use Rattle.form_file.proofs.FaultsRead.{line_fault, end_fault}
use Rattle.form_file.proofs.reading.take_lines.Goals as goal

pub loop-line-init : goal.loop-line-init
loop-line-init c = record {
  reads = λ result read. read;
  within = omega arith;
  number = omega arith;
}

pub take_line-requires : goal.take_line-requires
take_line-requires c =
    let line = c.in-Some.ensures.within in
    let rest = c.loop-line.invariant.within in
    let all = c.requires in omega arith

pub loop-line-preserved : goal.loop-line-preserved
loop-line-preserved c =
    let shorter = c.in-Some.ensures.shorter in
    let old = c.loop-line.invariant.number in
    let within = c.loop-line.invariant.within in
    let taken = c.in_default-take_line.ensures in
    record {
      reads = reads_on (read_lines c.args.told.now 1 (lines_of_bytes c.args.bytes.now)) c.loop-line.told c.take_line.new.self c.loop-line.number c.loop-line.rest.now c.in-Some.following.now _
          c.loop-line.invariant.reads c.in-Some.ensures.line taken.0 taken.1;
      within = omega arith;
      number = omega arith;
    }

pub returns-in-Err-clause-fault : goal.returns-in-Err-clause-fault
returns-in-Err-clause-fault c =
    line_fault (Unit {0}) (read_lines c.args.told.now 1 (lines_of_bytes c.args.bytes.now)) c.loop-line.told c.take_line.new.self c.loop-line.number c.loop-line.rest.now c.in-Some.following.now _
    c.in-Err.error c.error_at.result c.loop-line.invariant.reads c.in-Some.ensures.line c.in-Err.ensures c.error_at.ensures

pub returns-in_default-last_kind-clause-fault : goal.returns-in_default-last_kind-clause-fault
returns-in_default-last_kind-clause-fault c =
    end_fault (read_lines c.args.told.now 1 (lines_of_bytes c.args.bytes.now)) c.loop-line.told c.loop-line.number c.loop-line.rest.now c.into.result c.error_at-in_default-last_kind.result
    c.loop-line.invariant.reads c.in_default.ensures.line (last_not_end c.loop-line.told c.loop-line.told c.last_kind.result refl (sym c.last_kind.ensures) c.in_default-last_kind.not-End) c.into.ensures c.error_at-in_default-last_kind.ensures

pub returns-clause-ok : goal.returns-clause-ok
returns-clause-ok c =
    told_to_end (read_lines c.args.told.now 1 (lines_of_bytes c.args.bytes.now)) c.loop-line.told c.loop-line.number c.loop-line.rest.now c.loop-line.invariant.reads c.in_default.ensures.line
    (sym c.last_kind.ensures ∙ ap kind_of c.in-End.is)

pub returns-clause-ended : goal.returns-clause-ended
returns-clause-ended c = sym c.last_kind.ensures ∙ ap kind_of c.in-End.is
