-- The stem file of a number is short, and is read in one way, without a fault.
use Rattle.demo_counts.proofs.InputsRead.{stem_file_is_short}
use Rattle.demo_counts.proofs.ErrorsRead.{no_stem_error}
use Rattle.demo_counts.proofs.sources.read_stem_file.Goals as goal

pub read_stems-requires : goal.read_stems-requires
read_stems-requires c = stem_file_is_short c.args.bytes.now c.requires.bytes

pub unreachable-requires : goal.unreachable-requires
unreachable-requires c =
    no_stem_error c.args.tables.now c.requires.tables c.args.bytes.now c.requires.bytes c.in-Err-Fault.field-0 c.in-Err-Fault.field-0-0
    c.in-Err-Fault.field-0-is c.in-Err-Fault.ensures.fault
