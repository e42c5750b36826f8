-- A read that found a record took the first of those that are left; a read that found no record was at the end.
use Rattle.std.proofs.Common.{arith}
use Rattle.csv.specs.Records.{fields_of}
use Rattle.paradigms.proofs.RecordLemmas.{read_so, next_so, shorter_so}
use Rattle.paradigms.proofs.records.next_record.Goals as goal

pub returns-clause-reading : goal.returns-clause-reading
returns-clause-reading c = λ found.
    (read_so c.args.reader.now c.read_byte_record.new.self c.in-Ok.found (fields_of c.read_byte_record.new.row) c.requires (c.in-Ok.ensures.reads c.requires.trim c.requires.ready)
    (c.in-Ok.ensures.ready c.requires.trim) found).reading

pub returns-clause-next : goal.returns-clause-next
returns-clause-next c =
    next_so c.args.reader.now c.read_byte_record.new.self c.in-Ok.found (fields_of c.read_byte_record.new.row) c.requires (c.in-Ok.ensures.reads c.requires.trim c.requires.ready)
    (c.in-Ok.ensures.ready c.requires.trim)

pub returns-clause-fits : goal.returns-clause-fits
returns-clause-fits c = λ found k d inside.
    let one =
    (read_so c.args.reader.now c.read_byte_record.new.self c.in-Ok.found (fields_of c.read_byte_record.new.row) c.requires (c.in-Ok.ensures.reads c.requires.trim c.requires.ready)
    (c.in-Ok.ensures.ready c.requires.trim) found).fits k d inside in
    omega arith

pub returns-clause-falls : goal.returns-clause-falls
returns-clause-falls c = λ found.
    shorter_so c.args.reader.now c.read_byte_record.new.self (fields_of c.read_byte_record.new.row)
    (read_so c.args.reader.now c.read_byte_record.new.self c.in-Ok.found (fields_of c.read_byte_record.new.row) c.requires (c.in-Ok.ensures.reads c.requires.trim c.requires.ready)
    (c.in-Ok.ensures.ready c.requires.trim) found)
