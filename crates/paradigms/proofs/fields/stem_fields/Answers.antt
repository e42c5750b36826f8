use Rattle.std.proofs.Common.{◌≡◌, length, arith}
use Rattle.csv.specs.Records.{fields_of}
use Rattle.paradigms.proofs.FieldLemmas.{two_are}
use Rattle.paradigms.proofs.fields.stem_fields.Goals as goal

pub returns : goal.returns
returns c =
    let two : length (fields_of c.args.csv_record.now) ≡ 2 = omega (arith, c.len.ensures, c.if-len-ne2.false) in
    two_are (fields_of c.args.csv_record.now) c.field.result.now c.field-2.result.now two c.field.ensures c.field-2.ensures
