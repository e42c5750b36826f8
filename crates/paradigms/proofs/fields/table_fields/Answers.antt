use Rattle.std.proofs.Common.{◌≡◌, length, arith}
use Rattle.csv.specs.Records.{fields_of}
use Rattle.paradigms.proofs.FieldLemmas.{six_are}
use Rattle.paradigms.proofs.fields.table_fields.Goals as goal

pub returns : goal.returns
returns c =
    let six : length (fields_of c.args.csv_record.now) ≡ 6 = omega (arith, c.len.ensures, c.if-len-ne6.false) in
    six_are (fields_of c.args.csv_record.now) c.field.result.now c.field-2.result.now c.field-3.result.now c.field-4.result.now c.field-5.result.now c.field-6.result.now six
    c.field.ensures c.field-2.ensures c.field-3.ensures c.field-4.ensures c.field-5.ensures c.field-6.ensures
