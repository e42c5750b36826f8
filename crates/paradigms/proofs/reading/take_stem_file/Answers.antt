-- At first all records of the file are left.
use Rattle.std.proofs.Common.{◌≡◌, Ok, ℕ, List, [], subst}
use Rattle.std.specs.Result.{OnOk, IfErr}
use Rattle.paradigm_file_definitions.specs.Records.{read_records}
use Rattle.paradigm_file_definitions.specs.StemFiles.{take_stem, stems_of}
use Rattle.paradigms.specs.Answers.{IsStemFault}
use Rattle.paradigms.proofs.reading.take_stem_file.Goals as goal

pub returns-clause-ok : goal.returns-clause-ok
unfolding stems_of
returns-clause-ok c =
    subst (λ (records : List (List (List ℕ))). OnOk c.take_stems.result (read_records (take_stem c.args.tables.now) 1 [] records ≡ Ok c.take_stems.new.stems)) c.records_in-reader.ensures.all
    c.take_stems.ensures.ok

pub returns-clause-fault : goal.returns-clause-fault
unfolding stems_of
returns-clause-fault c =
    subst (λ (records : List (List (List ℕ))). IfErr c.take_stems.result (IsStemFault (read_records (take_stem c.args.tables.now) 1 [] records))) c.records_in-reader.ensures.all
    c.take_stems.ensures.fault
