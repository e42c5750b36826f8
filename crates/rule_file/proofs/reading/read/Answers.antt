-- The document, its texts and its classes are read, and then their rule set.
use Rattle.std.proofs.Common.{◌≡◌, None, Ok, Err, sym, ◌∙◌, ap, subst}
use Rattle.std.specs.Result.{IfOk, IfErr}
use Rattle.std.proofs.lemmas.Result.{err_from_is_err_and}
use Rattle.toml.specs.View.{table_view}
use Rattle.rule_file_definitions.specs.RuleFileFaults as files
use Rattle.rule_file_definitions.specs.RuleFileFaults.{Toml, Shape}
use Rattle.rule_file_definitions.specs.RuleTexts.{document_of, texts_of_document}
use Rattle.rule_file_definitions.specs.RuleFileReadings.{FileResult, read_before_grammar, IsDecided, IsReadAs}
use Rattle.rule_file.specs.Faults.{IfFault}
use Rattle.rule_file.specs.Held.{texts_with_classes}
use Rattle.rule_file.proofs.FaultLemmas.{with_fault}
use Rattle.rule_file.proofs.DocumentLemmas.{bad_classes}
use Rattle.rule_file.proofs.SetLemmas.{decided_fault, not_document, not_texts, texts_read}
use Rattle.rule_file.proofs.reading.read.Goals as goal

pub returns-in_err-root-clause-fault : goal.returns-in_err-root-clause-fault
returns-in_err-root-clause-fault c =
    let p = err_from_is_err_and c.from_residual.result c.from_residual.ensures.1 in
    rw (p.1, p.2)
    (with_fault c.in_err-root.field-0.0 (λ (fault : files.Fault). (fault ≡ Toml) × (document_of c.args.bytes.now ≡ None)) (λ (fault : files.Fault). IsReadAs c.args.bytes.now (Err fault))
    (λ fault h. decided_fault (read_before_grammar c.args.bytes.now) fault (not_document c.args.bytes.now h.1 ∙ ap Err (sym h.0))) c.in_err-root.ensures.fault)

pub returns-in_err-texts-clause-fault : goal.returns-in_err-texts-clause-fault
returns-in_err-texts-clause-fault c =
    let p = err_from_is_err_and c.from_residual-in_err-texts.result c.from_residual-in_err-texts.ensures.1 in
    rw (p.1, p.2)
    (with_fault c.in_err-texts.field-0.0 (λ (fault : files.Fault). (fault ≡ Shape) × (texts_of_document (table_view c.in_ok-root.root) ≡ None)) (λ (fault : files.Fault). IsReadAs c.args.bytes.now (Err fault))
    (λ fault h. decided_fault (read_before_grammar c.args.bytes.now) fault (not_texts c.args.bytes.now (table_view c.in_ok-root.root) c.in_ok-root.ensures.ok h.1 ∙ ap Err (sym h.0))) c.in_err-texts.ensures.fault)

pub returns-in_err-classes-clause-fault : goal.returns-in_err-classes-clause-fault
returns-in_err-classes-clause-fault c =
    let p = err_from_is_err_and c.from_residual-in_err-classes.result c.from_residual-in_err-classes.ensures.1 in
    rw (p.1, p.2)
    (decided_fault (read_before_grammar c.args.bytes.now) _
    (not_texts c.args.bytes.now (table_view c.in_ok-root.root) c.in_ok-root.ensures.ok (bad_classes (table_view c.in_ok-root.root) c.in_err-classes.ensures.fault.1) ∙ ap Err (sym c.in_err-classes.ensures.fault.0)))

pub returns-clause-ok : goal.returns-clause-ok
returns-clause-ok c =
    let made = c.in_ok-texts.ensures.ok (table_view c.in_ok-classes.classes.now) c.in_ok-classes.ensures.ok in
    subst (λ (before : FileResult). IfOk c.read_set.result (λ file. IsDecided before (Ok file.rules)))
    (sym (texts_read c.args.bytes.now (table_view c.in_ok-root.root) (texts_with_classes c.in_ok-texts.texts (table_view c.in_ok-classes.classes.now)) c.in_ok-root.ensures.ok made)) c.read_set.ensures.ok

pub returns-clause-fault : goal.returns-clause-fault
returns-clause-fault c =
    let made = c.in_ok-texts.ensures.ok (table_view c.in_ok-classes.classes.now) c.in_ok-classes.ensures.ok in
    subst (λ (before : FileResult). IfErr c.read_set.result (λ error. IfFault error (λ fault. IsDecided before (Err fault))))
    (sym (texts_read c.args.bytes.now (table_view c.in_ok-root.root) (texts_with_classes c.in_ok-texts.texts (table_view c.in_ok-classes.classes.now)) c.in_ok-root.ensures.ok made)) c.read_set.ensures.fault
