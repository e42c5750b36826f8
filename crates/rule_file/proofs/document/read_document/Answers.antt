-- The bytes are UTF-8 and a document, or refused.
use Rattle.std.proofs.Common.{◌≡◌, false, None}
use Rattle.rule_file_definitions.specs.RuleFileFaults as files
use Rattle.rule_file_definitions.specs.RuleFileFaults.{Toml}
use Rattle.rule_file_definitions.specs.RuleTexts.{document_of}
use Rattle.rule_file.proofs.FaultLemmas.{with_fault}
use Rattle.rule_file.proofs.DocumentLemmas.{document_read, document_refused}
use Rattle.rule_file.proofs.document.read_document.Goals as goal

pub returns-in-Ok-clause-ok : goal.returns-in-Ok-clause-ok
returns-in-Ok-clause-ok c = document_read c.args.bytes.now _ c.in-Ok.ensures.ok.0 c.in-Ok.ensures.ok.1

pub returns-in-Err-clause-fault : goal.returns-in-Err-clause-fault
returns-in-Err-clause-fault c =
    with_fault c.document_error.result (λ (fault : files.Fault). (c.is_memory.result ≡ false) × (fault ≡ Toml)) (λ (fault : files.Fault). (fault ≡ Toml) × (document_of c.args.bytes.now ≡ None))
    (λ fault h. (h.1, document_refused c.args.bytes.now (c.in-Err.ensures.refused (λ m. let t = c.is_memory.ensures.1 m in let f = h.0 in cc))))
    c.document_error.ensures
