-- Each key holds what it should, or there are no texts.
use Rattle.std.proofs.Common.{◌≡◌, None, codes, refl, sym, ◌∙◌, subst}
use Rattle.std.proofs.lemmas.Result.{err_from_is_err_and}
use Rattle.toml.specs.Data.{get_member}
use Rattle.toml.specs.View.{table_view}
use Rattle.rule_file_definitions.specs.RuleFileFaults as files
use Rattle.rule_file_definitions.specs.RuleFileFaults.{Shape}
use Rattle.rule_file_definitions.specs.RuleTexts.{as_texts, as_text, texts_of_document}
use Rattle.rule_file.specs.declared.error.RuleError.{RuleError}
use Rattle.rule_file.specs.Faults.{IfFault}
use Rattle.rule_file.proofs.FaultLemmas.{with_fault}
use Rattle.rule_file.proofs.DocumentLemmas.{unknown_key, no_phases, no_grammar, no_plain, no_rules, texts_made}
use Rattle.rule_file.proofs.document.texts_in.Goals as goal

pub returns-then-not-has_known_keys-clause-fault : goal.returns-then-not-has_known_keys-clause-fault
returns-then-not-has_known_keys-clause-fault c =
    subst (λ (error : RuleError). IfFault error (λ fault. (fault ≡ Shape) × (texts_of_document (table_view c.args.root.now) ≡ None))) (sym c.into.ensures)
    (refl, unknown_key (table_view c.args.root.now) (sym c.has_known_keys.ensures ∙ c.if-not-has_known_keys.true))

pub returns-in_err-phases-clause-fault : goal.returns-in_err-phases-clause-fault
returns-in_err-phases-clause-fault c =
    let p = err_from_is_err_and c.from_residual.result c.from_residual.ensures.1 in
    rw (p.1, p.2)
    (with_fault c.in_err-phases.field-0.0 (λ (fault : files.Fault). (fault ≡ Shape) × (as_texts (get_member (codes "phases") (table_view c.args.root.now)) ≡ None))
    (λ (fault : files.Fault). (fault ≡ Shape) × (texts_of_document (table_view c.args.root.now) ≡ None))
    (λ fault h. (h.0, no_phases (table_view c.args.root.now) h.1)) c.in_err-phases.ensures.fault)

pub returns-in_err-grammar-clause-fault : goal.returns-in_err-grammar-clause-fault
returns-in_err-grammar-clause-fault c =
    let p = err_from_is_err_and c.from_residual-in_err-grammar.result c.from_residual-in_err-grammar.ensures.1 in
    rw (p.1, p.2)
    (with_fault c.in_err-grammar.field-0.0 (λ (fault : files.Fault). (fault ≡ Shape) × (as_text (get_member (codes "grammar") (table_view c.args.root.now)) ≡ None))
    (λ (fault : files.Fault). (fault ≡ Shape) × (texts_of_document (table_view c.args.root.now) ≡ None))
    (λ fault h. (h.0, no_grammar (table_view c.args.root.now) h.1)) c.in_err-grammar.ensures.fault)

pub returns-in_err-plain-clause-fault : goal.returns-in_err-plain-clause-fault
returns-in_err-plain-clause-fault c =
    let p = err_from_is_err_and c.from_residual-in_err-plain.result c.from_residual-in_err-plain.ensures.1 in
    rw (p.1, p.2)
    (with_fault c.in_err-plain.field-0.0 (λ (fault : files.Fault). (fault ≡ Shape) × (as_texts (get_member (codes "plain") (table_view c.args.root.now)) ≡ None))
    (λ (fault : files.Fault). (fault ≡ Shape) × (texts_of_document (table_view c.args.root.now) ≡ None))
    (λ fault h. (h.0, no_plain (table_view c.args.root.now) h.1)) c.in_err-plain.ensures.fault)

pub returns-in_err-rules-clause-fault : goal.returns-in_err-rules-clause-fault
returns-in_err-rules-clause-fault c =
    let p = err_from_is_err_and c.from_residual-in_err-rules.result c.from_residual-in_err-rules.ensures.1 in
    rw (p.1, p.2)
    (with_fault c.in_err-rules.field-0.0 (λ (fault : files.Fault). (fault ≡ Shape) × (as_texts (get_member (codes "rules") (table_view c.args.root.now)) ≡ None))
    (λ (fault : files.Fault). (fault ≡ Shape) × (texts_of_document (table_view c.args.root.now) ≡ None))
    (λ fault h. (h.0, no_rules (table_view c.args.root.now) h.1)) c.in_err-rules.ensures.fault)

pub returns-clause-ok : goal.returns-clause-ok
returns-clause-ok c = λ classes e.
    texts_made (table_view c.args.root.now) _ _ _ _ classes (sym c.has_known_keys.ensures ∙ c.if-not-has_known_keys.false)
    c.in_ok-phases.ensures.ok c.in_ok-grammar.ensures.ok c.in_ok-plain.ensures.ok c.in_ok-rules.ensures.ok e
