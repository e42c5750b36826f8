-- All of the notation is spelled, or it is refused; then the pattern decides.
use Rattle.std.proofs.Common.{◌≡◌, None, Ok, Err, Result, List, Global, map, sym, ◌∙◌, ap, subst}
use Rattle.std.specs.String.{string_bytes}
use Rattle.std.specs.Result.{IfOk, IfErr}
use Rattle.std.proofs.lemmas.Result.{err_from_is_err_and}
use Rattle.toml.specs.View.{table_view}
use Rattle.lexicon_definitions.specs.Rules.{Rule}
use Rattle.rule_file_definitions.specs.EntryWhys.{Why, Spelling}
use Rattle.rule_file_definitions.specs.RuleNotations.{pattern_of}
use Rattle.rule_file_definitions.specs.RuleEntries.{rules_of_pattern}
use Rattle.rule_file.specs.Faults.{IfWhy}
use Rattle.rule_file.specs.Written.{limits_of, name_of, written}
use Rattle.rule_file.proofs.FaultLemmas.{with_why}
use Rattle.rule_file.proofs.entries.rules_of_notation.Goals as goal

pub returns-in_err-pattern-clause-why : goal.returns-in_err-pattern-clause-why
returns-in_err-pattern-clause-why c =
    let rules = rules_of_pattern (map (string_bytes {Z = Global}) c.args.names.now) (table_view c.args.classes.now) (limits_of c.args.limits) (name_of c.args.notation.now.v.class) in
    let p = err_from_is_err_and c.from_residual.result c.from_residual.ensures.1 in
    rw (p.1, p.2)
    (with_why c.in_err-pattern.field-0.0 (λ (why : Why). (why ≡ Spelling) × (None ≡ pattern_of (written c.args.notation.now)))
    (λ (why : Why). rules (pattern_of (written c.args.notation.now)) ≡ Err why) (λ why h. ap rules (sym h.1) ∙ ap Err (sym h.0)) c.in_err-pattern.ensures.why)

pub returns-clause-ok : goal.returns-clause-ok
returns-clause-ok c =
    subst (λ (made : Result (List Rule) Why). IfOk c.rules_of_pattern.result (λ rules. made ≡ Ok rules.items))
    (ap (rules_of_pattern (map (string_bytes {Z = Global}) c.args.names.now) (table_view c.args.classes.now) (limits_of c.args.limits) (name_of c.args.notation.now.v.class)) c.in_ok-pattern.ensures.ok)
    c.rules_of_pattern.ensures.ok

pub returns-clause-why : goal.returns-clause-why
returns-clause-why c =
    subst (λ (made : Result (List Rule) Why). IfErr c.rules_of_pattern.result (λ error. IfWhy error (λ why. made ≡ Err why)))
    (ap (rules_of_pattern (map (string_bytes {Z = Global}) c.args.names.now) (table_view c.args.classes.now) (limits_of c.args.limits) (name_of c.args.notation.now.v.class)) c.in_ok-pattern.ensures.ok)
    c.rules_of_pattern.ensures.why
