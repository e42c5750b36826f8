-- The parts are those of the texts, and what is read of them is sound.
use Rattle.std.proofs.Common.{Ok, Err, List, String, Global, map, length, sym, ◌∙◌, ap, subst}
use Rattle.std.specs.String.{string_bytes}
use Rattle.std.proofs.lemmas.List.{length-map}
use Rattle.std.proofs.lemmas.Result.{err_from_is_err_and}
use Rattle.toml.specs.View.{table_view}
use Rattle.lexicon_definitions.specs.Lexicons.{RuleSet}
use Rattle.lexicon_definitions.specs.GrammarTexts.{grammar_of}
use Rattle.phase_automaton.specs.Automata.{Recognizes}
use Rattle.rule_file_definitions.specs.RuleTexts.{RuleTexts}
use Rattle.rule_file_definitions.specs.RuleFileReadings.{read_set, IsDecided}
use Rattle.rule_file_definitions.proofs.SoundSets.{texts_sound}
use Rattle.rule_file.specs.Faults.{IfFault}
use Rattle.rule_file.specs.Held.{texts_with_classes, set_of}
use Rattle.rule_file.proofs.SetLemmas.{same_texts, set_made}
use Rattle.rule_file.proofs.reading.read_set.Goals as goal

pub returns-in_err-parts-clause-fault : goal.returns-in_err-parts-clause-fault
returns-in_err-parts-clause-fault c =
    let p = err_from_is_err_and c.from_residual.result c.from_residual.ensures.1 in
    rw (p.1, p.2)
    (subst (λ (texts : RuleTexts). IfFault c.in_err-parts.field-0.0 (λ fault. IsDecided (read_set texts) (Err fault))) (same_texts c.args.texts (table_view c.args.classes.now) _ _ _ _ c.as_slice.ensures.value c.as_slice-2.ensures.value c.as_slice-3.ensures.value c.as_bytes.ensures.value) c.in_err-parts.ensures.fault)

pub new-requires-clause-set : goal.new-requires-clause-set
new-requires-clause-set c =
    (texts_sound (texts_with_classes c.args.texts (table_view c.args.classes.now)) (set_of c.args.texts.phases.items c.in_ok-grammar.grammar.items c.in_ok-parts.parts.plain.items c.in_ok-parts.parts.rules.items) (set_made c.args.texts (table_view c.args.classes.now) _ _ _ _ _ _ _ c.as_slice.ensures.value c.as_slice-2.ensures.value c.as_slice-3.ensures.value c.as_bytes.ensures.value (c.in_ok-grammar.ensures.items ∙ c.as_bytes-2.ensures.value) c.in_ok-parts.ensures.ok)).set_itself

pub new-requires-clause-limits : goal.new-requires-clause-limits
new-requires-clause-limits c =
    (texts_sound (texts_with_classes c.args.texts (table_view c.args.classes.now)) (set_of c.args.texts.phases.items c.in_ok-grammar.grammar.items c.in_ok-parts.parts.plain.items c.in_ok-parts.parts.rules.items) (set_made c.args.texts (table_view c.args.classes.now) _ _ _ _ _ _ _ c.as_slice.ensures.value c.as_slice-2.ensures.value c.as_slice-3.ensures.value c.as_bytes.ensures.value (c.in_ok-grammar.ensures.items ∙ c.as_bytes-2.ensures.value) c.in_ok-parts.ensures.ok)).limits

pub returns-clause-ok : goal.returns-clause-ok
returns-clause-ok c =
    subst (λ (set : RuleSet). IsDecided (read_set (texts_with_classes c.args.texts (table_view c.args.classes.now))) (Ok set)) (sym c.in_ok-set.ensures.ok) (set_made c.args.texts (table_view c.args.classes.now) _ _ _ _ _ _ _ c.as_slice.ensures.value c.as_slice-2.ensures.value c.as_slice-3.ensures.value c.as_bytes.ensures.value (c.in_ok-grammar.ensures.items ∙ c.as_bytes-2.ensures.value) c.in_ok-parts.ensures.ok)

pub returns-clause-automaton : goal.returns-clause-automaton
returns-clause-automaton c =
    subst (λ (set : RuleSet). Recognizes c.in_ok-parts.parts.automaton (grammar_of set.names set.grammar)) (sym c.in_ok-set.ensures.ok)
    (subst (λ text. Recognizes c.in_ok-parts.parts.automaton (grammar_of (map (string_bytes {Z = Global}) c.args.texts.phases.items) text)) (c.as_bytes.ensures.value ∙ sym (c.in_ok-grammar.ensures.items ∙ c.as_bytes-2.ensures.value))
    (subst (λ (names : List (String Global)). Recognizes c.in_ok-parts.parts.automaton (grammar_of (map (string_bytes {Z = Global}) names) c.as_bytes.result.now)) c.as_slice.ensures.value c.in_ok-parts.ensures.automaton))

pub returns-clause-phases : goal.returns-clause-phases
returns-clause-phases c =
    c.in_ok-parts.ensures.phases ∙ ap length c.as_slice.ensures.value ∙ sym (length-map c.args.texts.phases.items (string_bytes {Z = Global})) ∙ sym (ap (λ (set : RuleSet). length set.names) c.in_ok-set.ensures.ok)
