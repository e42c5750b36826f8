-- The automaton's reader tells the first fault of the text or its automaton; no phase has a form yet.
use Rattle.std.proofs.Common.{◌≡◌, true, Some, Ok, map, length, sym, ◌∙◌, ap, subst, Global, arith}
use Rattle.std.specs.String.{string_bytes}
use Rattle.std.proofs.lemmas.List.{length-map}
use Rattle.std.proofs.lemmas.Result.{err_from_is_err_and}
use Rattle.lexicon_definitions.specs.GrammarFaults.{IsGrammarTextWithinLimits}
use Rattle.lexicon_text_definitions.specs.FileLines.{Grammar as GrammarLine, may_follow}
use Rattle.lexicon_text_definitions.specs.FileContents.{Told}
use Rattle.form_file.specs.Told.{IsBody}
use Rattle.form_file.proofs.GrammarLemmas.{stage_before_grammar, no_forms_told, grammar_told, grammar_fault, limits_told, body_told}
use Rattle.form_file.proofs.told.Told.take_grammar.Goals as goal

pub returns-in_err-automaton : goal.returns-in_err-automaton
returns-in_err-automaton c =
    let p = err_from_is_err_and c.from_residual-in_err-automaton.result c.from_residual-in_err-automaton.ensures.1 in
    rw (p.1, p.2)
    (grammar_fault (Unit {0}) c.args.self.now c.args.self.now (map (string_bytes {Z = Global}) c.as_slice-names.result.now) c.args.text.now c.in_err-automaton.field-0.0
    (ap (map (string_bytes {Z = Global})) c.as_slice-names.ensures.value ∙ ap (λ (told : Told). told.names) c.self.view_is)
    c.in_err-automaton.ensures.fault)

pub keep_grammar-requires : goal.keep_grammar-requires
keep_grammar-requires c =
    let before =
    stage_before_grammar _ _ c.self.inside.automaton c.self.inside.forms.value
    (subst (λ (told : Told). may_follow told.last GrammarLine ≡ true) (sym c.self.view_is) c.requires.follows) c.self.invariant.stage in
    subst (λ (told : Told). IsBody told.names c.in_ok-grammar.grammar.items (Some c.in_ok-automaton.automaton) c.in_ok-forms.forms.value) c.self.view_is
    (body_told (string_bytes {Z = Global}) c.self.inside.names.items c.as_slice-names.result.now c.args.text.now c.in_ok-grammar.grammar.items c.in_ok-automaton.automaton
    c.in_ok-forms.forms.value (length c.as_slice-names.result.now) c.as_slice-names.ensures.value c.in_ok-grammar.ensures.items c.in_ok-forms.ensures (ap length c.as_slice-names.ensures.value)
    before.0 c.in_ok-automaton.ensures.grammar c.in_ok-automaton.ensures.phases)

pub returns : goal.returns
returns c =
    let before =
    stage_before_grammar _ _ c.self.inside.automaton c.self.inside.forms.value
    (subst (λ (told : Told). may_follow told.last GrammarLine ≡ true) (sym c.self.view_is) c.requires.follows) c.self.invariant.stage in
    let limits =
    limits_told (string_bytes {Z = Global}) c.self.inside.names.items c.as_slice-names.result.now c.args.text.now c.in_ok-grammar.grammar.items c.as_slice-names.ensures.value
    c.in_ok-grammar.ensures.items c.in_ok-automaton.ensures.text in (
      grammar_told c.args.self.now c.args.text.now c.in_ok-grammar.grammar.items _ c.in_ok-grammar.ensures.items
          (sym (ap (λ (told : Told). told.forms) c.self.view_is) ∙ no_forms_told c.self.inside.forms.value c.in_ok-forms.forms.value (length c.as_slice-names.result.now) before.1 c.in_ok-forms.ensures)
          ∙ ap Ok (sym c.keep_grammar.ensures),
      λ last. subst (λ (told : Told). IsGrammarTextWithinLimits told.names told.grammar) (sym c.keep_grammar.ensures)
          (subst (λ (told : Told). IsGrammarTextWithinLimits told.names c.in_ok-grammar.grammar.items) c.self.view_is limits),
    )

pub automaton_of-requires-clause-some : goal.automaton_of-requires-clause-some
automaton_of-requires-clause-some c =
    let before =
    stage_before_grammar _ _ c.self.inside.automaton c.self.inside.forms.value
    (subst (λ (told : Told). may_follow told.last GrammarLine ≡ true) (sym c.self.view_is) c.requires.follows) c.self.invariant.stage in
    let some = before.0 in
    let many = length-map c.self.inside.names.items (string_bytes {Z = Global}) in
    let same = ap length c.as_slice-names.ensures.value in
    omega (arith, some, many, same)
