-- There are as many phases of forms as names, so the phase has a root; what is found from there is what the lemmas say.
use Rattle.std.proofs.Common.{◌≡◌, List, map, string_bytes, IfOk, sym, ◌∙◌, ap, subst}
use Rattle.lexicon_definitions.specs.Analyses.{Analysis}
use Rattle.lexicon_definitions.specs.Lexicons.{forms_of}
use Rattle.annotated_trie.specs.Choices.{AnnotatedTrie}
use Rattle.session_definitions.specs.PrintedSummaries.{analyses_among}
use Rattle.form_tags.specs.Analyses.{text_analysis}
use Rattle.form_analyses.proofs.SearchedForms.{has_forms, none_found, found_within, all_found}
use Rattle.form_analyses.proofs.finding.analyses_of_form.Goals as goal

pub analyses_by_deltas-requires : goal.analyses_by_deltas-requires
analyses_by_deltas-requires c =
    let low = has_forms string_bytes c.phases.result.now c.rules.result.now c.args.lexicon.now c.args.phase c.rules.ensures.searched c.phases.ensures c.rules.ensures.value c.if-phase-phases.false in
    record {
      within = found_within c.args.lexicon.now c.rules.ensures.searched c.store-store.result.now
          (c.store-store.ensures ∙ ap (λ (t : AnnotatedTrie). t.trie) c.tries.ensures.value) c.args.phase c.root.result low c.root.ensures.value
          c.as_slice-letters.result.now c.in-Some.node c.in-Some.ensures.value _ c.deltas.ensures;
    }

pub returns-in-None : goal.returns-in-None
returns-in-None c =
    let low = has_forms string_bytes c.phases.result.now c.rules.result.now c.args.lexicon.now c.args.phase c.rules.ensures.searched c.phases.ensures c.rules.ensures.value c.if-phase-phases.false in
    let none = none_found c.args.lexicon.now c.rules.ensures.searched c.store-store.result.now
    (c.store-store.ensures ∙ ap (λ (t : AnnotatedTrie). t.trie) c.tries.ensures.value) c.args.phase c.root.result low c.root.ensures.value
    c.as_slice-letters.result.now c.in-None.ensures.value in
    record {
      ok = ap (map text_analysis) c.new-in-None.ensures.items ∙ sym none
          ∙ ap (analyses_among (forms_of c.args.lexicon.now.lexicon c.args.phase)) c.as_slice-letters.ensures.value;
    }

pub returns-in-Some : goal.returns-in-Some
returns-in-Some c =
    let low = has_forms string_bytes c.phases.result.now c.rules.result.now c.args.lexicon.now c.args.phase c.rules.ensures.searched c.phases.ensures c.rules.ensures.value c.if-phase-phases.false in
    let all = all_found c.args.lexicon.now c.rules.ensures.searched c.store-store.result.now
    (c.store-store.ensures ∙ ap (λ (t : AnnotatedTrie). t.trie) c.tries.ensures.value) c.args.phase c.root.result low c.root.ensures.value
    c.as_slice-letters.result.now c.in-Some.node c.in-Some.ensures.value _ c.deltas.ensures in
    record {
      ok = subst (λ (xs : List Analysis). IfOk c.analyses_by_deltas.result (λ analyses. map text_analysis analyses.items ≡ xs))
          (all ∙ ap (analyses_among (forms_of c.args.lexicon.now.lexicon c.args.phase)) c.as_slice-letters.ensures.value)
          c.analyses_by_deltas.ensures.ok;
    }
