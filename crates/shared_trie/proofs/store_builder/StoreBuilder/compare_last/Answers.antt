-- The last entry compares part by part.
use Rattle.std.proofs.Common.{◌≡◌, List, sym, ◌∙◌, ap}
use Rattle.std.specs.declared.cmp.Ordering.TheVariants.{Equal}
use Rattle.std.specs.Ordering.{nat_cmp, ordering_then}
use Rattle.text_definitions.specs.Words.{compare_words}
use Rattle.lexicon_definitions.specs.Analyses.{compare_analyses}
use Rattle.lexicon_definitions.specs.Lexicons.{Form}
use Rattle.lexicon_text_definitions.specs.FileContents.{compare_entries, compare_last as compare_last_of, entries_from}
use Rattle.form_tags.specs.Entries.{text_entry}
use Rattle.shared_trie.proofs.BuilderStages.{apart_compared, compared_first, compared_last, decided, same_compared}
use Rattle.shared_trie.proofs.store_builder.StoreBuilder.compare_last.Goals as goal

pub returns-in_default : goal.returns-in_default
returns-in_default c =
    let entry = text_entry c.args.entry.now in
    sym (compared_first c.self.inside.told.value.0 c.self.inside.last entry c.in_default.is c.self.invariant.is_last)
    ∙ ap (λ (phases : List (List Form)). compare_last_of compare_entries (entries_from 0 phases) entry) c.self.view_is

pub returns-then-last-entry : goal.returns-then-last-entry
returns-then-last-entry c =
    let last = text_entry c.in-Some.last in
    let entry = text_entry c.args.entry.now in
    c.cmp.ensures
    ∙ decided (nat_cmp last.phase entry.phase) (ordering_then (compare_words last.letters entry.letters) (compare_analyses last.analysis entry.analysis)) (apart_compared last.phase entry.phase c.if-last-entry.true)
    ∙ sym (compared_last c.self.inside.told.value.0 c.self.inside.last c.in-Some.last entry c.in-Some.is c.self.invariant.is_last)
    ∙ ap (λ (phases : List (List Form)). compare_last_of compare_entries (entries_from 0 phases) entry) c.self.view_is

pub returns-in-Equal : goal.returns-in-Equal
returns-in-Equal c =
    let last = text_entry c.in-Some.last in
    let entry = text_entry c.args.entry.now in
    let words : compare_words last.letters entry.letters ≡ Equal = sym c.compare.ensures ∙ c.in-Equal.is in
    c.compare-in-Equal.ensures
    ∙ sym (λ i. ordering_then (same_compared last.phase entry.phase c.if-last-entry.false i) (ordering_then (words i) (compare_analyses last.analysis entry.analysis)))
    ∙ sym (compared_last c.self.inside.told.value.0 c.self.inside.last c.in-Some.last entry c.in-Some.is c.self.invariant.is_last)
    ∙ ap (λ (phases : List (List Form)). compare_last_of compare_entries (entries_from 0 phases) entry) c.self.view_is

pub returns-in_default-compare : goal.returns-in_default-compare
returns-in_default-compare c =
    let last = text_entry c.in-Some.last in
    let entry = text_entry c.args.entry.now in
    c.compare.ensures
    ∙ decided (compare_words last.letters entry.letters) (compare_analyses last.analysis entry.analysis) (λ e. c.in_default-compare.not-Equal (c.compare.ensures ∙ e))
    ∙ sym (λ i. ordering_then (same_compared last.phase entry.phase c.if-last-entry.false i) (ordering_then (compare_words last.letters entry.letters) (compare_analyses last.analysis entry.analysis)))
    ∙ sym (compared_last c.self.inside.told.value.0 c.self.inside.last c.in-Some.last entry c.in-Some.is c.self.invariant.is_last)
    ∙ ap (λ (phases : List (List Form)). compare_last_of compare_entries (entries_from 0 phases) entry) c.self.view_is
