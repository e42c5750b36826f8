-- An entry within the limits and above the last goes to the end of what was told.
use Rattle.std.proofs.Common.{arith, ◌<◌, length, refl, sym, ◌∙◌, ap, subst}
use Rattle.std.proofs.lemmas.Result.{err_from_is_err_and}
use Rattle.form_tags.specs.Entries.{text_entry}
use Rattle.lexicon_text_definitions.specs.FileContents.{Told, compare_entries, compare_last, entries_from}
use Rattle.lexicon_definitions.specs.FormEntries.{with_entry}
use Rattle.lexicon_definitions.specs.Limits.{count_lines}
use Rattle.lexicon_text_definitions.proofs.FormPhases.{AreLawful}
use Rattle.lexicon_text_definitions.specs.FileSteps.{take_form_line}
use Rattle.form_file.specs.declared.error.FileWhy.TheVariants.{Limit}
use Rattle.form_file.proofs.AnswerLemmas.{refused_for}
use Rattle.form_file.proofs.StageLemmas.{body_kept, before_form}
use Rattle.shared_trie.proofs.EntriesEnd.{lawful_lists}
use Rattle.form_file.proofs.EntryLemmas.{limits_are, few_lines, passed_limits, above_last, not_above, taken_with, body_with}
use Rattle.form_file.proofs.told.Told.take_entry.Goals as goal

pub returns-then-passes_form_limits : goal.returns-then-passes_form_limits
returns-then-passes_form_limits c =
    let test = limits_are _ c.args.self.now c.deref.result.now c.lines.result (text_entry c.args.entry.now) c.passes_form_limits.result c.self.view_is (ap (entries_from 0) (sym c.deref.ensures)) c.lines.ensures.value c.passes_form_limits.ensures in
    refused_for (Unit {0}) (take_form_line c.args.self.now (text_entry c.args.entry.now)) c.into.result Limit c.args.self.now (cc)
    (passed_limits c.args.self.now (text_entry c.args.entry.now) c.passes_form_limits.result test c.if-passes_form_limits.true)

pub returns-in_err-rising : goal.returns-in_err-rising
returns-in_err-rising c =
    let test = limits_are _ c.args.self.now c.deref.result.now c.lines.result (text_entry c.args.entry.now) c.passes_form_limits.result c.self.view_is (ap (entries_from 0) (sym c.deref.ensures)) c.lines.ensures.value c.passes_form_limits.ensures in
    let p = err_from_is_err_and c.from_residual.result c.from_residual.ensures.1 in
    rw (p.1, p.2)
    (not_above (Unit {0}) (Unit {0}) c.args.self.now (text_entry c.args.entry.now) c.passes_form_limits.result c.compare_last.result c.in_err-rising.field-0.0 c.args.self.now test c.if-passes_form_limits.false
    c.compare_last.ensures c.in_err-rising.ensures)

pub push-requires-clause-lines : goal.push-requires-clause-lines
push-requires-clause-lines c =
    let few = few_lines c.lines.result c.passes_form_limits.result _ _ c.passes_form_limits.ensures c.if-passes_form_limits.false in
    let count = c.lines.ensures.value ∙ ap count_lines (c.deref.ensures ∙ sym c.deref_mut.ensures.value) in
    omega (arith, few, count)

pub push-requires-clause-above : goal.push-requires-clause-above
push-requires-clause-above c =
    ap (λ lists. compare_last compare_entries (entries_from 0 lists) (text_entry c.args.entry.now)) c.deref_mut.ensures.value
    ∙ above_last _ c.args.self.now (text_entry c.args.entry.now) c.compare_last.result c.self.view_is c.compare_last.ensures c.in_ok-rising.ensures

pub invariant_of-self-2 : goal.invariant_of-self-2
invariant_of-self-2 c =
    let body = body_kept _ c.args.self.now c.self.inside.automaton c.self.inside.forms.value c.self.view_is (before_form _ c.requires.follows) c.self.invariant in
    record {
      few = c.self.invariant.few;
      named = c.self.invariant.named;
      apart = c.self.invariant.apart;
      stage = body_with _ _ c.self.inside.automaton c.self.inside.forms.value c.push.new.self (text_entry c.args.entry.now) body
          (c.in_ok-push.ensures.ok ∙ ap (λ lists. with_entry lists (text_entry c.args.entry.now)) c.deref_mut.ensures.value);
    }

pub returns : goal.returns
returns c =
    let lawful = subst AreLawful c.deref.ensures (lawful_lists c.deref.result.now c.lines.ensures.lists.each) in
    let body = body_kept _ c.args.self.now c.self.inside.automaton c.self.inside.forms.value c.self.view_is (before_form _ c.requires.follows) c.self.invariant in
    let phase = subst (λ (told : Told). c.args.entry.now.phase < length told.names) (sym c.self.view_is) c.requires.phase in
    let long = body.as_many in
    let test = limits_are _ c.args.self.now c.deref.result.now c.lines.result (text_entry c.args.entry.now) c.passes_form_limits.result c.self.view_is (ap (entries_from 0) (sym c.deref.ensures)) c.lines.ensures.value c.passes_form_limits.ensures in
    taken_with _ c.args.self.now c.self.inside.forms.value c.push.new.self (text_entry c.args.entry.now) c.passes_form_limits.result c.compare_last.result c.self.view_is refl lawful (omega (arith, phase, long))
    test c.if-passes_form_limits.false c.compare_last.ensures c.in_ok-rising.ensures (c.in_ok-push.ensures.ok ∙ ap (λ lists. with_entry lists (text_entry c.args.entry.now)) c.deref_mut.ensures.value)
