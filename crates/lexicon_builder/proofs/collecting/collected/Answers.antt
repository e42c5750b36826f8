-- The next entry may be listed, and the phases with it have just those that are not left then.
use Rattle.std.proofs.Common.{rules, ◌≡◌, List, map, sym, ap, subst, arith}
use Rattle.std.proofs.lemmas.Result.{err_from_is_err_and}
use Rattle.form_tags.specs.declared.entry.Entry.{Entry}
use Rattle.form_tags.specs.Entries.{text_entry}
use Rattle.lexicon_definitions.proofs.FormsPlaced.{some_length}
use Rattle.run_definitions.specs.SoundSources.{IsSoundEntry}
use Rattle.lexicon_builder.proofs.CollectedLists.{AreCollected, none_left, collected_at_first, next_listable, next_within, next_not_below, collected_more, collected_at_end, no_room}
use Rattle.lexicon_builder.proofs.Limits.{limit_follows}
use Rattle.lexicon_builder.proofs.collecting.collected.Goals as goal

pub loop-entry-init : goal.loop-entry-init
loop-entry-init c =
    let all : c.into_iter-entry-iterator.result.rest.items ≡ c.args.entries.items = search rules in
    subst (λ (entries : List Entry). AreCollected c.args.phases (map text_entry c.args.entries.items) c.in_ok-builder.builder (map text_entry entries)) (sym all)
    (collected_at_first c.args.phases (map text_entry c.args.entries.items) c.in_ok-builder.builder c.in_ok-builder.ensures.ok c.requires.each c.requires.in_order)

next : (c : goal.After-builder-in-loop-entry-1) → IsSoundEntry c.args.phases (text_entry c.in-Some.entry)
next c =
    next_listable c.args.phases (map text_entry c.args.entries.items) c.loop-entry.builder (map text_entry c.loop-entry.entry-iterator.rest.items)
    (map text_entry c.next.new.self.rest.items) (text_entry c.in-Some.entry) c.loop-entry.invariant (ap (map text_entry) c.in-Some.ensures.steps.0)

pub add_entry-requires-clause-phase : goal.add_entry-requires-clause-phase
add_entry-requires-clause-phase c =
    next_within c.args.phases (map text_entry c.args.entries.items) c.loop-entry.builder (map text_entry c.loop-entry.entry-iterator.rest.items)
    (map text_entry c.next.new.self.rest.items) (text_entry c.in-Some.entry) c.loop-entry.invariant (ap (map text_entry) c.in-Some.ensures.steps.0)

pub add_entry-requires-clause-not_empty : goal.add_entry-requires-clause-not_empty
add_entry-requires-clause-not_empty c = some_length _ (next c).not_empty

pub add_entry-requires-clause-short : goal.add_entry-requires-clause-short
add_entry-requires-clause-short c = (next c).short

pub add_entry-requires-clause-stem : goal.add_entry-requires-clause-stem
add_entry-requires-clause-stem c = (next c).stem

pub add_entry-requires-clause-in_order : goal.add_entry-requires-clause-in_order
add_entry-requires-clause-in_order c =
    next_not_below c.args.phases (map text_entry c.args.entries.items) c.loop-entry.builder (map text_entry c.loop-entry.entry-iterator.rest.items)
    (map text_entry c.next.new.self.rest.items) (text_entry c.in-Some.entry) c.loop-entry.invariant (ap (map text_entry) c.in-Some.ensures.steps.0)

pub loop-entry-preserved : goal.loop-entry-preserved
loop-entry-preserved c =
    collected_more c.args.phases (map text_entry c.args.entries.items) c.loop-entry.builder (map text_entry c.loop-entry.entry-iterator.rest.items)
    (map text_entry c.next.new.self.rest.items) (text_entry c.in-Some.entry) c.loop-entry.invariant (ap (map text_entry) c.in-Some.ensures.steps.0)
    c.add_entry.new.builder c.in_ok-add_entry.ensures.ok

pub returns-in_err-add_entry-clause-limit : goal.returns-in_err-add_entry-clause-limit
returns-in_err-add_entry-clause-limit c =
    let p = err_from_is_err_and c.from_residual-in_err-add_entry.result c.from_residual-in_err-add_entry.ensures.1 in
    rw (p.1, p.2)
    (limit_follows _ _ _
    (no_room c.args.phases (map text_entry c.args.entries.items) c.loop-entry.builder (map text_entry c.loop-entry.entry-iterator.rest.items)
    (map text_entry c.next.new.self.rest.items) (text_entry c.in-Some.entry) c.loop-entry.invariant (ap (map text_entry) c.in-Some.ensures.steps.0))
    c.in_err-add_entry.ensures.limit)

pub returns-clause-ok : goal.returns-clause-ok
returns-clause-ok c =
    collected_at_end c.args.phases (map text_entry c.args.entries.items) c.loop-entry.builder (map text_entry c.loop-entry.entry-iterator.rest.items)
    c.loop-entry.invariant (none_left c.loop-entry.entry-iterator.rest.items (omega (arith, c.in-None.ensures.steps.0, c.loop-entry.entry-iterator.rest.ok)))
