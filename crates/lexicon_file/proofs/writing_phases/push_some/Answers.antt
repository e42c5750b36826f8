-- The name of a phase in the set is written.
use Rattle.std.proofs.Common.{string_bytes, sym, ◌∙◌, arith}
use Rattle.lexicon_file.proofs.NamesWritten.{name_pushed}
use Rattle.lexicon_file.proofs.writing_phases.push_some.Goals as goal

pub loop-phase-preserved : goal.loop-phase-preserved
loop-phase-preserved c =
    name_pushed string_bytes c.loop-phase.is_first c.args.phases c.loop-phase.phase c.args.names.now c.index-names-phase.result c.as_str.result.now c.loop-phase.out.items
    c.push_name_after.new.out.items _ (omega arith) c.index-names-phase.is (sym c.has_phase.ensures ∙ c.if-not-has_phase.false) c.as_str.ensures.value
    c.in_ok-push_name_after.ensures.first c.in_ok-push_name_after.ensures.later c.loop-phase.invariant
