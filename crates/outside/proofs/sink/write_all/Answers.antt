-- One more call takes the next bytes after those before `taken`.
use Rattle.std.proofs.Common.{arith, ◌∙◌}
use Rattle.std.proofs.lemmas.List.{take_rest, length-drop}
use Rattle.outside.proofs.ToldLemmas.{bytes_after-taken}
use Rattle.outside.proofs.sink.write_all.Goals as goal

pub loop-taken-preserved : goal.loop-taken-preserved
loop-taken-preserved g c =
    let written = rw (take_rest c.args.bytes.now c.loop-taken.taken) at c.in_ok-taken.ensures.ok in
    let bound = rw (take_rest c.args.bytes.now c.loop-taken.taken, length-drop) at c.in_ok-taken.ensures.bound in
    record {
      within = omega arith;
      written = bytes_after-taken _ _ _ _ _ _ c.loop-taken.invariant.written written;
      faults = c.in_ok-taken.ensures.faults ∙ c.loop-taken.invariant.faults;
    }
