-- One more call appends the next bytes after those before `taken`.
use Rattle.std.proofs.Common.{arith}
use Rattle.std.proofs.KnownBytes.{Appends-trans}
use Rattle.std.proofs.Math.Seq.{take-add}
use Rattle.std.proofs.lemmas.List.{take_rest, length-drop}
use Rattle.outside.proofs.replacing.write_bytes.Goals as goal

pub loop-taken-preserved : goal.loop-taken-preserved
loop-taken-preserved g c =
    let next = rw (take_rest c.args.bytes.now c.loop-taken.taken) at c.in_ok-count.ensures.bytes in
    let bound = rw (take_rest c.args.bytes.now c.loop-taken.taken, length-drop) at c.in_ok-count.ensures.bound in
    record {
      within = omega arith;
      bytes = rw (take-add c.loop-taken.taken c.in_ok-count.count c.args.bytes.now) (Appends-trans _ _ _ _ _ c.loop-taken.invariant.bytes next);
    }
