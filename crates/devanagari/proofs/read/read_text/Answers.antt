-- Each turn reads one code point of the rest; at the end the last consonant gets its vowel.
use Rattle.std.proofs.Common.{length, encode_utf8, length-append, ap, sym, ◌∙◌, arith}
use Rattle.std.specs.Str.Iter.{char_indices_rest, char_indices_offset}
use Rattle.std.proofs.lemmas.Str.{IsUtf8-past_char}
use Rattle.std.proofs.lemmas.Result.{err_from_is_err_and}
use Rattle.devanagari.proofs.PointSteps.{reads_point, reads_fault, reads_end}
use Rattle.devanagari.proofs.read.read_text.Goals as goal

pub loop-at-preserved : goal.loop-at-preserved
loop-at-preserved c =
    let steps = c.in-Some.ensures.steps in
    let s = c.loop-at.at-iterator in
    let t = c.next.new.self in
    record {
      place = omega (arith, steps.2, ap length steps.1, length-append (encode_utf8 c.in-Some.point) (char_indices_rest t), c.loop-at.invariant.place);
      text = IsUtf8-past_char (char_indices_rest s) (char_indices_rest t) c.in-Some.point c.loop-at.invariant.text steps.1;
      spelled = reads_point _ _ _ _ c.in-Some.at (char_indices_offset s) (char_indices_offset t) c.in-Some.point (char_indices_rest s) (char_indices_rest t) steps.0 steps.1 steps.2 c.loop-at.invariant.text c.in_ok-take.ensures.ok ∙ c.loop-at.invariant.spelled;
    }

pub returns-in_err-take-clause-fault : goal.returns-in_err-take-clause-fault
returns-in_err-take-clause-fault c =
    let p = err_from_is_err_and c.from_residual.result c.from_residual.ensures.1 in
    let steps = c.in-Some.ensures.steps in
    rw (p.1, p.2) (reads_fault c.in_err-take.field-0.0 _ _ c.in-Some.at (char_indices_offset c.loop-at.at-iterator) c.in-Some.point (char_indices_rest c.loop-at.at-iterator) (char_indices_rest c.next.new.self) _ steps.0 steps.1 c.loop-at.invariant.text c.loop-at.invariant.spelled c.in_err-take.ensures.fault)

pub returns-clause-ok : goal.returns-clause-ok
returns-clause-ok c =
    sym c.loop-at.invariant.spelled ∙ reads_end c.loop-at.reader.word c.loop-at.reader.bare (char_indices_offset c.loop-at.at-iterator) (char_indices_rest c.loop-at.at-iterator) c.in-None.ensures.steps.0 ∙ c.in_ok-finish.ensures.ok
