-- Each turn takes one part of the rest: a mark or a run.
use Rattle.std.proofs.Common.{ℕ, List, ◌≡◌, ◌+◌, ◌-◌, ◌++◌, length, drop, length-take, length-drop, ap, sym, subst, ◌∙◌, arith}
use Rattle.std.proofs.lemmas.Result.{err_from_is_err_and}
use Rattle.text_definitions.specs.Spellings.{with_front}
use Rattle.conversion_definitions.specs.Conversions.{parts_from, converted_parts}
use Rattle.latin_schemes.specs.Faults.{IsFaultOf}
use Rattle.more_schemes.specs.Values.{any_scheme_of, marks_of}
use Rattle.more_schemes.proofs.ConvertedLines.{converted_bytes}
use Rattle.more_schemes.proofs.ConversionSteps.{at_mark, at_run, some_run, mark_pushed, fault_carried}
use Rattle.more_schemes.proofs.conversion.convert_parts.Goals as goal

pub loop-at-preserved-in-Some : goal.loop-at-preserved-in-Some
loop-at-preserved-in-Some c =
    let from = any_scheme_of c.args.input in
    let to = any_scheme_of c.args.output in
    let marks = marks_of c.marks_between-marks.result in
    let text = c.args.text.now in
    let at = c.loop-at.at in
    let fits = c.in-Some.ensures.length in
    let found : ℕ × List ℕ = (c.in-Some.length, c.in-Some.becomes.now) in
    let pushed : c.push_bytes.new.converted.items ≡ c.loop-at.converted.items ++ c.in-Some.becomes.now =
    c.in_ok-push_bytes-in-Some.ensures.ok ∙ ap (λ b. c.loop-at.converted.items ++ b) c.as_bytes.ensures.value in
    record {
      within = omega (arith, fits.1, length-take (length text - at) (drop at text), length-drop at text);
      whole = mark_pushed from to c.loop-at.converted.items c.push_bytes.new.converted.items c.in-Some.becomes.now (parts_from marks (at + c.in-Some.length) 0 (drop (at + c.in-Some.length) text)) pushed
          ∙ ap (λ ps. with_front c.loop-at.converted.items (converted_parts from to ps)) (sym (at_mark marks text at found c.loop-at-test.true c.in-Some.ensures.value fits.0))
          ∙ c.loop-at.invariant.whole;
    }

pub returns-in_err-convert_run-in-None-clause-fault : goal.returns-in_err-convert_run-in-None-clause-fault
returns-in_err-convert_run-in-None-clause-fault c =
    let from = any_scheme_of c.args.input in
    let to = any_scheme_of c.args.output in
    let marks = marks_of c.marks_between-marks.result in
    let text = c.args.text.now in
    let at = c.loop-at.at in
    let count = c.run_length-length.result in
    let rest = parts_from marks (at + count) 0 (drop (at + count) text) in
    let is = at_run marks text at count c.loop-at-test.true c.in-None.ensures.value c.run_length-length.ensures.value in
    let p = err_from_is_err_and c.from_residual-in_err-convert_run-in-None.result c.from_residual-in_err-convert_run-in-None.ensures.1 in
    rw (p.1, p.2) (fault_carried c.in_err-convert_run-in-None.field-0.0 c.args.converted.now.items c.loop-at.converted.items (converted_bytes from to text) _
    (ap (λ ps. with_front c.loop-at.converted.items (converted_parts from to ps)) (sym is) ∙ c.loop-at.invariant.whole) (c.in_err-convert_run-in-None.ensures.fault rest))

pub loop-at-smaller : goal.loop-at-smaller
loop-at-smaller c =
    let some = some_run (marks_of c.marks_between-marks.result) c.args.text.now c.loop-at.at c.run_length-length.result c.loop-at-test.true c.in-None.ensures.value c.run_length-length.ensures.value in
    omega (arith, some)

pub loop-at-preserved : goal.loop-at-preserved
loop-at-preserved c =
    let from = any_scheme_of c.args.input in
    let to = any_scheme_of c.args.output in
    let marks = marks_of c.marks_between-marks.result in
    let text = c.args.text.now in
    let at = c.loop-at.at in
    let count = c.run_length-length.result in
    let rest = parts_from marks (at + count) 0 (drop (at + count) text) in
    let is = at_run marks text at count c.loop-at-test.true c.in-None.ensures.value c.run_length-length.ensures.value in
    record {
      within = omega (arith, c.run_length-length.ensures.length, length-take (length text - at) (drop at text), length-drop at text);
      whole = c.in_ok-convert_run-in-None.ensures.ok rest
          ∙ ap (λ ps. with_front c.loop-at.converted.items (converted_parts from to ps)) (sym is)
          ∙ c.loop-at.invariant.whole;
    }
