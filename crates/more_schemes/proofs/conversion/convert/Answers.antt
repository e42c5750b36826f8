-- The lines are converted one after another; what follows the last line end is one more, where it is not empty.
use Rattle.std.proofs.Common.{◌<◌, [], ◌∷◌, true, false, length, length-append, ap, sym, ◌∙◌, arith}
use Rattle.std.proofs.lemmas.Bool.Decides.{nat_tests}
use Rattle.lexicon_text_definitions.specs.FileLines.{lines_of_bytes}
use Rattle.conversion_definitions.specs.Conversions.{with_bytes, converted_line, converted_lines, converted_text}
use Rattle.more_schemes.specs.Values.{any_scheme_of}
use Rattle.more_schemes.proofs.ConvertedLines.{line_cut, rest_line, none_converted, line_pushed, last_pushed, line_refused}
use Rattle.more_schemes.proofs.conversion.convert.Goals as goal

pub loop-line-init : goal.loop-line-init
loop-line-init c = record {
  whole = rw c.new-converted.ensures.items (none_converted (any_scheme_of c.args.input) (any_scheme_of c.args.output) c.args.text.now);
  counted = omega arith;
  within = omega arith;
}

pub returns-in-Err-clause-fault : goal.returns-in-Err-clause-fault
returns-in-Err-clause-fault c =
    let from = any_scheme_of c.args.input in
    let to = any_scheme_of c.args.output in
    let line = c.in-Some.line.now in
    let lines = line_cut c.loop-line.rest.now line c.in-Some.following.now c.in-Some.ensures in
    c.error_at.ensures (converted_text from to c.args.text.now) (converted_line from to line) c.in-Err.ensures.fault
    (λ fault e. sym c.loop-line.invariant.whole
    ∙ ap (λ ls. with_bytes c.loop-line.converted.items (converted_lines from to c.loop-line.number ls)) lines
    ∙ line_refused from to c.loop-line.converted.items c.loop-line.number (record { bytes = line; ended = true }) (lines_of_bytes c.in-Some.following.now) fault e)

pub loop-line-preserved : goal.loop-line-preserved
loop-line-preserved c =
    let from = any_scheme_of c.args.input in
    let to = any_scheme_of c.args.output in
    let line = c.in-Some.line.now in
    let following = c.in-Some.following.now in
    let lines = line_cut c.loop-line.rest.now line following c.in-Some.ensures in
    record {
      whole = line_pushed from to c.loop-line.converted.items c.convert_line.new.converted.items c.push_bytes.new.converted.items c.loop-line.number true line (lines_of_bytes following) c.in_default-convert_line.ensures.ok c.in_ok-push_bytes.ensures.ok
          ∙ ap (λ ls. with_bytes c.loop-line.converted.items (converted_lines from to c.loop-line.number ls)) (sym lines)
          ∙ c.loop-line.invariant.whole;
      counted = omega arith;
      within = omega (arith, c.loop-line.invariant.within, ap length c.in-Some.ensures.0, length-append line (10 ∷ following));
    }

pub convert_line-requires-2 : goal.convert_line-requires-2
convert_line-requires-2 c = omega (arith, c.loop-line.invariant.within, c.loop-line.invariant.counted, c.requires)

pub returns-in-Ok-clause-ok : goal.returns-in-Ok-clause-ok
returns-in-Ok-clause-ok c =
    let from = any_scheme_of c.args.input in
    let to = any_scheme_of c.args.output in
    let rest = c.loop-line.rest.now in
    let some : 0 < length rest = grind (arith, nat_tests) in
    sym c.loop-line.invariant.whole
    ∙ ap (λ ls. with_bytes c.loop-line.converted.items (converted_lines from to c.loop-line.number ls)) (rest_line rest c.in_default.ensures some)
    ∙ last_pushed from to c.loop-line.converted.items c.convert_line-2.new.converted.items c.loop-line.number rest c.in-Ok.ensures.ok

pub returns-in-Err-convert_line-clause-fault : goal.returns-in-Err-convert_line-clause-fault
returns-in-Err-convert_line-clause-fault c =
    let from = any_scheme_of c.args.input in
    let to = any_scheme_of c.args.output in
    let rest = c.loop-line.rest.now in
    let some : 0 < length rest = grind (arith, nat_tests) in
    c.error_at-in-Err-convert_line.ensures (converted_text from to c.args.text.now) (converted_line from to rest) c.in-Err-convert_line.ensures.fault
    (λ fault e. sym c.loop-line.invariant.whole
    ∙ ap (λ ls. with_bytes c.loop-line.converted.items (converted_lines from to c.loop-line.number ls)) (rest_line rest c.in_default.ensures some)
    ∙ line_refused from to c.loop-line.converted.items c.loop-line.number (record { bytes = rest; ended = false }) [] fault e)
