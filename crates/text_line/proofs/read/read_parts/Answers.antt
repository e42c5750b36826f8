-- Each turn takes one part of the rest: a gap mark, a digit or a piece.
use Rattle.std.proofs.Common.{◌≡◌, ◌+◌, ◌-◌, false, length, drop, length-take, length-drop, ap, sym, subst, ◌∙◌, arith}
use Rattle.std.proofs.lemmas.Result.{err_from_is_err_and}
use Rattle.text_definitions.specs.LineTexts.{has_letter, parts_from}
use Rattle.text_line.specs.Values.{scheme_of, IsLineFaultOf}
use Rattle.text_line.specs.Pieces.{line_after}
use Rattle.text_line.proofs.Steps.{past_gap, past_digit, digit_fault, past_piece, some_piece, letter_in_rest, still_none}
use Rattle.text_line.proofs.read.read_parts.Goals as goal
use Rattle.text_line.proofs.read.read_parts.Goals.{else-not-after_letters-via-then-not-after_letters+in_ok-has_letter-in-Digit+else-branch, else-not-after_letters-via-else-not-after_letters}

pub loop-at-preserved-in-Gap : goal.loop-at-preserved-in-Gap
loop-at-preserved-in-Gap c =
    let scheme = scheme_of c.args.scheme in
    let text = c.args.text.now in
    let fits = c.in-Gap.ensures.length in
    record {
      within = omega (arith, fits.1, length-take (length text - c.loop-at.at) (drop c.loop-at.at text), length-drop c.loop-at.at text);
      later = λ h. still_none scheme text c.loop-at.at c.in-Gap.length (c.loop-at.invariant.later h);
      whole = past_gap scheme text c.loop-at.at c.in-Gap.length c.loop-at.spelled c.loop-at-test.true c.in-Gap.ensures.value fits.0 ∙ c.loop-at.invariant.whole;
    }

pub returns-then-branch-clause-fault : goal.returns-then-branch-clause-fault
returns-then-branch-clause-fault c =
    let scheme = scheme_of c.args.scheme in
    let text = c.args.text.now in
    let fits = c.in-Digit.ensures.length in
    let later = letter_in_rest scheme text _ _ _ c.in_ok-has_letter-in-Digit.ensures.ok c.if-branch.true in
    sym c.loop-at.invariant.whole
    ∙ digit_fault scheme text c.loop-at.at c.in-Digit.length c.loop-at.spelled c.loop-at-test.true c.in-Digit.ensures.value fits.0 later

pub loop-at-preserved-in-Digit : goal.loop-at-preserved-in-Digit
loop-at-preserved-in-Digit c =
    let scheme = scheme_of c.args.scheme in
    let text = c.args.text.now in
    let fits = c.in-Digit.ensures.length in
    let none : has_letter scheme (drop (c.loop-at.at + c.in-Digit.length) text) ≡ false =
    elim c.else-not-after_letters.branch [
      | else-not-after_letters-via-then-not-after_letters+in_ok-has_letter-in-Digit+else-branch w ↦
          letter_in_rest scheme text _ _ _ w.in_ok-has_letter-in-Digit.ensures.ok w.if-branch.false
      | else-not-after_letters-via-else-not-after_letters w ↦
          still_none scheme text c.loop-at.at c.in-Digit.length (c.loop-at.invariant.later w.if-not-after_letters.false)
    ]
    in
    record {
      within = omega (arith, fits.1, length-take (length text - c.loop-at.at) (drop c.loop-at.at text), length-drop c.loop-at.at text);
      later = λ h. none;
      whole = past_digit scheme text c.loop-at.at c.in-Digit.length c.loop-at.spelled c.loop-at-test.true c.in-Digit.ensures.value fits.0 none ∙ c.loop-at.invariant.whole;
    }

pub returns-in_err-read_piece-in-Other-clause-fault : goal.returns-in_err-read_piece-in-Other-clause-fault
returns-in_err-read_piece-in-Other-clause-fault c =
    let scheme = scheme_of c.args.scheme in
    let text = c.args.text.now in
    let rest = parts_from scheme (c.loop-at.at + c.piece_length-length.result) 0 (drop (c.loop-at.at + c.piece_length-length.result) text) in
    let is = past_piece scheme text c.loop-at.at c.piece_length-length.result c.loop-at-test.true c.in-Other.ensures.value c.piece_length-length.ensures.value in
    let p = err_from_is_err_and c.from_residual-in_err-read_piece-in-Other.result c.from_residual-in_err-read_piece-in-Other.ensures.1 in
    rw (p.1, p.2) (subst (IsLineFaultOf c.in_err-read_piece-in-Other.field-0.0) (ap (line_after scheme c.loop-at.spelled) (sym is) ∙ c.loop-at.invariant.whole) (c.in_err-read_piece-in-Other.ensures.fault rest))

pub loop-at-smaller : goal.loop-at-smaller
loop-at-smaller c =
    let some = some_piece (scheme_of c.args.scheme) c.args.text.now c.loop-at.at c.piece_length-length.result c.loop-at-test.true c.in-Other.ensures.value c.piece_length-length.ensures.value in
    omega (arith, some)

pub loop-at-preserved : goal.loop-at-preserved
loop-at-preserved c =
    let scheme = scheme_of c.args.scheme in
    let text = c.args.text.now in
    let rest = parts_from scheme (c.loop-at.at + c.piece_length-length.result) 0 (drop (c.loop-at.at + c.piece_length-length.result) text) in
    let is = past_piece scheme text c.loop-at.at c.piece_length-length.result c.loop-at-test.true c.in-Other.ensures.value c.piece_length-length.ensures.value in
    record {
      within = omega (arith, c.piece_length-length.ensures.length, length-take (length text - c.loop-at.at) (drop c.loop-at.at text), length-drop c.loop-at.at text);
      later = λ h. still_none scheme text c.loop-at.at c.piece_length-length.result (c.loop-at.invariant.later h);
      whole = c.in_ok-read_piece-in-Other.ensures.ok rest ∙ ap (line_after scheme c.loop-at.spelled) (sym is) ∙ c.loop-at.invariant.whole;
    }
