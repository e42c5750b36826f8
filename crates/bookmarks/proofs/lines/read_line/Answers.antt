-- Piece by piece, the words that the pieces so far spell; a line that is read is one by the definitions' own law.
use Rattle.std.proofs.Common.{ℕ, ◌<◌, List, ◌++◌, length, map, eqb, rules, tests, arith, ap, sym, subst, ◌∙◌, Bor}
use Rattle.std.proofs.lemmas.Result.{err_from_is_err_and}
use Rattle.std.proofs.lemmas.Iterator.Consumers.{YieldsList-at}
use Rattle.std.proofs.lemmas.Iterator.Splits.{YieldsList-from_slice_split}
use Rattle.text_definitions.specs.declared.limits.TheConstants.{MOST_LINE_LETTERS}
use Rattle.bookmark_definitions.proofs.WrittenLines.{line_tells}
use Rattle.bookmarks.proofs.HandedOn.{handed_on}
use Rattle.bookmarks.proofs.ListsRead.{parts_in_turn, parts_at_end}
use Rattle.bookmarks.proofs.LinesRead.{HasWords, word_added, piece_refused, too_long, line_read}
use Rattle.bookmarks.proofs.lines.read_line.Goals as goal
use Rattle.std.proofs.lemmas.List.{map_push}

pub returns-in_err-word : goal.returns-in_err-word
returns-in_err-word c =
    let p = err_from_is_err_and c.from_residual.result c.from_residual.ensures.1 in
    let cut =
    parts_in_turn
    (YieldsList-at c.into_iter-piece-iterator.ensures.into_iter_gives
    (YieldsList-from_slice_split _ (λ byte. eqb byte 95) c.args.text.now c.split-piece-items.ensures.rest c.split-piece-items.ensures.done c.split-piece-items.ensures.closure
    (λ x r q k. search (rules, tests))))
    c.loop-piece.yielded _ c.loop-piece.yielded_by _ _ c.in-Some.piece c.in-Some.is c.next.ensures.steps in
    rw (p.1, p.2)
    (handed_on _ _ _ _ c.in_err-word.field-0.0 _ _ c.in_err-word.ensures
    (piece_refused c.args.text.now _ c.in-Some.piece.now _ c.loop-piece.letters c.loop-piece.blanks.items c.loop-piece.invariant.words cut))

pub returns-then-len-gt-MOST_LINE_LETTERS : goal.returns-then-len-gt-MOST_LINE_LETTERS
returns-then-len-gt-MOST_LINE_LETTERS c =
    let cut =
    parts_in_turn
    (YieldsList-at c.into_iter-piece-iterator.ensures.into_iter_gives
    (YieldsList-from_slice_split _ (λ byte. eqb byte 95) c.args.text.now c.split-piece-items.ensures.rest c.split-piece-items.ensures.done c.split-piece-items.ensures.closure
    (λ x r q k. search (rules, tests))))
    c.loop-piece.yielded _ c.loop-piece.yielded_by _ _ c.in-Some.piece c.in-Some.is c.next.ensures.steps in
    let size = c.len.ensures.value in
    let test = c.if-len-gt-MOST_LINE_LETTERS.true in
    let many : MOST_LINE_LETTERS < length c.extend_from_slice.new.self = omega (arith, size, test) in
    too_long c.args.text.now _ c.in-Some.piece.now _ c.in_ok-word.word c.loop-piece.letters c.extend_from_slice.new.self c.loop-piece.blanks.items c.loop-piece.invariant.words cut
    c.in_ok-word.ensures (c.in_ok-extend_from_slice.ensures.ok ∙ ap (λ (w : List ℕ). c.loop-piece.letters ++ w) c.as_slice.ensures.value) many

pub loop-piece-preserved : goal.loop-piece-preserved
loop-piece-preserved c =
    let size = c.len.ensures.value in
    let test = c.if-len-gt-MOST_LINE_LETTERS.false in
    record {
      can = search rules;
      finite = search rules;
      words = subst (λ (pieces : List (List ℕ)). HasWords pieces c.extend_from_slice.new.self c.push_blank.new.blanks.items)
          (sym (map_push (λ (x : Bor (List ℕ)). x.now) c.loop-piece.yielded c.in-Some.piece))
          (word_added (map (λ (x : Bor (List ℕ)). x.now) c.loop-piece.yielded) c.in-Some.piece.now c.in_ok-word.word c.loop-piece.letters c.extend_from_slice.new.self
          c.loop-piece.blanks.items c.push_blank.new.blanks.items c.loop-piece.invariant.words c.in_ok-word.ensures
          (c.in_ok-extend_from_slice.ensures.ok ∙ ap (λ (w : List ℕ). c.loop-piece.letters ++ w) c.as_slice.ensures.value) c.in_ok-push_blank.ensures.ok (omega (arith, size, test)));
    }

pub invariant_of-result : goal.invariant_of-result
invariant_of-result c =
    let cut =
    parts_at_end
    (YieldsList-at c.into_iter-piece-iterator.ensures.into_iter_gives
    (YieldsList-from_slice_split _ (λ byte. eqb byte 95) c.args.text.now c.split-piece-items.ensures.rest c.split-piece-items.ensures.done c.split-piece-items.ensures.closure
    (λ x r q k. search (rules, tests))))
    c.loop-piece.yielded _ c.loop-piece.yielded_by _ _ c.in-None.is c.next.ensures.steps in
    (line_tells c.args.text.now _ (line_read c.args.text.now c.loop-piece.letters c.loop-piece.blanks.items _ c.loop-piece.invariant.words cut)).1

pub returns : goal.returns
returns c =
    let cut =
    parts_at_end
    (YieldsList-at c.into_iter-piece-iterator.ensures.into_iter_gives
    (YieldsList-from_slice_split _ (λ byte. eqb byte 95) c.args.text.now c.split-piece-items.ensures.rest c.split-piece-items.ensures.done c.split-piece-items.ensures.closure
    (λ x r q k. search (rules, tests))))
    c.loop-piece.yielded _ c.loop-piece.yielded_by _ _ c.in-None.is c.next.ensures.steps in
    line_read c.args.text.now c.loop-piece.letters c.loop-piece.blanks.items _ c.loop-piece.invariant.words cut
