-- Part by part, what the parts so far write; the parts are those of the text, which is not empty.
use Rattle.std.proofs.Common.{◌≡◌, ℕ, ◌<◌, List, [], ◌∷◌, ◌++◌, length, eqb, rules, tests, arith, ap, ◌∙◌, Bor}
use Rattle.std.proofs.lemmas.Bool.Decides.{nat_tests}
use Rattle.std.proofs.lemmas.List.{map-append}
use Rattle.std.proofs.lemmas.Result.{err_from_is_err_and}
use Rattle.std.proofs.lemmas.Iterator.Consumers.{YieldsList-at}
use Rattle.std.proofs.lemmas.Iterator.Splits.{YieldsList-from_slice_split}
use Rattle.derivation.specs.Steps.{key_meant, keys_meant}
use Rattle.bookmark_definitions.specs.BookmarkReadings.{key_of_text}
use Rattle.bookmarks.proofs.HandedOn.{handed_on}
use Rattle.bookmarks.proofs.ListsRead.{parts_in_turn, parts_at_end, part_refused, list_read, part_read}
use Rattle.bookmarks.proofs.keys.read_keys.Goals as goal

pub returns-in_err-read_key : goal.returns-in_err-read_key
returns-in_err-read_key c =
    let p = err_from_is_err_and c.from_residual.result c.from_residual.ensures.1 in
    let some : 0 < length c.args.text.now = grind (arith, nat_tests) in
    let cut =
    parts_in_turn
    (YieldsList-at c.into_iter-part-iterator.ensures.into_iter_gives
    (YieldsList-from_slice_split _ (λ byte. eqb byte 44) c.args.text.now c.split-part-items.ensures.rest c.split-part-items.ensures.done c.split-part-items.ensures.closure
    (λ x r q k. search (rules, tests))))
    c.loop-part.yielded _ c.loop-part.yielded_by _ _ c.in-Some.part c.in-Some.is c.next.ensures.steps in
    rw (p.1, p.2)
    (handed_on _ _ _ _ c.in_err-read_key.field-0.0 _ _ c.in_err-read_key.ensures
    (part_refused key_of_text c.args.text.now _ c.in-Some.part.now _ (keys_meant c.loop-part.keys.items) some cut c.loop-part.invariant.read))

pub loop-part-preserved : goal.loop-part-preserved
loop-part-preserved c =
    let pushed : c.push.new.self.items ≡ c.loop-part.keys.items ++ c.in_ok-read_key.field-0 ∷ [] = c.in_ok-push.ensures.items in
    record {
      can = search rules;
      finite = search rules;
      read = part_read key_of_text (λ (x : Bor (List ℕ)). x.now) c.loop-part.yielded c.in-Some.part (keys_meant c.loop-part.keys.items) (keys_meant c.push.new.self.items)
          (key_meant c.in_ok-read_key.field-0) c.loop-part.invariant.read c.in_ok-read_key.ensures
          (ap keys_meant pushed ∙ map-append key_meant c.loop-part.keys.items (c.in_ok-read_key.field-0 ∷ []));
    }

pub returns : goal.returns
returns c =
    let some : 0 < length c.args.text.now = grind (arith, nat_tests) in
    let cut =
    parts_at_end
    (YieldsList-at c.into_iter-part-iterator.ensures.into_iter_gives
    (YieldsList-from_slice_split _ (λ byte. eqb byte 44) c.args.text.now c.split-part-items.ensures.rest c.split-part-items.ensures.done c.split-part-items.ensures.closure
    (λ x r q k. search (rules, tests))))
    c.loop-part.yielded _ c.loop-part.yielded_by _ _ c.in-None.is c.next.ensures.steps in
    list_read key_of_text c.args.text.now _ (keys_meant c.loop-part.keys.items) some cut c.loop-part.invariant.read
