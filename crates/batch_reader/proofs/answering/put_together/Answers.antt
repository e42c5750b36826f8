-- What is found at the place in either list is put there, and nothing is left of it in the other list.
use Rattle.std.proofs.Common.{◌≡◌, ◌<◌, ℕ, Option, Vec, Global, None, length, get_or, slice_set, sym, subst, ◌∙◌, arith}
use Rattle.std.specs.Option.{option_or}
use Rattle.std.proofs.lemmas.List.{length-set, get_or_read_under}
use Rattle.batch_reader.specs.Replies.{IsFound, AreFound}
use Rattle.batch_reader.proofs.FoundReplies.{zip_length, first_one, taken_out, either_found}
use Rattle.batch_reader.proofs.answering.put_together.Goals as goal

pub loop-place-preserved : goal.loop-place-preserved
loop-place-preserved c =
    let found = c.loop-place.found.items in
    let others = c.loop-place.others.items in
    let place = c.loop-place.place in
    let inv = c.loop-place.invariant in
    let end = c.len-place-end.ensures in
    let own = c.take-own.ensures.value ∙ get_or_read_under found place c.len-place-end.result c.index_mut.result.now None c.index_mut.ensures.value c.loop-place-test.true
    (omega (arith, end, inv.count)) in
    let other = c.take-other.ensures.value ∙ get_or_read_under others place c.len-place-end.result c.index_mut-in-loop-place.result.now None
    c.index_mut-in-loop-place.ensures.value c.loop-place-test.true (omega (arith, end, inv.others)) in
    let or_is : c.or.result ≡ option_or (get_or found place None) (get_or others place None) = c.or.ensures ∙ (λ i. option_or (own i) (other i)) in
    record {
      count = length-set (slice_set found place c.take-own.new.self) place c.or.result ∙ length-set found place c.take-own.new.self ∙ inv.count;
      others = length-set others place c.take-other.new.self ∙ inv.others;
      found = λ lexicon count asked are others_are.
          let before = inv.found lexicon count asked are others_are in
          let asked_are = zip_length (IsFound lexicon count) asked found before.0 in
          let low : place < length asked = omega (arith, c.loop-place-test.true, c.len-place-end.ensures, inv.count, asked_are) in (
            subst (λ (o : Option (Vec ℕ Global)). AreFound lexicon count asked (slice_set (slice_set found place o) place c.or.result)) (sym c.take-own.ensures.after)
                (subst (λ (o : Option (Vec ℕ Global)). AreFound lexicon count asked (slice_set (slice_set found place None) place o)) (sym or_is)
                (either_found lexicon count asked found others place before.0 before.1 low)),
            subst (λ (o : Option (Vec ℕ Global)). AreFound lexicon count asked (slice_set others place o)) (sym c.take-other.ensures.after)
                (taken_out lexicon count asked others place (first_one asked place low) before.1 low),
          );
    }
