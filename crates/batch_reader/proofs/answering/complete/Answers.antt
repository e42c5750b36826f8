-- The reply that was found at the place, or is found now, comes after those before it, and nothing is left at the place.
use Rattle.std.proofs.Common.{◌+◌, ◌∙◌, ℕ, List, Vec, Global, Option, None, arith, length, map, slice_set, sym, subst, take}
use Rattle.std.proofs.lemmas.List.{get_or_read_under}
use Rattle.batch_reader.specs.declared.asked.Asked.{Asked}
use Rattle.batch_reader.specs.Replies.{IsReplyTo, IsFound, AreFound, AreRepliesTo}
use Rattle.batch_reader.proofs.FoundReplies.{zip_length, reply_found, taken_out}
use Rattle.batch_reader.proofs.RepliesInOrder.{replies_with_next}
use Rattle.batch_reader.proofs.answering.complete.Goals as goal
use Rattle.batch_reader.proofs.answering.complete.Goals.{in-Some, in-None+in_ok-reply-in-None}

pub loop-place-preserved : goal.loop-place-preserved
loop-place-preserved g c =
    let lexicon = c.args.replier.now.lexicon.now.lexicon in
    let count = c.args.replier.now.count in
    let asked = c.args.asked.now in
    let found = c.loop-place.found.items in
    let place = c.loop-place.place in
    let one = c.index-asked-place.result in
    let inv = c.loop-place.invariant in
    let is_reply : IsReplyTo lexicon count one c.match-take.reply.items = elim c.match-take.branch [
      | in-Some w ↦
          subst (λ (reply : Vec ℕ Global). IsReplyTo lexicon count one reply.items) (sym w.reply-is)
          (subst (λ (a : Asked). IsReplyTo lexicon count a w.in-Some.reply.items) (sym c.index-asked-place.is)
          (reply_found lexicon count asked found place one w.in-Some.reply inv.found c.loop-place-test.true
          (sym (w.in-Some.ensures.value ∙ get_or_read_under found place (length asked) c.index_mut.result.now None c.index_mut.ensures.value c.loop-place-test.true
          (omega (arith, zip_length (IsFound lexicon count) asked found inv.found))))))
      | in-None+in_ok-reply-in-None w ↦
          subst (λ (reply : Vec ℕ Global). IsReplyTo lexicon count one reply.items) (sym w.reply-is) w.in_ok-reply-in-None.ensures.ok
    ] in record {
      found = subst (λ (o : Option (Vec ℕ Global)). AreFound lexicon count asked (slice_set found place o)) (sym c.take.ensures.after)
          (taken_out lexicon count asked found place one inv.found c.loop-place-test.true);
      replied = subst (λ (rs : List (Vec ℕ Global)). AreRepliesTo lexicon count (take (place + 1) asked) (map (λ (reply : Vec ℕ Global). reply.items) rs))
          (sym c.in_ok-push.ensures.items)
          (replies_with_next lexicon count asked place one c.loop-place.replies.items c.match-take.reply c.loop-place-test.true c.index-asked-place.is inv.replied is_reply);
    }
