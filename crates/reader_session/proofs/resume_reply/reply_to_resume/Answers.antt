-- The three replies, each by its lemma.
use Rattle.std.proofs.Common.{Some, sym, ap, subst, ◌∙◌}
use Rattle.bookmarks.specs.declared.bookmark.Bookmark.{Bookmark}
use Rattle.bookmarks.specs.Values.{bookmark_of}
use Rattle.reader_session.specs.Resumed.{IsResumed}
use Rattle.reader_session.proofs.ResumeReplies.{reply_resumed, reply_not_resumed, reply_not_read}
use Rattle.reader_session.proofs.resume_reply.reply_to_resume.Goals as goal

pub returns-in_default : goal.returns-in_default
returns-in_default c = record {
  ok = reply_not_read c.args.lexicon.now c.args.old c.args.mark c.args.output.now.items c.refuse.new.output.items c.refuse.result
      c.in_default.is c.requires.reading c.refuse.ensures.output c.refuse.ensures.same;
}

pub returns-in_ok-push_ok-in-Some-2 : goal.returns-in_ok-push_ok-in-Some-2
returns-in_ok-push_ok-in-Some-2 c =
    let resumed = subst (λ (mark : Bookmark). IsResumed c.args.lexicon.now (bookmark_of mark) c.in_ok-reading.field-0) c.into_inner.ensures c.in_ok-reading.ensures.ok in
    let boxed = c.in-Some-2.is ∙ ap Some (sym c.in_ok-reading-in-Some-2.ensures.ok) in
    record {
      ok = reply_resumed c.args.lexicon.now c.args.old c.args.mark c.in-Some.mark c.in_ok-reading.field-0 c.in_ok-reading-in-Some-2.reading
          c.args.output.now.items c.push_ok.new.output.items c.in-Some.is boxed resumed
          c.in_ok-push_ok-in-Some-2.ensures;
    }

pub returns-in-None : goal.returns-in-None
returns-in-None c =
    let resumed = subst (λ (mark : Bookmark). IsResumed c.args.lexicon.now (bookmark_of mark) c.in_ok-reading.field-0) c.into_inner.ensures c.in_ok-reading.ensures.ok in
    record {
      ok = reply_not_resumed c.args.lexicon.now c.args.old c.args.mark c.in-Some.mark c.in_ok-reading.field-0 c.args.output.now.items
          c.refuse-in-None.new.output.items c.refuse-in-None.result c.in-Some.is c.in-None.is c.requires.reading resumed
          c.refuse-in-None.ensures.output c.refuse-in-None.ensures.same;
    }
