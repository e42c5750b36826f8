-- What is read has a bookmark.
use Rattle.std.proofs.Common.{sym, subst}
use Rattle.bookmark_definitions.specs.Bookmarks.{IsBookmark}
use Rattle.reader_session.specs.Marked.{mark_of}
use Rattle.reader_session.proofs.MarkedReadings.{reading_marked, mark_is_bookmark, reply_marked}
use Rattle.reader_session.proofs.mark_reply.reply_with_mark.Goals as goal

pub push_mark-requires : goal.push_mark-requires
push_mark-requires c =
    let reading = c.in-Some.reading in
    let mark = mark_is_bookmark c.args.lexicon.now reading.value (reading_marked c.args.lexicon.now c.args.old reading c.in-Some.is c.requires.reading)
    c.requires.lexicon in
    record { mark = subst (λ reading. IsBookmark (mark_of reading)) (sym c.deref.ensures) mark }

pub returns : goal.returns
returns c = record {
  ok = reply_marked c.args.lexicon.now c.args.old c.in-Some.reading c.args.output.now.items c.push_mark.new.output.items c.in-Some.is
      c.requires.reading (rw c.deref.ensures at c.in_ok-push_mark.ensures.ok);
}
