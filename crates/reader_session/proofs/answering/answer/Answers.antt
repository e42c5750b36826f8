-- No word is refused, and the end ends; the other replies are those of their functions.
use Rattle.std.proofs.Common.{IfOk, sym, subst, arith}
use Rattle.session_definitions.specs.Replies.{IsReplyTo}
use Rattle.reader_session.specs.Readings.{GoesOn, state_of}
use Rattle.reader_session.specs.Meant.{request_meant}
use Rattle.reader_session.proofs.OpenReplies.{goes_on, no_word, over}
use Rattle.std.proofs.lemmas.Grind.{common_steps}
use Rattle.reader_session.proofs.answering.answer.Goals as goal

pub returns-in-NoWord : goal.returns-in-NoWord
returns-in-NoWord c =
    let searched = c.args.lexicon.now in
    let state = state_of searched.lexicon.rules c.args.old in
    record {
      ok = goes_on searched (IsReplyTo searched.lexicon state (request_meant c.args.request)) c.args.output.now.items
          c.refuse.new.output.items c.refuse.result c.open-in-NoWord.result c.open-in-NoWord.ensures
          (subst (λ request. IfOk c.refuse.result (GoesOn searched (IsReplyTo searched.lexicon state (request_meant request)) c.args.output.now.items
          c.refuse.new.output.items)) (sym c.in-NoWord.is)
          (no_word searched c.args.old c.args.output.now.items c.refuse.new.output.items c.refuse.result c.requires.reading
          c.refuse.ensures.output c.refuse.ensures.same));
    }

pub returns-in_ok-extend_from_slice-in-Quit : goal.returns-in_ok-extend_from_slice-in-Quit
returns-in_ok-extend_from_slice-in-Quit c = record {
  ok = over c.args.lexicon.now c.args.old c.args.request c.args.output.now.items c.extend_from_slice.new.self.items c.in-Quit.is
      c.requires.reading c.in_ok-extend_from_slice-in-Quit.ensures.items;
}

pub returns-in-Page : goal.returns-in-Page
returns-in-Page c = grind (arith, common_steps)

pub returns-in-Undo : goal.returns-in-Undo
returns-in-Undo c = grind (arith, common_steps)
