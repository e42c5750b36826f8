-- There is no summary.
use Rattle.std.proofs.Common.{refl, sym, ap, ◌∙◌, subst}
use Rattle.session_definitions.specs.Requests.{Tags}
use Rattle.session_definitions.specs.Replies.{reply_to_tags}
use Rattle.reader_session.specs.declared.reading.Reading.{Reading}
use Rattle.reader_session.specs.NumberedItems.{IsNoItem}
use Rattle.reader_session.proofs.ChosenItems.{no_summary}
use Rattle.reader_session.proofs.tags_reply.reply_with_tags.Goals as goal

pub returns-in-Err-NoSummary : goal.returns-in-Err-NoSummary
returns-in-Err-NoSummary c =
    let none = subst (IsNoItem c.deref.result.now.summary c.in-Some.number) c.in-Err-NoSummary.field-0-is c.in-Err-NoSummary.ensures.refused in
    record {
      ok = no_summary c.args.lexicon.now c.args.old c.in-Some-old.reading c.args.number c.in-Some.number Tags c.args.output.now.items
          c.refuse-in-Err-NoSummary.new.output.items c.refuse-in-Err-NoSummary.result
          (λ asked state. reply_to_tags c.args.lexicon.now.lexicon state, λ k. refl)
          c.in-Some-old.is c.in-Some.is (ap (λ (reading : Reading). reading.summary) (sym c.deref.ensures) ∙ none) c.requires.reading c.refuse-in-Err-NoSummary.ensures.output
          c.refuse-in-Err-NoSummary.ensures.same;
    }
