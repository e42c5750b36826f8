-- There is no summary; or the item of the number is within the bounds.
use Rattle.std.proofs.Common.{◌≡◌, refl, sym, ap, ◌∙◌, subst, arith}
use Rattle.session_definitions.specs.Requests.{Choose}
use Rattle.session_definitions.specs.Replies.{reply_to_choice}
use Rattle.reader_session.specs.Readings.{GoesOnWith, IsReadingOver, state_with}
use Rattle.reader_session.specs.declared.reading.Reading.{Reading}
use Rattle.reader_session.specs.NumberedItems.{IsNoItem, IsNumberedItem}
use Rattle.reader_session.proofs.ChosenItems.{item_chosen, no_summary, numbered_within}
use Rattle.std.proofs.lemmas.Grind.{common_steps}
use Rattle.reader_session.proofs.choice_reply.reply_to_choice.Goals as goal

pub choose-requires-clause-item : goal.choose-requires-clause-item
choose-requires-clause-item c =
    numbered_within c.args.lexicon.now c.in-Some-old.reading.value c.in-Some.number c.in-Ok.item c.requires.lexicon
    (subst (IsReadingOver c.args.lexicon.now) c.in-Some-old.is c.requires.reading)
    (subst (λ (reading : Reading). IsNumberedItem reading.summary c.in-Some.number c.in-Ok.item) c.deref.ensures c.in-Ok.ensures.ok)

pub returns-in-Err-NoSummary : goal.returns-in-Err-NoSummary
returns-in-Err-NoSummary c =
    let none = subst (IsNoItem c.deref.result.now.summary c.in-Some.number) c.in-Err-NoSummary.field-0-is c.in-Err-NoSummary.ensures.refused in
    record {
      ok = no_summary c.args.lexicon.now c.args.old c.in-Some-old.reading c.args.number c.in-Some.number (Choose c.args.kept) c.args.output.now.items
          c.refuse-in-Err-NoSummary.new.output.items c.refuse-in-Err-NoSummary.result
          (λ asked state. reply_to_choice state c.args.kept, λ k. refl)
          c.in-Some-old.is c.in-Some.is (ap (λ (reading : Reading). reading.summary) (sym c.deref.ensures) ∙ none) c.requires.reading c.refuse-in-Err-NoSummary.ensures.output
          c.refuse-in-Err-NoSummary.ensures.same;
    }

pub returns-in_ok-choose-in-Ok : goal.returns-in_ok-choose-in-Ok
returns-in_ok-choose-in-Ok c =
    let searched = c.args.lexicon.now in
    let there = subst (λ (reading : Reading). IsNumberedItem reading.summary c.in-Some.number c.in-Ok.item) c.deref.ensures c.in-Ok.ensures.ok in
    record {
      ok = item_chosen searched c.args.old c.in-Some-old.reading c.choose.new.reading c.args.number c.in-Some.number c.args.kept c.in-Ok.item
          c.args.output.now.items c.choose.new.output.items c.in-Some-old.is c.in-Some.is there
          (subst (λ (reading : Reading). GoesOnWith searched (λ reply. reply ≡ reply_to_choice (state_with searched.lexicon.rules reading) c.args.kept c.in-Ok.item)
          c.args.output.now.items c.choose.new.output.items c.choose.new.reading) c.deref_mut.ensures.value c.in_ok-choose-in-Ok.ensures.ok);
    }

pub returns-in-Err-NoNumber : goal.returns-in-Err-NoNumber
returns-in-Err-NoNumber c = grind (arith, common_steps)
