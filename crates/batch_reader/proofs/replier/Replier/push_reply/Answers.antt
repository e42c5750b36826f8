-- By what was read of the text.
use Rattle.std.proofs.Common.{subst}
use Rattle.std.proofs.lemmas.Result.{IfOk-weaker}
use Rattle.text_line.specs.Values.{scheme_of}
use Rattle.batch_reader.specs.Replies.{IsReadIn}
use Rattle.batch_reader.proofs.RepliedTexts.{page_replied, fault_replied}
use Rattle.batch_reader.proofs.replier.Replier.push_reply.Goals as goal

pub returns-in-Ok-clause-ok : goal.returns-in-Ok-clause-ok
returns-in-Ok-clause-ok g c =
    let text = c.args.text.now in
    let is = subst (IsReadIn (scheme_of text.scheme) text.bytes.now) c.in-Ok.is c.in_ok-line.ensures in
    IfOk-weaker c.push_page_of.result _ _
    (λ desk page. page_replied c.args.self.now.lexicon.now.lexicon c.args.self.now.count text c.args.output.now.items c.push_page_of.new.output.items _ is page)
    c.push_page_of.ensures.ok

pub returns-in_ok-push_text_refusal-in-Err-clause-ok :
    goal.returns-in_ok-push_text_refusal-in-Err-clause-ok
returns-in_ok-push_text_refusal-in-Err-clause-ok g c =
    let text = c.args.text.now in
    let is = subst (IsReadIn (scheme_of text.scheme) text.bytes.now) c.in-Err.is c.in_ok-line.ensures in
    fault_replied c.args.self.now.lexicon.now.lexicon c.args.self.now.count text c.args.output.now.items c.push_text_refusal.new.output.items c.in-Err.fault is
    c.in_ok-push_text_refusal-in-Err.ensures
