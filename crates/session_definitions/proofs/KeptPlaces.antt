-- A refusal and the replies to `tags` and `mark` leave the state as it was, and that to `summary` changes the summary alone.
use Rattle.std.proofs.Common.{◌≡◌, ℕ, Option, Some, None, List, refl, ◌∙◌}
use Rattle.text_definitions.specs.Lines.{Line}
use Rattle.lexicon_definitions.specs.Lexicons.{Lexicon}
use Rattle.segmentation_definitions.specs.Items.{Item}
use Rattle.session_definitions.specs.States.{State}
use Rattle.session_definitions.specs.Requests.{Summary, Tags, Mark}
use Rattle.session_definitions.specs.Replies.{Open, Reply, refused, with_line, with_summary, with_item, reply_about, reply_to_tags, reply_to_mark, IsReplyOver, IsSummaryReply, IsReplyTo}
use Rattle.session_definitions.specs.PageReplies.{KeepsPlace}

stays : (state : State) (reply : Reply) → reply.after ≡ Open state → KeepsPlace state reply
stays state reply same = record { next = state; goes_on = same; line = refl; choices = refl; cursor = refl }

pub refusal_keeps : (state : State) (why : List ℕ) (reply : Reply) → reply ≡ refused state why → KeepsPlace state reply
refusal_keeps state why reply is = stays state reply (λ i. (is i).after)

summary_over : (lexicon : Lexicon) (state : State) (found : Option Line) (reply : Reply)
    → IsReplyOver state found (IsSummaryReply lexicon state) reply → KeepsPlace state reply
summary_over lexicon state None reply is = stays state reply (λ i. (is i).after)
summary_over lexicon state (Some line) reply is = record {
  next = record state { summary = Some is.items };
  goes_on = λ i. (is.is i).after;
  line = refl;
  choices = refl;
  cursor = refl;
}

pub summary_keeps : (lexicon : Lexicon) (state : State) (reply : Reply) → IsReplyTo lexicon state Summary reply → KeepsPlace state reply
summary_keeps lexicon state reply is = summary_over lexicon state state.line reply is

line_stays : (state : State) (found : Option Line) (following : Line → Reply) → ((line : Line) → (following line).after ≡ Open state)
    → (with_line state found following).after ≡ Open state
line_stays state None following same = refl
line_stays state (Some line) following same = same line

summary_stays : (state : State) (found : Option (List Item)) (following : List Item → Reply) → ((items : List Item) → (following items).after ≡ Open state)
    → (with_summary state found following).after ≡ Open state
summary_stays state None following same = refl
summary_stays state (Some items) following same = same items

item_stays : (state : State) (found : Option Item) (following : Item → Reply) → ((item : Item) → (following item).after ≡ Open state)
    → (with_item state found following).after ≡ Open state
item_stays state None following same = refl
item_stays state (Some item) following same = same item

about_stays : (state : State) (number : Option ℕ) (following : Item → Reply) → ((item : Item) → (following item).after ≡ Open state)
    → (reply_about state number following).after ≡ Open state
about_stays state None following same = refl
about_stays state (Some number) following same =
    line_stays state state.line _ (λ line. summary_stays state state.summary _ (λ items. item_stays state _ following same))

pub tags_keep : (lexicon : Lexicon) (state : State) (number : Option ℕ) (reply : Reply) → IsReplyTo lexicon state (Tags number) reply
    → KeepsPlace state reply
tags_keep lexicon state number reply is =
    stays state reply ((λ i. (is i).after) ∙ about_stays state number (reply_to_tags lexicon state) (λ item. refl))

pub mark_keeps : (lexicon : Lexicon) (state : State) (reply : Reply) → IsReplyTo lexicon state Mark reply → KeepsPlace state reply
mark_keeps lexicon state reply is =
    stays state reply ((λ i. (is i).after) ∙ line_stays state state.line (reply_to_mark lexicon state) (λ line. refl))
