-- The side is one letter, or the name of a class.
use Rattle.std.proofs.Common.{◌≡◌, ℕ, Option, List, sym, ◌∙◌, subst}
use Rattle.std.specs.Result.{IfOk}
use Rattle.toml.specs.View.{table_view}
use Rattle.rule_file.proofs.PlainLemmas.{unread_side, not_one_letter, one_letter}
use Rattle.rule_file.proofs.plain.side_letters.Goals as goal

pub returns-in_default : goal.returns-in_default
returns-in_default c =
    subst (λ (wanted : Option (List ℕ)). IfOk c.class_letters.result (λ letters. letters ≡ wanted))
    (unread_side (table_view c.args.classes.now) c.args.side.now (sym c.in_default.is ∙ c.in_ok-word.ensures)) c.class_letters.ensures

pub returns-then-len-ne1 : goal.returns-then-len-ne1
returns-then-len-ne1 c =
    subst (λ (wanted : Option (List ℕ)). IfOk c.class_letters-then-len-ne1.result (λ letters. letters ≡ wanted))
    (not_one_letter (table_view c.args.classes.now) c.args.side.now c.in-Some.word (sym c.in-Some.is ∙ c.in_ok-word.ensures) (λ e. c.if-len-ne1.true (c.len.ensures.value ∙ e)))
    c.class_letters-then-len-ne1.ensures

pub returns : goal.returns
returns c =
    one_letter (table_view c.args.classes.now) c.args.side.now c.in-Some.word (sym c.in-Some.is ∙ c.in_ok-word.ensures) (sym c.len.ensures.value ∙ c.if-len-ne1.false)
