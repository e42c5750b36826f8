-- The text is read, and its letters are tested.
use Rattle.std.proofs.Common.{true, false, [], sym, ◌∙◌, ap}
use Rattle.rule_file_definitions.specs.SoundClasses.{are_new}
use Rattle.rule_file.proofs.ClassLemmas.{unread, no_letter, tested_letters}
use Rattle.rule_file.proofs.classes.class_letters.Goals as goal

pub returns-in_default : goal.returns-in_default
returns-in_default c = unread c.args.text.now (sym c.in_default.is ∙ c.in_ok-word.ensures)

pub returns-then-is_empty : goal.returns-then-is_empty
returns-then-is_empty c =
    no_letter c.args.text.now _ (sym c.in-Some.is ∙ c.in_ok-word.ensures) (c.is_empty.ensures.0 c.if-is_empty.true)

pub returns-then-not-are_different : goal.returns-then-not-are_different
returns-then-not-are_different c =
    tested_letters c.args.text.now _ false (sym c.in-Some.is ∙ c.in_ok-word.ensures) (λ e. let t = c.is_empty.ensures.1 e in let f = c.if-is_empty.false in absurd (cc))
    (ap (are_new []) (sym c.as_slice.ensures.value) ∙ sym c.are_different.ensures ∙ c.if-not-are_different.true)

pub returns : goal.returns
returns c =
    tested_letters c.args.text.now _ true (sym c.in-Some.is ∙ c.in_ok-word.ensures) (λ e. let t = c.is_empty.ensures.1 e in let f = c.if-is_empty.false in absurd (cc))
    (ap (are_new []) (sym c.as_slice.ensures.value) ∙ sym c.are_different.ensures ∙ c.if-not-are_different.false)
