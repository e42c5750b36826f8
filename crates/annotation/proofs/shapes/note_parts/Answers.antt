-- Test by test: what is missing leaves no parts, and where nothing is missing these are the parts.
use Rattle.std.proofs.Common.{sym}
use Rattle.annotation.proofs.ShapeTests.{no_object, not_shaped, no_text, no_list, not_texts, all_parts}
use Rattle.annotation.proofs.shapes.note_parts.Goals as goal

pub returns-in_default : goal.returns-in_default
returns-in_default c = no_object _ (sym c.in_default.ensures)

pub returns-then-not-is_shaped : goal.returns-then-not-is_shaped
returns-then-not-is_shaped c = not_shaped _ _ (sym c.in-Some.ensures) (sym c.if-not-is_shaped.ensures)

pub returns-in_default-text_under : goal.returns-in_default-text_under
returns-in_default-text_under c = no_text _ _ (sym c.in-Some.ensures) (sym c.if-not-is_shaped.ensures) (sym c.in_default-text_under.ensures)

pub returns-in_default-list_under : goal.returns-in_default-list_under
returns-in_default-list_under c = no_list _ _ (sym c.in-Some.ensures) (sym c.if-not-is_shaped.ensures) (sym c.in_default-list_under.ensures)

pub returns-then-not-are_texts : goal.returns-then-not-are_texts
returns-then-not-are_texts c =
    not_texts _ _ _ (sym c.in-Some.ensures) (sym c.if-not-is_shaped.ensures) (sym c.in-Some-list_under.ensures) (sym c.if-not-are_texts.ensures)

pub returns : goal.returns
returns c =
    all_parts _ _ _ _ (sym c.in-Some.ensures) (sym c.if-not-is_shaped.ensures) (sym c.in-Some-text_under.ensures) (sym c.in-Some-list_under.ensures)
    (sym c.if-not-are_texts.ensures)
