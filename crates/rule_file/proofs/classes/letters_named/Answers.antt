-- The name is tested, and its text is looked up and read.
use Rattle.std.proofs.Common.{◌≡◌, ℕ, Option, Some, None, List, option_and_then, sym, ◌∙◌, ap, subst}
use Rattle.std.specs.Result.{IfOk}
use Rattle.toml.specs.Data.{get_member, as_str}
use Rattle.toml.specs.View.{table_view}
use Rattle.rule_file_definitions.specs.SoundClasses.{class_letters}
use Rattle.rule_file.proofs.ClassLemmas.{not_named, named_text, no_text, name_utf8}
use Rattle.rule_file.proofs.classes.letters_named.Goals as goal

pub returns-then-not-is_sound_class_name : goal.returns-then-not-is_sound_class_name
returns-then-not-is_sound_class_name c = not_named (table_view c.args.classes.now) c.args.name.now (sym c.is_sound_class_name.ensures ∙ c.if-not-is_sound_class_name.true)

pub returns-in_default : goal.returns-in_default
returns-in_default c =
    absurd (c.in_default.ensures.cases.0 (name_utf8 c.args.name.now (sym c.is_sound_class_name.ensures ∙ c.if-not-is_sound_class_name.false)))

pub returns-in-Some : goal.returns-in-Some
returns-in-Some c =
    let held = subst (λ name. Some c.in-Some.text.now ≡ option_and_then as_str (get_member name (table_view c.args.classes.now))) c.in-Ok.ensures.cases.0 c.in-Some.ensures in
    let is = ap class_letters c.as_bytes.ensures.value
    ∙ named_text (table_view c.args.classes.now) c.args.name.now c.in-Some.text.now (sym c.is_sound_class_name.ensures ∙ c.if-not-is_sound_class_name.false) held in
    subst (λ (wanted : Option (List ℕ)). IfOk c.class_letters.result (λ word. word ≡ wanted)) is c.class_letters.ensures

pub returns-in-None : goal.returns-in-None
returns-in-None c =
    let held = subst (λ name. None ≡ option_and_then as_str (get_member name (table_view c.args.classes.now))) c.in-Ok.ensures.cases.0 c.in-None.ensures in
    no_text (table_view c.args.classes.now) c.args.name.now (sym c.is_sound_class_name.ensures ∙ c.if-not-is_sound_class_name.false) held
