-- The tests of the name one after another; a name that passes is text, and is told last.
use Rattle.std.proofs.Common.{◌≡◌, ◌≢◌, Some, [], ◌∷◌, ◌++◌, length, map, All, AllPairs, sym, ◌∙◌, ap, subst, Global, arith}
use Rattle.std.specs.List.{position}
use Rattle.std.specs.Str.{bytes_eq}
use Rattle.std.specs.String.{string_bytes}
use Rattle.std.proofs.lemmas.List.{length-append}
use Rattle.std.proofs.lemmas.List.Elements.{All-push}
use Rattle.lexicon_definitions.specs.Lexicons.{IsPhaseName}
use Rattle.lexicon_definitions.proofs.NameTests.{name_from_test}
use Rattle.lexicon_text_definitions.specs.FileLines.{fields_of}
use Rattle.lexicon_text_definitions.specs.FileContents.{Told}
use Rattle.lexicon_text_definitions.specs.FileSteps.{take_phase as take_phase_of}
use Rattle.form_file.specs.declared.error.FileWhy.TheVariants.{Field, Limit, Twice}
use Rattle.form_file.proofs.AnswerLemmas.{refused_for}
use Rattle.form_file.proofs.NameLines.{no_name, not_name, by_name, over_limit, told_twice, apart_with, name_told, name_utf8, names_pushed, count_held}
use Rattle.form_file.proofs.StageLemmas.{no_lists}
use Rattle.form_file.proofs.told.Told.take_phase.Goals as goal

pub returns-in_default : goal.returns-in_default
returns-in_default c =
    refused_for (Unit {0}) (take_phase_of c.args.self.now (fields_of (Some c.args.text.now))) c.into.result Field c.args.self.now c.into.ensures
    (no_name c.args.self.now (fields_of (Some c.args.text.now)) c.in_default.ensures)

pub returns-then-not-is_phase_name : goal.returns-then-not-is_phase_name
returns-then-not-is_phase_name c =
    refused_for (Unit {0}) (take_phase_of c.args.self.now (fields_of (Some c.args.text.now))) c.into-then-not-is_phase_name.result Field c.args.self.now c.into-then-not-is_phase_name.ensures
    (not_name c.args.self.now (fields_of (Some c.args.text.now)) c.in-Some.name.now c.in-Some.ensures (sym c.is_phase_name.ensures ∙ c.if-not-is_phase_name.true))

pub returns-then-len-ge-MOST_PHASES : goal.returns-then-len-ge-MOST_PHASES
returns-then-len-ge-MOST_PHASES c =
    let count =
    count_held (string_bytes {Z = Global}) c.self.inside.names.items c.args.self.now.names c.self.inside.names.len c.len.result (ap (λ (told : Told). told.names) c.self.view_is)
    c.self.inside.names.ok.0 c.len.ensures in
    let many = c.if-len-ge-MOST_PHASES.true in
    refused_for (Unit {0}) (take_phase_of c.args.self.now (fields_of (Some c.args.text.now))) c.into-then-len-ge-MOST_PHASES.result Limit c.args.self.now
    c.into-then-len-ge-MOST_PHASES.ensures
    (by_name c.args.self.now (fields_of (Some c.args.text.now)) c.in-Some.name.now c.in-Some.ensures (sym c.is_phase_name.ensures ∙ c.if-not-is_phase_name.false)
    ∙ over_limit c.args.self.now c.in-Some.name.now (omega (arith, count, many)))

pub returns-then-is_some : goal.returns-then-is_some
returns-then-is_some c =
    let count =
    count_held (string_bytes {Z = Global}) c.self.inside.names.items c.args.self.now.names c.self.inside.names.len c.len.result (ap (λ (told : Told). told.names) c.self.view_is)
    c.self.inside.names.ok.0 c.len.ensures in
    let few = c.if-len-ge-MOST_PHASES.false in
    refused_for (Unit {0}) (take_phase_of c.args.self.now (fields_of (Some c.args.text.now))) c.into-then-is_some.result Twice c.args.self.now c.into-then-is_some.ensures
    (by_name c.args.self.now (fields_of (Some c.args.text.now)) c.in-Some.name.now c.in-Some.ensures (sym c.is_phase_name.ensures ∙ c.if-not-is_phase_name.false)
    ∙ told_twice c.args.self.now c.in-Some.name.now c.phase_named.result (omega (arith, count, few)) c.phase_named.ensures.named (sym c.is_some.ensures ∙ c.if-is_some.true))

pub returns-in_default-from_utf8 : goal.returns-in_default-from_utf8
returns-in_default-from_utf8 c =
    absurd (c.in_default-from_utf8.ensures.cases.0 (name_utf8 c.in-Some.name.now (sym c.is_phase_name.ensures ∙ c.if-not-is_phase_name.false)))

pub returns : goal.returns
returns c =
    let count =
    count_held (string_bytes {Z = Global}) c.self.inside.names.items c.args.self.now.names c.self.inside.names.len c.len.result (ap (λ (told : Told). told.names) c.self.view_is)
    c.self.inside.names.ok.0 c.len.ensures in
    let few = c.if-len-ge-MOST_PHASES.false in
    let pushed : c.push.new.self.items ≡ c.self.inside.names.items ++ c.in_ok-from_str.field-0 ∷ [] = c.in_ok-push.ensures.items in
    let names =
    names_pushed (string_bytes {Z = Global}) c.self.inside.names.items c.push.new.self.items c.in_ok-from_str.field-0 c.in-Some.name.now pushed
    (c.in_ok-from_str.ensures.ok ∙ c.in-Ok.ensures.cases.0) in
    by_name c.args.self.now (fields_of (Some c.args.text.now)) c.in-Some.name.now c.in-Some.ensures (sym c.is_phase_name.ensures ∙ c.if-not-is_phase_name.false)
    ∙ name_told c.args.self.now _ c.in-Some.name.now c.phase_named.result _ (omega (arith, count, few)) c.phase_named.ensures.named (sym c.is_some.ensures ∙ c.if-is_some.false) c.self.view_is names

pub invariant_of-self : goal.invariant_of-self
invariant_of-self c = c.self.invariant

pub invariant_of-self-2 : goal.invariant_of-self-2
invariant_of-self-2 c =
    let held = map (string_bytes {Z = Global}) c.self.inside.names.items in
    let name = c.in-Some.name.now in
    let count =
    count_held (string_bytes {Z = Global}) c.self.inside.names.items c.args.self.now.names c.self.inside.names.len c.len.result (ap (λ (told : Told). told.names) c.self.view_is)
    c.self.inside.names.ok.0 c.len.ensures in
    let few = c.if-len-ge-MOST_PHASES.false in
    let same : held ≡ c.args.self.now.names = ap (λ (told : Told). told.names) c.self.view_is in
    let pushed : c.push.new.self.items ≡ c.self.inside.names.items ++ c.in_ok-from_str.field-0 ∷ [] = c.in_ok-push.ensures.items in
    let names =
    names_pushed (string_bytes {Z = Global}) c.self.inside.names.items c.push.new.self.items c.in_ok-from_str.field-0 name pushed (c.in_ok-from_str.ensures.ok ∙ c.in-Ok.ensures.cases.0) in
    let long = ap length names ∙ length-append held (name ∷ []) in
    let before = ap length same in
    record {
      few = omega (arith, long, before, count, few);
      named = subst (All IsPhaseName) (sym names) (All-push IsPhaseName held name c.self.invariant.named (name_from_test name (sym c.is_phase_name.ensures ∙ c.if-not-is_phase_name.false)));
      apart = subst (AllPairs (λ left right. left ≢ right)) (sym names)
          (apart_with held name c.phase_named.result c.self.invariant.apart (c.phase_named.ensures.named ∙ ap (position (bytes_eq name)) (sym same)) (sym c.is_some.ensures ∙ c.if-is_some.false));
      stage = (omega (arith, long), no_lists _ c.args.self.now c.self.inside.automaton c.self.inside.forms.value c.self.view_is c.requires.follows c.self.invariant);
    }
