-- The tests of a line one after another.
use Rattle.std.proofs.Common.{rules, ◌≡◌, ◌≢◌, true, refl, sym, ◌∙◌}
use Rattle.form_file.proofs.LinesTaken.{utf8_bad, utf8_good}
use Rattle.lexicon_file.specs.Kinds.{version_of}
use Rattle.lexicon_file.specs.declared.kind.Kind.TheVariants.{End}
use Rattle.lexicon_file.specs.declared.error.FileWhy.TheVariants.{Trailing, NoEnd, NotUtf8}
use Rattle.lexicon_file.proofs.LinesTaken.{line_refused, answer_as, trailing, no_end, not_utf8, parts_taken, last_is, last_not_end}
use Rattle.lexicon_file.proofs.told.TrieTold.take_line.Goals as goal

pub returns-then-eq : goal.returns-then-eq
returns-then-eq c =
    let last : c.self.inside.last ≡ End = search rules in
    line_refused (Unit {0}) _ c.into.result Trailing c.args.self.now (cc) (trailing (version_of c.args.version) c.args.self.now _ (last_is _ c.args.self.now c.self.inside.last c.self.view_is refl End last))

pub returns-then-not-ended : goal.returns-then-not-ended
returns-then-not-ended c =
    let last : c.self.inside.last ≢ End = search rules in
    line_refused (Unit {0}) _ c.into-then-not-ended.result NoEnd c.args.self.now (cc)
    (no_end (version_of c.args.version) c.args.self.now _ (last_not_end _ c.args.self.now c.self.inside.last c.self.view_is refl last) (cc))

pub returns-then-is_err : goal.returns-then-is_err
returns-then-is_err c =
    let last : c.self.inside.last ≢ End = search rules in
    let ended : c.args.ended ≡ true = search rules in
    line_refused (Unit {0}) _ c.into-then-is_err.result NotUtf8 c.args.self.now (cc)
    (not_utf8 (version_of c.args.version) c.args.self.now _ (last_not_end _ c.args.self.now c.self.inside.last c.self.view_is refl last) ended
    (utf8_bad _ _ c.args.line.now c.from_utf8.result _ _ c.from_utf8.ensures.cases (λ e q. q.0) (sym c.is_err.ensures.value ∙ c.if-is_err.true)))

pub returns : goal.returns
returns c =
    let last : c.self.inside.last ≢ End = search rules in
    let ended : c.args.ended ≡ true = search rules in
    answer_as (Unit {0}) _ _ c.take_parts.result c.take_parts.new.self
    (parts_taken (version_of c.args.version) c.args.self.now _ (last_not_end _ c.args.self.now c.self.inside.last c.self.view_is refl last) ended
    (utf8_good _ _ c.args.line.now c.from_utf8.result _ _ c.from_utf8.ensures.cases (λ text p. p.1) (sym c.is_err.ensures.value ∙ c.if-is_err.false)))
    c.take_parts.ensures
