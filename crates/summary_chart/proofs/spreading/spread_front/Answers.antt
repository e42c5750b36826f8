-- What may stand after the front is no change, where a form ends there, and the choices that begin with the next letter (`VisitedKeys`).
use Rattle.std.proofs.Common.{◌≡◌, ◌+◌, List, ℕ, length, get_or, ap, ◌∙◌, arith}
use Rattle.std.proofs.lemmas.Result.{on_ok_weaker}
use Rattle.phoneme.specs.declared.line.Line.{Line}
use Rattle.summary_chart.specs.declared.table.Table.{Table}
use Rattle.summary_chart.proofs.VisitedKeys.{visit_without_letter, visit_with_letter}
use Rattle.summary_chart.proofs.PutKeys.{put_visit}
use Rattle.summary_chart.proofs.SpreadMemos.{all_grown}
use Rattle.summary_chart.proofs.spreading.spread_front.Goals as goal

pub returns-in_default-clause-memo : goal.returns-in_default-clause-memo
returns-in_default-clause-memo g c =
    all_grown c.args.onward.here.site.lexicon.now c.args.onward.here.site.line.now c.args.table.now c.spread_unchanged.new.table c.args.memo.now c.spread_unchanged.ensures.spreads.keeps c.requires.memo

pub returns-in_default-clause-spreads : goal.returns-in_default-clause-spreads
returns-in_default-clause-spreads g c =
    let searched = c.args.onward.here.site.lexicon.now in
    let line = c.args.onward.here.site.line.now in
    let place = c.args.onward.here.site.place.now in
    let whole : c.as_slice.result.now ≡ line.letters = c.as_slice.ensures.value ∙ ap (λ (l : Line). l.letters) c.line.view_is in
    let past = c.in_default.ensures.lookup.3 in
    let long = ap length whole in
    visit_without_letter searched line c.args.onward.here.site.choices.now place Table (put_visit searched line c.args.onward.here.site.choices.now place c.args.onward.after)
    c.requires.onward.here.site.searched c.args.front.now.phase c.args.front.now.taken c.args.front.now.node c.requires.front c.args.table.now c.spread_unchanged.new.table
    (omega (arith, past, long)) c.spread_unchanged.ensures.spreads

pub spread_changed-requires-clause-letter : goal.spread_changed-requires-clause-letter
spread_changed-requires-clause-letter g c =
    let line = c.args.onward.here.site.line.now in
    let whole : c.as_slice.result.now ≡ line.letters = c.as_slice.ensures.value ∙ ap (λ (l : Line). l.letters) c.line.view_is in
    let letter = c.in-Some.letter.now in
    c.in-Some.ensures.lookup.1 ∙ ap (λ (letters : List ℕ). get_or letters (c.args.onward.here.site.place.now.at + c.args.front.now.taken) letter) whole

pub spread_changed-requires-clause-memo : goal.spread_changed-requires-clause-memo
spread_changed-requires-clause-memo g c =
    all_grown c.args.onward.here.site.lexicon.now c.args.onward.here.site.line.now c.args.table.now c.spread_unchanged.new.table c.args.memo.now c.spread_unchanged.ensures.spreads.keeps c.requires.memo

pub returns-clause-spreads : goal.returns-clause-spreads
returns-clause-spreads g c =
    let searched = c.args.onward.here.site.lexicon.now in
    let line = c.args.onward.here.site.line.now in
    let place = c.args.onward.here.site.place.now in
    let whole : c.as_slice.result.now ≡ line.letters = c.as_slice.ensures.value ∙ ap (λ (l : Line). l.letters) c.line.view_is in
    let letter = c.in-Some.letter.now in
    let next : letter ≡ get_or line.letters (place.at + c.args.front.now.taken) letter =
    c.in-Some.ensures.lookup.1 ∙ ap (λ (letters : List ℕ). get_or letters (place.at + c.args.front.now.taken) letter) whole in
    on_ok_weaker c.spread_changed.result
    (λ changed. visit_with_letter searched line c.args.onward.here.site.choices.now place Table (put_visit searched line c.args.onward.here.site.choices.now place c.args.onward.after)
    c.requires.onward.here.site.searched c.args.front.now.phase c.args.front.now.taken c.args.front.now.node c.requires.front letter c.args.table.now c.spread_unchanged.new.table c.spread_changed.new.table
    next c.spread_unchanged.ensures.spreads changed)
    c.spread_changed.ensures.spreads
