-- Field by field: where one of them is read as nothing, so is the text; and then by the bounds.
use Rattle.std.proofs.Common.{◌∙◌, false, true}
use Rattle.std.proofs.lemmas.Result.{err_from_is_err_and}
use Rattle.bookmarks.proofs.HandedOn.{if_form}
use Rattle.bookmarks.proofs.ReadBookmarks.{not_five, by_version, version_tested, no_line, no_choices, no_number, no_keys, all_read, out_of_bounds}
use Rattle.bookmarks.proofs.reading.read_bookmark.Goals as goal

pub returns-in_default-clause-form : goal.returns-in_default-clause-form
returns-in_default-clause-form c = λ e. not_five c.args.text.now c.in_default.ensures

pub returns-then-ne-clause-form : goal.returns-then-ne-clause-form
returns-then-ne-clause-form c = λ e.
    by_version c.args.text.now c.in-Some.version.now c.in-Some.line.now c.in-Some.choices.now c.in-Some.printed.now c.in-Some.keys.now false c.in-Some.ensures
    (version_tested c.in-Some.version.now c.as_slice.result.now c.ne.result false c.ne.ensures c.as_slice.ensures c.if-ne.true)

pub returns-in_err-line-clause-form : goal.returns-in_err-line-clause-form
returns-in_err-line-clause-form c =
    let p = err_from_is_err_and c.from_residual.result c.from_residual.ensures.1 in
    let same =
    by_version c.args.text.now c.in-Some.version.now c.in-Some.line.now c.in-Some.choices.now c.in-Some.printed.now c.in-Some.keys.now true c.in-Some.ensures
    (version_tested c.in-Some.version.now c.as_slice.result.now c.ne.result true c.ne.ensures c.as_slice.ensures c.if-ne.false) in
    if_form _ _ c.in_err-line.field-0.0 p.0 _ _ c.from_residual.result p.1 p.2 c.in_err-line.ensures
    (λ h. same ∙ no_line c.in-Some.line.now c.in-Some.choices.now c.in-Some.printed.now c.in-Some.keys.now h)

pub returns-in_err-choices-clause-form : goal.returns-in_err-choices-clause-form
returns-in_err-choices-clause-form c =
    let p = err_from_is_err_and c.from_residual-in_err-choices.result c.from_residual-in_err-choices.ensures.1 in
    let same =
    by_version c.args.text.now c.in-Some.version.now c.in-Some.line.now c.in-Some.choices.now c.in-Some.printed.now c.in-Some.keys.now true c.in-Some.ensures
    (version_tested c.in-Some.version.now c.as_slice.result.now c.ne.result true c.ne.ensures c.as_slice.ensures c.if-ne.false) in
    if_form _ _ c.in_err-choices.field-0.0 p.0 _ _ c.from_residual-in_err-choices.result p.1 p.2 c.in_err-choices.ensures
    (λ h. same ∙ no_choices c.in-Some.line.now c.in-Some.choices.now c.in-Some.printed.now c.in-Some.keys.now _ c.in_ok-line.ensures h)

pub returns-in_err-printed-clause-form : goal.returns-in_err-printed-clause-form
returns-in_err-printed-clause-form c =
    let p = err_from_is_err_and c.from_residual-in_err-printed.result c.from_residual-in_err-printed.ensures.1 in
    let same =
    by_version c.args.text.now c.in-Some.version.now c.in-Some.line.now c.in-Some.choices.now c.in-Some.printed.now c.in-Some.keys.now true c.in-Some.ensures
    (version_tested c.in-Some.version.now c.as_slice.result.now c.ne.result true c.ne.ensures c.as_slice.ensures c.if-ne.false) in
    if_form _ _ c.in_err-printed.field-0.0 p.0 _ _ c.from_residual-in_err-printed.result p.1 p.2 c.in_err-printed.ensures
    (λ h. same ∙ no_number c.in-Some.line.now c.in-Some.choices.now c.in-Some.printed.now c.in-Some.keys.now _ _ c.in_ok-line.ensures c.in_ok-choices.ensures h)

pub returns-in_err-keys-clause-form : goal.returns-in_err-keys-clause-form
returns-in_err-keys-clause-form c =
    let p = err_from_is_err_and c.from_residual-in_err-keys.result c.from_residual-in_err-keys.ensures.1 in
    let same =
    by_version c.args.text.now c.in-Some.version.now c.in-Some.line.now c.in-Some.choices.now c.in-Some.printed.now c.in-Some.keys.now true c.in-Some.ensures
    (version_tested c.in-Some.version.now c.as_slice.result.now c.ne.result true c.ne.ensures c.as_slice.ensures c.if-ne.false) in
    if_form _ _ c.in_err-keys.field-0.0 p.0 _ _ c.from_residual-in_err-keys.result p.1 p.2 c.in_err-keys.ensures
    (λ h. same ∙ no_keys c.in-Some.line.now c.in-Some.choices.now c.in-Some.printed.now c.in-Some.keys.now _ _ _ c.in_ok-line.ensures c.in_ok-choices.ensures c.in_ok-printed.ensures h)

pub returns-then-is_within_bounds-clause-ok : goal.returns-then-is_within_bounds-clause-ok
returns-then-is_within_bounds-clause-ok c =
    let same =
    by_version c.args.text.now c.in-Some.version.now c.in-Some.line.now c.in-Some.choices.now c.in-Some.printed.now c.in-Some.keys.now true c.in-Some.ensures
    (version_tested c.in-Some.version.now c.as_slice.result.now c.ne.result true c.ne.ensures c.as_slice.ensures c.if-ne.false) in
    same
    ∙ all_read c.in-Some.line.now c.in-Some.choices.now c.in-Some.printed.now c.in-Some.keys.now _ _ _ _ c.is_within_bounds.result c.in_ok-line.ensures c.in_ok-choices.ensures c.in_ok-printed.ensures c.in_ok-keys.ensures
    c.is_within_bounds.ensures c.if-is_within_bounds.true

pub returns-else-is_within_bounds-clause-form : goal.returns-else-is_within_bounds-clause-form
returns-else-is_within_bounds-clause-form c =
    let same =
    by_version c.args.text.now c.in-Some.version.now c.in-Some.line.now c.in-Some.choices.now c.in-Some.printed.now c.in-Some.keys.now true c.in-Some.ensures
    (version_tested c.in-Some.version.now c.as_slice.result.now c.ne.result true c.ne.ensures c.as_slice.ensures c.if-ne.false) in
    λ e. same
    ∙ out_of_bounds c.in-Some.line.now c.in-Some.choices.now c.in-Some.printed.now c.in-Some.keys.now _ _ _ _ c.is_within_bounds.result c.in_ok-line.ensures c.in_ok-choices.ensures c.in_ok-printed.ensures c.in_ok-keys.ensures
    c.is_within_bounds.ensures c.if-is_within_bounds.false
