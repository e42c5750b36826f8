-- Call by call, what the bytes tell.
use Rattle.std.proofs.lemmas.Result.{err_from_is_err_and}
use Rattle.annotation.proofs.NotesRead.{no_value, not_told, not_one, other_value, its_value}
use Rattle.annotation.proofs.reading.read_note.Goals as goal

pub returns-in_err-value : goal.returns-in_err-value
returns-in_err-value c =
    let p = err_from_is_err_and c.from_residual.result c.from_residual.ensures.1 in
    record { read = rw (p.1, p.2) (no_value c.args.lexicon.now.lexicon c.args.bytes.now c.in_err-value.field-0.0 c.in_err-value.ensures.value) }

pub returns-in_err-told : goal.returns-in_err-told
returns-in_err-told c =
    let p = err_from_is_err_and c.from_residual-in_err-told.result c.from_residual-in_err-told.ensures.1 in
    record { read = rw (p.1, p.2) (not_told c.args.lexicon.now.lexicon c.args.bytes.now _ c.in_ok-value.ensures.value c.in_err-told.field-0.0 c.in_err-told.ensures) }

pub returns-in_err-steps : goal.returns-in_err-steps
returns-in_err-steps c =
    let p = err_from_is_err_and c.from_residual-in_err-steps.result c.from_residual-in_err-steps.ensures.1 in
    record {
      read = rw (p.1, p.2)
          (not_one c.args.lexicon.now.lexicon c.args.bytes.now _ c.in_ok-value.ensures.value c.in_ok-told.told c.in_ok-told.ensures c.in_err-steps.field-0.0
          c.in_err-steps.ensures);
    }

pub returns-then-not-branch : goal.returns-then-not-branch
returns-then-not-branch c =
    let same = rw c.as_slice.ensures.value at c.in_ok-is_value_of.ensures.ok in
    record {
      read = other_value c.args.lexicon.now.lexicon c.args.bytes.now _ c.in_ok-value.ensures.value c.in_ok-told.told c.in_ok-told.ensures c.in_ok-steps.steps.items
          c.in_ok-steps.ensures (λ equal. let yes = same.1 equal in let no = c.if-not-branch.true in absurd (cc));
    }

pub returns : goal.returns
returns c =
    let same = rw c.as_slice.ensures.value at c.in_ok-is_value_of.ensures.ok in
    record {
      read = record {
        stand = c.in_ok-steps.ensures.stand;
        read = its_value c.args.lexicon.now.lexicon c.args.bytes.now _ c.in_ok-value.ensures.value c.in_ok-told.told c.in_ok-told.ensures c.in_ok-steps.steps.items
            c.in_ok-steps.ensures (same.0 c.if-not-branch.false);
      };
    }
