use Rattle.paradigms.proofs.ClassesKept.{first_row}
use Rattle.paradigms.proofs.tables.one_row.Goals as goal

pub returns : goal.returns
returns c = first_row c.args.row c.new-rows.result.keys c.insert.new.self.keys c.new-rows.ensures.empty c.in_ok-insert.ensures.keys
