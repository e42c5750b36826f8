-- The insert into the map is the change of one file.
use Rattle.std.proofs.Common.{◌≡◌, ap, ◌∙◌}
use Rattle.outside.specs.Files.{Files, with_file}
use Rattle.outside.specs.Entries.{files_of}
use Rattle.outside.specs.States.{ShelfState}
use Rattle.outside.proofs.EntriesLemmas.{files_of-insert}
use Rattle.outside.proofs.memory_shelf.MemoryShelf.put.Goals as goal

pub returns-clause-ok : goal.returns-clause-ok
returns-clause-ok c =
    let inserted = files_of-insert c.self.inside.files c.insert.new.self c.in_ok-key.key c.in_ok-value.value c.in_ok-insert.ensures.updates in
    let changed : files_of c.insert.new.self.entries ≡ with_file (files_of c.self.inside.files.entries) c.args.name.now c.args.bytes.now =
    inserted
    ∙ ap (λ name. with_file (files_of c.self.inside.files.entries) name c.in_ok-value.value.items) c.in_ok-key.ensures.ok
    ∙ ap (λ bytes. with_file (files_of c.self.inside.files.entries) c.args.name.now bytes) c.in_ok-value.ensures.items in
    let state = λ (files : Files). let s : ShelfState = record {
      files = files;
      failing = c.self.inside.schedule.failing.items;
      calls = c.self.inside.schedule.calls;
      failed_reads = c.self.inside.failed_reads;
      failed_writes = c.self.inside.failed_writes;
    } in s in
    rw (← c.self.view_is) (ap state changed)
