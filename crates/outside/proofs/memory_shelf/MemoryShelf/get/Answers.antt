-- A look-up in the files finds what the map finds.
use Rattle.std.proofs.Common.{ℕ, ap, sym, ◌∙◌}
use Rattle.std.specs.Prelude.{Vec}
use Rattle.std.specs.declared.alloc.Global.{Global}
use Rattle.std.specs.Option.{option_map}
use Rattle.outside.proofs.EntriesLemmas.{contents_of-files_of}
use Rattle.outside.proofs.memory_shelf.MemoryShelf.get.Goals as goal

pub returns-in_err-bytes : goal.returns-in_err-bytes
returns-in_err-bytes c =
    let found = contents_of-files_of c.self.inside.files c.args.name.now in
    let none = ap (option_map (λ (v : Vec ℕ Global). v.items)) c.in_err-bytes.ensures.value in
    rw (← c.self.view_is, c.from_residual.ensures) (none ∙ sym found)

pub returns : goal.returns
returns c =
    let found = contents_of-files_of c.self.inside.files c.args.name.now in
    let some = ap (option_map (λ (v : Vec ℕ Global). v.items)) c.in_ok-bytes.ensures.value in
    rw (← c.self.view_is, c.as_slice.ensures.value) (some ∙ sym found)
