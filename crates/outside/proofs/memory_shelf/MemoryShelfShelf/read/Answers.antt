-- What the map has under the name is what the files have there; the rest is told by the shelf's own fields.
use Rattle.std.proofs.Common.{◌≡◌, Some, take, ap, sym, ◌∙◌, arith}
use Rattle.std.proofs.lemmas.Grind.{common_steps}
use Rattle.std.proofs.lemmas.List.{take_min}
use Rattle.std.specs.Option.{option_copied, option_map}
use Rattle.outside.specs.Files.{contents_of}
use Rattle.outside.proofs.memory_shelf.MemoryShelfShelf.read.Goals as goal

pub returns-clause-value : goal.returns-clause-value
returns-clause-value c =
    let bytes = c.in-Some.bytes.now in
    let found : contents_of c.args.self.now.files c.args.name.now ≡ Some bytes =
    rw (← c.self.view_is) (sym c.get.ensures ∙ ap option_copied c.in-Some.is) in
    ap (option_map (λ all. take c.args.most all)) found
    ∙ ap Some (sym (take_min c.args.most bytes) ∙ ap (λ count. take count bytes) (sym c.min-count.ensures) ∙ sym c.in_ok-from_slice.ensures.items)

pub returns-clause-failing : goal.returns-clause-failing
returns-clause-failing c = grind (arith, common_steps)

pub returns-clause-other : goal.returns-clause-other
returns-clause-other c = grind (arith, common_steps)

pub returns-in_default-clause-missing : goal.returns-in_default-clause-missing
returns-in_default-clause-missing c = rw (← c.self.view_is) (sym c.get.ensures ∙ ap option_copied c.in_default.is)

pub returns-in_default-clause-failing : goal.returns-in_default-clause-failing
returns-in_default-clause-failing c = grind (arith, common_steps)

pub returns-in_default-clause-other : goal.returns-in_default-clause-other
returns-in_default-clause-other c = grind (arith, common_steps)
