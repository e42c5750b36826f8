-- A worker may be another thread, since all that it is given may be shared. There is a place for each part in what each has listed.
use Rattle.std.proofs.Common.{rules, sym, ◌∙◌}
use denote.Param.Send.{sendable, IsSync}
use Rattle.std.proofs.Crossing.{crosses}
use Rattle.search_split.proofs.FoundLists.{found_count}
use Rattle.search_split.proofs.SharedListers.{lister_shared, block_shared}
use Rattle.search_split.proofs.workers.+workers.Goals as goal

pub join-first-requires-send-F : goal.join-first-requires-send-F
join-first-requires-send-F g t c κs within =
    let runtime : IsSync g.row.R = search sendable in
    let gate : IsSync g.row.G = search sendable in
    search (sendable, crosses, lister_shared, block_shared) depth 60 fits 20000

pub put_together-requires : goal.put_together-requires
put_together-requires g t c =
    let lister = c.args.lister.now in
    let starts = c.args.block.now.starts.items in
    found_count lister.lexicon.now lister.line.now lister.choices.now lister.depth starts c.in_ok-others.others.items (search rules)
    ∙ sym (found_count lister.lexicon.now lister.line.now lister.choices.now lister.depth starts c.in_ok-found.found.items (search rules))
