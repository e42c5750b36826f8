-- A worker may be another thread, since all that it is given may be shared. There is a place for each line in what each has found.
use Rattle.std.proofs.Common.{rules, sym, ◌∙◌}
use denote.Param.Send.{sendable, IsSync}
use Rattle.std.proofs.Crossing.{crosses}
use Rattle.batch_reader.specs.Replies.{IsFound}
use Rattle.batch_reader.proofs.FoundReplies.{zip_length}
use Rattle.batch_reader.proofs.SharedRepliers.{asked_shared, replier_shared}
use Rattle.batch_reader.proofs.answering.+workers.Goals as goal

pub join-first-requires-send-F : goal.join-first-requires-send-F
join-first-requires-send-F g t c κs within =
    let runtime : IsSync g.row.R = search sendable in
    let gate : IsSync g.row.G = search sendable in
    search (sendable, crosses, asked_shared, replier_shared) depth 60 fits 20000

pub put_together-requires : goal.put_together-requires
put_together-requires g t c =
    let is_found = IsFound c.args.replier.now.lexicon.now.lexicon c.args.replier.now.count in
    zip_length is_found c.args.asked.now c.in_ok-others.others.items (search rules) ∙ sym (zip_length is_found c.args.asked.now c.in_ok-found.found.items (search rules))
