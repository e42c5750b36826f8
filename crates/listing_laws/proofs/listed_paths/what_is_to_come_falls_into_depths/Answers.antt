-- By induction on the branches taken.
use Rattle.std.proofs.lemmas.Cmp.{tied_itself}
use Rattle.listing_laws.proofs.Depths.{to_come_at_some, to_come_from_depth, one_depth, deeper_first}
use Rattle.listing_laws.proofs.listed_paths.what_is_to_come_falls_into_depths.Goals as goal

pub returns : goal.returns
returns g c = record {
  somewhere = λ taken path. (to_come_at_some _ taken _ path, λ (depth, come). to_come_from_depth _ taken _ depth path come);
  once = λ orderly taken depth other path p q. one_depth _ (tied_itself orderly.total) taken _ depth other path p q;
  deeper_first = λ orderly taken deep shallow left right below p q.
      deeper_first _ (tied_itself orderly.total) taken _ deep shallow left right below p q;
}
