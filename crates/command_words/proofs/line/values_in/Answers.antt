-- The rows of what was found say the same as its entries.
use Rattle.std.proofs.Common.{List, ℕ, [], ap, ◌∙◌, map, Bor}
use Rattle.std.specs.Prelude.{codes, Option, unwrap_or}
use Rattle.clap.specs.Matches.{found_of}
use Rattle.clap.proofs.WalkLemmas.{raw_values-rows}
use Rattle.command_words.proofs.line.values_in.Goals as goal

pub returns-in_ok-from_slice-in-Some : goal.returns-in_ok-from_slice-in-Some
returns-in_ok-from_slice-in-Some c =
    let found = c.get_raw.ensures ∙ raw_values-rows (found_of c.args.matches.now) (codes "in") in
    ap (map (λ (value : Bor (List ℕ)). value.now)) c.in_ok-from_slice-in-Some.ensures.items
    ∙ ap (λ (o : Option (List (List ℕ))). unwrap_or o []) (rw c.in-Some.is at found)

pub returns-in-None : goal.returns-in-None
returns-in-None c =
    let found = c.get_raw.ensures ∙ raw_values-rows (found_of c.args.matches.now) (codes "in") in
    ap (map (λ (value : Bor (List ℕ)). value.now)) c.new.ensures.items
    ∙ ap (λ (o : Option (List (List ℕ))). unwrap_or o []) (rw c.in-None.is at found)
