-- Each part is that of the next front.
use Rattle.std.proofs.Common.{rules, ◌≡◌, ◌+◌, true, false, [], ◌∷◌, ◌++◌, length, map, sym, ap, ◌∙◌, subst, arith}
use Rattle.std.specs.List.{All}
use Rattle.std.specs.Option.{option_map}
use Rattle.std.proofs.lemmas.List.{length-append, length-map}
use Rattle.std.proofs.lemmas.List.Elements.{All-nil, All-cons, All-append}
use Rattle.search_split.specs.NextFronts.{IsUnderWay}
use Rattle.search_split.specs.Parts.{IsPart, front_in, cursor_of_part}
use Rattle.search_split.proofs.PartsFound.{front_at_start, fronts_begin_there, is_part, parts_on, fronts_found}
use Rattle.search_split.proofs.splitting.split.Goals as goal

pub loop-init : goal.loop-init
loop-init c =
    let searched = c.args.lexicon.now in
    let line = c.args.line.now in
    let choices = c.args.choices.now in
    let depth = c.args.depth in
    let earlier = option_map (λ part. front_in part.now) c.args.after in
    let items = c.new-list.ensures.items in
    record {
      under = subst (λ list. IsUnderWay searched line choices depth earlier (map front_in list) c.go_to_next_front-found.new.search
          c.go_to_next_front-found.result) (sym items)
          (fronts_begin_there searched line choices depth earlier (cursor_of_part searched line (option_map (λ part. part.now) c.args.after))
          c.in_ok-search.search c.go_to_next_front-found.new.search c.go_to_next_front-found.result c.in_ok-search.ensures.ok
          (front_at_start searched line choices depth c.args.after c.requires.after) c.go_to_next_front-found.ensures.moved c.go_to_next_front-found.ensures.ended);
      each = subst (All (IsPart searched line choices depth)) (sym items) (All-nil (IsPart searched line choices depth));
      count = ap length items;
    }

pub returns-then-not-found : goal.returns-then-not-found
returns-then-not-found c =
    let none : c.loop.found ≡ false = search rules in
    let earlier = option_map (λ part. front_in part.now) c.args.after in
    let under = subst (IsUnderWay c.args.lexicon.now c.args.line.now c.args.choices.now c.args.depth earlier (map front_in c.loop.list.items) c.loop.search) none
    c.loop.invariant.under in
    let count = c.loop.invariant.count in
    let test = c.loop-test.true in
    let fronts = length-map c.loop.list.items front_in in
    record {
      ok = record {
        fronts = fronts_found c.args.lexicon.now c.args.line.now c.args.choices.now c.args.depth earlier (map front_in c.loop.list.items) c.args.most
            c.loop.search false under (omega (arith, count, test, fronts)) (λ never. absurd (cc (never)));
        each = c.loop.invariant.each;
      };
    }

pub loop-preserved : goal.loop-preserved
loop-preserved c =
    let searched = c.args.lexicon.now in
    let line = c.args.line.now in
    let choices = c.args.choices.now in
    let depth = c.args.depth in
    let earlier = option_map (λ part. front_in part.now) c.args.after in
    let list = c.loop.list.items in
    let part = c.in_ok-part.part in
    let found : c.loop.found ≡ true = search rules in
    let stands = subst (IsUnderWay searched line choices depth earlier (map front_in list) c.loop.search) found c.loop.invariant.under in
    let items : c.push.new.self.items ≡ list ++ part ∷ [] = search rules in
    let is = is_part searched line choices depth earlier list c.loop.search stands part c.in_ok-part.ensures.from c.in_ok-part.ensures.front in
    record {
      under = subst (λ parts. IsUnderWay searched line choices depth earlier (map front_in parts) c.go_to_next_front-found-in-loop.new.search
          c.go_to_next_front-found-in-loop.result) (sym items)
          (parts_on searched line choices depth earlier list c.loop.search stands part c.in_ok-part.ensures.from c.in_ok-part.ensures.front
          c.go_to_next_front-found-in-loop.new.search c.go_to_next_front-found-in-loop.result
          c.go_to_next_front-found-in-loop.ensures.moved c.go_to_next_front-found-in-loop.ensures.ended);
      each = subst (All (IsPart searched line choices depth)) (sym items)
          (All-append (IsPart searched line choices depth) list (part ∷ []) c.loop.invariant.each
          (All-cons (IsPart searched line choices depth) part [] is (All-nil (IsPart searched line choices depth))));
      count = ap length items ∙ length-append list (part ∷ []) ∙ ap (λ n. n + 1) c.loop.invariant.count;
    }

pub returns : goal.returns
returns c =
    let count = c.loop.invariant.count in
    let test = c.loop-test.false in
    let end = c.loop.auto.counter-end in
    let fronts = length-map c.loop.list.items front_in in
    record {
      ok = record {
        fronts = fronts_found c.args.lexicon.now c.args.line.now c.args.choices.now c.args.depth (option_map (λ part. front_in part.now) c.args.after)
            (map front_in c.loop.list.items) c.args.most c.loop.search c.loop.found c.loop.invariant.under (omega (arith, count, test, end, fronts))
            (λ told. omega (arith, count, test, end, fronts));
        each = c.loop.invariant.each;
      };
    }
