-- What was drawn is the input of the number.
use Rattle.demo_counts.proofs.InputsMade.{stems_are_those, some_are_drawn, text_is_that}
use Rattle.demo_counts.proofs.counts.count_demo.Goals as goal
use Rattle.std.proofs.lemmas.Result.{IfOk-weaker}

pub draw_text-requires : goal.draw_text-requires
draw_text-requires g c =
    some_are_drawn c.args.number _ (stems_are_those c.args.number _ _ _ c.new-draws.ensures c.in_ok-stems.ensures.stems c.as_slice.ensures.keys)

pub count_input-requires-after_bounds : goal.count_input-requires-after_bounds
count_input-requires-after_bounds g c κs within =
    let stems = stems_are_those c.args.number _ _ _ c.new-draws.ensures c.in_ok-stems.ensures.stems c.as_slice.ensures.keys in (
      c.args.number,
      record {
        stems_are = stems_are_those c.args.number _ _ _ c.new-draws.ensures c.in_ok-stems.ensures.stems c.as_slice-2.ensures.keys;
        text_is = text_is_that c.args.number _ _ _ _ _ c.new-draws.ensures stems c.in_ok-stems.ensures.seed c.in_ok-text.ensures.ok c.as_slice-3.ensures.value;
      },
    )

pub returns : goal.returns
returns g c =
    let stems = stems_are_those c.args.number _ _ _ c.new-draws.ensures c.in_ok-stems.ensures.stems c.as_slice.ensures.keys in
    record {
      ok = IfOk-weaker c.count_input.result _ _ (λ counts are. are c.args.number (record {
        stems_are = stems_are_those c.args.number _ _ _ c.new-draws.ensures c.in_ok-stems.ensures.stems c.as_slice-2.ensures.keys;
        text_is = text_is_that c.args.number _ _ _ _ _ c.new-draws.ensures stems c.in_ok-stems.ensures.seed c.in_ok-text.ensures.ok c.as_slice-3.ensures.value;
      })) c.count_input.ensures.ok;
    }
