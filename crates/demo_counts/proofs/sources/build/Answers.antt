-- What was read are sources, and their lexicon has few lines.
use Rattle.demo_counts.proofs.InputsRead.{are_sources, within_limits, contents_made}
use Rattle.demo_counts.proofs.ErrorsRead.{said_of_limit}
use Rattle.demo_counts.proofs.sources.build.Goals as goal

pub build_lexicon-requires-after_bounds : goal.build_lexicon-requires-after_bounds
build_lexicon-requires-after_bounds g c κs within =
    are_sources _ _ _ c.args.stem_bytes.now c.in_ok-rules.ensures.ok c.in_ok-tables.ensures.ok c.in_ok-stems.ensures.ok

pub returns-in-Ok : goal.returns-in-Ok
returns-in-Ok g c = record {
  ok = contents_made _ _ _ c.args.stem_bytes.now c.in_ok-rules.ensures.ok c.in_ok-tables.ensures.ok c.in_ok-stems.ensures.ok c.in-Ok.built.contents _
      c.in_ok-rules.ensures.automaton c.in_ok-rules.ensures.phases c.in-Ok.ensures.automaton c.in-Ok.ensures.ok c.in-Ok.ensures.trie c.in-Ok.ensures.text;
  lines = c.in-Ok.ensures.lines;
}

pub unreachable-requires : goal.unreachable-requires
unreachable-requires g c =
    within_limits _ _ _ c.args.stem_bytes.now c.in_ok-rules.ensures.ok c.in_ok-tables.ensures.ok c.in_ok-stems.ensures.ok c.requires
    (said_of_limit _ c.in-Err-Limit.field-0 c.in-Err-Limit.field-0-is c.in-Err-Limit.ensures.limit)
