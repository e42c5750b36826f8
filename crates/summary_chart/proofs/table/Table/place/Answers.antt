-- A row and a column of the index.
use Rattle.std.proofs.Common.{◌≡◌, ◌%◌, ◌<◌, length, arith}
use Rattle.std.proofs.lemmas.List.{get_or_read}
use Rattle.derivation.specs.declared.entrance.Entrance.TheVariants.{Start}
use Rattle.summary_chart.proofs.TableColumns.{indexed_at}
use Rattle.summary_chart.proofs.table.Table.place.Goals as goal

pub returns : goal.returns
returns c leads letters is =
    let entrances = c.args.self.now.entrances.items in
    let width : c.len-width.result ≡ length entrances = omega arith in
    let wide = c.requires.wide in
    let some : c.args.index % c.len-width.result < length entrances = omega (arith, width, wide) in
    indexed_at leads letters c.args.index c.len-width.result c.args.self.now c.index.result.now is c.requires.there width
    (get_or_read entrances (c.args.index % c.len-width.result) c.index.result.now some c.index.ensures Start)
