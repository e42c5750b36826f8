-- Its table has just the living places (`ChartGuides`).
use Rattle.summary_chart.proofs.ChartGuides.{chart_is_exact}
use Rattle.summary_chart.proofs.laws.charts_are_exact.Goals as goal

pub returns : goal.returns
returns c = record {
  exact = λ searched line choices chart is line_is of. chart_is_exact searched line choices chart.table is line_is of.table;
}
