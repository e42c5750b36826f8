-- The empty table with the opening's state, which is numbered 0, added at the start.
use Rattle.std.proofs.Common.{◌≡◌, inl, inr, Some, length, sym, ap, subst, ◌∙◌}
use Rattle.lexicon_definitions.specs.Leads.{leads_of}
use Rattle.summary_chart.specs.Tables.{IsTable}
use Rattle.summary_chart.specs.Charts.{IsOpenTable}
use Rattle.summary_chart.proofs.OpenTables.{open_if_begun}
use Rattle.summary_chart.proofs.chart.open_table.Goals as goal
use Rattle.summary_chart.proofs.chart.open_table.Goals.{in-Some, in_default}

pub returns : goal.returns
returns c =
    let searched = c.args.lexicon.now in
    let line = c.args.line.now in
    let rules = c.rules.ensures.value in
    let made = c.in_ok-table.ensures in
    let start = c.number.ensures ∙ c.start.ensures.state in
    elim c.match-number.branch [
      | in-Some w ↦
          let zero_is : w.in-Some.start ≡ 0 = (let e : Some w.in-Some.start ≡ Some 0 = sym w.in-Some.is ∙ start in cc) in
          let added = w.add.ensures.added in
          let begun = open_if_begun searched line c.in_ok-table.table w.add.new.self (record {
            lawful = subst (λ r. IsTable (leads_of r) (length line.letters) c.in_ok-table.table) (ap (λ r. r.rules) rules) made.is_table;
            empty = made.empty;
            changes = w.add.ensures.changes;
            added = λ number. (
              (λ has. elim ((added number).0 has) [
                | inl was ↦ absurd (made.empty _ number was)
                | inr with ↦ elim ((w.with.ensures number).0 with) [
                  | inl none ↦ absurd (w.empty.ensures.none number none)
                  | inr same ↦ same ∙ zero_is
                ]
              ]),
              (λ same. (added number).1 (inr ((w.with.ensures number).1 (inr (same ∙ sym zero_is))))),
            );
          }) in
          subst (IsOpenTable searched line) (sym w.table-is) begun
      | in_default w ↦ absurd (w.in_default.not-Some _ start)
    ]
