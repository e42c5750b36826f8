-- A new reader stands before all records, and its bytes are those after the byte order mark.
use Rattle.std.proofs.Common.{arith, inr, ◌∙◌, ap, subst, sym}
use Rattle.csv.specs.Reading.{strip_bom, builder_config, builder_trim, builder_names_headers}
use Rattle.paradigms.specs.RecordsLeft.{IsBetween}
use Rattle.paradigms.proofs.RecordLemmas.{stripped}
use Rattle.paradigms.proofs.records.records_in.Goals as goal

pub returns-clause-reading : goal.returns-clause-reading
returns-clause-reading c =
    let short = stripped c.args.bytes.now in
    let most = c.requires in
    let made = c.from_reader.ensures in
    record {
      config = made.config ∙ ap builder_config c.flexible.ensures ∙ ap builder_config c.has_headers.ensures ∙ c.new.ensures.config;
      trim = made.trim ∙ ap builder_trim c.flexible.ensures ∙ ap builder_trim c.has_headers.ensures ∙ c.new.ensures.trim;
      ready = inr (inr (made.has_headers ∙ ap builder_names_headers c.flexible.ensures ∙ ap builder_names_headers c.has_headers.ensures, made.headers));
      between = subst IsBetween (sym made.state) tt;
      bytes = strip_bom c.args.bytes.now;
      left = made.source;
      few = omega arith;
    }
