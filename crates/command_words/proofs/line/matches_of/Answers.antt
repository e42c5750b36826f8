-- What `clap` takes is what the definitions take, and a refusal for another cause than memory is one of theirs.
use Rattle.std.proofs.Common.{List, ◌∙◌, map, string_bytes, String, Global}
use Rattle.std.specs.List.{All, slice_index_or}
use Rattle.std.specs.Str.{IsUtf8}
use Rattle.std.proofs.lemmas.List.Elements.{All-map}
use Rattle.std.proofs.lemmas.Str.{IsUtf8-string_bytes}
use Rattle.clap.specs.Walk.{rows_of}
use Rattle.clap.specs.Matches.{found_of}
use Rattle.clap.specs.Simple.{app_of}
use Rattle.clap.specs.Faults.{fault_of}
use Rattle.command_words.proofs.ClapReads.{line_is, line_takes, line_refuses, line_simple, no_kind}
use Rattle.command_words.proofs.line.matches_of.Goals as goal

all_text : (words : List (String Global)) → All IsUtf8 (map string_bytes words)
all_text words = All-map IsUtf8 string_bytes words (λ k d low. IsUtf8-string_bytes (slice_index_or words k d))

pub returns-in-Ok : goal.returns-in-Ok
returns-in-Ok c =
    let app = app_of c.in_ok-command_line.field-0 in
    let same = c.in_ok-command_line.ensures in
    line_takes app same (map string_bytes c.args.words.now) (all_text c.args.words.now) (c.in-Ok.ensures.kinds (line_is app same))
    (rows_of (found_of c.in-Ok.matches)) (c.in-Ok.ensures.matches (line_simple app same)).0

pub returns : goal.returns
returns c =
    let app = app_of c.in_ok-command_line.field-0 in
    let same = c.in_ok-command_line.ensures in
    line_refuses app same (map string_bytes c.args.words.now) (all_text c.args.words.now)
    (no_kind (fault_of app (map string_bytes c.args.words.now)) c.in-Err.error (c.in-Err.ensures.kinds (line_is app same))
    (λ memory. c.in_default.not-OutOfMemory (c.kind.ensures ∙ memory)))
