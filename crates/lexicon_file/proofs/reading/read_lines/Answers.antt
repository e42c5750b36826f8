-- Line by line, what is read from the next line on is what is read in all; at the end what was told is a lexicon with a shared trie.
use Rattle.std.proofs.Common.{sym, subst, arith}
use Rattle.lexicon_definitions.specs.Tries.{Trie, IsTrieOf}
use Rattle.lexicon_text_definitions.specs.FileLines.{lines_of_bytes}
use Rattle.trie_text_definitions.specs.TrieForms.{phases_of}
use Rattle.trie_text_definitions.specs.VersionReadings.{read_lines as read_lines_of}
use Rattle.trie_text_definitions.specs.VersionSteps.{Told, head_told}
use Rattle.lexicon_file.specs.Kinds.{version_of}
use Rattle.lexicon_file.proofs.LineSteps.{after_line}
use Rattle.lexicon_file.proofs.ReadLemmas.{Reads, reads_on, tells_on, line_fault, told_at_end, rule_set_told, limits_told, shared_trie_told}
use Rattle.lexicon_file.proofs.reading.read_lines.Goals as goal

pub loop-line-preserved : goal.loop-line-preserved
loop-line-preserved c =
    let version = version_of c.args.version in
    let whole = read_lines_of version head_told 2 (lines_of_bytes c.args.lines.now) in
    let shorter = c.in-Some.ensures.shorter in
    let old = c.loop-line.invariant.number in
    let within = c.loop-line.invariant.within in
    let rows = c.loop-line.invariant.rows in
    let taken = rw c.deref_mut.ensures.value at c.in_default-take_line.ensures in
    let step = after_line version c.loop-line.told.value c.take_line.new.self _ taken.0 c.loop-line.invariant.step in
    let more = step.1 in
    record {
      reads = reads_on version whole c.loop-line.told.value c.loop-line.number c.loop-line.rest.now c.in-Some.following.now _ c.in-Some.ensures.line c.take_line.new.self c.loop-line.invariant.reads taken.0 taken.1;
      tells = tells_on version whole c.loop-line.told.value c.loop-line.number c.loop-line.rest.now c.in-Some.following.now _ c.in-Some.ensures.line c.take_line.new.self c.loop-line.invariant.tells taken.0 taken.1;
      within = omega (arith, shorter, within);
      number = omega (arith, shorter, old);
      rows = omega (arith, rows, more);
      step = step.0;
    }

pub finish-requires-clause-set : goal.finish-requires-clause-set
finish-requires-clause-set c = λ last.
    let version = version_of c.args.version in
    rule_set_told version c.args.lines.now c.loop-line.told.value
    (told_at_end version _ c.loop-line.told.value c.loop-line.number c.loop-line.rest.now c.in_default.ensures.line c.loop-line.invariant.tells last)

pub finish-requires-clause-limits : goal.finish-requires-clause-limits
finish-requires-clause-limits c = λ last.
    let version = version_of c.args.version in
    limits_told version c.args.lines.now c.loop-line.told.value
    (told_at_end version _ c.loop-line.told.value c.loop-line.number c.loop-line.rest.now c.in_default.ensures.line c.loop-line.invariant.tells last)

pub returns-in-Ok-clause-trie : goal.returns-in-Ok-clause-trie
returns-in-Ok-clause-trie c =
    let version = version_of c.args.version in
    let ok = c.in-Ok.ensures.ok in
    subst (λ (trie : Trie). IsTrieOf trie (phases_of trie)) (sym ok.2)
    (shared_trie_told version c.args.lines.now c.loop-line.told.value
    (told_at_end version _ c.loop-line.told.value c.loop-line.number c.loop-line.rest.now c.in_default.ensures.line c.loop-line.invariant.tells ok.0))

pub returns-in-Err-clause-fault : goal.returns-in-Err-clause-fault
returns-in-Err-clause-fault c =
    let version = version_of c.args.version in
    let whole = read_lines_of version head_told 2 (lines_of_bytes c.args.lines.now) in
    line_fault (Unit {0}) version whole c.deref_mut.result.now c.take_line.new.self c.loop-line.number c.loop-line.rest.now c.in-Some.following.now _ c.in-Err.error c.error_at.result
    c.in-Some.ensures.line (subst (λ (told : Told). Reads version whole told c.loop-line.number c.loop-line.rest.now) (sym c.deref_mut.ensures.value) c.loop-line.invariant.reads)
    c.in-Err.ensures c.error_at.ensures
