-- The entries in order are those that were inflected, so phases with just these are the lexicon of the sources, which the trie tells.
use Rattle.std.proofs.Common.{◌∙◌, length, string_bytes}
use Rattle.std.proofs.lemmas.Result.{err_from_is_err_and}
use Rattle.lexicon_builder.proofs.BuiltLexicons.{as_many, sorted_sound, too_many_lines, built_store, store_text, store_lines, store_itself}
use Rattle.lexicon_builder.proofs.Limits.{limit_follows}
use Rattle.lexicon_builder.proofs.building.build_lexicon.Goals as goal

pub collected-requires-clause-each : goal.collected-requires-clause-each
collected-requires-clause-each g c =
    sorted_sound c.args.rules c.args.tables.now c.args.stems.now c.requires (length c.phases.result.now) (as_many string_bytes c.phases.result.now c.args.rules.names c.phases.ensures)
    c.in_ok-entries.entries.items c.sort_entries.new.entries.items c.in_ok-entries.ensures.ok c.sort_entries.ensures.permutation

pub returns-in_err-builder-clause-limit : goal.returns-in_err-builder-clause-limit
returns-in_err-builder-clause-limit g c =
    let p = err_from_is_err_and c.from_residual-in_err-builder.result c.from_residual-in_err-builder.ensures.1 in
    rw (p.1, p.2)
    (limit_follows _ _ _
    (too_many_lines c.args.rules c.args.tables.now c.args.stems.now c.requires (length c.phases.result.now) (as_many string_bytes c.phases.result.now c.args.rules.names c.phases.ensures)
    c.in_ok-entries.entries.items c.sort_entries.new.entries.items c.in_ok-entries.ensures.ok c.sort_entries.ensures.permutation)
    c.in_err-builder.ensures.limit)

pub returns-clause-ok : goal.returns-clause-ok
returns-clause-ok g c =
    built_store c.args.rules c.args.tables.now c.args.stems.now c.requires (length c.phases.result.now) (as_many string_bytes c.phases.result.now c.args.rules.names c.phases.ensures)
    c.in_ok-entries.entries.items c.sort_entries.new.entries.items c.in_ok-entries.ensures.ok c.sort_entries.ensures.permutation
    c.in_ok-builder.builder c.in_ok-builder.ensures.ok c.in_ok-builder.ensures.lines c.in_ok-store.store c.in_ok-store.ensures.ok

pub returns-clause-trie : goal.returns-clause-trie
returns-clause-trie g c =
    store_itself c.args.rules c.args.tables.now c.args.stems.now c.requires (length c.phases.result.now) (as_many string_bytes c.phases.result.now c.args.rules.names c.phases.ensures)
    c.in_ok-entries.entries.items c.sort_entries.new.entries.items c.in_ok-entries.ensures.ok c.sort_entries.ensures.permutation
    c.in_ok-builder.builder c.in_ok-builder.ensures.ok c.in_ok-builder.ensures.lines c.in_ok-store.store c.in_ok-store.ensures.ok

pub returns-clause-text : goal.returns-clause-text
returns-clause-text g c =
    store_text c.args.rules c.args.tables.now c.args.stems.now c.requires (length c.phases.result.now) (as_many string_bytes c.phases.result.now c.args.rules.names c.phases.ensures)
    c.in_ok-entries.entries.items c.sort_entries.new.entries.items c.in_ok-entries.ensures.ok c.sort_entries.ensures.permutation
    c.in_ok-builder.builder c.in_ok-builder.ensures.ok c.in_ok-builder.ensures.lines c.in_ok-store.store c.in_ok-store.ensures.ok

pub returns-clause-lines : goal.returns-clause-lines
returns-clause-lines g c =
    c.lines-lines.ensures.value
    ∙ store_lines c.args.rules c.args.tables.now c.args.stems.now c.requires (length c.phases.result.now) (as_many string_bytes c.phases.result.now c.args.rules.names c.phases.ensures)
    c.in_ok-entries.entries.items c.sort_entries.new.entries.items c.in_ok-entries.ensures.ok c.sort_entries.ensures.permutation
    c.in_ok-builder.builder c.in_ok-builder.ensures.ok c.in_ok-builder.ensures.lines c.in_ok-store.store c.in_ok-store.ensures.ok
