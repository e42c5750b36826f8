-- What is told of a rule with its sets of phases after the lines that all versions have in common.
use Rattle.std.specs.Prelude.{◌||◌, ◌++◌, if◌then◌else◌, Ok, Err, [], ◌∷◌}
use Rattle.std.specs.List.{list_any}
use Rattle.list_laws.specs.EmptyLists.{is_empty}
use Rattle.lexicon_definitions.specs.Rules.{Rule}
use Rattle.lexicon_text_definitions.specs.FileFaults.{Strict, Limit, Twice}
use Rattle.lexicon_text_definitions.specs.FileLines as lines
use Rattle.lexicon_text_definitions.specs.FileContents.{Told, has_triple}
use Rattle.lexicon_text_definitions.specs.FileSteps.{Taken}
use Rattle.trie_text_definitions.specs.VersionSteps.{passes_limits}

-- the rule is the last one, unless it is not strict, passes a limit, or has the triple of another
abbrev pub take_limited : Told → Rule → Taken
take_limited told rule =
    if is_empty rule.u || is_empty rule.w then Err Strict
    else if passes_limits told.rules rule then Err Limit
    else if list_any (has_triple rule.u rule.v rule.w) told.rules then Err Twice
    else Ok (record told { last = lines.Rule; rules = told.rules ++ rule ∷ [] })
