-- Cursors among the answers, as cursors among the paths (own).
use Rattle.lexicon_definitions.specs.Lexicons.{RuleSet}
use Rattle.segmentation_definitions.specs.Listings.{Key, keys_of, Cursor, BeforeFirst, AtAnswer, PastLast}
use Rattle.listing_laws.specs.Cursors.{Cursor as PathCursor, BeforeFirst as BeforeFirstPath, AtPath, PastLast as PastLastPath}

-- the cursor among the paths: at the keys of the answer
abbrev pub path_cursor : RuleSet → Cursor → PathCursor Key
path_cursor rules BeforeFirst = BeforeFirstPath
path_cursor rules (AtAnswer steps) = AtPath (keys_of rules steps)
path_cursor rules PastLast = PastLastPath
