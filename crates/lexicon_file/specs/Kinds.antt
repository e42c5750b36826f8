-- The program's kinds of lines and its versions, as the definitions name them.
use Rattle.trie_text_definitions.specs.Versions as versions
use Rattle.trie_text_definitions.specs.VersionSteps as lines
use Rattle.lexicon_file.specs.declared.kind.Kind.{Kind}
use Rattle.lexicon_file.specs.declared.kind.Kind.TheVariants.{Head, Phase, Grammar, Plain, Rule, Node, Root, End}
use Rattle.lexicon_file.specs.declared.version.Version.{Version}
use Rattle.lexicon_file.specs.declared.version.Version.TheVariants.{Second, Third}

-- the kind that this one names
abbrev pub kind_of : Kind → lines.Kind
kind_of Head = lines.Head
kind_of Phase = lines.Phase
kind_of Grammar = lines.Grammar
kind_of Plain = lines.Plain
kind_of Rule = lines.Rules
kind_of Node = lines.Node
kind_of Root = lines.Root
kind_of End = lines.End

-- the version that this one names
abbrev pub version_of : Version → versions.Version
version_of Second = versions.Second
version_of Third = versions.Third
