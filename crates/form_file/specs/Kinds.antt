-- The program's kinds of lines, as the definitions name them.
use Rattle.lexicon_text_definitions.specs.FileLines as lines
use Rattle.form_file.specs.declared.kind.Kind.{Kind}
use Rattle.form_file.specs.declared.kind.Kind.TheVariants.{Opening, Head, Phase, Grammar, Plain, Rule, Form, End}

-- the kind that this one names
abbrev pub kind_of : Kind → lines.Kind
kind_of Opening = lines.Opening
kind_of Head = lines.Head
kind_of Phase = lines.Phase
kind_of Grammar = lines.Grammar
kind_of Plain = lines.Plain
kind_of Rule = lines.Rule
kind_of Form = lines.Form
kind_of End = lines.End
