-- The source files of the input that `demo` makes (own).
use Rattle.std.specs.Prelude.{ℕ, List, ◌++◌, codes}
use Rattle.std.specs.List.{flat_map}
use Rattle.demo_definitions.specs.DrawnStems.{stems_of_number}

-- the rule file
unfoldable pub demo_rules : List ℕ
demo_rules =
    codes "phases = [\"noun\", \"ind\"]\n"
    ++ codes "grammar = \"(ind | noun)+\"\n"
    ++ codes "plain = [\"H <p>\", \"a <k>\", \"e <k>\"]\n"
    ++ codes "rules = [\"aH|<b>>o<b>\"]\n"
    ++ codes "\n"
    ++ codes "[classes]\n"
    ++ codes "k = \"kgcjtdpbmy\"\n"
    ++ codes "p = \"kctp\"\n"
    ++ codes "b = \"gjdbmy\"\n"

-- the table file
unfoldable pub demo_tables : List ℕ
demo_tables =
    codes "a,m.sg.nom,noun,,1,aH\n"
    ++ codes "a,m.sg.ins,noun,,1,ena\n"
    ++ codes "a,m.sg.dat,noun,,1,Aya\n"
    ++ codes "a,m.sg.loc,noun,,1,e\n"
    ++ codes "a,ind,ind,,1,e\n"

-- a stem's record: the stem, a comma, the class a, and a line end
abbrev pub stem_record : List ℕ → List ℕ
stem_record stem = stem ++ codes ",a\n"

-- the stem file of a number
unfoldable pub demo_stems : ℕ → List ℕ
demo_stems number = flat_map stem_record (stems_of_number number)
