-- What an operation takes, in one line.
use Rattle.std.specs.Prelude.{ℕ, List, [], ◌∷◌, ◌++◌, codes}
use Rattle.std.specs.List.{flat_map}
use Rattle.afs_words.specs.Tables.{operation_name, switch_name, parameters_of, common_parameters}
use Rattle.afs_words.specs.declared.tables.Tool.{Tool}
use Rattle.afs_words.specs.declared.tables.Operation.{Operation}
use Rattle.afs_words.specs.declared.tables.Parameter.{Parameter}
use Rattle.afs_words.specs.declared.tables.Need.{Need}
use Rattle.afs_words.specs.declared.tables.Need.TheVariants.{Required, Optional, OneOf}
use Rattle.afs_words.specs.declared.tables.Takes.{Takes}
use Rattle.afs_words.specs.declared.tables.Takes.TheVariants.{Flag, LoneFlag, One, Many, EachOfFirst}
use Rattle.tool_help.specs.Sentences.{tool_name}
use Rattle.tool_help.specs.ValueNames.{value_name}

-- a value in angles
abbrev pub in_angles : List ℕ → List ℕ
in_angles name = codes " <" ++ name ++ codes ">"

-- what stands behind a switch: nothing, a value, or a list of values
abbrev pub values_text : Operation → Parameter → Takes → List ℕ
values_text o p Flag = []
values_text o p LoneFlag = []
values_text o p (One f) = in_angles (value_name o p.switch f)
values_text o p (Many f) = in_angles (value_name o p.switch f) ++ codes "+"
values_text o p (EachOfFirst f) = in_angles (value_name o p.switch f) ++ codes "+"

-- a switch with its values
abbrev pub taken : Operation → Parameter → List ℕ
taken o p = codes "-" ++ switch_name p.switch ++ values_text o p p.takes

-- brackets round what may be left out
abbrev pub framed : Need → List ℕ → List ℕ
framed Required text = text
framed Optional text = codes "[" ++ text ++ codes "]"
framed OneOf text = codes "[" ++ text ++ codes "]"

abbrev pub shown : Operation → Parameter → List ℕ
shown o p = codes " " ++ framed p.need (taken o p)

-- the line that says how an operation is typed
abbrev pub usage_of : Tool → Operation → List ℕ
usage_of tool o =
    codes "Usage: " ++ tool_name tool ++ codes " " ++ operation_name o
    ++ flat_map (shown o) (parameters_of o) ++ flat_map (shown o) common_parameters ++ codes "\n"
