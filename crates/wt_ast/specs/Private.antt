-- Of contracts of private functions alone.
use Rattle.std.specs.Prelude.{List, [], ◌∷◌, ◌++◌}
use Rattle.wt_ast.specs.declared.marks.Mark.{Mark}

-- the lists from the last one back
abbrev pub from_back : List (List Mark) → List Mark
from_back [] = []
from_back (xs ∷ rest) = from_back rest ++ xs
