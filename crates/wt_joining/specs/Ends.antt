-- The ends of Joins that are a list of a variable.
use Rattle.std.specs.Prelude.{zero, suc, List, [], ◌∷◌, ◌++◌}
use Rattle.wt_symbol.specs.declared.head.PartCols.TheVariants.{Whole, List as Listed}
use Rattle.wt_form.specs.declared.form.Expr.{Expr}
use Rattle.wt_form.specs.declared.form.Expr.TheVariants.{Of, Null as NullOf}
use Rattle.wt_form.specs.Trees.{Cond, Pred, Join, is_in, not_in}
use Rattle.wt_joining.specs.declared.ends.End.{End}

-- of two joined expressions the first, if it is a list of a variable's first part
abbrev pub ends_of_sides : Expr → Expr → List End
ends_of_sides (Of v zero (Listed a)) y = record { var = v; list = a; other = y } ∷ []
ends_of_sides (Of v (suc i) (Listed a)) y = []
ends_of_sides (Of v i Whole) y = []
ends_of_sides (NullOf r c) y = []

abbrev pub ends_of_cond : Cond → List End
ends_of_cond (Join x y) = ends_of_sides x y ++ ends_of_sides y x
ends_of_cond (Pred p x) = []
ends_of_cond (is_in x h ts) = []
ends_of_cond (not_in x h ts) = []

abbrev pub ends_of_conds : List Cond → List End
ends_of_conds [] = []
ends_of_conds (c ∷ cs) = ends_of_cond c ++ ends_of_conds cs
