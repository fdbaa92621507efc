-- The numbers of a query are of 64 bits with a sign, as the type of values has them.
use Rattle.std.specs.Prelude.{FitsSigned}
use Rattle.std.specs.Int.{w64}
use Rattle.std.specs.List.{AllByRecursion}
use Rattle.wt_value.specs.declared.value.Value.{Value}
use Rattle.wt_value.specs.declared.value.Value.TheVariants as values
use Rattle.wt_ast.specs.declared.tree.Scalar.{Scalar}
use Rattle.wt_ast.specs.declared.tree.Scalar.TheVariants as scalars
use Rattle.wt_ast.specs.Tree.{QueryTree, FilterTree, FromTree, CondTree, CondTrees, select, no_filter, filter_by, table, derived, inner_join, left_join, right_join, comma, compare, in_list, in_query, all_of, any_of, negated, no_conds, cond_then}

abbrev pub FitsValue : Value → Type 0
FitsValue (values.Int n) = FitsSigned w64 n
FitsValue _ = Unit {0}

abbrev pub FitsScalar : Scalar → Type 0
FitsScalar (scalars.Column column) = Unit {0}
FitsScalar (scalars.Literal value at) = FitsValue value

abbrev mutual
  pub Fits : QueryTree → Type 0
  Fits (select distinct items from filter) = FitsFrom from × FitsFilter filter

  pub FitsFilter : FilterTree → Type 0
  FitsFilter no_filter = Unit {0}
  FitsFilter (filter_by c) = FitsCond c

  pub FitsFrom : FromTree → Type 0
  FitsFrom (table name alias at alias_at) = Unit {0}
  FitsFrom (derived query alias columns at alias_at) = Fits query
  FitsFrom (inner_join left right on on_at) = FitsFrom left × FitsFrom right × FitsCond on
  FitsFrom (left_join left right on on_at) = FitsFrom left × FitsFrom right × FitsCond on
  FitsFrom (right_join left right on on_at) = FitsFrom left × FitsFrom right × FitsCond on
  FitsFrom (comma left right comma_at) = FitsFrom left × FitsFrom right

  pub FitsCond : CondTree → Type 0
  FitsCond (compare at sign a b word_at) = FitsScalar a × FitsScalar b
  FitsCond (in_list at column values word_at) = AllByRecursion FitsValue values
  FitsCond (in_query at columns query word_at) = Fits query
  FitsCond (all_of at parts) = FitsConds parts
  FitsCond (any_of at parts) = FitsConds parts
  FitsCond (negated at c) = FitsCond c
  FitsCond _ = Unit {0}

  pub FitsConds : CondTrees → Type 0
  FitsConds no_conds = Unit {0}
  FitsConds (cond_then c rest) = FitsCond c × FitsConds rest
