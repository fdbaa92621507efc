-- The conjuncts of a condition: what is left when AND is split at every depth through AND alone, in the order of the text.
use Rattle.std.specs.Prelude.{List, [], ◌∷◌, ◌++◌}
use Rattle.wt_ast.specs.Tree.{CondTree, CondTrees, all_of, no_conds, cond_then}

abbrev mutual
  pub conjuncts : CondTree → List CondTree
  conjuncts (all_of at parts) = conjuncts_of parts
  conjuncts c = c ∷ []

  pub conjuncts_of : CondTrees → List CondTree
  conjuncts_of no_conds = []
  conjuncts_of (cond_then c rest) = conjuncts c ++ conjuncts_of rest

-- anything but a run of AND
abbrev pub IsNoAnd : CondTree → Type 0
IsNoAnd (all_of at parts) = ⊥
IsNoAnd c = Unit {0}
