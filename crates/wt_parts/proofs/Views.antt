-- A run of conditions in a Vec, as the definition has it.
use Rattle.std.proofs.Common.{◌≡◌, ◌≢◌, ℕ, List, [], ◌∷◌, length, refl, ap, sym, ◌∙◌}
use Rattle.std.specs.Prelude.{map}
use Rattle.wt_ast.specs.declared.tree.Condition.{Condition}
use Rattle.wt_ast.specs.declared.tree.CondKind.{CondKind}
use Rattle.wt_ast.specs.declared.tree.CondKind.TheVariants.{Compare, IsNull, IsNotNull, InList, InQuery', And, Or, Not'}
use Rattle.wt_ast.specs.Tree.{CondTrees, CondTree, cond_then, condition_tree, condition_trees, kind_tree, trees_of, cond_at}
use Rattle.wt_grammar.specs.Reading.{one_or}

pub begins_at : (at : ℕ) (k : CondKind) → cond_at (kind_tree at k) ≡ at
begins_at at (Compare w a b word) = refl
begins_at at (IsNull c) = refl
begins_at at (IsNotNull c) = refl
begins_at at (InList c vs word) = refl
begins_at at (InQuery' cs p q word) = refl
begins_at at (And cs) = refl
begins_at at (Or cs) = refl
begins_at at (Not' p b k) = refl

pub trees_of_map : (cs : List Condition) → trees_of (map condition_tree cs) ≡ condition_trees cs
trees_of_map [] = refl
trees_of_map (c ∷ cs) = ap (cond_then (condition_tree c)) (trees_of_map cs)

pub one : (whole : ℕ → CondTrees → CondTree) (x : Condition) (more new : List Condition) → length more ≢ 0 → new ≡ x ∷ more
    → whole x.at (condition_trees new) ≡ one_or whole (condition_tree x) (map condition_tree more)
one whole x [] new some e = absurd (some refl)
one whole x (y ∷ ys) new some e =
    ap (λ l. whole x.at (condition_trees l)) e
    ∙ (λ i. whole (sym (begins_at x.at x.kind) i) (cond_then (condition_tree x) (cond_then (condition_tree y) (sym (trees_of_map ys) i))))
