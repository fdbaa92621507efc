-- Conditions in which the rows of the nested form are known, and the rows of a term by them.
use Rattle.std.specs.Prelude.{Bool, true, ◌&&◌, not, List, [], ◌∷◌, ◌++◌, map, filter}
use Rattle.std.specs.List.{list_any}
use Rattle.std.specs.Borrow.{Bor}
use Rattle.wt_bag.specs.Choices.{choices}
use Rattle.wt_value.specs.Values.{Tuple, row_matches}
use Rattle.wt_form.specs.declared.form.Expr.{Expr}
use Rattle.wt_form.specs.Trees.{Conds, no_conds, cond_then, Cond, Pred, Join, is_in, not_in}
use Rattle.wt_instance.specs.declared.instance.Instance.{Instance}
use Rattle.wt_instance.specs.Instances.{is_true}
use Rattle.wt_rows.specs.FormRows.{Piece, Env, FormRow, numbered, values_of, row_of, put_together, terms_rows}
use Rattle.wt_form_rows.specs.declared.conds.Test.{Test}
use Rattle.wt_form_rows.specs.declared.conds.Test.TheVariants.{IsTrue, Match, Among, NotAmong}

-- what a reference to the pieces of a row shows
abbrev pub pieces_behind : Bor (List Piece) → List Piece
pieces_behind r = r.now

-- the one piece of a leaf's row
abbrev pub leaf_pieces : Tuple → List Piece
leaf_pieces row = numbered 0 row ∷ []

-- the condition with the rows of its nested form
abbrev pub test_of : Instance → Cond → Test
test_of I (Pred p x) = IsTrue p x
test_of I (Join x y) = Match x y
test_of I (is_in x h ts) = Among x (map put_together (terms_rows ts I))
test_of I (not_in x h ts) = NotAmong x (map put_together (terms_rows ts I))

abbrev pub tests_of : Instance → Conds → List Test
tests_of I no_conds = []
tests_of I (cond_then c cs) = test_of I c ∷ tests_of I cs

-- whether a condition holds under a choice, and whether each does
abbrev pub passes : Instance → Env → Test → Bool
passes I e (IsTrue p x) = is_true I p (values_of I e x)
passes I e (Match x y) = row_matches (values_of I e x) (values_of I e y)
passes I e (Among x rows) = list_any (λ row. row_matches (values_of I e x) row) rows
passes I e (NotAmong x rows) = not (list_any (λ row. row_matches (values_of I e x) row) rows)

abbrev pub all_pass : Instance → Env → List Test → Bool
all_pass I e [] = true
all_pass I e (t ∷ ts) = passes I e t && all_pass I e ts

-- the rows of the choices that begin with those made
abbrev pub rows_with : Instance → List Test → List Expr → Env → List (List (List Piece)) → List FormRow
rows_with I tests ps made ranges = map (row_of I ps) (filter (λ e. all_pass I e tests) (map (λ e. made ++ e) (choices ranges)))
