-- Only private contracts cite this. A number of a form that congruent forms share: a sum over its symbols.
use Rattle.std.specs.Prelude.{ℕ, ◌+◌, ◌*◌, cond, List, [], ◌∷◌, length, nat_lt, slice_index_or}
use Rattle.wt_symbol.specs.declared.head.PartCols.{PartCols}
use Rattle.wt_symbol.specs.declared.head.PartCols.TheVariants.{Whole, List as Listed}
use Rattle.wt_form.specs.declared.form.Expr.{Expr}
use Rattle.wt_form.specs.declared.form.Expr.TheVariants.{Of, Null as NullOf}
use Rattle.wt_form.specs.Trees.{Terms, no_terms, term_then, Ranges, no_ranges, range_then, FormRange, Rel, distinct_of, Conds, no_conds, cond_then, Cond, Pred, Join, is_in, not_in}
use Rattle.wt_form.specs.Views.{OneTerm}
use Rattle.wt_facts.specs.declared.facts.Facts.{Facts}

-- the class of a symbol; one past the end of the list is its own
abbrev pub class_of : List ℕ → ℕ → ℕ
class_of classes i = cond (nat_lt i (length classes)) (slice_index_or classes i 0) i

abbrev pub cols_print : Facts → PartCols → ℕ
cols_print facts Whole = 1
cols_print facts (Listed a) = 2 + class_of facts.sames.lists a

-- which variable it is of does not count
abbrev pub expr_print : Facts → Expr → ℕ
expr_print facts (Of v i c) = 1024 * i + cols_print facts c
expr_print facts (NullOf r Whole) = 512 + class_of facts.sames.leaves r
expr_print facts (NullOf r (Listed a)) = 768 + class_of facts.sames.lists a

abbrev pub pieces_print : Facts → List Expr → ℕ
pieces_print facts [] = 0
pieces_print facts (x ∷ xs) = expr_print facts x + pieces_print facts xs

abbrev mutual
  pub terms_print : Facts → Terms → ℕ
  terms_print facts no_terms = 0
  terms_print facts (term_then rs cs ps ts) = (1 + ranges_print facts rs + conds_print facts cs + pieces_print facts ps) + terms_print facts ts

  pub ranges_print : Facts → Ranges → ℕ
  ranges_print facts no_ranges = 0
  ranges_print facts (range_then r rs) = range_print facts r + ranges_print facts rs

  pub range_print : Facts → FormRange → ℕ
  range_print facts (Rel r) = 262144 + 256 * class_of facts.sames.leaves r
  range_print facts (distinct_of h ts) = 1000003 + terms_print facts ts

  pub conds_print : Facts → Conds → ℕ
  conds_print facts no_conds = 0
  conds_print facts (cond_then c cs) = cond_print facts c + conds_print facts cs

  pub cond_print : Facts → Cond → ℕ
  cond_print facts (Pred p x) = 2000003 + 65536 * class_of facts.sames.preds p + expr_print facts x
  cond_print facts (Join x y) = 5000011 + (expr_print facts x + expr_print facts y)
  cond_print facts (is_in x h ts) = 11000027 + (expr_print facts x + terms_print facts ts)
  cond_print facts (not_in x h ts) = 23000009 + (expr_print facts x + terms_print facts ts)

abbrev pub term_print : Facts → OneTerm → ℕ
term_print facts t = 1 + ranges_print facts t.ranges + conds_print facts t.conds + pieces_print facts t.pieces
