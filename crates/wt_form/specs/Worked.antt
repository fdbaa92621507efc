-- Small forms and sets on which the definitions are tried.
use Rattle.std.specs.Prelude.{ℕ, Bool, nat_eq, [], ◌∷◌}
use Rattle.wt_symbol.specs.declared.head.PartCols.TheVariants.{List as Listed}
use Rattle.wt_symbol.specs.Sides.{input, proj, inner_join, PairTree}
use Rattle.wt_form.specs.declared.form.Expr.{Expr}
use Rattle.wt_form.specs.declared.form.Expr.TheVariants.{Of}
use Rattle.wt_form.specs.Trees.{Ranges, no_ranges, range_then, Rel, Conds, no_conds, cond_then, Cond, Join}
use Rattle.wt_form.specs.Known.{Known}

-- each symbol is the same as itself alone, and the rest as it is said
abbrev pub known : Bool → Bool → Bool → Known
known unique not_null refs = record {
  rel = nat_eq;
  attr = nat_eq;
  pred = nat_eq;
  unique = λ r a. unique;
  not_null = λ r a. not_null;
  refs = λ r a s b. refs;
  within = nat_eq;
}

-- list a of variable v
abbrev pub list : ℕ → ℕ → Expr
list v a = Of v 0 (Listed a)

-- one variable over leaf 0, and two
abbrev pub one_row : Ranges
one_row = range_then (Rel 0) no_ranges

abbrev pub two_rows : Ranges
two_rows = range_then (Rel 0) (range_then (Rel 0) no_ranges)

abbrev pub only_cond : Cond → Conds
only_cond c = cond_then c no_conds

-- list 0 of the first variable is joined with list 0 of the second
abbrev pub joined : Conds
joined = only_cond (Join (list 0 0) (list 1 0))

-- a pair over two leaves, whose third atom is Unique(0), and one whose side keeps list 0 below list 1
abbrev pub join_pair : PairTree
join_pair = record { source = inner_join 0 1 (input 0) (input 1); dest = input 0; anchors = 0 ∷ 1 ∷ [] }

abbrev pub kept_pair : PairTree
kept_pair = record { source = proj 1 (proj 0 (input 0)); dest = input 0; anchors = 0 ∷ 0 ∷ [] }
