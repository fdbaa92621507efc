-- A side with plans for its leaves, column numbers for its lists and predicates for its predicate symbols.
use Rattle.std.specs.Prelude.{◌==◌, ℕ, suc, ◌&&◌, List, [], ◌∷◌, map, slice_index_or, if◌then◌else◌}
use Rattle.wt_pred.specs.Tree.{PredTree, all_of, no_preds}
use Rattle.wt_symbol.specs.Sides as sides
use Rattle.wt_symbol.specs.Sides.{SideTree}
use Rattle.wt_symbol.specs.Heads.{anchor}
use Rattle.wt_instance.specs.declared.instance.Instance.{Instance}
use Rattle.wt_instance.specs.declared.named.Column.{Column}
use Rattle.wt_instance.specs.Rows.{columns_of}
use Rattle.wt_plan.specs.Tree.{PlanTree, table, proj, filtered, inner_join, left_join, in_sub, dedup}
use Rattle.wt_plan.specs.Measures.{width}

-- a plan for each leaf, column numbers for each list symbol, a predicate for each predicate symbol
pub record Assigned : Type 0 where
  pub leaves : List PlanTree
  pub lists : List (List ℕ)
  pub preds : List PredTree

abbrev pub leaf_plan : Assigned → ℕ → PlanTree
leaf_plan m r = slice_index_or m.leaves r (table 0 0)

abbrev pub list_of : Assigned → ℕ → List ℕ
list_of m a = slice_index_or m.lists a []

abbrev pub pred_of : Assigned → ℕ → PredTree
pred_of m p = slice_index_or m.preds p (all_of no_preds)

-- the widths and the lists alone: what the header of a side depends on
abbrev pub shape : Assigned → Instance
shape m = record { widths = map width m.leaves; tables = []; lists = m.lists; trues = [] }

-- the columns of a side's output
abbrev pub header : SideTree → List ℕ → Assigned → List Column
header s A m = columns_of s A (shape m)

-- the first place of a leaf's column, or how many columns there are
abbrev pub place : List Column → ℕ → ℕ → ℕ
place [] r n = 0
place (c ∷ columns) r n = if (c.leaf == r) && (c.number == n) then 0 else suc (place columns r n)

-- the places of a list symbol in a side's output
abbrev pub places : SideTree → List ℕ → Assigned → ℕ → List ℕ
places s A m a = map (place (header s A m) (anchor A a)) (list_of m a)

-- the side filled in
abbrev pub fill : SideTree → List ℕ → Assigned → PlanTree
fill (sides.input r) A m = leaf_plan m r
fill (sides.proj a s) A m = proj (places s A m a) (fill s A m)
fill (sides.filtered p a s) A m = filtered (pred_of m p) (places s A m a) (fill s A m)
fill (sides.inner_join a b s t) A m = inner_join (places s A m a) (places t A m b) (fill s A m) (fill t A m)
fill (sides.left_join a b s t) A m = left_join (places s A m a) (places t A m b) (fill s A m) (fill t A m)
fill (sides.in_sub a s t) A m = in_sub (places s A m a) (fill s A m) (fill t A m)
fill (sides.dedup s) A m = dedup (fill s A m)
