-- A side filled in, each place a number of 32 bits, as the plans of the program have them: the greatest one for places past them.
use Rattle.std.specs.Prelude.{ℕ, List, map, min}
use Rattle.wt_symbol.specs.Sides as sides
use Rattle.wt_symbol.specs.Sides.{SideTree}
use Rattle.wt_symbol.specs.Heads.{anchor}
use Rattle.wt_plan.specs.Tree.{PlanTree, proj, filtered, inner_join, left_join, in_sub, dedup}
use Rattle.wt_matching.specs.Filling.{Assigned, leaf_plan, list_of, pred_of, header, place}

-- the places of a list symbol in a side's output
abbrev pub capped_places : SideTree → List ℕ → Assigned → ℕ → List ℕ
capped_places s A m a = map (λ n. min 4294967295 (place (header s A m) (anchor A a) n)) (list_of m a)

-- the side filled in
abbrev pub capped_fill : SideTree → List ℕ → Assigned → PlanTree
capped_fill (sides.input r) A m = leaf_plan m r
capped_fill (sides.proj a s) A m = proj (capped_places s A m a) (capped_fill s A m)
capped_fill (sides.filtered p a s) A m = filtered (pred_of m p) (capped_places s A m a) (capped_fill s A m)
capped_fill (sides.inner_join a b s t) A m = inner_join (capped_places s A m a) (capped_places t A m b) (capped_fill s A m) (capped_fill t A m)
capped_fill (sides.left_join a b s t) A m = left_join (capped_places s A m a) (capped_places t A m b) (capped_fill s A m) (capped_fill t A m)
capped_fill (sides.in_sub a s t) A m = in_sub (capped_places s A m a) (capped_fill s A m) (capped_fill t A m)
capped_fill (sides.dedup s) A m = dedup (capped_fill s A m)
