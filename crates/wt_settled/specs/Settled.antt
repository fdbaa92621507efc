-- Of contracts of private functions alone: when placing a plan changes nothing, as one walk from the top sees it.
use Rattle.std.specs.Prelude.{Bool, true, false, ◌&&◌, not}
use Rattle.wt_plan.specs.Tree.{PlanTree, table, proj, filtered, inner_join, left_join, in_sub, dedup}
use Rattle.wt_settled.specs.declared.settled.Above.{Above}
use Rattle.wt_settled.specs.declared.settled.Above.TheVariants.{Nothing, Condition, Join}

abbrev pub is_below_join : Above → Bool
is_below_join Join = true
is_below_join Condition = false
is_below_join Nothing = false

abbrev pub is_below_condition : Above → Bool
is_below_condition Condition = true
is_below_condition Join = false
is_below_condition Nothing = false

-- Whether no zone has both conditions and joins: a condition over no join has nowhere to go, and joins over no condition
-- have nothing to send there. Conditions of a zone are behind all that moves through it, so what was seen above decides.
abbrev pub is_settled : Above → PlanTree → Bool
is_settled above (table n w) = true
is_settled above (proj cols p) = is_settled Nothing p
is_settled above (dedup p) = is_settled Nothing p
is_settled above (filtered q cols p) = not (is_below_join above) && is_settled Condition p
is_settled above (in_sub cols l r) = not (is_below_join above) && (is_settled Condition l && is_settled Nothing r)
is_settled above (inner_join a b l r) = not (is_below_condition above) && (is_settled Join l && is_settled Join r)
is_settled above (left_join a b l r) = not (is_below_condition above) && (is_settled Join l && is_settled Nothing r)
