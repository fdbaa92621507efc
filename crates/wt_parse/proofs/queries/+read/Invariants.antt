use Rattle.std.proofs.Common.{◌≡◌, ◌+◌, ◌*◌, ◌-◌, ◌≤◌, length, drop}
use Rattle.std.specs.Prelude.{map}
use Rattle.wt_ast.specs.Tree.{condition_tree, from_tree}
use Rattle.wt_reading.specs.Lexemes.{at, is_comma}
use Rattle.wt_grammar.specs.Kinds.{is_and, is_or, begins_join}
use Rattle.wt_grammar.specs.Reading as spec
use Rattle.wt_reading.specs.Readings as readings
use Rattle.wt_reading.proofs.Loops.{put_front}
use Rattle.wt_parse.proofs.queries.+read.Given as goal

abbrev pub decreases-after_operand : goal.decreases-after_operand
decreases-after_operand l = l.levels * 32 + 6

abbrev pub decreases-after_tuple : goal.decreases-after_tuple
decreases-after_tuple l = l.levels * 32 + 6

abbrev pub decreases-basic : goal.decreases-basic
decreases-basic l = l.levels * 32 + 8

abbrev pub decreases-body : goal.decreases-body
decreases-body l = l.levels * 32 + 26

abbrev pub decreases-cond : goal.decreases-cond
decreases-cond l = l.levels * 32 + 14

abbrev pub decreases-conj : goal.decreases-conj
decreases-conj l = l.levels * 32 + 12

abbrev pub decreases-derived_part : goal.decreases-derived_part
decreases-derived_part l = l.levels * 32 + 4

abbrev pub decreases-filter : goal.decreases-filter
decreases-filter l = l.levels * 32 + 16

abbrev pub decreases-from_list : goal.decreases-from_list
decreases-from_list l = l.levels * 32 + 25

abbrev pub decreases-more_from : goal.decreases-more_from
decreases-more_from l = l.levels * 32 + 24

abbrev pub decreases-listed_part : goal.decreases-listed_part
decreases-listed_part l = l.levels * 32 + 23

abbrev pub decreases-in_part : goal.decreases-in_part
decreases-in_part l = l.levels * 32 + 5

abbrev pub decreases-join : goal.decreases-join
decreases-join l = l.levels * 32 + 16

abbrev pub decreases-joined : goal.decreases-joined
decreases-joined l = l.levels * 32 + 18

abbrev pub decreases-joins : goal.decreases-joins
decreases-joins l = l.levels * 32 + 17

abbrev pub decreases-more_conj : goal.decreases-more_conj
decreases-more_conj l = l.levels * 32 + 13

abbrev pub decreases-more_neg : goal.decreases-more_neg
decreases-more_neg l = l.levels * 32 + 11

abbrev pub decreases-neg : goal.decreases-neg
decreases-neg l = l.levels * 32 + 10

abbrev pub decreases-primary : goal.decreases-primary
decreases-primary l = l.levels * 32 + 5

abbrev pub decreases-query : goal.decreases-query
decreases-query l = l.levels * 32 + 2

abbrev pub decreases-subquery : goal.decreases-subquery
decreases-subquery l = l.levels * 32 + 3

abbrev pub decreases-tuple_in : goal.decreases-tuple_in
decreases-tuple_in l = l.levels * 32 + 7

abbrev pub invariant-more_conj-parts : goal.invariant-more_conj-parts
invariant-more_conj-parts l = record {
  exact : put_front (map condition_tree l.parts.items) l.at (readings.more is_or (spec.conj l.end l.bytes (spec.nest l.end l.bytes l.levels)) 0 (drop l.at l.ts))
      ≡ put_front (map condition_tree l.fn.parts.items) 0 (readings.more is_or (spec.conj l.end l.bytes (spec.nest l.end l.bytes l.levels)) 0 l.ts);
  within : l.at ≤ length l.ts;
}

abbrev pub decreases-more_conj-parts : goal.decreases-more_conj-parts
decreases-more_conj-parts l = length l.ts - l.at

abbrev pub invariant-more_neg-parts : goal.invariant-more_neg-parts
invariant-more_neg-parts l = record {
  exact : put_front (map condition_tree l.parts.items) l.at (readings.more is_and (spec.neg l.end l.bytes (spec.nest l.end l.bytes l.levels)) 0 (drop l.at l.ts))
      ≡ put_front (map condition_tree l.fn.parts.items) 0 (readings.more is_and (spec.neg l.end l.bytes (spec.nest l.end l.bytes l.levels)) 0 l.ts);
  within : l.at ≤ length l.ts;
}

abbrev pub decreases-more_neg-parts : goal.decreases-more_neg-parts
decreases-more_neg-parts l = length l.ts - l.at

abbrev pub invariant-joins-parts : goal.invariant-joins-parts
invariant-joins-parts l = record {
  exact : readings.plus l.at (readings.repeat (at begins_join) (spec.join l.end l.bytes (spec.nest l.end l.bytes l.levels) l.inside) 0 (from_tree l.left.value) (drop l.at l.ts))
      ≡ readings.repeat (at begins_join) (spec.join l.end l.bytes (spec.nest l.end l.bytes l.levels) l.inside) 0 (from_tree l.fn.first.value) l.ts;
  within : l.at ≤ length l.ts;
}

abbrev pub decreases-joins-parts : goal.decreases-joins-parts
decreases-joins-parts l = length l.ts - l.at

abbrev pub invariant-more_from-parts : goal.invariant-more_from-parts
invariant-more_from-parts l = record {
  exact : readings.plus l.at (readings.repeat (at is_comma) (spec.listed_part l.end l.bytes (spec.nest l.end l.bytes l.levels)) 0 (from_tree l.left.value) (drop l.at l.ts))
      ≡ readings.repeat (at is_comma) (spec.listed_part l.end l.bytes (spec.nest l.end l.bytes l.levels)) 0 (from_tree l.fn.first.value) l.ts;
  within : l.at ≤ length l.ts;
}

abbrev pub decreases-more_from-parts : goal.decreases-more_from-parts
decreases-more_from-parts l = length l.ts - l.at
