use Rattle.std.proofs.Common.{◌≡◌, ◌++◌, map, length}
use Rattle.wt_form_rows.specs.Tests.{pieces_behind}
use Rattle.wt_form_rows.proofs.ChoiceRows.{rows_each}
use Rattle.wt_form_rows.proofs.choices.+push_rows.Given as goal

abbrev pub decreases-push_rows : goal.decreases-push_rows
decreases-push_rows l = length l.ranges.now

-- the rows of the choices to come behind those that are there
abbrev pub invariant-choices : goal.invariant-choices
invariant-choices l = record {
  rows : l.rows ++ rows_each l.instance l.tests l.exprs (map pieces_behind l.fn.env.items) l.choices l.rest ≡ l.fn.rows ++ rows_each l.instance l.tests l.exprs (map pieces_behind l.fn.env.items) l.initial.choices l.rest;
  env : l.env.items ≡ l.fn.env.items;
}

abbrev pub decreases-choices : goal.decreases-choices
decreases-choices l = length l.choices
