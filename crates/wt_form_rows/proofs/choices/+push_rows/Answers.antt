use Rattle.std.proofs.Common.{◌∙◌, map}
use Rattle.wt_form_rows.specs.Tests.{pieces_behind}
use Rattle.wt_form_rows.proofs.ChoiceRows.{choices_done}
use Rattle.wt_form_rows.proofs.choices.+push_rows.Goals as goal

pub returns-in_default-clause-rows : goal.returns-in_default-clause-rows
returns-in_default-clause-rows t c =
    choices_done c.args.instance.now c.args.tests.now c.args.exprs.now (map pieces_behind c.args.env.now.items) c.args.ranges.now c.as_slice-choices.result.now _ c.choices.choices.now _ _ c.in-len1-up.len_at_least c.in_default.len_below
    (c.as_slice-choices.ensures ∙ c.first-item.is) c.choices.invariant.rows
