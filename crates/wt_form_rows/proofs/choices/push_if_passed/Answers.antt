use Rattle.std.proofs.Common.{rules, ◌≡◌, map, true}
use Rattle.wt_form_rows.specs.Tests.{pieces_behind, all_pass}
use Rattle.wt_form_rows.proofs.ChoiceRows.{passed}
use Rattle.wt_form_rows.proofs.choices.push_if_passed.Goals as goal

pub returns-in_ok-push : goal.returns-in_ok-push
returns-in_ok-push c =
    let true_ : all_pass c.args.instance.now (map pieces_behind c.args.env.now) c.args.tests.now ≡ true = search rules in
    passed c.args.instance.now c.args.tests.now c.args.exprs.now (map pieces_behind c.args.env.now) _ _ _ true_ c.in_ok-row_of.ensures c.in_ok-push.ensures.ok
