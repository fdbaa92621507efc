use Rattle.std.proofs.Common.{◌≡◌, ◌+◌, ℕ, List, length, vec_len, rules, sym, subst, arith}
use Rattle.std.specs.Prelude.{sum}
use Rattle.wt_rule.specs.declared.Rule.{Rule}
use Rattle.wt_board.specs.declared.words.Entry.{Entry}
use Rattle.wt_board.specs.Lots.{lot_tree}
use Rattle.wt_workers.specs.Reports.{Reported}
use Rattle.wt_workers.proofs.Reports.{reported}
use Rattle.wt_workers.proofs.finish.finish.Goals as goal

pub returns : goal.returns
returns g c =
    let told = c.in_ok-told.told in
    let number : c.len.result ≡ length c.in_ok-told.told.log.items = search rules in
    let many : length c.args.posted.items ≡ vec_len c.args.posted = search rules in
    let adds : c.len.result ≡ sum c.args.posted.items + c.in_ok-told.told.drained =
    omega (arith, number, c.in_ok-told.ensures.logged, c.compare.ensures.equal, c.in_ok-told.ensures.drained, c.requires.amount) in
    let P : List Rule × List Entry × List ℕ → Type 0 = λ q. Reported (lot_tree c.args.lot.now) (vec_len c.args.posted) (record { rules = q.0; log = q.1; posted = q.2; logged = c.len.result; drained = c.in_ok-told.told.drained }) in
    subst P (λ i. (sym c.from_vec.ensures i, sym c.from_vec-2.ensures i, sym c.from_vec-3.ensures i))
    (reported c.args.lot.now (vec_len c.args.posted) told.rules.items told.log.items c.args.posted.items c.len.result told.drained c.in_ok-told.ensures.all number many adds)
