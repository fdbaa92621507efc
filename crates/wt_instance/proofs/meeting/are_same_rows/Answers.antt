use Rattle.std.proofs.Common.{◌≡◌, rules}
use Rattle.std.specs.Cmp.Lexicographic.{pointwise}
use Rattle.std.proofs.lemmas.Slice.Eq.{slice_eq-Decides}
use Rattle.wt_value.specs.Values.{row_same}
use Rattle.wt_value.proofs.Comparing.{row_same-Decides}
use Rattle.wt_instance.proofs.meeting.are_same_rows.Goals as goal

pub returns : goal.returns
returns c =
    let test : c.eq.result ≡ pointwise row_same c.args.a.now c.args.b.now = search rules in
    slice_eq-Decides row_same-Decides c.args.a.now c.args.b.now c.eq.result test
