use Rattle.std.proofs.lemmas.Result.{IfOk-at_ok}
use Rattle.wt_rewriting.proofs.Lining.{made_both}
use Rattle.wt_rewriting.specs.Making.{AreBetween}
use Rattle.wt_rewriting.proofs.making.together.Goals as goal

pub returns : goal.returns
returns c tables rules file i j k a b =
    made_both tables rules file i j k c.in_ok-first.field-0 c.in_ok-second.field-0 c.followed_by.result c.followed_by.ensures.text c.followed_by.ensures.refused
    (IfOk-at_ok (AreBetween tables rules file i j) c.in_ok-first.was a) (IfOk-at_ok (AreBetween tables rules file j k) c.in_ok-second.was b)
