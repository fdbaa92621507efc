use Rattle.std.proofs.Common.{take, drop, length, ◌-◌}
use Rattle.wt_search.specs.Found.{forms_of}
use Rattle.wt_search.proofs.Growing.{head_tail, grown_list}
use Rattle.wt_search.proofs.found.Found.+push_all.Goals as goal

pub returns-in_ok-push_all-in-len1-up-clause-grown : goal.returns-in_ok-push_all-in-len1-up-clause-grown
returns-in_ok-push_all-in-len1-up-clause-grown t c =
    grown_list (forms_of c.args.self.now) (forms_of c.push.new.self) (forms_of c.push_all.new.self) c.args.forms.now (take (length c.args.forms.now - 1) (drop 1 c.args.forms.now)) c.first-item.result (head_tail c.args.forms.now c.first-item.result c.in-len1-up.len_at_least c.first-item.is)
    c.in_ok-push-in-len1-up.ensures.grown c.in_ok-push_all-in-len1-up.ensures.grown
