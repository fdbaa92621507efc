use Rattle.std.proofs.Common.{rules, ◌≡◌, ◌++◌, ap, ◌∙◌, append_assoc}
use Rattle.std.proofs.lemmas.List.{replicate-append-replicate}
use Rattle.wt_plan.proofs.evaluate.+push_nulls.Goals as goal

pub returns-in_ok-push_nulls-in-InnerJoin : goal.returns-in_ok-push_nulls-in-InnerJoin
returns-in_ok-push_nulls-in-InnerJoin t c = search (rules, replicate-append-replicate, append_assoc)
