use Rattle.std.proofs.Common.{[], sym, subst, rules}
use Rattle.std.proofs.lemmas.List.{append-nil}
use Rattle.indexmap.specs.IndexSet.{keys}
use Rattle.wt_form_table.specs.Entries.{First}
use Rattle.wt_form_table.proofs.Firsts.{put}
use Rattle.wt_form_table.proofs.table.FormTable.value.Goals as goal

pub returns-clause-first : goal.returns-clause-first
returns-clause-first c = subst (First (keys c.insert_full.new.self) c.in_ok-n.n) c.expr_value.ensures (put _ _ (keys c.args.self.now.values) _ _ c.in_ok-n.ensures.keys c.in_ok-n.ensures.index (λ y. search rules)).0

pub returns-clause-more : goal.returns-clause-more
returns-clause-more c = record {
  values = (put _ _ (keys c.args.self.now.values) _ _ c.in_ok-n.ensures.keys c.in_ok-n.ensures.index (λ y. search rules)).1;
  tests = ([], sym (append-nil (keys c.args.self.now.tests)));
  fronts = ([], sym (append-nil (keys c.args.self.now.fronts)));
  entries = ([], sym (append-nil (keys c.args.self.now.entries)));
}
