use Rattle.std.proofs.Common.{[], sym, rules}
use Rattle.std.proofs.lemmas.List.{append-nil}
use Rattle.indexmap.specs.IndexSet.{keys}
use Rattle.wt_form_table.proofs.Firsts.{put}
use Rattle.wt_form_table.proofs.table.FormTable.test.Goals as goal

pub returns-clause-first : goal.returns-clause-first
returns-clause-first c = (put _ _ (keys c.args.self.now.tests) _ _ c.in_ok-n.ensures.keys c.in_ok-n.ensures.index (λ y. search rules)).0

pub returns-clause-more : goal.returns-clause-more
returns-clause-more c = record {
  tests = (put _ _ (keys c.args.self.now.tests) _ _ c.in_ok-n.ensures.keys c.in_ok-n.ensures.index (λ y. search rules)).1;
  values = ([], sym (append-nil (keys c.args.self.now.values)));
  fronts = ([], sym (append-nil (keys c.args.self.now.fronts)));
  entries = ([], sym (append-nil (keys c.args.self.now.entries)));
}
