use Rattle.std.proofs.Common.{rules}
use Rattle.wt_form.specs.Views.{term_seen}
use Rattle.wt_facts.specs.Facts.{known_of}
use Rattle.wt_places.proofs.GainedLaws.{gained_seq}
use Rattle.wt_steps.proofs.JoinLaws.{gained_without_join}
use Rattle.wt_steps.proofs.joins.push_by_joins.Goals as goal

pub returns-then-not-has_join : goal.returns-then-not-has_join
returns-then-not-has_join c = gained_without_join (known_of c.args.facts.now) c.args.nested (term_seen c.args.term.now) _ (λ h. search (rules, c.if-not-has_join.true, c.has_join.ensures.1 h))

pub returns : goal.returns
returns c = gained_seq _ _ _ _ _ (gained_seq _ _ _ _ _ c.in_ok-push_joins_to_in.ensures c.in_ok-push_merged.ensures) (c.in_ok-push_rewritten.ensures (known_of c.args.facts.now))
