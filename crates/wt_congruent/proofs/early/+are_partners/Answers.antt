use Rattle.std.proofs.Common.{◌++◌}
use Rattle.wt_form.specs.Views.{conds_seen}
use Rattle.wt_facts.specs.Facts.{known_of}
use Rattle.wt_congruent.specs.Early.{Partner}
use Rattle.wt_congruent.specs.Refs.{cond_behind}
use Rattle.wt_congruent.proofs.Begins.{tail_each}
use Rattle.wt_congruent.proofs.early.+are_partners.Goals as goal

pub returns-then-is_partner : goal.returns-then-is_partner
returns-then-is_partner t c more h = c.are_partners.ensures more (tail_each (Partner (known_of c.args.facts.now) (c.args.ks.now ++ more) (conds_seen c.args.conds.now)) cond_behind c.args.left.now c.d-item.result c.in-len1-up.len_at_least h)
