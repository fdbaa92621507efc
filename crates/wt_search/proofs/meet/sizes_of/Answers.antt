use Rattle.std.proofs.Common.{◌∙◌, ap, sym, map, arith}
use Rattle.std.proofs.lemmas.List.{take_all}
use Rattle.wt_search.specs.Found.{size_shown}
use Rattle.wt_search.proofs.Meeting.{sizes_more}
use Rattle.wt_search.proofs.meet.sizes_of.Goals as goal

pub loop-i-preserved : goal.loop-i-preserved
loop-i-preserved c = sizes_more c.args.forms.now c.loop-i.i c.index-forms-i.result c.loop-i.sizes.items _ _ (omega arith) c.index-forms-i.is c.loop-i.invariant c.in_ok-push.ensures.items (c.size.ensures ∙ ap size_shown (sym c.index-forms-i.is))

pub returns : goal.returns
returns c = c.loop-i.invariant ∙ ap (map size_shown) (take_all c.loop-i.i c.args.forms.now (omega arith))
