use Rattle.std.proofs.Common.{map, length}
use Rattle.wt_bag.specs.Choices.{Apart}
use Rattle.wt_form.specs.Views.{form_seen, terms_seen}
use Rattle.wt_steps.proofs.OnceLaws.{TakenSoFar}
use Rattle.wt_steps.proofs.every.forms_of.Given as goal

abbrev pub invariant-sums : goal.invariant-sums
invariant-sums l = record {
  exact : TakenSoFar l.head (map terms_seen l.fn.sums.items) (map terms_seen l.left.items) (map form_seen l.out.items);
  once : Apart (map form_seen l.out.items);
}

abbrev pub decreases-sums : goal.decreases-sums
decreases-sums l = length l.left.items
