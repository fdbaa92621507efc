use Rattle.std.proofs.Common.{map, take}
use Rattle.wt_bag.specs.Choices.{drop_at}
use Rattle.wt_form.specs.Congruent.{RangesSame}
use Rattle.wt_form.specs.Views.{ranges_seen}
use Rattle.wt_facts.specs.Facts.{known_of}
use Rattle.wt_congruent.specs.Refs.{range_behind}
use Rattle.wt_congruent.proofs.Pairing.{Paired_by}
use Rattle.wt_congruent.proofs.same.+pairings.Given as goal

abbrev pub invariant-loop-i : goal.invariant-loop-i
invariant-loop-i l = Paired_by (λ i is. RangesSame (known_of l.facts) is (ranges_seen l.rest.value) (drop_at i (map range_behind l.left))) (take l.i l.all.items) l.out.items
