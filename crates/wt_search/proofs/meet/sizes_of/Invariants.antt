use Rattle.std.proofs.Common.{◌≡◌, map, take}
use Rattle.wt_search.specs.Found.{size_shown}
use Rattle.wt_search.proofs.meet.sizes_of.Given as goal

abbrev pub invariant-loop-i : goal.invariant-loop-i
invariant-loop-i l = l.sizes.items ≡ map size_shown (take l.i l.forms)
