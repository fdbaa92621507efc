use Rattle.std.proofs.Common.{◌≡◌, map, drop}
use Rattle.wt_value.specs.Truths.{equality, or_of}
use Rattle.wt_pred.specs.Meaning.{greatest}
use Rattle.wt_pred.proofs.eval.is_among.Given as goal

-- what was found, or what is to come, is the answer
abbrev pub invariant-loop-other : goal.invariant-loop-other
invariant-loop-other l = or_of l.found (greatest (map (equality l.value) (drop l.other-index l.other-items))) ≡ greatest (map (equality l.value) l.other-items)
