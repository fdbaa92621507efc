use Rattle.std.proofs.Common.{◌≡◌, take, map}
use Rattle.wt_symbol.specs.Sides.{pair_of}
use Rattle.wt_cores.specs.Cores.{all_atoms}
use Rattle.wt_board.specs.Keeping.{page_at}
use Rattle.wt_board.proofs.pages.new_pages.Given as goal

abbrev pub invariant-loop-pair : goal.invariant-loop-pair
invariant-loop-pair l = l.pages.items ≡ map (λ p. page_at (all_atoms (pair_of p))) (take l.pair-index l.lot.pairs)
