use Rattle.std.proofs.Common.{◌≡◌, ◌<◌, ◌≤◌, List, length, get_or, map, refl, ap, ◌∙◌, subst}
use Rattle.std.proofs.lemmas.List.{take_all}
use Rattle.wt_symbol.specs.declared.side.Pair.{Pair}
use Rattle.wt_symbol.specs.Sides.{pair_of}
use Rattle.wt_cores.specs.Cores.{all_atoms}
use Rattle.wt_board.specs.Lots.{lot_tree}
use Rattle.wt_board.specs.Keeping.{page_at}
use Rattle.wt_board.proofs.Held.{lawful_read, keeps_first}
use Rattle.wt_board.proofs.pages.new_pages.Goals as goal

pub new_page-requires : goal.new_page-requires
new_page-requires c = record {
  lawful = lawful_read c.args.lot.now.pairs c.loop-pair.pair-index c.pair-item.result c.requires.lot.lawful (subst (λ (xs : List Pair). c.loop-pair.pair-index < length xs) c.as_slice-pair-items.ensures c.loop-pair-test.true)
      (subst (λ (xs : List Pair). c.pair-item.result ≡ get_or xs c.loop-pair.pair-index c.pair-item.result) c.as_slice-pair-items.ensures c.pair-item.is);
}

pub returns : goal.returns
returns c =
    keeps_first (lot_tree c.args.lot.now) c.args.lot.now.pairs c.loop-pair.pages.items refl
    (c.loop-pair.invariant ∙ ap (map (λ p. page_at (all_atoms (pair_of p)))) (take_all c.loop-pair.pair-index c.args.lot.now.pairs (subst (λ (xs : List Pair). length xs ≤ c.loop-pair.pair-index) c.as_slice-pair-items.ensures c.loop-pair-test.false)))
