use Rattle.std.proofs.Common.{◌≡◌, ◌<◌, List, length, get_or, map, sym, subst}
use Rattle.wt_symbol.specs.declared.side.Pair.{Pair}
use Rattle.wt_symbol.specs.Sides.{pair_of}
use Rattle.wt_board.specs.Lots.{lot_tree}
use Rattle.wt_board.specs.Rules.{AreRulesOf, rule_of}
use Rattle.wt_board.proofs.Held.{lawful_read, pair_read, taken_pair}
use Rattle.wt_board.proofs.Telling.{rules_more}
use Rattle.wt_board.proofs.rules.rules_of_log.Goals as goal

pub add_rules-requires : goal.add_rules-requires
add_rules-requires c =
    lawful_read c.args.lot.now.pairs c.loop-p.p c.index-pairs-p.result c.requires.lot.lawful (subst (λ (xs : List Pair). c.loop-p.p < length xs) c.as_slice-pairs.ensures c.loop-p-test.true)
    (subst (λ (xs : List Pair). c.index-pairs-p.result ≡ get_or xs c.loop-p.p c.index-pairs-p.result) c.as_slice-pairs.ensures c.index-pairs-p.is)

pub loop-p-preserved : goal.loop-p-preserved
loop-p-preserved c =
    let x = c.index-pairs-p.result in
    let lot = lot_tree c.args.lot.now in
    let below : c.loop-p.p < length c.args.lot.now.pairs = subst (λ (xs : List Pair). c.loop-p.p < length xs) c.as_slice-pairs.ensures c.loop-p-test.true in
    let is : c.index-pairs-p.result ≡ get_or c.args.lot.now.pairs c.loop-p.p c.index-pairs-p.result = subst (λ (xs : List Pair). c.index-pairs-p.result ≡ get_or xs c.loop-p.p c.index-pairs-p.result) c.as_slice-pairs.ensures c.index-pairs-p.is in
    subst (λ ps. AreRulesOf lot.bounds.steps lot.bounds.depth ps (map rule_of c.add_rules.new.rules.items)) (sym (taken_pair c.args.lot.now.pairs c.loop-p.p x below is))
    (rules_more lot c.args.log.now c.requires.stands c.requires.settles c.loop-p.p (pair_of x) (pair_read c.args.lot.now.pairs c.loop-p.p x below is) (lawful_read c.args.lot.now.pairs c.loop-p.p x c.requires.lot.lawful below is)
    (map rule_of c.loop-p.rules.items) (map rule_of c.add_rules.new.rules.items) c.in_ok-add_rules.ensures c.loop-p.invariant)
