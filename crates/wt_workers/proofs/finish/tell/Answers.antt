use Rattle.std.proofs.Common.{◌≡◌, List, get_or, sym, ◌∙◌, subst}
use Rattle.wt_symbol.specs.declared.side.Pair.{Pair}
use Rattle.wt_symbol.specs.Sides.{pair_of}
use Rattle.wt_board.specs.declared.words.Entry.{Entry}
use Rattle.wt_board.specs.Lots.{lot_tree}
use Rattle.wt_board.specs.Machine.{LogStands, Settles}
use Rattle.wt_board.proofs.Held.{pair_read, taken_pair}
use Rattle.wt_board.proofs.Settling.{settled_settles}
use Rattle.wt_workers.proofs.Reports.{told_more}
use Rattle.wt_workers.proofs.finish.tell.Goals as goal

pub rules-requires : goal.rules-requires
rules-requires g c = record { settles = settled_settles (lot_tree c.settle.new.desk.board.lot) c.settle.new.desk.board.state c.in_ok-settle.ensures.settled.settled }

pub returns-clause-first : goal.returns-clause-first
returns-clause-first g c =
    let lot = lot_tree c.args.lot.now in
    let one = lot_tree c.settle.new.desk.board.lot in
    let x = c.index-as_slice-k.result in
    let s = c.in_ok-settle.ensures.settled in
    let is : c.index-as_slice-k.result ≡ get_or c.args.lot.now.pairs c.args.k c.index-as_slice-k.result = subst (λ (xs : List Pair). c.index-as_slice-k.result ≡ get_or xs c.args.k c.index-as_slice-k.result) c.as_slice.ensures c.index-as_slice-k.is in
    let L : List Entry → Type 0 = λ es. LogStands (lot_tree c.settle.new.desk.board.lot) es × Settles (lot_tree c.settle.new.desk.board.lot) es in
    let es = c.as_slice-2.result.now in
    let both : L c.as_slice-2.result.now = subst L (sym (c.as_slice-2.ensures ∙ c.in_ok-log.ensures.log)) (c.log.ensures.stands, settled_settles one c.settle.new.desk.board.state s.settled) in
    told_more lot one c.args.k (pair_of x) (pair_read c.args.lot.now.pairs c.args.k x c.requires.within is) s.pairs s.steps s.depth c.args.told.now.rules.items c.push_rules.new.rules.items c.in_ok-rules.rules
    c.args.told.now.log.items c.push_entries.new.log.items es c.requires.first c.in_ok-push_rules.ensures c.in_ok-push_entries.ensures c.in_ok-rules.ensures both.0 both.1 (taken_pair c.args.lot.now.pairs c.args.k x c.requires.within is)
