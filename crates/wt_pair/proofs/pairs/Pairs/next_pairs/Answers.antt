use Rattle.std.proofs.Common.{◌≡◌, ◌+◌, ◌-◌, ◌^◌, min, map, refl, ap, rules}
use Rattle.wt_symbol.specs.Sides.{pair_of}
use Rattle.wt_pair.proofs.LotLemmas.{next_track, lot_is, not_over, not_empty, not_the_end}
use Rattle.wt_pair.specs.Track.{given}
use Rattle.wt_pair.proofs.pairs.Pairs.next_pairs.Goals as goal

pub invariant_of-self : goal.invariant_of-self
invariant_of-self c =
    let count : c.saturating_add-self-inside.result ≡ min (c.self.inside.first + c.len.result) (2 ^ 64 - 1) = search rules in
    next_track c.args.most c.self.inside.bounds c.self.inside.cursor c.in_ok-cursor.cursor _ c.fill.new.pairs (ap (map pair_of) c.new-pairs.ensures) c.in_ok-cursor.ensures c.self.inside.first c.self.invariant _ _ count c.len.ensures

pub returns-clause-lot : goal.returns-clause-lot
returns-clause-lot c =
    lot_is c.args.most c.self.inside.bounds c.self.inside.cursor c.in_ok-cursor.cursor _ c.fill.new.pairs (ap (map pair_of) c.new-pairs.ensures) c.in_ok-cursor.ensures c.self.inside.first c.self.invariant c.args.self.now _ c.self.view_is refl refl refl

pub returns-clause-end : goal.returns-clause-end
returns-clause-end c =
    not_the_end c.self.inside.bounds (given c.self.inside.bounds c.self.inside.cursor) c.args.self.now c.self.view_is
    (not_over c.args.most c.self.inside.bounds c.self.inside.cursor c.in_ok-cursor.cursor _ c.fill.new.pairs (ap (map pair_of) c.new-pairs.ensures) c.in_ok-cursor.ensures c.self.inside.first c.self.invariant
    (not_empty c.fill.new.pairs c.is_empty.result c.if-is_empty.false c.is_empty.ensures.1))
