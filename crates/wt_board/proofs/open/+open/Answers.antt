use Rattle.std.proofs.Common.{◌≡◌, ◌<◌, ◌+◌, ◌*◌, true, rules, arith, sym, ◌∙◌}
use Rattle.wt_cores.specs.Cores.{Within}
use Rattle.wt_board.specs.Covering.{turns}
use Rattle.wt_board.proofs.Opening.{AreHalves, must_out, halves_turns, more_within, less_within, halves_some, halves_open}
use Rattle.wt_board.proofs.open.+open.Goals as goal

pub open_around-returns-in-None : goal.open_around-returns-in-None
open_around-returns-in-None t c =
    let yes : c.is_out.result ≡ true = search rules in
    must_out _ _ _ c.args.node c.in-None.ensures (sym c.is_out.ensures ∙ yes)

pub open_halves-open_in-found-requires : goal.open_halves-open_in-found-requires
open_halves-open_in-found-requires t c =
    let more = c.half_with-more.result in
    let halves : AreHalves c.args.node more c.half_without-less.result c.args.i =
    record { with = c.half_with-more.ensures.must; same = c.half_with-more.ensures.may; same' = c.half_without-less.ensures.must; without = c.half_without-less.ensures.may } in
    let both = halves_turns c.args.node more c.half_without-less.result c.args.i halves c.requires.below c.requires.may c.requires.not_must in
    let fewer : 3 * turns more + 2 < 3 * turns c.args.node = omega (arith, both) in
    let inside : Within more.must more.may = more_within c.args.node more c.half_without-less.result c.args.i halves c.requires.may c.requires.within in
    search (rules, arith, fewer, inside)

pub open_halves-open_in-requires : goal.open_halves-open_in-requires
open_halves-open_in-requires t c =
    let less = c.half_without-less.result in
    let halves : AreHalves c.args.node c.half_with-more.result less c.args.i =
    record { with = c.half_with-more.ensures.must; same = c.half_with-more.ensures.may; same' = c.half_without-less.ensures.must; without = c.half_without-less.ensures.may } in
    let both = halves_turns c.args.node c.half_with-more.result less c.args.i halves c.requires.below c.requires.may c.requires.not_must in
    let fewer : 3 * turns less + 2 < 3 * turns c.args.node = omega (arith, both) in
    let inside : Within less.must less.may = less_within c.args.node c.half_with-more.result less c.args.i halves c.requires.not_must c.requires.within in
    search (rules, arith, fewer, inside)

pub open_halves-returns-then-is_some : goal.open_halves-returns-then-is_some
open_halves-returns-then-is_some t c =
    let halves : AreHalves c.args.node c.half_with-more.result c.half_without-less.result c.args.i =
    record { with = c.half_with-more.ensures.must; same = c.half_with-more.ensures.may; same' = c.half_without-less.ensures.must; without = c.half_without-less.ensures.may } in
    halves_some _ _ _ c.args.node c.half_with-more.result c.half_without-less.result c.args.i c.open_in-found.result halves (sym c.is_some.ensures ∙ c.if-is_some.true) c.open_in-found.ensures

pub open_halves-returns : goal.open_halves-returns
open_halves-returns t c =
    let halves : AreHalves c.args.node c.half_with-more.result c.half_without-less.result c.args.i =
    record { with = c.half_with-more.ensures.must; same = c.half_with-more.ensures.may; same' = c.half_without-less.ensures.must; without = c.half_without-less.ensures.may } in
    halves_open _ _ _ c.args.node c.half_with-more.result c.half_without-less.result c.args.i c.open_in-found.result c.open_in.result halves (sym c.is_some.ensures ∙ c.if-is_some.false) c.open_in-found.ensures c.open_in.ensures
