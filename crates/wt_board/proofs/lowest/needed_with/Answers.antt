use Rattle.std.proofs.Common.{◌++◌, sym, ◌∙◌}
use Rattle.wt_board.specs.Knowledge.{refused_of}
use Rattle.wt_board.proofs.Knowing.{needed_more, refused_yes}
use Rattle.wt_board.proofs.lowest.needed_with.Goals as goal

pub returns-then-is_some : goal.returns-then-is_some
returns-then-is_some c = record {
  needed = needed_more (c.args.view.now.refused.now ++ refused_of c.args.view.now.pair c.args.view.now.rest.now) c.args.set c.without.result c.args.i c.args.atoms c.with.result c.requires.needed c.with.ensures (c.has.ensures.0 c.if-has.true) c.without.ensures.number
      (refused_yes (c.args.view.now.refused.now ++ refused_of c.args.view.now.pair c.args.view.now.rest.now) c.without.result c.refused_around.result (sym c.is_some.ensures ∙ c.if-is_some.true) c.refused_around.ensures);
}
