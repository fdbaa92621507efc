use Rattle.std.proofs.Common.{true≢false, refl, sym, ◌∙◌}
use Rattle.std.specs.Prelude.{Some}
use Rattle.wt_board.specs.Viewing.{lore_with}
use Rattle.wt_board.proofs.Knowing.{refused_is}
use Rattle.wt_board.proofs.known.is_unknown.Goals as goal

pub returns-in-Some : goal.returns-in-Some
returns-in-Some c = (λ no. absurd (true≢false (sym no)), λ u. absurd (true≢false (sym (refused_is (lore_with c.args.view.now.cores.now c.args.view.now.refused.now c.args.view.now.rest.now c.args.view.now.pair) c.args.set (Some _) refl c.in-Some.ensures) ∙ u)))
