use Rattle.std.proofs.Common.{map, get_or, arith}
use Rattle.std.proofs.lemmas.Bool.{false≢true}
use Rattle.std.proofs.Common.{sym, ◌∙◌}
use Rattle.wt_form.specs.Parts.{ranges_list}
use Rattle.wt_form.specs.Views.{ranges_seen}
use Rattle.wt_congruent.specs.Refs.{cond_behind}
use Rattle.wt_determined.specs.Linked.{Follows}
use Rattle.wt_determined.proofs.ClosingLaws.{taken_at, from_places, none_more}
use Rattle.wt_determined.proofs.closing.first_that_follows.Goals as goal

pub returns-then-follows : goal.returns-then-follows
returns-then-follows c = (c.loop-j-test.true, taken_at (Follows c.args.facts.now (ranges_list (ranges_seen c.args.ranges.now)) (map cond_behind c.args.conds.now) c.args.pieces.now c.args.vars.now) c.args.left.now c.loop-j.j c.loop-j-test.true (c.follows.ensures.0 c.if-follows.true))

pub loop-j-preserved : goal.loop-j-preserved
loop-j-preserved c =
    none_more (λ i. Follows c.args.facts.now (ranges_list (ranges_seen c.args.ranges.now)) (map cond_behind c.args.conds.now) c.args.pieces.now c.args.vars.now (get_or c.args.left.now i 0)) c.loop-j.j c.loop-j.invariant
    (λ f. absurd (false≢true (sym c.if-follows.false ∙ c.follows.ensures.1 f)))

pub returns : goal.returns
returns c =
    from_places (λ u. Follows c.args.facts.now (ranges_list (ranges_seen c.args.ranges.now)) (map cond_behind c.args.conds.now) c.args.pieces.now c.args.vars.now u → ⊥) c.args.left.now
    (λ i l. c.loop-j.invariant i (omega (arith, l, c.loop-j-test.false)))
