use Rattle.std.proofs.Common.{◌∙◌, ◌+◌, ap, arith, drop, false, length, length-drop}
use Rattle.std.specs.Prelude.{◌≢◌, slice_index}
use Rattle.std.proofs.lemmas.List.{take_rest}
use Rattle.wt_lex.specs.Fronts.{comment_end, run}
use Rattle.wt_lex.specs.declared.front.Class.TheVariants.{NoStar}
use Rattle.wt_lex.proofs.Splits.{pass_over, star_behind, next_star, next_is_star}
use Rattle.wt_lex.proofs.front.comment_end.Goals as goal

pub stars-init : goal.stars-init
stars-init c =
    let text = c.args.text.now in
    let e = c.run-at.ensures.value in
    record {
      value = ap (λ n. comment_end false (2 + n) (drop n text)) e ∙ pass_over 2 text;
      star = λ h. ap (slice_index text) e ∙ star_behind text (omega (arith, h, e));
      within = c.run-at.ensures.within;
    }

pub stars-preserved : goal.stars-preserved
stars-preserved c =
    let text = c.args.text.now in
    let e = c.run.ensures.value ∙ ap (run NoStar) (take_rest text (c.stars.at + 1)) in
    let follows : slice_index text (c.stars.at + 1) ≢ 47 = λ h. c.if-byte_at-eq47.false (c.byte_at.ensures.value ∙ h) in
    record {
      value = next_star c.stars.at c.run.result text c.stars-test.true (c.stars.invariant.star c.stars-test.true) follows e ∙ c.stars.invariant.value;
      star = next_is_star c.stars.at c.run.result text e;
      within = omega (arith, c.run.ensures.within, ap length (take_rest text (c.stars.at + 1)), length-drop (c.stars.at + 1) text, c.stars-test.true);
    }
