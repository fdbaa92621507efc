use Rattle.std.proofs.Common.{ℕ, Bool, false, slice_index_or, sym, ◌∙◌}
use Rattle.wt_constraint.proofs.SameLemmas.{none_marked, agrees}
use Rattle.wt_constraint.proofs.same.are_same.Goals as goal

pub returns : goal.returns
returns c =
    let reached : ℕ → Bool = λ z. slice_index_or c.spread.new.reached z false in
    (λ yes. c.spread.ensures.from c.args.j yes, λ same. sym (agrees reached c.spread.ensures.closed same) ∙ c.spread.ensures.start)

pub spread-requires-clause-none : goal.spread-requires-clause-none
spread-requires-clause-none c x = none_marked 256 x
