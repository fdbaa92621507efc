use Rattle.std.proofs.Common.{ℕ, ◌<◌}
use Rattle.wt_bag.specs.Choices.{At, Has}
use Rattle.wt_form.specs.declared.form.Expr.TheVariants.{Of}
use Rattle.wt_determined.proofs.pieces.holds_parts.Given as goal

abbrev pub invariant-loop-i : goal.invariant-loop-i
invariant-loop-i l = (j : ℕ) → j < l.i → At (λ h. Has (Of l.u j h.cols) l.pieces) j l.head
