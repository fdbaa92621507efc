use Rattle.std.proofs.Common.{◌≡◌, ◌-◌, arith, eq-eqb}
use Rattle.std.specs.Prelude.{bit_and}
use Rattle.std.proofs.lemmas.Grind.{common_steps}
use Rattle.wt_constraint.proofs.SetLemmas.{contains_all, contains_none}
use Rattle.wt_constraint.proofs.set.contains.Goals as goal

pub returns : goal.returns
returns c = (
  λ yes.
      let none : bit_and c.args.b.0 (18446744073709551615 - c.args.a.0) ≡ 0 = grind (arith, common_steps) in
      λ i has. record { bit = contains_all c.args.a.0 c.args.b.0 (omega arith) (omega arith) none i has.bit },
  λ within.
      let none : bit_and c.args.b.0 (18446744073709551615 - c.args.a.0) ≡ 0 =
      contains_none c.args.a.0 c.args.b.0 (omega arith) (omega arith) (λ i one. (within i (record { bit = one })).bit) in
      eq-eqb _ 0 none,
)
