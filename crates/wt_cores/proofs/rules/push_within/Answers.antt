use Rattle.std.proofs.Common.{ℕ, ◌≡◌, ◌≤◌, ◌<◌, subst, sym, arith}
use Rattle.wt_constraint.specs.declared.set.AtomSet.{AtomSet}
use Rattle.wt_cores.specs.Cores.{missing}
use Rattle.wt_cores.proofs.Gaining.{gains_none, gains_said}
use Rattle.wt_cores.proofs.rules.push_within.Goals as goal

pub returns-then-left_out-depth-clause-gains : goal.returns-then-left_out-depth-clause-gains
returns-then-left_out-depth-clause-gains c = gains_none c.args.rules.now.items (λ s. (s ≡ c.args.set) × (missing 64 c.args.all s ≤ c.args.depth)) (λ s q. too_many s q.0 q.1)
  where
    over : (n d : ℕ) → n ≤ d → d < n → ⊥
    over n d a b = omega (arith, a, b)

    too_many : (s : AtomSet) → s ≡ c.args.set → missing 64 c.args.all s ≤ c.args.depth → ⊥
    too_many s e l = over (missing 64 c.args.all c.args.set) c.args.depth (subst (λ t. missing 64 c.args.all t ≤ c.args.depth) e l) (subst (λ n. c.args.depth < n) c.left_out.ensures c.if-left_out-depth.true)

pub returns-clause-gains : goal.returns-clause-gains
returns-clause-gains c =
    let few : missing 64 c.args.all c.args.set ≤ c.args.depth = subst (λ n. n ≤ c.args.depth) c.left_out.ensures c.if-left_out-depth.false in
    gains_said c.args.rules.now.items c.insert.new.sets.items (λ s. s ≡ c.args.set) (λ s. (s ≡ c.args.set) × (missing 64 c.args.all s ≤ c.args.depth))
    (λ s e. (e, subst (λ t. missing 64 c.args.all t ≤ c.args.depth) (sym e) few)) (λ s q. q.0) c.in_ok-insert.ensures.sets
