use Rattle.std.proofs.Common.{◌≡◌, ◌≤◌, ◌==◌, [], ◌∷◌, inl, inr, true, eq-eqb, sym, subst}
use Rattle.wt_bag.specs.Choices.{Has}
use Rattle.wt_cores.specs.Cores.{missing}
use Rattle.wt_cores.proofs.Gaining.{gains_said}
use Rattle.wt_board.specs.Knowledge.{core_before}
use Rattle.wt_board.proofs.rules.add_core.Goals as goal

pub returns-clause-gains : goal.returns-clause-gains
returns-clause-gains c =
    let eq : (c.args.entry.pair == c.args.pair) ≡ true = eq-eqb c.args.entry.pair c.args.pair c.if-entry-pair.false in
    let here : core_before (c.args.entry.pair == c.args.pair) c.args.entry.verdict [] ≡ c.in-Proved.core ∷ [] = λ i. core_before (eq i) (c.in-Proved.is i) [] in
    let few : missing 64 c.args.all c.in-Proved.core ≤ c.args.depth = subst (λ n. n ≤ c.args.depth) c.left_out.ensures c.if-left_out-depth.false in
    gains_said c.args.cores.now.items c.insert.new.sets.items (λ s. s ≡ c.in-Proved.core) (λ s. Has s (core_before (c.args.entry.pair == c.args.pair) c.args.entry.verdict []) × (missing 64 c.args.all s ≤ c.args.depth))
    (λ s e. (subst (Has s) (sym here) (inl e), subst (λ t. missing 64 c.args.all t ≤ c.args.depth) (sym e) few)) (λ s q. elim (subst (Has s) here q.0) [ inl e ↦ e | inr none ↦ absurd none ]) c.in_ok-insert.ensures.sets
