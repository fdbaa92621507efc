use Rattle.std.proofs.Common.{◌≡◌, ◌<◌, ◌≤◌, length, insert, drop, take, sym, subst, ◌∙◌}
use Rattle.std.proofs.lemmas.Bool.{false≢true}
use Rattle.wt_bag.specs.Bags.{Each}
use Rattle.wt_bag.specs.Choices.{Has}
use Rattle.wt_cores.specs.SetLists.{Ascending, Gains}
use Rattle.wt_cores.proofs.Orders.{inserted_gains, inserted_ascending}
use Rattle.wt_cores.proofs.ordered.insert.Goals as goal

pub returns-clause-sets : goal.returns-clause-sets
returns-clause-sets c =
    let new : c.insert.new.self.items ≡ insert c.args.sets.now.items c.count_below-at.result c.args.set = c.in_ok-insert.ensures.items in
    subst (λ xs. Gains c.args.sets.now.items xs (λ s. s ≡ c.args.set)) (sym new) (inserted_gains c.args.set c.args.sets.now.items c.count_below-at.result)

pub returns-clause-ascending : goal.returns-clause-ascending
returns-clause-ascending c =
    let new : c.insert.new.self.items ≡ insert c.args.sets.now.items c.count_below-at.result c.args.set = c.in_ok-insert.ensures.items in
    let none : Has c.args.set c.deref.result.now → ⊥ = λ h. false≢true (sym c.if-is_among.false ∙ c.is_among.ensures.1 h) in
    subst Ascending (sym new)
    (inserted_ascending c.args.set c.args.sets.now.items c.count_below-at.result (subst (λ xs. c.count_below-at.result ≤ length xs) c.deref-2.ensures.value c.count_below-at.ensures.within)
    (λ h. none (subst (Has c.args.set) (sym c.deref.ensures.value) h))
    (subst (λ xs. Each (λ s. s.0 < c.args.set.0) (take c.count_below-at.result xs)) c.deref-2.ensures.value c.count_below-at.ensures.before)
    (subst (λ xs. Each (λ s. c.args.set.0 ≤ s.0) (drop c.count_below-at.result xs)) c.deref-2.ensures.value c.count_below-at.ensures.after) c.requires)
