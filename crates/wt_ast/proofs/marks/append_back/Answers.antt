use Rattle.std.proofs.Common.{◌∙◌, ◌++◌, ap, sym, append_assoc}
use Rattle.wt_ast.specs.Private.{from_back}
use Rattle.wt_ast.proofs.Lists.{from_back_last}
use Rattle.wt_ast.proofs.marks.append_back.Goals as goal

pub lists-preserved : goal.lists-preserved
lists-preserved c =
    (λ i. (c.in_ok-extend_from_slice.ensures.items ∙ ap (λ l. c.lists.out.items ++ l) c.as_slice.ensures) i ++ from_back c.pop.new.self.items)
    ∙ append_assoc c.lists.out.items c.in-Some.list (from_back c.pop.new.self.items)
    ∙ ap (λ l. c.lists.out.items ++ l) (sym (from_back_last c.pop.new.self.items c.in-Some.list) ∙ ap from_back (sym c.in-Some.ensures.items))
    ∙ c.lists.invariant
