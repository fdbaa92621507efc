use Rattle.std.proofs.Common.{◌∙◌, ◌++◌, [], ◌∷◌, ap, sym, rules, false}
use Rattle.wt_ast.specs.Tree.{from_tree, condition_tree}
use Rattle.wt_ast.specs.Private.{from_back}
use Rattle.wt_ast.specs.Marks as spec
use Rattle.wt_ast.specs.declared.tree.FromPart.{the_lemmas}
use Rattle.wt_ast.proofs.Lists.{joined_behind, one_of_three}
use Rattle.wt_ast.proofs.marks.+marks.Goals as goal

pub add_from-joins-preserved-in-Comma-1 : goal.add_from-joins-preserved-in-Comma-1
add_from-joins-preserved-in-Comma-1 t c =
    record {
      smaller = search (rules, the_lemmas);
      same = c.joins.invariant.same;
      marks =
          ap (λ f. spec.marks_in_from (from_tree f) ++ from_back c.push.new.self.items) c.deref-part.ensures
          ∙ joined_behind (spec.marks_in_from (from_tree c.in-Comma.left.value)) (spec.marks_in_from (from_tree c.in-Comma.right.value))
          c.joins.behind.items c.push.new.self.items
          (c.in_ok-push-in-Comma.ensures.items ∙ ap (λ m. c.joins.behind.items ++ m ∷ [])
          (c.from_vec.ensures ∙ c.in_ok-add_from-in-Comma.ensures
          ∙ (λ i. c.new-listed.ensures.items i ++ spec.marks_in_from (from_tree (c.deref-in-Comma.ensures i)))))
          ∙ ap (λ x. spec.marks_in_from (from_tree x) ++ from_back c.joins.behind.items) (sym c.in-Comma.is)
          ∙ c.joins.invariant.marks;
    }

pub add_from-joins-preserved : goal.add_from-joins-preserved
add_from-joins-preserved t c =
    record {
      smaller = one_of_three c.in-Inner.is (λ e. search (rules, the_lemmas, e.1)) (λ e. search (rules, the_lemmas, e.1)) (λ e. search (rules, the_lemmas, e.1));
      same = c.joins.invariant.same;
      marks =
          ap (λ f. spec.marks_in_from (from_tree f) ++ from_back c.push-in-Inner.new.self.items) c.deref-part-in-Inner.ensures
          ∙ joined_behind (spec.marks_in_from (from_tree c.in-Inner.left.value))
          (spec.marks_in_from (from_tree c.in-Inner.right.value) ++ spec.marks_in_cond false (condition_tree c.in-Inner.on))
          c.joins.behind.items c.push-in-Inner.new.self.items
          (c.in_ok-push-in-Inner.ensures.items ∙ ap (λ m. c.joins.behind.items ++ m ∷ [])
          (c.from_vec-in-Inner.ensures ∙ c.in_ok-add_condition-in-Inner.ensures
          ∙ ap (λ l. l ++ spec.marks_in_cond false (condition_tree c.in-Inner.on)) (c.in_ok-add_from-in-Inner.ensures
          ∙ (λ i. c.new-joined.ensures.items i ++ spec.marks_in_from (from_tree (c.deref-in-Inner.ensures i))))))
          ∙ sym (ap (λ l. l ++ from_back c.joins.behind.items) (one_of_three c.in-Inner.is (λ e. ap (λ p. spec.marks_in_from (from_tree p)) e.1)
          (λ e. ap (λ p. spec.marks_in_from (from_tree p)) e.1) (λ e. ap (λ p. spec.marks_in_from (from_tree p)) e.1)))
          ∙ c.joins.invariant.marks;
    }
