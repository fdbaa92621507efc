-- The conjuncts of a condition: none is a run of AND, and their marks are those of the condition.
use Rattle.std.proofs.Common.{◌≡◌, List, [], ◌∷◌, ◌++◌, false, true, refl, ap, sym, ◌∙◌, append_assoc, append-nil}
use Rattle.std.specs.List.{AllByRecursion}
use Rattle.wt_ast.specs.declared.marks.Mark.{Mark}
use Rattle.wt_ast.specs.declared.marks.Marked.TheVariants.{Conjunct}
use Rattle.wt_ast.specs.Conjuncts.{conjuncts, conjuncts_of, IsNoAnd}
use Rattle.wt_ast.specs.Marks.{mark, marks, marks_in_cond, marks_in_conds, marks_of_each}
use Rattle.wt_ast.specs.Tree.{CondTree, CondTrees, compare, is_null, is_not_null, in_list, in_query, all_of, any_of, negated, no_conds, cond_then, cond_at}

each_append : (P : CondTree → Type 0) (xs ys : List CondTree) → AllByRecursion P xs → AllByRecursion P ys → AllByRecursion P (xs ++ ys)
each_append P [] ys h k = k
each_append P (x ∷ xs) ys h k = (h.0, each_append P xs ys h.1 k)

marks_append : (xs ys : List CondTree) → marks_of_each (xs ++ ys) ≡ marks_of_each xs ++ marks_of_each ys
marks_append [] ys = refl
marks_append (x ∷ xs) ys = ap (λ l. marks_in_cond false x ++ l) (marks_append xs ys) ∙ sym (append_assoc (marks_in_cond false x) (marks_of_each xs) (marks_of_each ys))

mutual
  pub none_is_and : (c : CondTree) → AllByRecursion IsNoAnd (conjuncts c)
  none_is_and (compare at c a b word_at) = (tt, tt)
  none_is_and (is_null at column) = (tt, tt)
  none_is_and (is_not_null at column) = (tt, tt)
  none_is_and (in_list at column values word_at) = (tt, tt)
  none_is_and (in_query at columns query word_at) = (tt, tt)
  none_is_and (all_of at parts) = none_of_them_is_and parts
  none_is_and (any_of at parts) = (tt, tt)
  none_is_and (negated at c) = (tt, tt)

  none_of_them_is_and : (cs : CondTrees) → AllByRecursion IsNoAnd (conjuncts_of cs)
  none_of_them_is_and no_conds = tt
  none_of_them_is_and (cond_then c rest) = each_append IsNoAnd (conjuncts c) (conjuncts_of rest) (none_is_and c) (none_of_them_is_and rest)

mutual
  pub their_marks : (c : CondTree) → marks_in_cond false c ≡ marks_of_each (conjuncts c)
  their_marks (compare at c a b word_at) = refl
  their_marks (is_null at column) = refl
  their_marks (is_not_null at column) = refl
  their_marks (in_list at column values word_at) = refl
  their_marks (in_query at columns query word_at) = sym (append-nil (mark Conjunct at ∷ marks query))
  their_marks (all_of at parts) = marks_of_them parts
  their_marks (any_of at parts) = sym (append-nil (mark Conjunct at ∷ marks_in_conds true parts))
  their_marks (negated at c) = sym (append-nil (mark Conjunct at ∷ marks_in_cond true c))

  marks_of_them : (cs : CondTrees) → marks_in_conds false cs ≡ marks_of_each (conjuncts_of cs)
  marks_of_them no_conds = refl
  marks_of_them (cond_then c rest) =
      (λ i. their_marks c i ++ marks_of_them rest i) ∙ sym (marks_append (conjuncts c) (conjuncts_of rest))

pub one_conjunct : (c : CondTree) → IsNoAnd c → conjuncts c ≡ c ∷ []
one_conjunct (compare at c a b word_at) h = refl
one_conjunct (is_null at column) h = refl
one_conjunct (is_not_null at column) h = refl
one_conjunct (in_list at column values word_at) h = refl
one_conjunct (in_query at columns query word_at) h = refl
one_conjunct (all_of at parts) h = absurd h
one_conjunct (any_of at parts) h = refl
one_conjunct (negated at c) h = refl

pub marked_first : (c : CondTree) → IsNoAnd c → (ms : List Mark) × (marks_in_cond false c ≡ mark Conjunct (cond_at c) ∷ ms)
marked_first (compare at c a b word_at) h = ([], refl)
marked_first (is_null at column) h = ([], refl)
marked_first (is_not_null at column) h = ([], refl)
marked_first (in_list at column values word_at) h = ([], refl)
marked_first (in_query at columns query word_at) h = (marks query, refl)
marked_first (all_of at parts) h = absurd h
marked_first (any_of at parts) h = (marks_in_conds true parts, refl)
marked_first (negated at c) h = (marks_in_cond true c, refl)
