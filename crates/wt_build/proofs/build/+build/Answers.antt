use Rattle.std.proofs.Common.{rules, arith, ◌≡◌, ◌≤◌, ◌+◌, ◌-◌, ◌++◌, [], ◌∷◌, map, length, None, Vec, Global, refl, ap, sym, subst, ◌∙◌}
use Rattle.wt_ast.specs.Tree.{query_tree, from_tree, condition_tree, comma, in_query}
use Rattle.wt_ast.specs.declared.tree.FromPart as from_parts
use Rattle.wt_ast.specs.declared.tree.Query as queries
use Rattle.wt_ast.specs.declared.tree.Query.{Query, out-Query}
use Rattle.wt_query_rows.specs.Scopes.{scope_of}
use Rattle.wt_query_plan.specs.Building as spec
use Rattle.wt_query_plan.specs.Faults as faults
use Rattle.wt_query_plan.specs.Faults.{first_of, conjunct_places}
use Rattle.wt_query_plan.specs.Telling.{Tells}
use Rattle.wt_query_plan.proofs.Faultless.{neither, as_many}
use Rattle.wt_query_bounds.proofs.Clauses.{even_all}
use Rattle.wt_plan.specs.Tree.{plan_tree}
use Rattle.wt_resolve.specs.Scoping.{outside, inside, outer_columns}
use Rattle.wt_conjunct.specs.declared.stack.Conjunct.{Conjunct}
use Rattle.wt_conjunct.specs.Views.{conjunct_trees}
use Rattle.wt_joins.specs.Parts.{part_tree}
use Rattle.wt_query_bounds.specs.Bounds.{items_in_from}
use Rattle.wt_sources.specs.declared.leaves.Leaves.{Leaves}
use Rattle.wt_sources.specs.Sources.{leaves_tree, Adds}
use Rattle.wt_clause.specs.Items.{aliases, items_of, leaves_of, fork}
use Rattle.wt_clause.specs.Lists.{from_operand, first_operand, later_operands, commas_of, IsList}
use Rattle.wt_clause.specs.Walking.{from_of, Ready}
use Rattle.wt_clause.proofs.Finishing.{list_narrow, list_within}
use Rattle.wt_clause.proofs.Joined.{part_wide, part_within}
use Rattle.wt_clause.proofs.Walks.{seen_inside, seen_narrow, seen_width, comma_halves}
use Rattle.wt_from.specs.Joins.{padded_by, joined_operand, join_fault}
use Rattle.wt_from.proofs.Telling.{way_out, told_then}
use Rattle.wt_build.specs.Walk.{on_fault}
use Rattle.wt_build.proofs.Steps.{told_as, counted_by, each_as, few_and_halves, join_told, from_is, few_two, one_of_three, one_of_four, added_twice, next_fault, few_in_filter, filter_some, ready_clause, both_narrow, on_same, on_is, single_is, longer_is, member_same}
use Rattle.wt_build.proofs.build.+build.Goals as goal

pub built_query-planned-requires : goal.built_query-planned-requires
built_query-planned-requires t c =
    let q : Query = c.args.q.now in
    let S = c.args.schema.now.tables in
    let told = c.in_ok-leaves.ensures in
    let items : c.deref.result.now ≡ items_of S (from_tree (out-Query q).from) = search rules in
    let kinds : c.deref-2.result.now ≡ faults.kinds_of S (from_tree (out-Query q).from) = search rules in
    let none : faults.from_fault S (outer_columns S c.args.outer.now) [] (from_tree (out-Query q).from) ≡ None = search rules in
    let ready = ready_clause c.args.q.now (record { schema = c.args.schema; outer = record { ref_ptr = c.args.outer.ref_ptr; now = c.args.outer.now }; items = c.deref.result; kinds = c.deref-2.result }) (outer_columns S c.args.outer.now) (leaves_tree c.in_ok-leaves.leaves) c.args.schema.now.lawful c.requires.small none told.1.0 items kinds in
    search (rules, arith, ready)

pub gather-gather_two-requires : goal.gather-gather_two-requires
gather-gather_two-requires t c =
    let two = few_two (from_tree c.in-Inner.left.value) (from_tree c.in-Inner.right.value) in
    one_of_four c.in-Inner.is
    (λ e. let small = two _ (subst (λ f. items_in_from f ≤ 256) (ap from_tree e.2) c.requires.small) in search (rules, arith, from_parts.the_lemmas, e.2, small))
    (λ e. let small = two _ (subst (λ f. items_in_from f ≤ 256) (ap from_tree e.2) c.requires.small) in search (rules, arith, from_parts.the_lemmas, e.2, small))
    (λ e. let small = two _ (subst (λ f. items_in_from f ≤ 256) (ap from_tree e.2) c.requires.small) in search (rules, arith, from_parts.the_lemmas, e.2, small))
    (λ e. let small : items_in_from (from_tree c.in-Inner.left.value) + items_in_from (from_tree c.in-Inner.right.value) ≤ 256 = subst (λ f. items_in_from f ≤ 256) (ap from_tree e.1) c.requires.small in search (rules, arith, from_parts.the_lemmas, e.1, small))

pub gather-returns-in-Table : goal.gather-returns-in-Table
gather-returns-in-Table t c =
    let S = c.args.schema.now.tables in
    let outer = outer_columns S c.args.outer.now in
    let old = c.args.out.now in
    subst (λ f. Tells (faults.from_fault S outer (aliases old.items.items) f) (λ leaves. (leaves_tree leaves ≡ leaves_of S f) × Adds (items_of S f) (faults.kinds_of S f) old c.table_leaf.new.out) c.table_leaf.result)
    (sym (ap from_tree c.in-Table.is)) c.table_leaf.ensures

pub gather_two-returns-in_err-other : goal.gather_two-returns-in_err-other
gather_two-returns-in_err-other t c =
    let S = c.args.schema.now.tables in
    let one = c.in_ok-one.ensures in
    way_out {T = Leaves} _ _ (λ leaves. (leaves_tree leaves ≡ leaves_of S (from_tree c.args.right.now)) × Adds (items_of S (from_tree c.args.right.now)) (faults.kinds_of S (from_tree c.args.right.now)) c.gather.new.out c.gather-2.new.out) _ c.in_err-other.field-0.0 c.from_residual-in_err-other.result
    (next_fault S (outer_columns S c.args.outer.now) (from_tree c.args.left.now) (from_tree c.args.right.now) c.args.out.now.items.items c.gather.new.out.items.items one.0 one.1.1.0)
    c.from_residual-in_err-other.ensures.1 c.in_err-other.ensures

pub gather_two-returns : goal.gather_two-returns
gather_two-returns t c =
    let S = c.args.schema.now.tables in
    let l = from_tree c.args.left.now in
    let r = from_tree c.args.right.now in
    let old = c.args.out.now in
    let mid = c.gather.new.out in
    let one = c.in_ok-one.ensures in
    let other = c.in_ok-other.ensures in
    let a : c.len.result ≡ length mid.items.items = search rules in
    let b : c.len-items.result ≡ length old.items.items = search rules in
    let d : c.len-2.result ≡ length mid.kinds.items = search rules in
    let e : c.len-columns.result ≡ length old.kinds.items = search rules in
    let items : c.len.result - c.len-items.result ≡ length (items_of S l) = counted_by old.items.items (items_of S l) mid.items.items _ _ a b one.1.1.0 in
    let columns : c.len-2.result - c.len-columns.result ≡ length (faults.kinds_of S l) = counted_by old.kinds.items (faults.kinds_of S l) mid.kinds.items _ _ d e one.1.1.1 in (
      sym (next_fault S (outer_columns S c.args.outer.now) l r old.items.items mid.items.items one.0 one.1.1.0) ∙ other.0,
      (
        c.in_ok-two_leaves.ensures ∙ (λ i. fork (one.1.0 i) (other.1.0 i) (items i) (columns i)),
        (added_twice old.items.items mid.items.items _ (items_of S l) (items_of S r) one.1.1.0 other.1.1.0, added_twice old.kinds.items mid.kinds.items _ (faults.kinds_of S l) (faults.kinds_of S r) one.1.1.1 other.1.1.1),
      ),
    )

pub joined-resolved-requires : goal.joined-resolved-requires
joined-resolved-requires t c =
    let narrow = both_narrow c.args.scope.now (from_tree c.args.left.now) (from_tree c.args.right.now) (leaves_tree c.args.leaves) c.requires.halves in
    search (rules, arith, narrow)

pub joined-returns-in_err-conjuncts : goal.joined-returns-in_err-conjuncts
joined-returns-in_err-conjuncts t c =
    let scope = c.args.scope.now in
    let S = scope.schema.now.tables in
    way_out {T = Vec Conjunct Global} _ _ (λ js. conjunct_trees js.items ≡ spec.conjuncts S (inside scope) (condition_tree c.args.on.now)) _ c.in_err-conjuncts.field-0.0 c.from_residual-in_err-conjuncts.result
    (on_same scope (from_tree c.args.left.now) (from_tree c.args.right.now) (leaves_tree c.args.leaves) c.requires.halves (outside scope) (scope_of S (from_tree c.args.block.now)) (condition_tree c.args.on.now) c.in_ok-one.ensures.0)
    c.from_residual-in_err-conjuncts.ensures.1 c.in_err-conjuncts.ensures

pub joined-returns : goal.joined-returns
joined-returns t c =
    let scope = c.args.scope.now in
    let S = scope.schema.now.tables in
    let l = from_tree c.args.left.now in
    let r = from_tree c.args.right.now in
    let on = condition_tree c.args.on.now in
    let one = c.in_ok-one.ensures in
    let js = c.in_ok-conjuncts.ensures in (
      sym (on_same scope l r (leaves_tree c.args.leaves) c.requires.halves (outside scope) (scope_of S (from_tree c.args.block.now)) on one.0) ∙ js.0,
      (one.1.0, one.1.1, js.1 ∙ on_is scope l r (leaves_tree c.args.leaves) c.requires.halves on),
    )

pub kept-resolved-requires : goal.kept-resolved-requires
kept-resolved-requires t c =
    let few = few_in_filter c.args.q.now c.in-Some.c c.in-Some.is c.requires.small in
    let narrow = seen_narrow c.args.scope.now (from_of (query_tree c.args.q.now)) c.requires.seen in
    search (rules, arith, queries.the_lemmas, c.in-Some.is, few, narrow)

pub kept-returns-in-Some : goal.kept-returns-in-Some
kept-returns-in-Some t c =
    let scope = c.args.scope.now in
    let S = scope.schema.now.tables in
    let q : Query = c.args.q.now in
    let f = from_of (query_tree c.args.q.now) in
    let is = filter_some c.args.q.now c.in-Some.c c.in-Some.is in
    let head = seen_inside scope f c.requires.seen in
    told_as _ _ _ _ c.resolved.result
    ((λ i. faults.cond_fault S (outside scope) (scope_of S (sym (from_is q) i)) (head i) (c.requires.seen.kinds i) (condition_tree c.in-Some.c)) ∙ ap (faults.filter_fault S (outside scope) (scope_of S f) (faults.kinds_of S f)) (sym is))
    (λ js e. e ∙ ap (λ h. spec.conjuncts S h (condition_tree c.in-Some.c)) head ∙ ap (spec.kept_by S (scope_of S f)) (sym is))
    c.resolved.ensures

pub listed-joined-requires : goal.listed-joined-requires
listed-joined-requires t c =
    let on = condition_tree c.in-Inner.on in
    let both = few_and_halves c.args.scope.now (from_tree c.args.from.now) (from_tree c.in-Inner.left.value) (from_tree c.in-Inner.right.value) on c.in-Inner.on_at (leaves_tree c.args.leaves) (each_as from_tree c.in-Inner.is) c.requires.ready in
    search (rules, arith, from_parts.the_lemmas, both)

pub listed-join_list-requires-clause-narrow : goal.listed-join_list-requires-clause-narrow
listed-join_list-requires-clause-narrow t c =
    let both = few_and_halves c.args.scope.now (from_tree c.args.from.now) (from_tree c.in-Inner.left.value) (from_tree c.in-Inner.right.value) (condition_tree c.in-Inner.on) c.in-Inner.on_at (leaves_tree c.args.leaves) (each_as from_tree c.in-Inner.is) c.requires.ready in
    part_wide c.args.scope.now.schema.now.tables (from_tree c.in-Inner.left.value) (from_tree c.in-Inner.right.value) (part_tree c.in_ok-one-in-Inner.one) (part_tree c.in_ok-one-in-Inner.other) (search rules) (search rules) both.1.narrow

pub listed-join_list-requires-clause-left : goal.listed-join_list-requires-clause-left
listed-join_list-requires-clause-left t c = part_within c.args.scope.now.schema.now.tables (from_tree c.in-Inner.left.value) (part_tree c.in_ok-one-in-Inner.one) (search rules)

pub listed-join_list-requires-clause-right : goal.listed-join_list-requires-clause-right
listed-join_list-requires-clause-right t c = part_within c.args.scope.now.schema.now.tables (from_tree c.in-Inner.right.value) (part_tree c.in_ok-one-in-Inner.other) (search rules)

pub listed-join_list-requires-clause-many : goal.listed-join_list-requires-clause-many
listed-join_list-requires-clause-many t c =
    let S = c.args.scope.now.schema.now.tables in
    let scope = scope_of S (from_tree c.in-Inner.left.value) ++ scope_of S (from_tree c.in-Inner.right.value) in
    let js : conjunct_trees c.in_ok-one-in-Inner.conjuncts.items ≡ spec.conjuncts S scope (condition_tree c.in-Inner.on) = search rules in
    as_many S scope (condition_tree c.in-Inner.on) ∙ ap length (sym js)

pub listed-operands-requires : goal.listed-operands-requires
listed-operands-requires t c =
    let ready = subst (λ f. Ready f c.args.scope.now (leaves_tree c.args.leaves)) (ap from_tree c.in-Comma.is) c.requires.ready in
    let both = comma_halves c.args.scope.now (from_tree c.in-Comma.left.value) (from_tree c.in-Comma.right.value) c.in-Comma.comma_at (leaves_tree c.args.leaves) ready in
    search (rules, arith, from_parts.the_lemmas, both)

pub listed-overflow_cast-comma : goal.listed-overflow_cast-comma
listed-overflow_cast-comma t c =
    let S = c.args.scope.now.schema.now.tables in
    let l = from_tree c.in-Comma.left.value in
    let ready = subst (λ f. Ready f c.args.scope.now (leaves_tree c.args.leaves)) (ap from_tree c.in-Comma.is) c.requires.ready in
    let both = comma_halves c.args.scope.now l (from_tree c.in-Comma.right.value) c.in-Comma.comma_at (leaves_tree c.args.leaves) ready in
    let many : c.in_ok-list-in-Comma.columns ≡ length (faults.kinds_of S l) = search rules in
    let wide = even_all S l both.even_left in
    omega (arith, many, wide, both.narrow)

pub listed-overflow_cast-comma-in-Comma : goal.listed-overflow_cast-comma-in-Comma
listed-overflow_cast-comma-in-Comma t c =
    let wide = seen_width c.args.scope.now (from_tree c.args.from.now) c.requires.ready.seen in
    omega (arith, wide, c.requires.ready.seen.narrow)

pub listed-returns-in_err-one-in-Inner : goal.listed-returns-in_err-one-in-Inner
listed-returns-in_err-one-in-Inner t c =
    one_of_three c.in-Inner.is
    (λ e. let tree = ap from_tree e in search (rules, arith, from_parts.the_lemmas, e, tree))
    (λ e. let tree = ap from_tree e in search (rules, arith, from_parts.the_lemmas, e, tree))
    (λ e. let tree = ap from_tree e in search (rules, arith, from_parts.the_lemmas, e, tree))

pub listed-returns-in_ok-one-in-Inner : goal.listed-returns-in_ok-one-in-Inner
listed-returns-in_ok-one-in-Inner t c =
    let scope = c.args.scope.now in
    let S = scope.schema.now.tables in
    let l = from_tree c.in-Inner.left.value in
    let r = from_tree c.in-Inner.right.value in
    let on = condition_tree c.in-Inner.on in
    let block = scope_of S (from_tree c.args.block.now) in
    let none : on_fault S (outside scope) block l r on ≡ None = search rules in
    let side : c.padded.result ≡ padded_by (from_tree c.args.from.now) = search rules in
    let both = neither _ _ none in
    join_told S (outside scope) block l r on c.in-Inner.on_at (conjunct_trees c.in_ok-one-in-Inner.conjuncts.items) (part_tree c.in_ok-one-in-Inner.one) (part_tree c.in_ok-one-in-Inner.other) c.join_list.result
    both.0 both.1 (search rules) (search rules) (search rules) (from_tree c.args.from.now) (each_as from_tree c.in-Inner.is)
    (subst (λ p. Tells (join_fault p (length c.in_ok-one-in-Inner.one.places.items) (conjunct_trees c.in_ok-one-in-Inner.conjuncts.items) (conjunct_places on) c.in-Inner.on_at) (IsList (joined_operand p (conjunct_trees c.in_ok-one-in-Inner.conjuncts.items) (part_tree c.in_ok-one-in-Inner.one) (part_tree c.in_ok-one-in-Inner.other)) [] []) c.join_list.result) side c.join_list.ensures)

pub listed-returns-in_ok-list-in-Comma : goal.listed-returns-in_ok-list-in-Comma
listed-returns-in_ok-list-in-Comma t c =
    let scope = c.args.scope.now in
    let S = scope.schema.now.tables in
    let l = from_tree c.in-Comma.left.value in
    let r = from_tree c.in-Comma.right.value in
    let block = scope_of S (from_tree c.args.block.now) in
    let ready = subst (λ f. Ready f scope (leaves_tree c.args.leaves)) (ap from_tree c.in-Comma.is) c.requires.ready in
    let both = comma_halves scope l r c.in-Comma.comma_at (leaves_tree c.args.leaves) ready in
    let none : first_of (faults.joins_fault S (outside scope) block l) (faults.joins_fault S (outside scope) block r) ≡ None = search rules in
    let list : IsList (first_operand S l) (later_operands S l) (commas_of S l) c.in_ok-list-in-Comma.list = search rules in
    let part : part_tree c.in_ok-list-in-Comma.other ≡ from_operand S r = search rules in
    let many : c.in_ok-list-in-Comma.columns ≡ length (faults.kinds_of S l) = search rules in
    subst (λ f. Tells (faults.joins_fault S (outside scope) block f) (IsList (first_operand S f) (later_operands S f) (commas_of S f)) c.longer.result) (sym (ap from_tree c.in-Comma.is))
    (told_then _ _ _ _ c.longer.result refl none
    (λ new h. longer_is S l r c.in-Comma.comma_at c.in_ok-list-in-Comma.list new (part_tree c.in_ok-list-in-Comma.other) c.in_ok-list-in-Comma.columns (length scope.kinds.now) list part (many ∙ even_all S l both.even_left) (seen_width scope (comma l r c.in-Comma.comma_at) ready.seen) h)
    c.longer.ensures)

pub operand-single-requires-clause-narrow : goal.operand-single-requires-clause-narrow
operand-single-requires-clause-narrow t c = list_narrow c.args.scope.now.schema.now.tables (from_tree c.args.from.now) c.in_ok-list.list c.in_ok-list.ensures.1 c.requires.ready.seen.narrow

pub operand-single-requires-clause-within : goal.operand-single-requires-clause-within
operand-single-requires-clause-within t c = list_within c.args.scope.now.schema.now.tables (from_tree c.args.from.now) c.in_ok-list.list c.in_ok-list.ensures.1

pub operand-returns : goal.operand-returns
operand-returns t c =
    told_then _ _ _ _ c.single.result refl c.in_ok-list.ensures.0 (λ p e. e ∙ single_is c.args.scope.now.schema.now.tables (from_tree c.args.from.now) c.in_ok-list.list c.in_ok-list.ensures.1) c.single.ensures

pub push_conjuncts-returns-in_ok-built-in-InQuery : goal.push_conjuncts-returns-in_ok-built-in-InQuery
push_conjuncts-returns-in_ok-built-in-InQuery t c =
    let scope = c.args.scope.now in
    let S = scope.schema.now.tables in
    let block = scope_of S (from_tree c.args.block.now) in
    let q = query_tree c.in-InQuery.query.value in
    let columns = c.in-InQuery.columns in
    let tree : condition_tree c.args.c.now ≡ in_query c.args.c.now.at columns q c.in-InQuery.at = ap (λ k. condition_tree (record { at = c.args.c.now.at; kind = k })) c.in-InQuery.is in
    let none : faults.columns_fault (outside scope) (inside scope) columns ≡ None = search rules in
    let cols : c.in_ok-cols-in-InQuery.cols ≡ map (spec.place_of (inside scope)) columns = search rules in
    let outer : outer_columns S c.deref.result.now ≡ outside scope ++ block = ap (outer_columns S) c.deref.ensures.value ∙ c.in_ok-clauses-in-InQuery.ensures S in
    let built = c.in_ok-built-in-InQuery.ensures in
    let known : faults.query_fault S (outside scope ++ block) q ≡ None = ap (λ o. faults.query_fault S o q) (sym outer) ∙ search rules in
    let kinds : c.in_ok-built-in-InQuery.built.kinds.items ≡ faults.output_kinds S q = search rules in
    let plan : plan_tree c.in_ok-built-in-InQuery.built.plan ≡ spec.planned S q = search rules in
    let old = conjunct_trees c.args.out.now.items in
    told_as _ _ _ _ c.push_member.result
    (member_same S (outside scope) block (inside scope) scope.kinds.now c.args.c.now.at columns q c.in-InQuery.at c.in_ok-cols-in-InQuery.cols c.in_ok-built-in-InQuery.built.kinds.items cols kinds none known ∙ ap (faults.cond_fault S (outside scope) block (inside scope) scope.kinds.now) (sym tree))
    (λ x e. e ∙ (λ i. old ++ spec.is_in (cols i) (plan i) ∷ []) ∙ ap (λ d. old ++ spec.conjuncts S (inside scope) d) (sym tree))
    c.push_member.ensures
