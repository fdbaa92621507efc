-- The plan of a query without a fault has its columns in range; so it may be placed.
use Rattle.std.proofs.Common.{◌≡◌, ℕ, zero, suc, ◌+◌, ◌-◌, ◌<◌, ◌≤◌, nat_eq, Bool, true, false, ◌&&◌, not, cond, List, [], ◌∷◌, ◌++◌, map, length, length-append, get_or, filter, None, refl, sym, ap, subst, ◌∙◌, arith}
use Rattle.std.specs.List.{list_any}
use Rattle.wt_bag.specs.Bags.{OneBag, Each, distinct}
use Rattle.wt_bag.proofs.BagLaws.{one_bag}
use Rattle.wt_bag.proofs.EachLaws.{each_implies, each_both, each_append, each_map, each_filter, each_distinct}
use Rattle.wt_value.specs.Values.{Tuple, row_same}
use Rattle.wt_pred.specs.declared.tree.Operand.{Operand}
use Rattle.wt_pred.specs.Columns.{occurring, occurring_in, operand_columns, columns, renumbered, all_renumbered, operand_renumbered}
use Rattle.wt_pred.specs.Tree.{PredTree, PredTrees}
use Rattle.wt_pred.specs.Tree as preds
use Rattle.wt_pred.specs.declared.tree.Operand.TheVariants as operands
use Rattle.wt_schema.specs.declared.schema.Table.{Table}
use Rattle.wt_schema.specs.declared.schema.ColKind.{ColKind}
use Rattle.wt_ast.specs.declared.tree.ColumnName.{ColumnName}
use Rattle.wt_ast.specs.declared.tree.Scalar.{Scalar}
use Rattle.wt_ast.specs.declared.tree.Scalar.TheVariants as scalars
use Rattle.wt_query_rows.specs.declared.scope.ScopeColumn.{ScopeColumn}
use Rattle.wt_ast.specs.Tree.{QueryTree, FilterTree, FromTree, CondTree, CondTrees, select, no_filter, filter_by, table, derived, inner_join, left_join, right_join, comma, compare, is_null, is_not_null, in_list, in_query, all_of, any_of, negated, no_conds, cond_then}
use Rattle.wt_query_rows.specs.Scopes.{fits, scope_of, columns_named}
use Rattle.wt_query_rows.specs.Rows.{query_rows}
use Rattle.wt_plan.specs.Tree.{PlanTree}
use Rattle.wt_plan.specs.Rows.{plan_rows}
use Rattle.wt_plan.specs.Measures.{width}
use Rattle.wt_query_plan.specs.Building.{free_of, Conjunct, keeps, is_in, conjunct_columns, conjuncts, all_conjuncts, kept_by, others_of, on_right, at_place, above, stacked, place_of, operand_of, pred_of, preds_of, places_of, planned, from_plan, listed, deduped, is_sole_star, has_right}
use Rattle.wt_query_plan.specs.Faults.{first_of, name_fault, column_fault, columns_fault, scalar_fault, test_fault, tests_fault, query_fault, from_fault, joins_fault, filter_fault, cond_fault, conds_fault, kinds_of}
use Rattle.wt_query_plan.specs.Standing.{RowsFit}
use Rattle.wt_place.specs.Placing.{placed}
use Rattle.wt_place.specs.Keeping.{Fits}
use Rattle.wt_plan.proofs.Upto.{length_map}
use Rattle.wt_query_plan.proofs.CommaLaw.{linked}
use Rattle.wt_query_plan.proofs.QueryLaw.{comma_parts, query_answers, from_operand, known_rows}
use Rattle.wt_query_plan.proofs.Faultless.{neither, faultless, from_stands}
use Rattle.wt_place.proofs.PlaceLaw.{place_same}

found : (scope : List ScopeColumn) (c : ColumnName) → 0 < length (filter (fits c) scope) → place_of scope c < length scope
found [] c l = absurd (let bad : ⊥ = omega (arith, l) in bad)
found (s ∷ scope) c l = here (fits c s) l (found scope c)
  where
    here : (b : Bool) → 0 < length (cond b (s ∷ filter (fits c) scope) (filter (fits c) scope)) → (0 < length (filter (fits c) scope) → place_of scope c < length scope) → cond b 0 (suc (place_of scope c)) < length (s ∷ scope)
    here true l k = omega arith
    here false l k = let m = k l in omega (arith, m)

one_fits : (n : ℕ) (b : Bool) (at : ℕ) → name_fault n b at ≡ None → 0 < n
one_fits zero true at e = cc
one_fits zero false at e = cc
one_fits (suc n) b at e = omega arith

module _ (outer scope : List ScopeColumn) (ks : List ColKind) where
  in_sight : (c : ColumnName) → column_fault outer scope c ≡ None → place_of scope c < length scope
  in_sight c e = found scope c (one_fits (length (filter (fits c) scope)) (list_any (fits c) outer) c.at e)

  all_in_sight : (cs : List ColumnName) → columns_fault outer scope cs ≡ None → Each (λ k. k < length scope) (map (place_of scope) cs)
  all_in_sight [] e = tt
  all_in_sight (c ∷ cs) e = let a = neither (column_fault outer scope c) _ e in (in_sight c a.0, all_in_sight cs a.1)

  operand_in : (s : Scalar) → scalar_fault outer scope s ≡ None → Each (λ k. k < length scope) (operand_columns (operand_of scope s))
  operand_in (scalars.Column c) e = (in_sight c e, tt)
  operand_in (scalars.Literal v at) e = tt

  mutual
    test_in : (c : CondTree) → test_fault outer scope ks c ≡ None → Each (λ k. k < length scope) (occurring (pred_of scope c))
    test_in (compare at sign a b word_at) e =
        let p = neither (scalar_fault outer scope a) _ e in
        let q = neither (scalar_fault outer scope b) _ p.1 in
        each_append (λ k. k < length scope) (operand_columns (operand_of scope a)) (operand_columns (operand_of scope b)) (operand_in a p.0) (operand_in b q.0)
    test_in (is_null at c) e = (in_sight c e, tt)
    test_in (is_not_null at c) e = (in_sight c e, tt)
    test_in (in_list at c vs word_at) e = (in_sight c (neither (column_fault outer scope c) _ e).0, tt)
    test_in (in_query at cs q word_at) e = tt
    test_in (all_of at cs) e = tests_in cs e
    test_in (any_of at cs) e = tests_in cs e
    test_in (negated at c) e = test_in c e

    tests_in : (cs : CondTrees) → tests_fault outer scope ks cs ≡ None → Each (λ k. k < length scope) (occurring_in (preds_of scope cs))
    tests_in no_conds e = tt
    tests_in (cond_then c cs) e =
        let a = neither (test_fault outer scope ks c) _ e in
        each_append (λ k. k < length scope) (occurring (pred_of scope c)) (occurring_in (preds_of scope cs)) (test_in c a.0) (tests_in cs a.1)

-- the columns of a renumbered predicate
module _ (f : ℕ → ℕ) where
  operand_numbers : (o : Operand) → operand_columns (operand_renumbered f o) ≡ map f (operand_columns o)
  operand_numbers (operands.Column k) = refl
  operand_numbers (operands.Constant v) = refl

  map_both : (xs ys : List ℕ) → map f xs ++ map f ys ≡ map f (xs ++ ys)
  map_both [] ys = refl
  map_both (x ∷ xs) ys = ap (λ l. f x ∷ l) (map_both xs ys)

  mutual
    numbers : (p : PredTree) → occurring (renumbered f p) ≡ map f (occurring p)
    numbers (preds.compare c a b) = (λ i. operand_numbers a i ++ operand_numbers b i) ∙ map_both (operand_columns a) (operand_columns b)
    numbers (preds.is_null k) = refl
    numbers (preds.is_not_null k) = refl
    numbers (preds.in_list k vs) = refl
    numbers (preds.all_of ps) = numbers_in ps
    numbers (preds.any_of ps) = numbers_in ps
    numbers (preds.negated p) = numbers p

    numbers_in : (ps : PredTrees) → occurring_in (all_renumbered f ps) ≡ map f (occurring_in ps)
    numbers_in preds.no_preds = refl
    numbers_in (preds.pred_then p ps) = (λ i. numbers p i ++ numbers_in ps i) ∙ map_both (occurring p) (occurring_in ps)

module _ (base : List (List Tuple)) where
  abbrev pub Member : Conjunct → Type 0
  Member (keeps p) = Unit {0}
  Member (is_in cols q) = Fits base q

  abbrev pub ConjunctFits : ℕ → Conjunct → Type 0
  ConjunctFits n j = Each (λ k. k < n) (conjunct_columns j) × Member j

  place_in_range : (places : List ℕ) (n d : ℕ) → Each (λ k. k < n) places → (k : ℕ) → k < length places → get_or places k d < n
  place_in_range [] n d h k l = absurd (let bad : ⊥ = omega (arith, l) in bad)
  place_in_range (p ∷ places) n d h zero l = h.0
  place_in_range (p ∷ places) n d h (suc k) l = place_in_range places n d h.1 k (omega (arith, l))

  mapped_in : (places : List ℕ) → Each (λ k. k < length places) places → (plan : PlanTree) → width plan ≡ length places → (cols : List ℕ) → Each (λ k. k < length places) cols → Each (λ k. k < width plan) (map (at_place places) cols)
  mapped_in places within plan w cols h = each_map (λ k. k < width plan) (at_place places) cols
      (each_implies (λ k. k < length places) (λ k. at_place places k < width plan) cols (λ k l. subst (λ n. at_place places k < n) (sym w) (place_in_range places (length places) (length places) within k l)) h)

  fits_above : (places : List ℕ) → Each (λ k. k < length places) places → (j : Conjunct) → ConjunctFits (length places) j → (plan : PlanTree) → width plan ≡ length places → Fits base plan
      → Fits base (above places j plan) × (width (above places j plan) ≡ length places)
  fits_above places within (keeps p) h plan w f = ((mapped_in places within plan w (columns p) (each_distinct (λ k. k < length places) nat_eq (occurring p) h.0), f), w)
  fits_above places within (is_in cols q) h plan w f = ((mapped_in places within plan w cols h.0, f, h.1), w)

  fits_stacked : (places : List ℕ) → Each (λ k. k < length places) places → (js : List Conjunct) → Each (ConjunctFits (length places)) js → (plan : PlanTree) → width plan ≡ length places → Fits base plan → Fits base (stacked places js plan)
  fits_stacked places within [] h plan w f = f
  fits_stacked places within (j ∷ js) h plan w f = let a = fits_above places within j h.0 plan w f in fits_stacked places within js h.1 (above places j plan) a.1 a.0

  shifted : (n m : ℕ) (cols : List ℕ) → Each (λ k. k < n + m) cols → Each (λ k. n ≤ k) cols → Each (λ k. k < m) (map (λ k. k - n) cols)
  shifted n m [] h l = tt
  shifted n m (k ∷ cols) h l = let a = h.0 in let b = l.0 in (omega (arith, a, b), shifted n m cols h.1 l.1)

  fits_right : (n m : ℕ) (j : Conjunct) → ConjunctFits (n + m) j → Each (λ k. n ≤ k) (conjunct_columns j) → ConjunctFits m (on_right n j)
  fits_right n m (keeps p) h l = (subst (Each (λ k. k < m)) (sym (numbers (λ k. k - n) p)) (shifted n m (occurring p) h.0 l), tt)
  fits_right n m (is_in cols q) h l = (shifted n m cols h.0 l, h.1)

  fits_listed : (b : Bool) (cols : List ℕ) (plan : PlanTree) → Fits base plan → Fits base (listed b cols plan)
  fits_listed true cols plan f = f
  fits_listed false cols plan f = f

  fits_deduped : (b : Bool) (plan : PlanTree) → Fits base plan → Fits base (deduped b plan)
  fits_deduped true plan f = f
  fits_deduped false plan f = f

  module _ (S : List Table) (fit : RowsFit S base) where
    mutual
      pub fits_query : (q : QueryTree) (outer : List ScopeColumn) → query_fault S outer q ≡ None → Fits base (planned S q)
      fits_query (select distinct items from keep) outer e =
          let a = neither (from_fault S outer [] from) _ e in
          let b = neither (joins_fault S outer (scope_of S from) from) _ a.1 in
          let c = neither (filter_fault S outer (scope_of S from) (kinds_of S from) keep) _ b.1 in
          let stands = from_stands S from outer [] (scope_of S from) a.0 b.0 in
          let o = from_operand S base fit from stands in
          let ws = kept_by S (scope_of S from) keep in
          let k = linked S base ws from (comma_parts S base fit from stands) o in
          fits_deduped distinct _ (fits_listed (is_sole_star items && not (has_right from)) _ _
          (fits_stacked (places_of S from) o.within (free_of S from ws)
          (each_filter (ConjunctFits (length (places_of S from))) _ ws (subst (λ n. Each (ConjunctFits n) ws) (sym o.same_length) (fits_filter keep outer (scope_of S from) (kinds_of S from) c.0)))
          (from_plan S ws from) k.planned_width (fits_from from ws outer [] (scope_of S from) a.0 b.0)))

      fits_filter : (k : FilterTree) (outer block : List ScopeColumn) (ks : List ColKind) → filter_fault S outer block ks k ≡ None → Each (ConjunctFits (length block)) (kept_by S block k)
      fits_filter no_filter outer block ks e = tt
      fits_filter (filter_by c) outer block ks e = fits_cond c outer block block ks e

      fits_from : (f : FromTree) (ws : List Conjunct) (outer : List ScopeColumn) (before : List (List ℕ)) (block : List ScopeColumn) → from_fault S outer before f ≡ None → joins_fault S outer block f ≡ None → Fits base (from_plan S ws f)
      fits_from (table name alias at alias_at) ws outer before block e k =
          let is = known_rows S base name (from_stands S (table name alias at alias_at) outer before block e k) in
          subst (Each (λ row. length row ≡ length (columns_named S name))) is (fit name)
      fits_from (derived q alias columns at alias_at) ws outer before block e k = fits_query q outer (neither (query_fault S outer q) _ e).0
      fits_from (comma l r at) ws outer before block e k =
          let a = neither (from_fault S outer before l) _ e in
          let b = neither (joins_fault S outer block l) _ k in
          (fits_from l ws outer before block a.0 b.0, fits_from r [] outer _ block a.1 b.1)
      fits_from (inner_join l r on at) ws outer before block e k =
          let a = neither (from_fault S outer before l) _ e in
          let o = neither (first_of (joins_fault S outer block l) (joins_fault S outer block r)) _ k in
          let b = neither (joins_fault S outer block l) (joins_fault S outer block r) o.0 in
          let d = neither (cond_fault S outer block (scope_of S l ++ scope_of S r) (kinds_of S l ++ kinds_of S r) on) _ o.1 in
          let ol = from_operand S base fit l (from_stands S l outer before block a.0 b.0) in
          let or = from_operand S base fit r (from_stands S r outer _ block a.1 b.1) in
          let whole = from_operand S base fit (inner_join l r on at) (from_stands S (inner_join l r on at) outer before block e k) in
          let js = conjuncts S (scope_of S l ++ scope_of S r) on in
          fits_stacked (places_of S (inner_join l r on at)) whole.within (others_of (length (scope_of S l)) js)
          (each_filter (ConjunctFits (length (places_of S (inner_join l r on at)))) _ js
          (subst (λ n. Each (ConjunctFits n) js) (sym whole.same_length) (fits_cond on outer block (scope_of S l ++ scope_of S r) (kinds_of S l ++ kinds_of S r) d.0)))
          _ (omega (arith, ol.planned_width, or.planned_width, length-append (places_of S l) (map (λ k. length (scope_of S l) + k) (places_of S r)), length_map (λ k. length (scope_of S l) + k) (places_of S r)))
          (fits_from l [] outer before block a.0 b.0, fits_from r [] outer _ block a.1 b.1)
      fits_from (left_join l r on at) ws outer before block e k =
          let a = neither (from_fault S outer before l) _ e in
          let o = neither (first_of (joins_fault S outer block l) (joins_fault S outer block r)) _ k in
          let b = neither (joins_fault S outer block l) (joins_fault S outer block r) o.0 in
          let d = neither (cond_fault S outer block (scope_of S l ++ scope_of S r) (kinds_of S l ++ kinds_of S r) on) _ o.1 in
          let stands = from_stands S (left_join l r on at) outer before block e k in
          let or = from_operand S base fit r stands.1 in
          let n = length (scope_of S l) in
          let js = conjuncts S (scope_of S l ++ scope_of S r) on in
          let both : length (scope_of S l ++ scope_of S r) ≡ n + length (places_of S r) = omega (arith, length-append (scope_of S l) (scope_of S r), or.same_length) in (
            fits_from l [] outer before block a.0 b.0,
            fits_stacked (places_of S r) or.within (map (on_right n) (others_of n js))
                (each_map (ConjunctFits (length (places_of S r))) (on_right n) (others_of n js)
                (each_both (ConjunctFits (n + length (places_of S r))) (λ j. Each (λ k. n ≤ k) (conjunct_columns j)) (λ j. ConjunctFits (length (places_of S r)) (on_right n j)) (others_of n js)
                (λ j h l. fits_right n (length (places_of S r)) j h l)
                (each_filter (ConjunctFits (n + length (places_of S r))) _ js (subst (λ m. Each (ConjunctFits m) js) both (fits_cond on outer block (scope_of S l ++ scope_of S r) (kinds_of S l ++ kinds_of S r) d.0)))
                stands.3))
                (from_plan S [] r) or.planned_width (fits_from r [] outer _ block a.1 b.1),
          )
      fits_from (right_join l r on at) ws outer before block e k =
          let a = neither (from_fault S outer before l) _ e in
          let o = neither (first_of (joins_fault S outer block l) (joins_fault S outer block r)) _ k in
          let b = neither (joins_fault S outer block l) (joins_fault S outer block r) o.0 in
          let d = neither (cond_fault S outer block (scope_of S l ++ scope_of S r) (kinds_of S l ++ kinds_of S r) on) _ o.1 in
          let stands = from_stands S (right_join l r on at) outer before block e k in
          let ol = from_operand S base fit l stands.0 in
          let n = length (scope_of S l) in
          let js = conjuncts S (scope_of S l ++ scope_of S r) on in (
            fits_from r [] outer _ block a.1 b.1,
            fits_stacked (places_of S l) ol.within (others_of n js)
                (each_both (ConjunctFits (length (scope_of S l ++ scope_of S r))) (λ j. Each (λ k. k < n) (conjunct_columns j)) (ConjunctFits (length (places_of S l))) (others_of n js)
                (λ j h l. (subst (λ m. Each (λ k. k < m) (conjunct_columns j)) (sym ol.same_length) l, h.1))
                (each_filter (ConjunctFits (length (scope_of S l ++ scope_of S r))) _ js (fits_cond on outer block (scope_of S l ++ scope_of S r) (kinds_of S l ++ kinds_of S r) d.0))
                stands.3)
                (from_plan S [] l) ol.planned_width (fits_from l [] outer before block a.0 b.0),
          )

      fits_cond : (c : CondTree) (outer block scope : List ScopeColumn) (ks : List ColKind) → cond_fault S outer block scope ks c ≡ None → Each (ConjunctFits (length scope)) (conjuncts S scope c)
      fits_cond (all_of at cs) outer block scope ks e = fits_conds cs outer block scope ks e
      fits_cond (in_query at cs q word_at) outer block scope ks e =
          let a = neither (columns_fault outer scope cs) _ e in
          ((all_in_sight outer scope ks cs a.0, fits_query q (outer ++ block) (neither (query_fault S (outer ++ block) q) _ a.1).0), tt)
      fits_cond (compare at sign a b word_at) outer block scope ks e = ((test_in outer scope ks (compare at sign a b word_at) (neither _ _ e).0, tt), tt)
      fits_cond (is_null at c) outer block scope ks e = ((test_in outer scope ks (is_null at c) (neither _ _ e).0, tt), tt)
      fits_cond (is_not_null at c) outer block scope ks e = ((test_in outer scope ks (is_not_null at c) (neither _ _ e).0, tt), tt)
      fits_cond (in_list at c vs word_at) outer block scope ks e = ((test_in outer scope ks (in_list at c vs word_at) (neither _ _ e).0, tt), tt)
      fits_cond (any_of at cs) outer block scope ks e = ((test_in outer scope ks (any_of at cs) (neither _ _ e).0, tt), tt)
      fits_cond (negated at c) outer block scope ks e = ((test_in outer scope ks (negated at c) (neither _ _ e).0, tt), tt)

      fits_conds : (cs : CondTrees) (outer block scope : List ScopeColumn) (ks : List ColKind) → conds_fault S outer block scope ks cs ≡ None → Each (ConjunctFits (length scope)) (all_conjuncts S scope cs)
      fits_conds no_conds outer block scope ks e = tt
      fits_conds (cond_then c cs) outer block scope ks e =
          let a = neither (cond_fault S outer block scope ks c) _ e in
          each_append (ConjunctFits (length scope)) (conjuncts S scope c) (all_conjuncts S scope cs) (fits_cond c outer block scope ks a.0) (fits_conds cs outer block scope ks a.1)

    -- the placed plan of a query without a fault has the query's rows
    pub built_law : (q : QueryTree) → query_fault S [] q ≡ None → OneBag row_same (query_rows S base q) (plan_rows base (placed (planned S q)))
    built_law q e = one_bag row_same (query_rows S base q) (plan_rows base (placed (planned S q)))
        (record { sums = λ g. (query_answers S base fit q (faultless S q [] e)).same.sums g ∙ (place_same base (planned S q) (fits_query q [] e)).sums g })
