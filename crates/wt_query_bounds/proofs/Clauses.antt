-- The columns, kinds and places of a FROM clause.
use Rattle.std.proofs.Common.{◌≡◌, ◌+◌, ◌<◌, List, ◌++◌, map, length, length-append, arith}
use Rattle.wt_bag.specs.Bags.{Each}
use Rattle.wt_bag.proofs.EachLaws.{each_implies, each_append, each_map}
use Rattle.wt_ast.specs.Tree.{FromTree, table, derived, inner_join, left_join, right_join, comma}
use Rattle.wt_schema.specs.declared.schema.Table.{Table}
use Rattle.wt_plan.proofs.Upto.{length_map, length_upto, upto_within}
use Rattle.wt_query_rows.specs.Scopes.{scope_of}
use Rattle.wt_query_plan.specs.Building.{places_of}
use Rattle.wt_query_plan.specs.Faults.{kinds_of}
use Rattle.wt_query_bounds.specs.Bounds.{Even}

module _ (S : List Table) where
  both_even : (l r : FromTree) → length (kinds_of S l) ≡ length (scope_of S l) → length (kinds_of S r) ≡ length (scope_of S r) → length (kinds_of S l ++ kinds_of S r) ≡ length (scope_of S l ++ scope_of S r)
  both_even l r e f = omega (arith, e, f, length-append (kinds_of S l) (kinds_of S r), length-append (scope_of S l) (scope_of S r))

  pub even_all : (f : FromTree) → Even S f → length (kinds_of S f) ≡ length (scope_of S f)
  even_all (table name alias at alias_at) h = h
  even_all (derived q alias columns at alias_at) h = h
  even_all (inner_join l r on at) h = both_even l r (even_all l h.0) (even_all r h.1)
  even_all (left_join l r on at) h = both_even l r (even_all l h.0) (even_all r h.1)
  even_all (right_join l r on at) h = both_even l r (even_all l h.0) (even_all r h.1)
  even_all (comma l r at) h = both_even l r (even_all l h.0) (even_all r h.1)

  onward_length : (l r : FromTree) → length (places_of S l) ≡ length (scope_of S l) → length (places_of S r) ≡ length (scope_of S r)
      → length (places_of S l ++ map (λ k. length (scope_of S l) + k) (places_of S r)) ≡ length (scope_of S l ++ scope_of S r)
  onward_length l r e f = omega (arith, e, f, length-append (places_of S l) (map (λ k. length (scope_of S l) + k) (places_of S r)), length_map (λ k. length (scope_of S l) + k) (places_of S r), length-append (scope_of S l) (scope_of S r))

  pub places_length : (f : FromTree) → length (places_of S f) ≡ length (scope_of S f)
  places_length (table name alias at alias_at) = length_upto (length (scope_of S (table name alias at alias_at)))
  places_length (derived q alias columns at alias_at) = length_upto (length (scope_of S (derived q alias columns at alias_at)))
  places_length (inner_join l r on at) = onward_length l r (places_length l) (places_length r)
  places_length (left_join l r on at) = onward_length l r (places_length l) (places_length r)
  places_length (comma l r at) = onward_length l r (places_length l) (places_length r)
  places_length (right_join l r on at) =
      omega (arith, places_length l, places_length r, length-append (map (λ k. length (scope_of S r) + k) (places_of S l)) (places_of S r), length_map (λ k. length (scope_of S r) + k) (places_of S l), length-append (scope_of S l) (scope_of S r))

  abbrev pub InScope : FromTree → Type 0
  InScope f = Each (λ k. k < length (scope_of S f)) (places_of S f)

  onward_in : (l r : FromTree) → InScope l → InScope r → Each (λ k. k < length (scope_of S l ++ scope_of S r)) (places_of S l ++ map (λ k. length (scope_of S l) + k) (places_of S r))
  onward_in l r e f =
      let n = length-append (scope_of S l) (scope_of S r) in
      each_append (λ k. k < length (scope_of S l ++ scope_of S r)) (places_of S l) (map (λ k. length (scope_of S l) + k) (places_of S r))
      (each_implies (λ k. k < length (scope_of S l)) (λ k. k < length (scope_of S l ++ scope_of S r)) (places_of S l) (λ k h. omega (arith, h, n)) e)
      (each_map (λ k. k < length (scope_of S l ++ scope_of S r)) (λ k. length (scope_of S l) + k) (places_of S r)
      (each_implies (λ k. k < length (scope_of S r)) (λ k. length (scope_of S l) + k < length (scope_of S l ++ scope_of S r)) (places_of S r) (λ k h. omega (arith, h, n)) f))

  backward_in : (l r : FromTree) → InScope l → InScope r → Each (λ k. k < length (scope_of S l ++ scope_of S r)) (map (λ k. length (scope_of S r) + k) (places_of S l) ++ places_of S r)
  backward_in l r e f =
      let n = length-append (scope_of S l) (scope_of S r) in
      each_append (λ k. k < length (scope_of S l ++ scope_of S r)) (map (λ k. length (scope_of S r) + k) (places_of S l)) (places_of S r)
      (each_map (λ k. k < length (scope_of S l ++ scope_of S r)) (λ k. length (scope_of S r) + k) (places_of S l)
      (each_implies (λ k. k < length (scope_of S l)) (λ k. length (scope_of S r) + k < length (scope_of S l ++ scope_of S r)) (places_of S l) (λ k h. omega (arith, h, n)) e))
      (each_implies (λ k. k < length (scope_of S r)) (λ k. k < length (scope_of S l ++ scope_of S r)) (places_of S r) (λ k h. omega (arith, h, n)) f)

  pub in_scope_all : (f : FromTree) → InScope f
  in_scope_all (table name alias at alias_at) = upto_within (length (scope_of S (table name alias at alias_at)))
  in_scope_all (derived q alias columns at alias_at) = upto_within (length (scope_of S (derived q alias columns at alias_at)))
  in_scope_all (inner_join l r on at) = onward_in l r (in_scope_all l) (in_scope_all r)
  in_scope_all (left_join l r on at) = onward_in l r (in_scope_all l) (in_scope_all r)
  in_scope_all (comma l r at) = onward_in l r (in_scope_all l) (in_scope_all r)
  in_scope_all (right_join l r on at) = backward_in l r (in_scope_all l) (in_scope_all r)
