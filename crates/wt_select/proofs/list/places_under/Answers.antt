use Rattle.std.proofs.Common.{rules, arith, ◌≡◌, ◌+◌, ◌++◌, ◌∷◌, length, drop, map, refl, ap, sym, subst, ◌∙◌}
use Rattle.std.proofs.lemmas.List.{drop_more}
use Rattle.std.specs.Str.{bytes_eq}
use Rattle.wt_query_rows.specs.Scopes.{is_of}
use Rattle.wt_query_plan.specs.Building.{places_where}
use Rattle.wt_resolve.specs.Scoping.{columns_of}
use Rattle.wt_select.proofs.Columns.{under_next, counted_next}
use Rattle.wt_select.proofs.list.places_under.Goals as goal

pub overflow_cast-count : goal.overflow_cast-count
overflow_cast-count c =
    let item = c.index-items-i.result in
    let rest = drop (c.items.i + 1) c.args.items.now in
    let step : drop c.items.i c.args.items.now ≡ item ∷ rest = search (rules, drop_more c.args.items.now c.items.i item) in
    let counted : c.items.first + length (columns_of (item ∷ rest)) ≡ length (columns_of c.args.items.now) = subst (λ l. c.items.first + length (columns_of l) ≡ length (columns_of c.args.items.now)) step c.items.invariant.counted in
    omega (arith, counted, counted_next item rest, c.width-count.ensures, c.requires)

pub push_if_under-requires : goal.push_if_under-requires
push_if_under-requires c =
    let item = c.index-items-i.result in
    let rest = drop (c.items.i + 1) c.args.items.now in
    let step : drop c.items.i c.args.items.now ≡ item ∷ rest = search (rules, drop_more c.args.items.now c.items.i item) in
    let counted : c.items.first + length (columns_of (item ∷ rest)) ≡ length (columns_of c.args.items.now) = subst (λ l. c.items.first + length (columns_of l) ≡ length (columns_of c.args.items.now)) step c.items.invariant.counted in
    omega (arith, counted, counted_next item rest, c.requires)

pub overflow_add-first : goal.overflow_add-first
overflow_add-first c =
    let item = c.index-items-i.result in
    let rest = drop (c.items.i + 1) c.args.items.now in
    let step : drop c.items.i c.args.items.now ≡ item ∷ rest = search (rules, drop_more c.args.items.now c.items.i item) in
    let counted : c.items.first + length (columns_of (item ∷ rest)) ≡ length (columns_of c.args.items.now) = subst (λ l. c.items.first + length (columns_of l) ≡ length (columns_of c.args.items.now)) step c.items.invariant.counted in
    omega (arith, counted, counted_next item rest, c.width-count.ensures, c.requires)

pub items-preserved : goal.items-preserved
items-preserved c =
    let item = c.index-items-i.result in
    let rest = drop (c.items.i + 1) c.args.items.now in
    let step : drop c.items.i c.args.items.now ≡ item ∷ rest = search (rules, drop_more c.args.items.now c.items.i item) in
    let counted : c.items.first + length (columns_of (item ∷ rest)) ≡ length (columns_of c.args.items.now) = subst (λ l. c.items.first + length (columns_of l) ≡ length (columns_of c.args.items.now)) step c.items.invariant.counted in
    let alias = c.args.alias.now in
    let whole = places_where (is_of alias) (columns_of c.args.items.now) in
    record {
      within = search (rules, arith);
      counted = omega (arith, counted, counted_next item rest, c.width-count.ensures);
      so_far = subst (λ n. c.push_if_under.new.out.items ++ map (λ k. (c.items.first + n) + k) (places_where (is_of alias) (columns_of rest)) ≡ whole) (sym c.width-count.ensures)
          (under_next alias item rest (bytes_eq alias item.alias) c.items.first c.items.places.items c.push_if_under.new.out.items whole refl c.in_ok-push_if_under.ensures
          (ap (λ l. c.items.places.items ++ map (λ k. c.items.first + k) (places_where (is_of alias) (columns_of l))) (sym step) ∙ c.items.invariant.so_far));
    }
