use Rattle.std.proofs.Common.{rules, arith, ◌≡◌, ◌+◌, ◌≤◌, ◌<◌, ◌∷◌, length, drop, ap, sym, subst, ◌∙◌}
use Rattle.std.proofs.lemmas.List.{drop_more}
use Rattle.wt_query_plan.specs.Building as building
use Rattle.wt_resolve.specs.Scoping.{columns_of}
use Rattle.wt_resolve.proofs.Lookups.{place_found, place_passed, place_within, columns_counted}
use Rattle.wt_resolve.proofs.lookup.place_of.Goals as goal

pub returns-then-place-width : goal.returns-then-place-width
returns-then-place-width c =
    let item = c.index-items-i.result in
    let rest = drop (c.items.i + 1) c.args.items.now in
    let step : drop c.items.i c.args.items.now ≡ item ∷ rest = search (rules, drop_more c.args.items.now c.items.i item) in
    let within : c.place_in-place.result < length item.names = search (rules, arith) in
    let counted : c.items.before + length (columns_of (item ∷ rest)) ≤ length (columns_of c.args.items.now) = subst (λ l. c.items.before + length (columns_of l) ≤ length (columns_of c.args.items.now)) step c.items.invariant.counted in
    record {
      exact = place_found c.args.c.now item rest c.items.before c.place_in-place.result _ (search rules) within (ap (λ l. c.items.before + building.place_of (columns_of l) c.args.c.now) (sym step) ∙ c.items.invariant.so_far);
      within = omega (arith, within, counted, columns_counted item rest);
    }

pub overflow_add-before : goal.overflow_add-before
overflow_add-before c =
    let item = c.index-items-i.result in
    let rest = drop (c.items.i + 1) c.args.items.now in
    let step : drop c.items.i c.args.items.now ≡ item ∷ rest = search (rules, drop_more c.args.items.now c.items.i item) in
    let is : c.place_in-place.result ≡ building.place_of (Rattle.wt_resolve.specs.Scoping.item_columns item) c.args.c.now = search rules in
    let counted : c.items.before + length (columns_of (item ∷ rest)) ≤ length (columns_of c.args.items.now) = subst (λ l. c.items.before + length (columns_of l) ≤ length (columns_of c.args.items.now)) step c.items.invariant.counted in
    omega (arith, is, place_within c.args.c.now item, counted, columns_counted item rest, c.requires)

pub items-preserved : goal.items-preserved
items-preserved c =
    let item = c.index-items-i.result in
    let rest = drop (c.items.i + 1) c.args.items.now in
    let step : drop c.items.i c.args.items.now ≡ item ∷ rest = search (rules, drop_more c.args.items.now c.items.i item) in
    let past : length item.names ≤ c.place_in-place.result = search (rules, arith) in
    let is : c.place_in-place.result ≡ building.place_of (Rattle.wt_resolve.specs.Scoping.item_columns item) c.args.c.now = search rules in
    let counted : c.items.before + length (columns_of (item ∷ rest)) ≤ length (columns_of c.args.items.now) = subst (λ l. c.items.before + length (columns_of l) ≤ length (columns_of c.args.items.now)) step c.items.invariant.counted in
    record {
      within = search (rules, arith);
      counted = omega (arith, is, place_within c.args.c.now item, counted, columns_counted item rest);
      so_far = place_passed c.args.c.now item rest c.items.before c.place_in-place.result _ is past (ap (λ l. c.items.before + building.place_of (columns_of l) c.args.c.now) (sym step) ∙ c.items.invariant.so_far);
    }
