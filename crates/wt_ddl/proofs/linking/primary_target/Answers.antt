use Rattle.std.proofs.Common.{◌∙◌, ap, sym, subst, Some, Option}
use Rattle.wt_schema.specs.declared.schema.Key.{Key}
use Rattle.wt_ddl.specs.Giving.{Agrees}
use Rattle.wt_ddl.specs.Linking as spec
use Rattle.wt_ddl.proofs.Placing.{place_found, place_none}
use Rattle.wt_ddl.proofs.linking.primary_target.Goals as goal

pub returns-in-None : goal.returns-in-None
returns-in-None c = ap (λ k. spec.of_width k c.args.width c.args.at) (place_none (λ k. k.primary) c.args.keys.now (sym c.requires ∙ c.in-None.is))

pub returns-in-Some : goal.returns-in-Some
returns-in-Some c =
    let (within, found) = place_found (λ k. k.primary) c.args.keys.now c.in-Some.place c.index-keys-place.result (sym c.requires ∙ c.in-Some.is) in
    let P : Option Key → Type 0 = λ k. Agrees c.of_width.result (spec.of_width k c.args.width c.args.at) in
    subst P (ap Some c.index-keys-place.is ∙ sym found) c.of_width.ensures
