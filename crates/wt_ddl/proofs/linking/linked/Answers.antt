use Rattle.std.proofs.Common.{◌∙◌, ap, sym}
use Rattle.wt_ddl.specs.Places.{primary_place}
use Rattle.wt_ddl.proofs.Placing.{placed_at}
use Rattle.wt_ddl.proofs.linking.linked.Goals as goal

pub linked_to-requires-clause-placed : goal.linked_to-requires-clause-placed
linked_to-requires-clause-placed c =
    ap (λ p. p.primary) c.index-places-number.is
    ∙ placed_at c.args.tables.now c.args.places.now c.in-Some.number c.index-tables-number.result c.index-places-number.result c.requires.placed c.in-Some.ensures.within
    ∙ ap (λ t. primary_place t.keys) (sym c.index-tables-number.is)
