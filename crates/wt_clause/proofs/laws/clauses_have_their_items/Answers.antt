use Rattle.wt_clause.proofs.Clauses.{scope_items, alias_items, places_within}
use Rattle.wt_clause.proofs.laws.clauses_have_their_items.Goals as goal

pub returns : goal.returns
returns c = record { columns = scope_items; aliases = alias_items; places = places_within }
