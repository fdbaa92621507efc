use Rattle.std.proofs.Common.{◌≡◌, ◌∙◌, sym, ap, length, subst, List}
use Rattle.wt_value.specs.Values.{Tuple}
use Rattle.wt_schema.specs.declared.schema.Table.{Table}
use Rattle.wt_schema.specs.Satisfying.{AllHold}
use Rattle.wt_schema.proofs.schema.Schema.satisfies.Goals as goal

same : (tables ts : List Table) (base bs : List (List Tuple)) → ts ≡ tables → bs ≡ base → AllHold ts bs → AllHold tables base
same tables ts base bs e f h = subst (λ (l : List Table). AllHold l base) e (subst (λ (l : List (List Tuple)). AllHold ts l) f h)

pub returns-then-base-tables : goal.returns-then-base-tables
returns-then-base-tables c = (
  λ h. record {
    equally_many = sym (ap length c.as_slice-base.ensures) ∙ c.if-base-tables.true ∙ ap length c.as_slice-tables.ensures;
    each = same _ _ _ _ c.as_slice-tables.ensures c.as_slice-base.ensures (c.all_hold.ensures.0 h);
  },
  λ s. c.all_hold.ensures.1 (same _ _ _ _ (sym c.as_slice-tables.ensures) (sym c.as_slice-base.ensures) s.each),
)
