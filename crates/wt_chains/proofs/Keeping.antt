-- What the laws of placing ask of a regular plan, on a database that satisfies its schema.
use Rattle.std.proofs.Common.{◌∙◌, List}
use Rattle.wt_bag.specs.Bags.{count_of}
use Rattle.wt_value.specs.Values.{Tuple, IsOneBag, row_same}
use Rattle.wt_schema.specs.declared.schema.Table.{Table}
use Rattle.wt_schema.specs.Lawful.{IsSchema}
use Rattle.wt_schema.specs.Satisfying.{Satisfies}
use Rattle.wt_plan.specs.Tree.{PlanTree, table, proj, filtered, inner_join, left_join, in_sub, dedup}
use Rattle.wt_plan.specs.Rows.{plan_rows}
use Rattle.wt_plan.specs.Regular.{Regular}
use Rattle.wt_place.specs.Keeping as placing
use Rattle.wt_place.specs.Placing.{placed}
use Rattle.wt_place.proofs.PlaceLaw.{place_law}
use Rattle.wt_known.specs.Fitting.{Fits}
use Rattle.wt_known.proofs.KnownFacts.{regular_fits, rows_wide}

module _ (S : List Table) (schema : IsSchema S) (base : List (List Tuple)) (holds : Satisfies S base) where
  fits_base : (p : PlanTree) → Fits S p → placing.Fits base p
  fits_base (table n w) f = rows_wide S schema base holds (table n w) f
  fits_base (proj cols p) f = fits_base p f.2
  fits_base (filtered q cols p) f = (f.0, fits_base p f.1)
  fits_base (inner_join a b p q) f = (fits_base p f.2, fits_base q f.3)
  fits_base (left_join a b p q) f = (fits_base p f.2, fits_base q f.3)
  fits_base (in_sub a p q) f = (f.0, fits_base p f.1, fits_base q f.2)
  fits_base (dedup p) f = fits_base p f

  pub placing_keeps : (p : PlanTree) → Regular S p → IsOneBag (plan_rows base p) (plan_rows base (placed p))
  placing_keeps p regular = place_law base p (fits_base p (regular_fits S schema p regular))

pub same_bag : (rows : List Tuple) → IsOneBag rows rows
same_bag rows = record { counts = λ row i. count_of row_same rows row }

pub bag_through : (xs ys zs : List Tuple) → IsOneBag xs ys → IsOneBag ys zs → IsOneBag xs zs
bag_through xs ys zs a b = record { counts = λ row. a.counts row ∙ b.counts row }
