use Rattle.std.proofs.Common.{rules, ◌++◌}
use Rattle.wt_symbol.specs.declared.head.PartCols.TheVariants.{Whole}
use Rattle.wt_form.specs.declared.form.Expr.TheVariants.{Of}
use Rattle.wt_facts.specs.Facts.{known_of}
use Rattle.wt_congruent.proofs.Begins.{heads_are}
use Rattle.wt_congruent.proofs.early.+may_be_pieces.Goals as goal

pub returns-else-may_be_expr : goal.returns-else-may_be_expr
returns-else-may_be_expr t c more h =
    search (rules, c.may_be_expr.ensures more (heads_are (known_of c.args.facts.now) (c.args.ks.now ++ more) c.args.xs.now c.args.ys.now (Of 0 0 Whole) (Of 0 0 Whole) c.in-len1-up.len_at_least c.in-len1-up-ys-2.len_at_least h))
