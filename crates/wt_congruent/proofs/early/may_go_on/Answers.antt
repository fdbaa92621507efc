use Rattle.std.proofs.Common.{rules, ◌++◌, map}
use Rattle.wt_form.specs.Views.{conds_seen}
use Rattle.wt_facts.specs.Facts.{known_of}
use Rattle.wt_congruent.specs.Refs.{cond_behind}
use Rattle.wt_congruent.proofs.Begins.{partners_are, partners_of}
use Rattle.wt_congruent.proofs.early.may_go_on.Goals as goal
use Rattle.wt_congruent.proofs.early.may_go_on.Goals.{then-may_be_pieces, else-may_be_pieces}

pub returns-then-have_partners : goal.returns-then-have_partners
returns-then-have_partners c more h p = c.are_partners.ensures more (partners_of (known_of c.args.facts.now) (c.args.ks.now ++ more) (conds_seen c.args.conds.now) (map cond_behind c.args.left.now) h)

pub returns-else-have_partners : goal.returns-else-have_partners
returns-else-have_partners c more h p =
    elim c.if-may_be_pieces.branch [
      | then-may_be_pieces w ↦ search (rules, w.value-is, w.have_partners.ensures more (partners_are (known_of c.args.facts.now) (c.args.ks.now ++ more) (conds_seen c.args.conds.now) (map cond_behind c.args.left.now) h))
      | else-may_be_pieces w ↦ search (rules, w.value-is, w.if-may_be_pieces.false, c.may_be_pieces.ensures more p)
    ]
