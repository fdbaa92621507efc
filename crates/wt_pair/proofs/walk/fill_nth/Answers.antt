use Rattle.wt_template.specs.Shapes.{shape_of}
use Rattle.wt_pair.proofs.WalkLemmas.{template_small}
use Rattle.wt_pair.proofs.walk.fill_nth.Goals as goal

pub fill_template-requires-clause-small : goal.fill_template-requires-clause-small
fill_template-requires-clause-small c =
    (template_small c.args.bounds.now c.args.n (shape_of c.in-Some.template) (rw c.in-Some.is at c.in_ok-template.ensures) c.requires.src).0
