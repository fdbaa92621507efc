use Rattle.wt_pair.proofs.walk.fill_template.Goals as goal

pub returns : goal.returns
returns c = rw (c.in_ok-source.ensures.side, c.in_ok-source.ensures.symbols) at c.in_ok-spot.ensures
