use Rattle.wt_cores.proofs.Bits.{within_trans}
use Rattle.wt_workers.proofs.verdict.grown.Goals as goal

pub loop-i-init : goal.loop-i-init
loop-i-init g c = record { around = λ j h. h; unprovable = c.requires.unprovable }

pub grown_by-requires-clause-unprovable : goal.grown_by-requires-clause-unprovable
grown_by-requires-clause-unprovable g c = c.loop-i.invariant.unprovable

pub loop-i-preserved : goal.loop-i-preserved
loop-i-preserved g c = record { around = within_trans _ _ _ c.loop-i.invariant.around c.in_ok-larger.ensures.around; unprovable = c.in_ok-larger.ensures.unprovable }

pub returns-clause-around : goal.returns-clause-around
returns-clause-around g c = c.loop-i.invariant.around

pub returns-clause-unprovable : goal.returns-clause-unprovable
returns-clause-unprovable g c = c.loop-i.invariant.unprovable
