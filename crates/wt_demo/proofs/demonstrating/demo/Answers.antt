use Rattle.wt_io.specs.Causes.{Rose}
use Rattle.wt_demo.proofs.OneDemo.{ended_otherwise, stopped_begins}
use Rattle.wt_demo.proofs.demonstrating.demo.Goals as goal

pub returns-in-Ok-clause-begins : goal.returns-in-Ok-clause-begins
returns-in-Ok-clause-begins g c = λ short whole is. absurd (ended_otherwise c.args.first c.args.count (Rose (g.K.Sink.faults c.args.sink.now) (g.K.Sink.faults c.put_demo.new.sink)) (g.K.Sink.written c.args.sink.now) (g.K.Sink.written c.put_demo.new.sink) _ c.in-Ok.ensures short)

pub returns-in-Err-clause-begins : goal.returns-in-Err-clause-begins
returns-in-Err-clause-begins g c = λ short whole is. stopped_begins _ _ _ _ _ c.in-Err.stop c.in-Err.ensures whole is
