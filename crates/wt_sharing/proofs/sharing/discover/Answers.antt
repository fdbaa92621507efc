use Rattle.wt_discovery.proofs.Alone.{stop_prefix}
use Rattle.wt_sharing.proofs.sharing.discover.Goals as goal

pub returns-in-Err-clause-prefix : goal.returns-in-Err-clause-prefix
returns-in-Err-clause-prefix g c =
    λ short file whole.
    stop_prefix c.args.bounds.now _ (g.K.Sink.written c.args.sink.now) (g.K.Sink.written c.try_discover.new.sink) c.in-Err.stop c.in-Err.ensures file whole
