use Rattle.std.proofs.Common.{inl}
use Rattle.wt_rewriting.specs.Files.{names_of}
use Rattle.wt_rewriting.proofs.Statuses.{ended, rewriting_fine}
use Rattle.wt_rewriting.proofs.rewriting.rewrite_files.Goals as goal

pub returns-in-Ok : goal.returns-in-Ok
returns-in-Ok g c =
    let h = c.in-Ok.ensures in
    let (o, is, status, put) = h.4 in
    (h.0, h.1, h.2, h.3, (o, inl is, ended o _ (rewriting_fine (names_of c.args.names.now) h.0 h.1 h.2 o (inl is)) status put))
