use Rattle.wt_rewriting.proofs.Statuses.{rewritten_begins, rewritten_bytes, rewritten_known, rewritten_prefix, rewritten_read, rewritten_write}
use Rattle.wt_rewriting.proofs.rewriting.rewrite.Goals as goal

pub returns-clause-bytes : goal.returns-clause-bytes
returns-clause-bytes g c = rewritten_bytes c.rewrite_files.ensures

pub returns-clause-read : goal.returns-clause-read
returns-clause-read g c = rewritten_read c.rewrite_files.ensures

pub returns-clause-write : goal.returns-clause-write
returns-clause-write g c = rewritten_write c.rewrite_files.ensures

pub returns-clause-prefix : goal.returns-clause-prefix
returns-clause-prefix g c = rewritten_prefix c.rewrite_files.ensures

pub returns-clause-known : goal.returns-clause-known
returns-clause-known g c = rewritten_known c.rewrite_files.ensures

pub returns-clause-begins : goal.returns-clause-begins
returns-clause-begins g c = rewritten_begins c.rewrite_files.ensures
