use Rattle.wt_rule_written.proofs.FilesRead.{file_read}
use Rattle.wt_rule_written.proofs.written_files_are_read.Goals as goal

pub returns : goal.returns
returns c = file_read
