use Rattle.wt_workers.proofs.workers.discover_lot.Given as goal

abbrev pub ghosts-run-A-Ledger : goal.ghosts-run-A-Ledger
ghosts-run-A-Ledger g a = record { name = a.boards.name; parts = a.boards.parts }

abbrev pub ghosts-run-B-Ledger : goal.ghosts-run-B-Ledger
ghosts-run-B-Ledger g a = record { name = a.owns.name; parts = a.owns.parts }
