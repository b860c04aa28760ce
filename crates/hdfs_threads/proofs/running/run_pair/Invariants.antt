use Rattle.hdfs_threads.proofs.running.run_pair.Given as goal

-- the job is that of the call, and each ledger has a name of its own
abbrev pub ghosts-run_counted-J-Job : goal.ghosts-run_counted-J-Job
ghosts-run_counted-J-Job g a = record { window = a.begin.core.window; nodes = a.begin.core.nodes; packets = a.begin.packets.items }

abbrev pub ghosts-run_counted-W-Ledger : goal.ghosts-run_counted-W-Ledger
ghosts-run_counted-W-Ledger g a = record { name = a.begin.blanks.wrote.name; parts = 1 }

abbrev pub ghosts-run_counted-X-Ledger : goal.ghosts-run_counted-X-Ledger
ghosts-run_counted-X-Ledger g a = record { name = a.begin.blanks.write_failed.name; parts = 1 }

abbrev pub ghosts-run_counted-A-Ledger : goal.ghosts-run_counted-A-Ledger
ghosts-run_counted-A-Ledger g a = record { name = a.begin.blanks.acked.name; parts = 1 }

abbrev pub ghosts-run_counted-Y-Ledger : goal.ghosts-run_counted-Y-Ledger
ghosts-run_counted-Y-Ledger g a = record { name = a.begin.blanks.ack_failed.name; parts = 1 }

abbrev pub ghosts-run_counted-Z-Ledger : goal.ghosts-run_counted-Z-Ledger
ghosts-run_counted-Z-Ledger g a = record { name = a.begin.blanks.over.name; parts = 1 }
