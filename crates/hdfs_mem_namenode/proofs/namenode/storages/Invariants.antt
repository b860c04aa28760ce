use Rattle.std.proofs.Common.{◌≡◌, length}
use Rattle.hdfs_mem_namenode.proofs.namenode.storages.Given as goal

abbrev pub invariant-loop-done : goal.invariant-loop-done
invariant-loop-done l = record { types : length l.types.items ≡ l._done; ids : length l.ids.items ≡ l._done }
