-- Over a told picture a file that a client has opened is carried by its writer: a new one without bytes, and one that is gone on with with its
-- own.
use Rattle.std.proofs.Common.{◌≡◌, ℕ, List, [], Option, Some, None, Ok, sym, ◌∙◌, ap, subst}
use Rattle.hdfs_cluster.specs.declared.asks.Answer.TheVariants as answers
use Rattle.hdfs_cluster.specs.declared.messages.FileStatusMsg.{FileStatusMsg}
use Rattle.hdfs_cluster.specs.declared.messages.LocatedBlock.{LocatedBlock}
use Rattle.hdfs_cluster.specs.declared.picture.Entry.{Entry}
use Rattle.hdfs_cluster.specs.declared.picture.Entry.TheVariants as entries
use Rattle.hdfs_cluster.specs.declared.picture.FileEntry.{FileEntry}
use Rattle.hdfs_cluster.specs.Effects.{Creates, Opens}
use Rattle.hdfs_cluster.specs.Failures.{CallsRose}
use Rattle.hdfs_cluster.specs.Namenode.{Row, new_file}
use Rattle.hdfs_cluster.specs.Picture.{Picture, SameButActive, Told}
use Rattle.hdfs_cluster.specs.Shown.{Shown}
use Rattle.hdfs_cluster.specs.Sound.{IsFileAt, IsSound}
use Rattle.hdfs_cluster.proofs.Frames.{told_after}
use Rattle.hdfs_cluster.proofs.Repeating.{append_repeats, create_repeats}
use Rattle.hdfs_file_writer.specs.Tails.{FileCarries}
use Rattle.hdfs_file_writer.specs.declared.tails.Tail.{Tail}
use Rattle.hdfs_file_writer.specs.declared.tails.Tail.TheVariants.{Bare}
use Rattle.hdfs_file_writer.specs.Writers.{sizes_of, tail_of, tail_opened}
use Rattle.hdfs_file_writer.specs.declared.file_writer.FileWriter.{FileWriter}
use Rattle.hdfs_file_writer.proofs.Growing.{created_carries}
use Rattle.hdfs_file_writer.proofs.Reopening.{opened_carries}
use Rattle.hdfs_file_writer.proofs.Storing.{stores_keeps}
use Rattle.hdfs_model.specs.Opening.{appending, create_flag, creating}
use Rattle.hdfs_model.specs.declared.commands.WriteOptions.{WriteOptions}
use Rattle.hdfs_namenode.specs.Relaying.{Came}
use Rattle.hdfs_namenode.proofs.Relayed.{relayed_row}
use Rattle.hdfs_opening.specs.Opening.{BeginsAgain, BeginsNew}

module _ (s m t : Shown) (quiet : Told SameButActive s.picture m.picture) (path client : List ℕ) (writer : FileWriter) where
  -- a new file
  pub begun_new : (options : WriteOptions) (replication block_size : ℕ) (status : Option FileStatusMsg) → (sizes_of writer).replication ≡ replication
      → (sizes_of writer).block_size ≡ block_size → tail_of writer ≡ Bare
      → Came m (creating path client options replication block_size) (Ok (answers.Create status)) t → BeginsNew s path options writer t
  begun_new options replication block_size status is_replication is_size bare came = λ p told.
      let at = told_after SameButActive s.picture m.picture p quiet told in
      let one = came.told at.0 at.1 (create_repeats path client options.permission (create_flag options) options.create_parent replication block_size at.0) in
      let row : Row at.0 (creating path client options replication block_size) (answers.Create status) one.0 =
      relayed_row (CallsRose m.counts t) at.0 (creating path client options replication block_size) (answers.Create status) one.0
      (λ is. absurd (cc is)) (λ is. absurd (cc is)) one.2 in
      let creates : Creates path (new_file options.permission replication block_size) at.0 one.0 = row.2 in (
        at.0,
        one.0,
        at.2,
        one.1,
        subst (λ (r : ℕ). Creates path (new_file options.permission r (sizes_of writer).block_size) at.0 one.0) (sym is_replication)
            (subst (λ (b : ℕ). Creates path (new_file options.permission replication b) at.0 one.0) (sym is_size) creates),
        subst (λ (tail : Tail). FileCarries one.0 path tail []) (sym bare)
            (created_carries at.0 one.0 path (new_file options.permission replication block_size) creates),
      )

  -- one that is gone on with
  pub begun_again : (block : Option LocatedBlock) (stat : Option FileStatusMsg) → ((p : Picture) → m.picture ≡ Some p → IsSound p)
      → tail_of writer ≡ tail_opened block None
      → Came m (appending path client 4) (Ok (answers.Append (record { block = block; stat = stat }))) t → BeginsAgain s path writer t
  begun_again block stat sound is_tail came = λ p file bytes told at_path stored.
      let at = told_after SameButActive s.picture m.picture p quiet told in
      let files = at.2.files in
      let one = came.told at.0 at.1 (append_repeats path client 4 at.0) in
      let row : Row at.0 (appending path client 4) (answers.Append (record { block = block; stat = stat })) one.0 =
      relayed_row (CallsRose m.counts t) at.0 (appending path client 4) (answers.Append (record { block = block; stat = stat })) one.0
      (λ is. absurd (cc is)) (λ is. absurd (cc is)) one.2 in
      let there : IsFileAt at.0 path file = files.names path ∙ at_path in
      let same : row.1.0 ≡ file = same_file at.0 path row.1.0 file row.1.1 there in
      let opens : Opens path file block at.0 one.0 = subst (λ (f : FileEntry). Opens path f block at.0 one.0) same row.1.3 in
      let keeps = stores_keeps p at.0 file.blocks bytes (λ id has. (files.table id, λ node. files.held node id)) stored in (
        at.0,
        one.0,
        at.2,
        one.1,
        (block, opens),
        subst (λ (tail : Tail). FileCarries one.0 path tail bytes) (sym is_tail)
            (opened_carries at.0 one.0 (sound at.0 at.1) path bytes file there keeps block opens),
      )
    where
      file_in : FileEntry → Entry → FileEntry
      file_in file entries.Dir = file
      file_in file (entries.File other) = other

      file_of : FileEntry → Option Entry → FileEntry
      file_of file None = file
      file_of file (Some entry) = file_in file entry

      same_file : (q : Picture) (at : List ℕ) (file other : FileEntry) → IsFileAt q at file → IsFileAt q at other → file ≡ other
      same_file q at file other is is' = ap (file_of file) (sym is ∙ is')
