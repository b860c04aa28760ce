-- What commands that open a file to be written make of blocks, and commands that leave all files.
use Rattle.std.proofs.Common.{◌≡◌, ℕ, ◌≤◌, true, List, Some, Result, Ok, Err, subst}
use Rattle.hdfs_model.specs.declared.commands.Command.{Command}
use Rattle.hdfs_model.specs.declared.commands.Command.TheVariants as commands
use Rattle.hdfs_model.specs.declared.commands.Reply.{Reply}
use Rattle.hdfs_model.specs.declared.commands.WriteOptions.{WriteOptions}
use Rattle.hdfs_cluster.specs.declared.errors.HdfsError.{HdfsError}
use Rattle.hdfs_cluster.specs.Effects.{blocks_at}
use Rattle.hdfs_cluster.specs.Picture.{Picture}
use Rattle.hdfs_cluster.specs.Shown.{Shown}
use Rattle.hdfs_model.specs.Steps.{target_of}
use Rattle.hdfs_file_writer.specs.Tails.{tail_length}
use Rattle.hdfs_cluster.specs.WholeBlocks.{IsWhole, IsOfSize, AllBetween}
use Rattle.hdfs_file_writer.specs.Writers.{sizes_of, tail_of}
use Rattle.hdfs_file_writer.specs.declared.file_writer.FileWriter.{FileWriter}
use Rattle.hdfs_commands.specs.Acting.{world_at}
use Rattle.hdfs_commands.specs.Session.{writer_of}
use Rattle.hdfs_commands.specs.Whole.{AreFilled, AreWhole, KeepsBlocksWhole, KeepsWhole}
use Rattle.hdfs_commands.specs.declared.session.Session.{Session}
use Rattle.hdfs_commands.proofs.WholeBeside.{StaysAt, filled_beside, whole_beside}

-- a command that was refused before anything was done
pub early_whole : (command : Command) (s : Shown) (session : Session) (error : HdfsError) → KeepsWhole command s session s session (Err error)
early_whole command s session error = record { whole = λ path apart from before. before; filled = λ path apart before. before; created = tt }

-- a command that creates none and leaves all files
pub leaving_whole : (command : Command) (s t : Shown) (session session' : Session) (p q : Picture) → s.picture ≡ Some p → t.picture ≡ Some q → ((path : List ℕ) → StaysAt p q path)
    → ((path : List ℕ) → writer_of session' path ≡ writer_of session path) → ((name : List ℕ) (options : WriteOptions) → command ≡ commands.Create name options → ⊥)
    → (result : Result Reply HdfsError) → KeepsWhole command s session t session' result
leaving_whole command s t session session' p q was now stays writers other (Ok reply) = record {
  whole = λ path apart from before. whole_beside s t session session' p q was now path (stays path) (writers path) from before;
  filled = λ path apart before. filled_beside s t session session' p q was now path (stays path) (writers path) before;
  created = λ name options is. absurd (other name options is);
}
leaving_whole command s t session session' p q was now stays writers other (Err error) = record {
  whole = λ path apart from before. whole_beside s t session session' p q was now path (stays path) (writers path) from before;
  filled = λ path apart before. filled_beside s t session session' p q was now path (stays path) (writers path) before;
  created = tt;
}

-- a session that has failed has the writers that it had
whole_failed_at : (t : Shown) (session : Session) (path : List ℕ) (from : ℕ) → AreWhole t session path from → AreWhole t (record session { failed = true }) path from
whole_failed_at t session path from h = record { closed = h.closed; going = h.going }

filled_failed_at : (t : Shown) (session : Session) (path : List ℕ) → AreFilled t session path → AreFilled t (record session { failed = true }) path
filled_failed_at t session path h = record { closed = h.closed; going = h.going }

-- what a command has done it has done also where the session has failed
pub failed_whole : (command : Command) (s t : Shown) (session session' : Session) (result : Result Reply HdfsError) → KeepsBlocksWhole command s session t session' result
    → KeepsBlocksWhole command s session t (record session' { failed = true }) result
failed_whole command s t session session' (Ok reply) h state ready =
    let one = h state ready in
    record {
      whole = λ path apart from before. whole_failed_at t session' path from (one.whole path apart from before);
      filled = λ path apart before. filled_failed_at t session' path (one.filled path apart before);
      created = λ name options is.
          (let both = one.created name options is in
          (whole_failed_at t session' (target_of (world_at session s) command) 0 both.0, filled_failed_at t session' (target_of (world_at session s) command) both.1));
    }
failed_whole command s t session session' (Err error) h state ready =
    let one = h state ready in
    record {
      whole = λ path apart from before. whole_failed_at t session' path from (one.whole path apart from before);
      filled = λ path apart before. filled_failed_at t session' path (one.filled path apart before);
      created = tt;
    }

-- the file at a path of which the session has this writer
module _ (t : Shown) (session : Session) (path : List ℕ) (writer : FileWriter) (has : writer_of session path ≡ Some writer) (q : Picture) (now : t.picture ≡ Some q) where
  pub whole_going : (from : ℕ) → AllBetween (IsWhole q) from (blocks_at (q.names path)) → AreWhole t session path from
  whole_going from all = record {
    closed = λ none r told. absurd (cc (has, none));
    going = λ other is r told. (let same : q ≡ r = cc (now, told) in subst (λ (x : Picture). AllBetween (IsWhole x) from (blocks_at (x.names path))) same all);
  }

  pub filled_going : tail_length (tail_of writer) ≤ (sizes_of writer).block_size → AllBetween (IsOfSize q (sizes_of writer).block_size) 0 (blocks_at (q.names path)) → AreFilled t session path
  filled_going short all = record {
    closed = λ none r file told at. absurd (cc (has, none));
    going = λ other is r told.
        (let one : writer ≡ other = cc (has, is) in
        let same : q ≡ r = cc (now, told) in
        let size = (sizes_of writer).block_size in
        subst (λ (w : FileWriter). (tail_length (tail_of w) ≤ (sizes_of w).block_size) × AllBetween (IsOfSize r (sizes_of w).block_size) 0 (blocks_at (r.names path))) one
        (short, subst (λ (x : Picture). AllBetween (IsOfSize x size) 0 (blocks_at (x.names path))) same all));
  }
