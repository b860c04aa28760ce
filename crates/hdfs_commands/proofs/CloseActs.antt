-- What a close that is done comes to.
use Rattle.std.proofs.Common.{◌≡◌, ◌≢◌, ℕ, Bool, false, cond, List, Option, Some, None, Ok, refl, sym, ◌∙◌, ap, subst}
use Rattle.std.specs.Str.{bytes_eq}
use Rattle.hdfs_cluster.specs.declared.attributes.Attributes.{Attributes}
use Rattle.hdfs_cluster.specs.declared.picture.Entry.{Entry}
use Rattle.hdfs_cluster.specs.Effects.{blocks_at}
use Rattle.hdfs_cluster.specs.Files.{State, Node, File, Writing, Content}
use Rattle.hdfs_cluster.specs.Picture.{Picture}
use Rattle.hdfs_cluster.specs.Shown.{Shown}
use Rattle.hdfs_cluster.specs.Sound.{IsFileAt}
use Rattle.hdfs_cluster.specs.Stores.{AgreesAt}
use Rattle.hdfs_cluster.specs.WholeBlocks.{IsWhole, AllBehind, AreFull}
use Rattle.hdfs_model.specs.declared.commands.Command.TheVariants as commands
use Rattle.hdfs_model.specs.declared.commands.Reply.TheVariants as replies
use Rattle.hdfs_model.specs.Steps.{without}
use Rattle.hdfs_names.specs.Paths.{absolute}
use Rattle.hdfs_file_writer.specs.OnlyFiles.{OnlyFile}
use Rattle.hdfs_file_writer.specs.WholeBlocks.{ClosesWhole}
use Rattle.hdfs_file_writer.specs.Writers.{Closes, path_of, tail_of, sizes_of}
use Rattle.hdfs_file_writer.specs.declared.file_writer.FileWriter.{FileWriter}
use Rattle.hdfs_commands.specs.Acting.{world_at, IsReady}
use Rattle.hdfs_commands.specs.Session.{settings_of}
use Rattle.hdfs_commands.specs.Whole.{AreWhole, AreFilled, KeepsWhole}
use Rattle.hdfs_commands.specs.declared.session.Session.{Session}
use Rattle.hdfs_commands.proofs.Beside.{opened_after, same_world, carried_after}
use Rattle.hdfs_commands.proofs.OneFile.{agrees_by_path, agrees_with, open_attributes, not_same}
use Rattle.hdfs_commands.proofs.OpenFiles.{closed_state, close_is_done, state_with_node, without_any}
use Rattle.hdfs_commands.proofs.SendActs.{Called, Comes, OpenAt, behind, call_of, elsewhere, open_at}
use Rattle.hdfs_commands.proofs.WholeBeside.{keeps_done, stays_elsewhere}

module _ {old new : Shown} {session session' : Session} {writer : FileWriter} (c : Called old new session writer None session') (name : List ℕ)
    (called : absolute (settings_of session).home name ≡ path_of writer) (closes : Closes old writer new) (state : State) (ready : IsReady old session state (commands.Close name)) where
  abbrev path : List ℕ
  path = path_of writer

  abbrev o : OpenAt old path writer state
  o = open_at old session state (commands.Close name) path writer ready c.here

  abbrev p : Picture
  p = o.picture

  abbrev content : Content
  content = o.file.content

  abbrev next : State
  next = closed_state state path content

  abbrev block_size : ℕ
  block_size = (sizes_of writer).block_size

  -- a closed file stands at the path
  on : (q : Picture) × (new.picture ≡ Some q) × OnlyFile path p q × AgreesAt q (q.names path) (Some (File content))
      × ClosesWhole block_size p (blocks_at (p.names path)) (tail_of writer) q (blocks_at (q.names path))
  on =
      let now = closes p content.bytes o.told o.file.carries in
      let there : AgreesAt p (p.names path) (Some (Writing content)) = subst (λ (n : Option Node). AgreesAt p (p.names path) n) o.file.named (o.agrees path) in
      let attributes = open_attributes p now.0 path content (tail_of writer) content.bytes o.file.carries there in
      (now.0, now.1, now.2, subst (λ (a : Attributes). AgreesAt now.0 (now.0.names path) (Some (File (record { bytes = content.bytes; attributes = a })))) attributes now.3, now.4)

  -- the other paths stay
  away : (other : List ℕ) → other ≢ path → next.files other ≡ state.files other
  away other apart = ap (λ (b : Bool). cond b (Some (File content)) (state.files other)) (not_same path other apart)

  close_comes : Comes (commands.Close name) old session new session' replies.Closed state
  close_comes =
      let sound = c.sound p o.told in
      record {
        next = next;
        done = close_is_done (world_at session old) state name path content called c.named o.opened o.file.named;
        limited = record { numbers = refl; attributes = tt; plain = record { bytes = λ moves. moves.0; file = λ opens. opens } };
        fits = record {
          is_state = state_with_node state path content (File content) ready.ready.fits.is_state o.file.named (without path state.opened);
          agrees = agrees_by_path new.picture on.0 next.files on.1 (agrees_with path p on.0 sound on.2 state.files o.agrees (File content) on.3);
        };
        opened = λ other.
            without_any path other state.opened
            ∙ ap (λ (b : Bool). cond (bytes_eq path other) false b) (ready.ready.opened other)
            ∙ sym (opened_after old new session session' path (Some writer) None (call_of c) other);
        world = same_world old new session session' path (Some writer) None (call_of c) p on.0 o.told on.1 sound on.2 state next away c.settings;
        carried =
            carried_after old new session session' path (Some writer) None (call_of c) p on.0 o.told on.1 sound on.2 state next away c.namenode.defaults ready.carried
            (λ w now. absurd (cc));
      }

  -- the last block is whole too
  closed_whole : (from : ℕ) → AreWhole old session path from → AreWhole new session' path from
  closed_whole from before = record {
    closed = λ none r is.
        (let one : on.0 ≡ r = cc (on.1, is) in
        subst (λ (x : Picture). AllBehind (IsWhole x) from (blocks_at (x.names path))) one (on.4.whole from (before.going writer c.here p o.told)));
    going = λ w at r is. absurd (cc (at, behind c));
  }

  -- and no longer than the file's block size
  closed_full : AreFilled old session path → AreFilled new session' path
  closed_full before = record {
    closed = λ none r file is at.
        (let one : r ≡ on.0 = cc (on.1, is) in
        let there : IsFileAt on.0 path file = subst (λ (x : Picture). IsFileAt x path file) one at in
        let was = before.going writer c.here p o.told in
        let attributes = (subst (λ (e : Option Entry). AgreesAt on.0 e (Some (File content))) there on.3).1 in
        let same : block_size ≡ file.attributes.block_size = o.file.block_size ∙ sym (ap (λ (a : Attributes). a.block_size) attributes) in
        subst (λ (x : Picture). AreFull x file.attributes.block_size file.blocks) (sym one)
        (subst (λ (n : ℕ). AreFull on.0 n file.blocks) same
        (subst (λ (l : List ℕ). AreFull on.0 block_size l) (ap blocks_at there)
        (record { full = on.4.full was.0 0 was.1; last = on.4.last was.0 }))));
    going = λ w at r is. absurd (cc (at, behind c));
  }

  pub closed_so : Comes (commands.Close name) old session new session' replies.Closed state × KeepsWhole (commands.Close name) old session new session' (Ok replies.Closed)
  closed_so = (
    close_comes,
    keeps_done (commands.Close name) old new session session' path p on.0 o.told on.1 called
        (λ other apart. stays_elsewhere p on.0 path other (c.sound p o.told) on.2 apart) (elsewhere c) replies.Closed closed_whole closed_full (λ name' options is. absurd (cc is)),
  )
