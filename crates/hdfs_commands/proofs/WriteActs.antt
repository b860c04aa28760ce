-- What a write that is done comes to.
use Rattle.std.proofs.Common.{◌≡◌, ◌≢◌, ℕ, ◌≤◌, Bool, true, false, cond, List, [], ◌++◌, length, Option, Some, Ok, is_some, refl, sym, ◌∙◌, ap, subst}
use Rattle.std.proofs.lemmas.Bool.{false≢true}
use Rattle.std.proofs.lemmas.Slice.Eq.{bytes_eq-Decides}
use Rattle.std.specs.Str.{bytes_eq}
use Rattle.hdfs_cluster.specs.Effects.{blocks_at}
use Rattle.hdfs_cluster.specs.Files.{State, Node, Writing, Content}
use Rattle.hdfs_cluster.specs.Limits.{are_attributes}
use Rattle.hdfs_cluster.specs.Picture.{Picture}
use Rattle.hdfs_cluster.specs.Shown.{Shown}
use Rattle.hdfs_cluster.specs.Stores.{AgreesAt}
use Rattle.hdfs_cluster.specs.WholeBlocks.{IsWhole, IsOfSize, AllBetween}
use Rattle.hdfs_model.specs.declared.commands.Command.TheVariants as commands
use Rattle.hdfs_model.specs.declared.commands.Reply.TheVariants as replies
use Rattle.hdfs_names.specs.Paths.{absolute}
use Rattle.hdfs_file_writer.specs.OnlyFiles.{OnlyFile, SameFile}
use Rattle.hdfs_file_writer.specs.Tails.{FileCarries, FillsBlocks, tail_length}
use Rattle.hdfs_file_writer.specs.WholeBlocks.{StaysWhole}
use Rattle.hdfs_file_writer.specs.Writers.{AreLimited, CarriesMore, path_of, tail_of, sizes_of}
use Rattle.hdfs_file_writer.specs.declared.file_writer.FileWriter.{FileWriter}
use Rattle.hdfs_file_writer.specs.declared.sizes.WriteSizes.{WriteSizes}
use Rattle.hdfs_commands.specs.Acting.{world_at, IsReady}
use Rattle.hdfs_commands.specs.Session.{settings_of, opened_of, CarriesFile}
use Rattle.hdfs_commands.specs.Whole.{AreWhole, AreFilled, KeepsWhole}
use Rattle.hdfs_commands.specs.declared.session.Session.{Session}
use Rattle.hdfs_commands.proofs.Beside.{opened_after, same_world, carried_after}
use Rattle.hdfs_commands.proofs.Limited.{attributes_in}
use Rattle.hdfs_commands.proofs.OneFile.{agrees_by_path, agrees_with, open_agrees, not_same, same_test}
use Rattle.hdfs_commands.proofs.OpenFiles.{written_state, write_is_done, state_with_node}
use Rattle.hdfs_commands.proofs.SendActs.{Called, Comes, OpenAt, behind, call_of, elsewhere, open_at}
use Rattle.hdfs_commands.proofs.Sized.{encrypted_is}
use Rattle.hdfs_commands.proofs.WholeBeside.{keeps_done, stays_elsewhere}

-- a path that is open stays open where it is written
stays_open : (f : List ℕ → Bool) (path other : List ℕ) → f path ≡ true → cond (bytes_eq path other) true (f other) ≡ f other
stays_open f path other is = by_test (bytes_eq path other) refl
  where
    by_test : (b : Bool) → bytes_eq path other ≡ b → cond b true (f other) ≡ f other
    by_test true same = sym (ap f (sym ((bytes_eq-Decides path other).0 same)) ∙ is)
    by_test false same = refl

module _ {old new : Shown} {session session' : Session} {writer writer' : FileWriter} (c : Called old new session writer (Some writer') session') (name more : List ℕ)
    (called : absolute (settings_of session).home name ≡ path_of writer) (carries : CarriesMore old writer more new writer')
    (counted : more ≢ [] → AreLimited (sizes_of writer) × ((sizes_of writer).encrypted ≡ false)) (state : State) (ready : IsReady old session state (commands.Write name more)) where
  abbrev path : List ℕ
  path = path_of writer

  abbrev o : OpenAt old path writer state
  o = open_at old session state (commands.Write name more) path writer ready c.here

  abbrev p : Picture
  p = o.picture

  abbrev content : Content
  content = o.file.content

  abbrev written : Content
  written = record content { bytes = content.bytes ++ more }

  abbrev next : State
  next = written_state state path content more

  abbrev block_size : ℕ
  block_size = (sizes_of writer).block_size

  on : (q : Picture) × (new.picture ≡ Some q) × FileCarries q path (tail_of writer') written.bytes × OnlyFile path p q × SameFile path p q
      × FillsBlocks block_size (blocks_at (p.names path)) (tail_of writer) more (blocks_at (q.names path)) (tail_of writer')
      × StaysWhole block_size p (blocks_at (p.names path)) (tail_of writer) q (blocks_at (q.names path))
  on = carries p content.bytes o.told o.file.carries

  -- the other paths stay
  away : (other : List ℕ) → other ≢ path → next.files other ≡ state.files other
  away other apart = ap (λ (b : Bool). cond b (Some (Writing written)) (state.files other)) (not_same path other apart)

  write_comes : Comes (commands.Write name more) old session new session' (replies.Written (length more)) state
  write_comes =
      let there : AgreesAt p (p.names path) (Some (Writing content)) = subst (λ (n : Option Node). AgreesAt p (p.names path) n) o.file.named (o.agrees path) in
      let here = open_agrees p on.0 path content (tail_of writer) content.bytes o.file.carries there written refl on.4 in
      let sound = c.sound p o.told in
      let keeps = c.left.1 in
      record {
        next = next;
        done = write_is_done (world_at session old) state name path content called c.named o.opened o.file.named more;
        limited = record {
          numbers = refl;
          attributes = λ some other filed.
              (let one : content ≡ other = cc (o.file.named, subst (λ (x : List ℕ). state.files x ≡ Some (Writing other)) called filed) in
              subst (λ (c : Content). are_attributes c.attributes ≡ true) one
              (attributes_in (sizes_of writer) content.attributes o.file.replication o.file.block_size (counted some).0));
          plain = record {
            bytes = λ moves. false≢true (sym (counted moves.0).1 ∙ encrypted_is session old writer (c.before.sized path writer c.here) state ready.carried ∙ moves.1);
            file = λ opens. opens;
          };
        };
        fits = record {
          is_state = state_with_node state path content (Writing written) ready.ready.fits.is_state o.file.named state.opened;
          agrees = agrees_by_path new.picture on.0 next.files on.1 (agrees_with path p on.0 sound on.3 state.files o.agrees (Writing written) here);
        };
        opened = λ other.
            ready.ready.opened other
            ∙ sym (opened_after old new session session' path (Some writer) (Some writer') (call_of c) other ∙ stays_open (opened_of session) path other (ap is_some c.here));
        world = same_world old new session session' path (Some writer) (Some writer') (call_of c) p on.0 o.told on.1 sound on.3 state next away c.settings;
        carried =
            carried_after old new session session' path (Some writer) (Some writer') (call_of c) p on.0 o.told on.1 sound on.3 state next away c.namenode.defaults ready.carried
            (λ w now. (let it : writer' ≡ w = cc in
            subst (λ (x : FileWriter). CarriesFile on.0 next path x) it (record {
              content = written;
              named = ap (λ (b : Bool). cond b (Some (Writing written)) (state.files path)) (same_test path);
              carries = on.2;
              replication = ap (λ (s : WriteSizes). s.replication) keeps.sizes ∙ o.file.replication;
              block_size = ap (λ (s : WriteSizes). s.block_size) keeps.sizes ∙ o.file.block_size;
            })));
      }

  -- the blocks that are done are whole still
  written_whole : (from : ℕ) → AreWhole old session path from → AreWhole new session' path from
  written_whole from before = record {
    closed = λ none r is. absurd (cc (none, behind c));
    going = λ w at r is.
        (let one : on.0 ≡ r = cc (on.1, is) in
        subst (λ (x : Picture). AllBetween (IsWhole x) from (blocks_at (x.names path))) one (on.6.whole from (before.going writer c.here p o.told)));
  }

  -- and full
  written_full : AreFilled old session path → AreFilled new session' path
  written_full before = record {
    closed = λ none r file is at. absurd (cc (none, behind c));
    going = λ w at r is.
        (let one : on.0 ≡ r = cc (on.1, is) in
        let it : writer' ≡ w = cc (behind c, at) in
        let was = before.going writer c.here p o.told in
        subst (λ (x : FileWriter). (tail_length (tail_of x) ≤ (sizes_of x).block_size) × AllBetween (IsOfSize r (sizes_of x).block_size) 0 (blocks_at (r.names path))) it
        (subst (λ (n : ℕ). (tail_length (tail_of writer') ≤ n) × AllBetween (IsOfSize r n) 0 (blocks_at (r.names path))) (sym (ap (λ (s : WriteSizes). s.block_size) c.left.1.sizes)) (
          (on.5 was.0).0,
          subst (λ (x : Picture). AllBetween (IsOfSize x block_size) 0 (blocks_at (x.names path))) one (on.6.full was.0 0 was.1),
        )));
  }

  pub written_so : Comes (commands.Write name more) old session new session' (replies.Written (length more)) state × KeepsWhole (commands.Write name more) old session new session' (Ok (replies.Written (length more)))
  written_so = (
    write_comes,
    keeps_done (commands.Write name more) old new session session' path p on.0 o.told on.1 called
        (λ other apart. stays_elsewhere p on.0 path other (c.sound p o.told) on.3 apart) (elsewhere c) (replies.Written (length more)) written_whole written_full (λ name' options is. absurd (cc is)),
  )
