-- What a write and a close of a session come to, by what the call of the writer says.
use Rattle.std.proofs.Common.{◌≡◌, ◌≢◌, ⊎_elim, inr, ℕ, Bool, true, false, cond, List, [], length, Option, Some, None, Result, Ok, Err, refl, sym, ◌∙◌, ap, subst}
use Rattle.std.specs.BTreeMap.{BTreeMap, get_by_text}
use Rattle.std.specs.Prelude.{IfSome, String}
use Rattle.std.specs.Str.{bytes_eq}
use Rattle.std.specs.declared.alloc.Global.{Global}
use Rattle.hdfs_cluster.specs.declared.asks.Answer.{Answer}
use Rattle.hdfs_cluster.specs.declared.asks.Ask.{Ask}
use Rattle.hdfs_cluster.specs.declared.errors.ArgFault.TheVariants as args
use Rattle.hdfs_cluster.specs.declared.errors.HdfsError.{HdfsError}
use Rattle.hdfs_cluster.specs.declared.errors.HdfsError.TheVariants as errors
use Rattle.hdfs_cluster.specs.Files.{Writing}
use Rattle.hdfs_cluster.specs.Picture.{Picture}
use Rattle.hdfs_cluster.specs.Shown.{Shown, SameNodes}
use Rattle.hdfs_cluster.specs.Sound.{IsSound}
use Rattle.hdfs_model.specs.declared.commands.Command.TheVariants as commands
use Rattle.hdfs_model.specs.declared.commands.Reply.TheVariants as replies
use Rattle.hdfs_model.specs.Causes.{Cause, Tells}
use Rattle.hdfs_model.specs.Owing.{IsNotOwed}
use Rattle.hdfs_names.specs.Paths.{is_path, absolute}
use Rattle.hdfs_namenode.specs.Clients.{SameClient, name_of}
use Rattle.hdfs_namenode.specs.declared.protocol.NamenodeProtocol.{NamenodeProtocol}
use Rattle.hdfs_file_writer.specs.Failing.{IsOfWrite}
use Rattle.hdfs_file_writer.specs.Writers as files
use Rattle.hdfs_file_writer.specs.declared.file_writer.FileWriter.{FileWriter}
use Rattle.hdfs_file_writer.proofs.Moving.{only_file_refl, own_link_refl}
use Rattle.hdfs_commands.specs.Acting.{world_at}
use Rattle.hdfs_commands.specs.Asking.{AreAnswered}
use Rattle.hdfs_commands.specs.Executing.{Executes}
use Rattle.hdfs_commands.specs.Session.{settings_of, writer_of, Stands}
use Rattle.hdfs_commands.specs.declared.session.Session.{Session}
use Rattle.hdfs_commands.proofs.Beside.{link_in}
use Rattle.hdfs_commands.proofs.CloseActs.{closed_so}
use Rattle.hdfs_commands.proofs.Limited.{attributes_out, limited_cases}
use Rattle.hdfs_commands.proofs.SendActs.{Called, sent_done}
use Rattle.hdfs_commands.proofs.SendFails.{fails_by, sending_fails, unsupported_fails}
use Rattle.hdfs_commands.proofs.WriteActs.{written_so}
use Rattle.hdfs_commands.proofs.WriteFaults.{fails_as_close}

-- what may be asked for the file at a path may be asked in its writer's words for it
pub lets_writer : (Is Lets : List ℕ → Option ℕ → Type 0) (at path : List ℕ) (id : Option ℕ) → at ≡ path → Is at id → ((id : Option ℕ) → Is path id → Lets path id) → Lets at id
lets_writer Is Lets at path id same is lets = subst (λ (p : List ℕ). Lets p id) (sym same) (lets id (subst (λ (p : List ℕ). Is p id) same is))

module _ (may_answer : Ask → Answer → Type 0) {C : Type 0} (shown : C → Shown) (a b : C) (session : Session) (map : BTreeMap (String Global) FileWriter) (protocol : NamenodeProtocol) (name path : List ℕ)
    (writer : FileWriter) (here : writer_of session path ≡ Some writer) (named : is_path path ≡ true) (called : absolute (settings_of session).home name ≡ path) (fine : session.failed ≡ false)
    (stands : Stands (shown a) session) (answered : AreAnswered may_answer session) (sound : (p : Picture) → (shown a).picture ≡ Some p → IsSound p) where
  -- it is the writer's own path
  same : files.path_of writer ≡ path
  same = (stands.each path writer here).1

  called_there : absolute (settings_of session).home name ≡ files.path_of writer
  called_there = called ∙ sym same

  -- the session behind the call
  abbrev then : Session
  then = record session { writers = map; namenode = protocol }

  -- the call, by the link that it leaves
  call_by : (now : Option FileWriter) → ((other : List ℕ) → get_by_text map other ≡ cond (bytes_eq path other) now (writer_of session other)) → SameClient session.namenode protocol
      → IfSome now (λ w. files.Stands (shown b) w × files.Keeps writer w) → (failed : Bool) → files.OnlyOwnLink (shown a) (files.link_of writer) (shown b) (link_in now)
      → Called (shown a) (shown b) session writer now (record then { failed = failed })
  call_by now writers client left failed own = record {
    here = ap (writer_of session) same ∙ here;
    writers = λ other. writers other ∙ ap (λ (x : List ℕ). cond (bytes_eq x other) now (writer_of session other)) (sym same);
    before = stands;
    sound = sound;
    named = ap is_path same ∙ named;
    settings = refl;
    namenode = client;
    own = own;
    left = left;
  }

  module _ (more : List ℕ) (writer' : FileWriter) (writers : (other : List ℕ) → get_by_text map other ≡ cond (bytes_eq path other) (Some writer') (writer_of session other))
      (left : files.Stands (shown b) writer' × files.Keeps writer writer' × SameClient session.namenode protocol) (kept : files.IsAnswered may_answer (name_of session.namenode) writer') where
    -- the call of a write
    wrote_by : (failed : Bool) → files.OnlyOwnLink (shown a) (files.link_of writer) (shown b) (files.link_of writer') → Called (shown a) (shown b) session writer (Some writer') (record then { failed = failed })
    wrote_by = call_by (Some writer') writers left.2 (left.0, left.1)

    -- bytes were taken
    pub write_executes : (result : Result ℕ HdfsError) → files.IsIdle writer more a result writer' b → (count : ℕ) → files.has_failed writer' ≡ false → files.Wrote (shown a) writer more (shown b) writer'
        → (count ≡ length more) × (more ≢ [] → files.AreLimited (files.sizes_of writer) × ((files.sizes_of writer).encrypted ≡ false))
        → Executes may_answer (commands.Write name more) (shown a) session (shown b) then (Ok (replies.Written count))
    write_executes result idle count well wrote counted =
        let c = wrote_by session.failed wrote.own in
        subst (λ (n : ℕ). Executes may_answer (commands.Write name more) (shown a) session (shown b) then (Ok (replies.Written n))) (sym counted.0)
        (sent_done c may_answer (commands.Write name more) tt called_there answered kept fine fine well wrote.tallies (λ none d. ap (λ x. (shown x).counts.nodes d) (idle.none none))
        (replies.Written (length more)) refl (written_so c name more called_there wrote.carries counted.1))

    module _ (error : HdfsError) (idle : files.IsIdle writer more a (Err error) writer' b) (lost : files.has_failed writer' ≡ true) where
      -- a writer that has failed keeps no link
      stops_by : (before : Option ℕ) → files.OnlyOwnLink (shown a) before (shown b) None → files.OnlyOwnLink (shown a) before (shown b) (files.link_of writer')
      stops_by before own = subst (files.OnlyOwnLink (shown a) before (shown b)) (sym (left.0.idle lost)) own

      -- without bytes no datanode was touched
      nodes : more ≡ [] → SameNodes (shown a) (shown b)
      nodes none d = ap (λ x. (shown x).counts.nodes d) (idle.none none)

      abbrev Stops : Type 0
      Stops = Executes may_answer (commands.Write name more) (shown a) session (shown b) (record then { failed = true }) (Err error)

      -- they were asked for in vain
      lost_write : more ≢ [] → files.Fails (shown a) writer error (shown b) → Stops
      lost_write some fails =
          let c = wrote_by true (stops_by (files.link_of writer) fails.own) in
          ⊎_elim
          (λ tells.
          sending_fails c may_answer (commands.Write name more) tt called_there answered kept refl lost nodes error fails.touches (λ text is. absurd (subst IsOfWrite is fails.tells.0)) tells fails.limit fails.cause)
          (λ out. unsupported_fails c may_answer (commands.Write name more) tt called_there answered kept refl lost nodes error fails.touches out.0 some some out.1 fails.cause)
          (fails_as_close (files.path_of writer) (shown a) (shown b) error fails.tells fails.refused)

      -- the file's attributes are out of their limits
      refused_write : more ≢ [] → (files.AreLimited (files.sizes_of writer) → ⊥) → error ≡ errors.InvalidArgument args.Options → files.link_of writer ≡ None → b ≡ a → Stops
      refused_write some out is free idle' =
          let shows : shown b ≡ shown a = ap shown idle' in
          let own = subst (λ (x : Shown). files.OnlyOwnLink (shown a) None x None) (sym shows) (own_link_refl (shown a) None) in
          let c = wrote_by true (stops_by (files.link_of writer) (subst (λ (x : Option ℕ). files.OnlyOwnLink (shown a) x (shown b) None) (sym free) own)) in
          fails_by c may_answer (commands.Write name more) tt called_there answered kept refl lost nodes error (λ p bytes told carried. (p, ap (λ (x : Shown). x.picture) shows ∙ told, only_file_refl (files.path_of writer) p))
          (subst IsNotOwed (sym is) tt) (subst (Tells (commands.Write name more) (shown a) (shown b)) (sym is) (some, (tt, tt))) (λ early d. ap (λ (x : Shown). x.counts.nodes d) shows) (inr shows)
          (λ start n fails. absurd (cc (is, fails)))
          (λ state ready o. subst (Cause (world_at session (shown a)) state (commands.Write name more) (shown a) (shown b)) (sym is) (
            (
              some,
              o.file.content,
              subst (λ (x : List ℕ). state.files x ≡ Some (Writing o.file.content)) (sym called_there) o.file.named,
              attributes_out (files.sizes_of writer) o.file.content.attributes o.file.replication o.file.block_size out,
            ),
            tt,
          ))

      -- none were
      pub write_stops : (files.has_failed writer ≡ false → files.AreLimited (files.sizes_of writer) → files.Fails (shown a) writer error (shown b)) → Stops
      write_stops fails =
          let well = stands.fine fine path writer here in
          let some : more ≢ [] = λ none. cc (idle.empty well none) in
          ⊎_elim (λ limited. lost_write some (fails well limited)) (λ out. (let o = idle.options well some out in refused_write some out (cc o.0) o.1 o.2)) (limited_cases (files.sizes_of writer))

  module _ (writers : (other : List ℕ) → get_by_text map other ≡ cond (bytes_eq path other) None (writer_of session other)) (client : SameClient session.namenode protocol) where
    -- a file was closed
    pub close_executes : files.Closed (shown a) writer (shown b) → Executes may_answer (commands.Close name) (shown a) session (shown b) then (Ok replies.Closed)
    close_executes closed =
        let c = call_by None writers client tt session.failed closed.own in
        sent_done c may_answer (commands.Close name) tt called_there answered tt fine fine tt tt (λ none. absurd none) replies.Closed refl (closed_so c name called_there closed.closes)

    -- it wasn't
    pub close_stops : (error : HdfsError) → (files.has_failed writer ≡ false → files.FailsToClose (shown a) writer error (shown b))
        → Executes may_answer (commands.Close name) (shown a) session (shown b) (record then { failed = true }) (Err error)
    close_stops error fails =
        let lost = fails (stands.fine fine path writer here) in
        sending_fails (call_by None writers client tt true lost.own) may_answer (commands.Close name) tt called_there answered tt refl tt (λ none. absurd none) error lost.touches (λ text is. tt) lost.tells lost.limit lost.cause
