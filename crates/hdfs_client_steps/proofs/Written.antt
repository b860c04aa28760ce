-- A client writes to a file as a session does.
use Rattle.std.proofs.Common.{◌≡◌, ◌≢◌, ⊎_elim, inl, ℕ, Bool, true, false, cond, List, [], ◌++◌, length, Option, Some, Ok, Err, refl, sym, ◌∙◌, ap, subst}
use Rattle.std.proofs.lemmas.Bool.{false≢true}
use Rattle.std.specs.Prelude.{IfErr, IfOk, OnErr, OnOk, Result}
use Rattle.hdfs_cluster.specs.declared.errors.ArgFault.TheVariants as args
use Rattle.hdfs_cluster.specs.declared.errors.HdfsError.{HdfsError}
use Rattle.hdfs_cluster.specs.declared.errors.HdfsError.TheVariants as errors
use Rattle.hdfs_cluster.specs.declared.messages.ServerDefaults.{ServerDefaults}
use Rattle.hdfs_cluster.specs.Files.{Content, Node, State, Writing}
use Rattle.hdfs_cluster.specs.Limits.{are_attributes}
use Rattle.hdfs_cluster.specs.Picture.{Picture}
use Rattle.hdfs_cluster.specs.Shown.{Later, Shown}
use Rattle.hdfs_cluster.specs.Sound.{IsSound}
use Rattle.hdfs_cluster.specs.Stores.{AgreesAt}
use Rattle.hdfs_names.specs.declared.replacement.ReplaceDatanodeOnFailure.{ReplaceDatanodeOnFailure}
use Rattle.hdfs_rebuild.specs.declared.block_plan.RebuildSettings.{RebuildSettings}
use Rattle.hdfs_model.specs.declared.commands.Command.TheVariants as commands
use Rattle.hdfs_model.specs.declared.commands.Reply.TheVariants as replies
use Rattle.hdfs_model.specs.Causes.{IsDone}
use Rattle.hdfs_model.specs.Sessions.{IsLimited, defaults_of, spared}
use Rattle.hdfs_model.specs.Steps.{Done, World, step, target_of}
use Rattle.hdfs_namenode.specs.Clients.{SameClient}
use Rattle.hdfs_file_writer.specs.OnlyFiles.{OnlyFile, SameFile}
use Rattle.hdfs_file_writer.specs.Tails.{FileCarries}
use Rattle.hdfs_file_writer.specs.Writers as files
use Rattle.hdfs_file_writer.specs.declared.file_writer.FileWriter as inner
use Rattle.hdfs_file_writer.specs.declared.sizes.WriteSizes.{WriteSizes}
use Rattle.hdfs_file_writer.proofs.Moving.{only_file_refl}
use Rattle.hdfs_client.specs.Clients.{replacement_of}
use Rattle.hdfs_client.specs.Holding.{ChangesService}
use Rattle.hdfs_client.specs.Writing.{GoesOn, SeenBy, open_of, service_of}
use Rattle.hdfs_client.specs.declared.client.Client.{Client}
use Rattle.hdfs_client.specs.declared.writing.FileWriter.{FileWriter}
use Rattle.hdfs_commands.specs.Session.{CarriesFile}
use Rattle.hdfs_commands.proofs.Agreeing.{agrees_but}
use Rattle.hdfs_commands.proofs.Limited.{attributes_in, attributes_out, limited_cases}
use Rattle.hdfs_commands.proofs.OneFile.{agrees_with, open_agrees, same_test}
use Rattle.hdfs_commands.proofs.OpenFiles.{state_with_node, write_is_done, written_state}
use Rattle.hdfs_commands.proofs.WriteFaults.{fails_as_close, unsupported}
use Rattle.hdfs_client_steps.specs.OpenFiles.{Holds, HoldsNext, WritesAs}
use Rattle.hdfs_client_steps.specs.Steps.{Does, Knows}
use Rattle.hdfs_client_steps.proofs.Applying.{absolute_path, done_applied, failed_applied}
use Rattle.hdfs_client_steps.proofs.Held.{IsHeld, agrees, carried, carried_there, caused_there, defaults_kept, fails_for, knows_still, opened_at, others_carried, seen_whole, sending_fails, told}

-- how a client of this policy goes on where a datanode fails
abbrev going_by : ReplaceDatanodeOnFailure → RebuildSettings
going_by replace = record { replace = replace; rebuild_limit = 8; window = 100 }

module _ {client : Client} {old : Shown} {path : List ℕ} {opened : List ℕ → Bool} {world : World} {state : State} {more : List ℕ} {writer : FileWriter}
    (held : IsHeld client old path opened world state (commands.Write path more) writer) where
  -- its file
  abbrev file : inner.FileWriter
  file = held.holds.file

  -- the content that the file has
  abbrev content : Content
  content = (carried held).content

  -- and the one that it has then
  abbrev written : Content
  written = record content { bytes = content.bytes ++ more }

  -- the state behind it
  abbrev next : State
  next = written_state state path content more

  -- the command is done at its path
  called : target_of world (commands.Write path more) ≡ path
  called = absolute_path world.home path held.named

  -- what the step comes to
  steps : step world state (commands.Write path more) ≡ Done (replies.Written (length more)) next
  steps = write_is_done world state path path content called held.named (opened_at held) (carried held).named more

  -- so the step does what it asks
  is_done : IsDone (step world state (commands.Write path more))
  is_done = (replies.Written (length more), next, steps)

  -- the same at a path that is equal to its own
  filed : (x : List ℕ) → x ≡ path → state.files x ≡ Some (Writing content)
  filed x is = ap state.files is ∙ (carried held).named

  -- ---- a write that is done

  module _ {new : Shown} {file' : inner.FileWriter} (wrote : files.Wrote old file more new file') where
    -- the bytes are carried behind the others
    carries_more : (q : Picture) × (new.picture ≡ Some q) × FileCarries q path (files.tail_of file') (content.bytes ++ more) × OnlyFile path (told held).0 q
        × SameFile path (told held).0 q
    carries_more =
        subst
        (λ (x : List ℕ). (q : Picture) × (new.picture ≡ Some q) × FileCarries q x (files.tail_of file') (content.bytes ++ more) × OnlyFile x (told held).0 q
        × SameFile x (told held).0 q)
        held.holds.at
        (let on = wrote.carries (told held).0 content.bytes (told held).1 (carried_there held) in (on.0, on.1, on.2, on.3, on.4))

    -- the picture agrees with the next state
    agrees_next : (r : List ℕ) → AgreesAt carries_more.0 (carries_more.0.names r) (next.files r)
    agrees_next =
        let p = (told held).0 in
        let on = carries_more in
        let there : AgreesAt p (p.names path) (Some (Writing content)) =
        subst (λ (n : Option Node). AgreesAt p (p.names path) n) (carried held).named (agrees held path) in
        agrees_with path p on.0 (held.sound p (told held).1) on.3 state.files (agrees held) (Writing written)
        (open_agrees p on.0 path content (files.tail_of file) content.bytes (carried held).carries there written refl on.4)

    -- what it uses is in its limits, and it meets no encryption
    write_limited : (more ≢ [] → files.AreLimited (files.sizes_of file)) → (more ≢ [] → (files.sizes_of file).encrypted ≡ false)
        → IsLimited world state (commands.Write path more)
    write_limited limited plain = record {
      numbers = refl;
      attributes = λ some other is.
          (let one : content ≡ other = (let mine = filed (target_of world (commands.Write path more)) called in cc (mine, is)) in
          subst (λ (c : Content). are_attributes c.attributes ≡ true) one
          (attributes_in (files.sizes_of file) content.attributes (carried held).replication (carried held).block_size (limited some)));
      plain = record {
        bytes = λ moves.
            false≢true (sym (plain moves.0) ∙ held.holds.encrypted
            ∙ ap (λ (d : ServerDefaults). d.encrypt_data_transfer) (sym held.its_world.defaults) ∙ moves.1);
        file = λ opens. opens;
      };
    }

    -- it did what the command does
    write_done : (more ≢ [] → files.AreLimited (files.sizes_of file)) → (more ≢ [] → (files.sizes_of file).encrypted ≡ false)
        → Does world state (commands.Write path more) path opened old opened new (Ok (replies.Written (length more)))
    write_done limited plain =
        let on = carries_more in
        record {
          applied = done_applied world state (commands.Write path more) old new (replies.Written (length more)) next on.0 steps (write_limited limited plain)
              (state_with_node state path content (Writing written) held.ready.fits.is_state (carried held).named state.opened) on.1 agrees_next held.ready.opened;
          others = others_carried held new on.0 on.1 on.3;
          defaults = defaults_kept held new on.0 on.1 on.3;
        }

    -- the cluster's defaults stay
    write_keeps_defaults : defaults_of new.picture ≡ defaults_of old.picture
    write_keeps_defaults = let on = carries_more in defaults_kept held new on.0 on.1 on.3

    -- the writer carries what the next state has
    carries_next : (q : Picture) → new.picture ≡ Some q → CarriesFile q next path file'
    carries_next q is =
        let on = carries_more in
        let one : on.0 ≡ q = (let now = on.1 in cc (now, is)) in
        subst (λ (x : Picture). CarriesFile x next path file') one (record {
          content = written;
          named = ap (λ (b : Bool). cond b (Some (Writing written)) (state.files path)) (same_test path);
          carries = on.2;
          replication = ap (λ (s : WriteSizes). s.replication) wrote.keeps.sizes ∙ (carried held).replication;
          block_size = ap (λ (s : WriteSizes). s.block_size) wrote.keeps.sizes ∙ (carried held).block_size;
        })

    -- its writer holds the file still
    write_holds : {client' : Client} {writer' : FileWriter} → replacement_of client' ≡ replacement_of client → open_of writer' ≡ Some file'
        → files.has_failed file' ≡ false → HoldsNext world state (commands.Write path more) (replies.Written (length more)) client' new path writer'
    write_holds {client'} {writer'} same is fine = λ last ends.
        (let one : next ≡ last = (let mine = steps in cc (mine, ends)) in
        subst (λ (s : State). Holds client' new s path writer') one (record {
          file = file';
          is_open = is;
          at = wrote.keeps.path ∙ held.holds.at;
          fine = fine;
          rebuilding = ap (λ (s : WriteSizes). s.rebuilding) wrote.keeps.sizes ∙ held.holds.rebuilding
              ∙ ap going_by (sym same);
          setups = ap (λ (s : WriteSizes). s.setup_limit) wrote.keeps.sizes ∙ held.holds.setups;
          encrypted = ap (λ (s : WriteSizes). s.encrypted) wrote.keeps.sizes ∙ held.holds.encrypted
              ∙ ap (λ (d : ServerDefaults). d.encrypt_data_transfer) (sym write_keeps_defaults);
          carries = carries_next;
        }))

  -- ---- a write that fails

  module _ (some : more ≢ []) where
    -- bytes that are to be encrypted
    encrypting_fails : (new : Shown) → Later old new → files.TouchesFile old file new → files.HasCause old file unsupported new
        → Does world state (commands.Write path more) path opened old opened new (Err unsupported)
    encrypting_fails new later touches causes =
        fails_for held tt called (λ r. refl) (λ now byte lost. lost) is_done new later unsupported refl (
          inl (
            is_done,
            (
              some,
              ap (λ (d : ServerDefaults). d.encrypt_data_transfer) held.its_world.defaults ∙ sym held.holds.encrypted
                  ∙ caused_there held new unsupported causes,
            ),
          ),
          tt,
        )
        touches

    -- an error of the file's writer
    write_fails : (new : Shown) (error : HdfsError) → files.Fails old file error new → Does world state (commands.Write path more) path opened old opened new (Err error)
    write_fails new error fails =
        ⊎_elim
        (λ tells. sending_fails held tt called (λ r. refl) (λ now byte lost. lost) is_done new fails.own.later error tells fails.touches fails.cause)
        (λ un. subst (λ (e : HdfsError). Does world state (commands.Write path more) path opened old opened new (Err e)) (sym un.0)
        (encrypting_fails new fails.own.later fails.touches (subst (λ (e : HdfsError). files.HasCause old file e new) un.0 fails.cause)))
        (fails_as_close path old new error fails.tells fails.refused)

    -- a file whose attributes are out of their limits
    options_fail : (files.AreLimited (files.sizes_of file) → ⊥)
        → Does world state (commands.Write path more) path opened old opened old (Err (errors.InvalidArgument args.Options))
    options_fail out = record {
      applied = failed_applied world state (commands.Write path more) old old refl (λ byte lost. lost) (errors.InvalidArgument args.Options) (
        (
          (
            some,
            content,
            filed (target_of world (commands.Write path more)) called,
            attributes_out (files.sizes_of file) content.attributes (carried held).replication (carried held).block_size out,
          ),
          tt,
        ),
        agrees_but (spared world state (commands.Write path more) (errors.InvalidArgument args.Options)) old.picture state.files held.ready.fits.agrees,
      );
      others = others_carried held old (told held).0 (told held).1 (only_file_refl path (told held).0);
      defaults = refl;
    }

module _ {C : Type 0} (shown : C → Shown) (sound : (c : C) (p : Picture) → (shown c).picture ≡ Some p → IsSound p) (client client' : Client)
    (writer writer' : FileWriter) (more : List ℕ) (old new : C) where
  -- What `write` of a writer ensures is what the command does, and its writer holds the file still.
  pub write_does : (result : Result ℕ HdfsError)
      → IfOk result (λ n. (n ≡ length more) × GoesOn (λ file file'. SeenBy shown client writer old new (λ s t. files.Wrote s file more t file')) writer writer')
      → IfOk result (λ n. (file : inner.FileWriter) → open_of writer ≡ Some file → more ≢ [] → (files.sizes_of file).encrypted ≡ false)
      → GoesOn (λ file file'. files.IsIdle file more old result file' new × OnOk result (files.has_failed file' ≡ false) × OnErr result (files.has_failed file' ≡ true))
      writer writer'
      → IfErr result (λ error. (file : inner.FileWriter) → open_of writer ≡ Some file → files.has_failed file ≡ false → files.AreLimited (files.sizes_of file)
      → SeenBy shown client writer old new (λ s t. files.Fails s file error t))
      → ChangesService SameClient (service_of writer) client client' → WritesAs client writer more (shown old) client' (shown new) result writer'
  write_does (Ok n) wrote plain goes fails changes = λ whole path named opened is_open world its_world state ready holds.
      (let held : IsHeld client (shown old) path opened world state (commands.Write path more) writer =
      record { sound = sound old; named = named; is_open = is_open; its_world = its_world; ready = ready; holds = holds } in
      let file = holds.file in
      let on = wrote.1 file holds.is_open in
      let did = seen_whole shown client writer file holds.is_open old new (λ s t. files.Wrote s file more t on.0) whole on.2 in
      let idle = goes file holds.is_open in
      let same : idle.0 ≡ on.0 = (let first = idle.1 in let then = on.1 in cc (first, then)) in
      let fine = subst (λ (f : inner.FileWriter). files.has_failed f ≡ false) same idle.2.1 in
      let limited : (more ≢ [] → files.AreLimited (files.sizes_of file)) = λ some.
      ⊎_elim (λ is. is) (λ out. absurd (let none = (idle.2.0.options holds.fine some out).0 in cc none)) (limited_cases (files.sizes_of file)) in
      let kept = write_keeps_defaults held did in
      subst
      (λ (k : ℕ). Does world state (commands.Write path more) path opened (shown old) opened (shown new) (Ok (replies.Written k))
      × (Knows client (shown old) → Knows client' (shown new))
      × HoldsNext world state (commands.Write path more) (replies.Written k) client' (shown new) path writer')
      (sym wrote.0) (
        write_done held did limited (plain file holds.is_open),
        knows_still (λ before after same. same.defaults) changes (shown old) (shown new) kept,
        write_holds held did changes.others.replacement on.1 fine,
      ))
  write_does (Err error) wrote plain goes fails changes = λ whole path named opened is_open world its_world state ready holds.
      (let held : IsHeld client (shown old) path opened world state (commands.Write path more) writer =
      record { sound = sound old; named = named; is_open = is_open; its_world = its_world; ready = ready; holds = holds } in
      let file = holds.file in
      let idle = (goes file holds.is_open).2.0 in
      let some : more ≢ [] = λ none. (let is = idle.empty holds.fine none in absurd (cc is)) in
      let does : Does world state (commands.Write path more) path opened (shown old) opened (shown new) (Err error) = ⊎_elim
      (λ limited. write_fails held some (shown new) error
      (seen_whole shown client writer file holds.is_open old new (λ s t. files.Fails s file error t) whole (fails file holds.is_open holds.fine limited)))
      (λ out. (let refused = idle.options holds.fine some out in
      let is : error ≡ errors.InvalidArgument args.Options = (let same = refused.0 in cc same) in
      subst (λ (c : C). Does world state (commands.Write path more) path opened (shown old) opened (shown c) (Err error)) (sym refused.2)
      (subst (λ (e : HdfsError). Does world state (commands.Write path more) path opened (shown old) opened (shown old) (Err e)) (sym is) (options_fail held some out))))
      (limited_cases (files.sizes_of file)) in
      (does, knows_still (λ before after same. same.defaults) changes (shown old) (shown new) does.defaults, tt))
