-- A client closes a file as a session does.
use Rattle.std.proofs.Common.{◌≡◌, ℕ, Bool, true, false, not, cond, ◌&&◌, List, Option, Some, is_some, Ok, Err, refl, ◌∙◌, ap, subst}
use Rattle.std.specs.Prelude.{IfErr, OnOk, Result, is_ok}
use Rattle.std.specs.Str.{bytes_eq}
use Rattle.hdfs_cluster.specs.declared.attributes.Attributes.{Attributes}
use Rattle.hdfs_cluster.specs.declared.errors.HdfsError.{HdfsError}
use Rattle.hdfs_cluster.specs.Files.{Content, File, Node, State, Writing}
use Rattle.hdfs_cluster.specs.Picture.{Picture}
use Rattle.hdfs_cluster.specs.Shown.{Shown}
use Rattle.hdfs_cluster.specs.Sound.{IsSound}
use Rattle.hdfs_cluster.specs.Stores.{AgreesAt}
use Rattle.hdfs_model.specs.declared.commands.Command.TheVariants as commands
use Rattle.hdfs_model.specs.declared.commands.Reply.TheVariants as replies
use Rattle.hdfs_model.specs.Causes.{IsDone}
use Rattle.hdfs_model.specs.Sessions.{SameOpened, defaults_of}
use Rattle.hdfs_model.specs.Steps.{Done, World, step, target_of, without}
use Rattle.hdfs_namenode.specs.Clients.{defaults_of as kept_by}
use Rattle.hdfs_namenode.specs.declared.protocol.NamenodeProtocol.{NamenodeProtocol}
use Rattle.hdfs_file_writer.specs.Failing.{TellsClose}
use Rattle.hdfs_file_writer.specs.OnlyFiles.{OnlyFile}
use Rattle.hdfs_file_writer.specs.Tails.{FileCarries}
use Rattle.hdfs_file_writer.specs.Writers as files
use Rattle.hdfs_file_writer.specs.declared.file_writer.FileWriter as inner
use Rattle.hdfs_client.specs.Holding.{ChangesService, MayGive}
use Rattle.hdfs_client.specs.Writing.{SeenBy, lease_of, open_of, service_of}
use Rattle.hdfs_client.specs.declared.client.Client.{Client}
use Rattle.hdfs_client.specs.declared.file_lease.FileLease.{FileLease}
use Rattle.hdfs_client.specs.declared.writing.FileWriter.{FileWriter}
use Rattle.hdfs_commands.proofs.OneFile.{agrees_with, open_attributes}
use Rattle.hdfs_commands.proofs.OpenFiles.{close_is_done, closed_state, state_with_node, without_any}
use Rattle.hdfs_client_steps.specs.OpenFiles.{ClosesAs, opened_without}
use Rattle.hdfs_client_steps.specs.Steps.{Does}
use Rattle.hdfs_client_steps.proofs.Applying.{absolute_path, done_applied}
use Rattle.hdfs_client_steps.proofs.Held.{IsHeld, agrees, carried, defaults_kept, knows_still, opened_at, others_carried, seen_whole, sending_fails, told}

-- what isn't taken out is in it still
still_in : (b here : Bool) → cond b false here ≡ (not b && here)
still_in true here = refl
still_in false here = refl

-- what a service knows stays, whether it gives a lease back or not
knows_given : (given : Bool) (lease : Option FileLease) (before after : NamenodeProtocol) → MayGive given lease before after → kept_by after ≡ kept_by before
knows_given true lease before after may = may.same.defaults
knows_given false lease before after may = may.defaults

module _ {client : Client} {old : Shown} {path : List ℕ} {opened : List ℕ → Bool} {world : World} {state : State} {writer : FileWriter}
    (held : IsHeld client old path opened world state (commands.Close path) writer) where
  -- its file
  abbrev file : inner.FileWriter
  file = held.holds.file

  -- the content that the file has
  abbrev content : Content
  content = (carried held).content

  -- the state behind it
  abbrev next : State
  next = closed_state state path content

  -- the command is done at its path
  called : target_of world (commands.Close path) ≡ path
  called = absolute_path world.home path held.named

  -- what the step comes to
  steps : step world state (commands.Close path) ≡ Done replies.Closed next
  steps = close_is_done world state path path content called held.named (opened_at held) (carried held).named

  -- so the step does what it asks
  is_done : IsDone (step world state (commands.Close path))
  is_done = (replies.Closed, next, steps)

  -- the path is open no more, and the others are
  opened_next : SameOpened (opened_without path opened) next
  opened_next other =
      without_any path other state.opened
      ∙ still_in (bytes_eq path other) _
      ∙ ap (λ (b : Bool). not (bytes_eq path other) && b) (held.ready.opened other)

  module _ {new : Shown} (closed : files.Closed old file new) where
    -- a closed file stands at the path
    closes_at : (p : Picture) (bytes : List ℕ) → old.picture ≡ Some p → (carries : FileCarries p path (files.tail_of file) bytes)
        → (q : Picture) × (new.picture ≡ Some q) × OnlyFile path p q × AgreesAt q (q.names path) (Some (File (record { bytes = bytes; attributes = carries.file.attributes })))
    closes_at =
        subst
        (λ (x : List ℕ). (p : Picture) (bytes : List ℕ) → old.picture ≡ Some p → (carries : FileCarries p x (files.tail_of file) bytes)
        → (q : Picture) × (new.picture ≡ Some q) × OnlyFile x p q × AgreesAt q (q.names x) (Some (File (record { bytes = bytes; attributes = carries.file.attributes }))))
        held.holds.at
        (λ p bytes is carries. (let on = closed.closes p bytes is carries in (on.0, on.1, on.2, on.3)))

    -- with the content that the state has there
    closes_here : (q : Picture) × (new.picture ≡ Some q) × OnlyFile path (told held).0 q × AgreesAt q (q.names path) (Some (File content))
    closes_here =
        let p = (told held).0 in
        let there : AgreesAt p (p.names path) (Some (Writing content)) =
        subst (λ (n : Option Node). AgreesAt p (p.names path) n) (carried held).named (agrees held path) in
        let attributes = open_attributes p p path content (files.tail_of file) content.bytes (carried held).carries there in
        let on = closes_at p content.bytes (told held).1 (carried held).carries in (
          on.0,
          on.1,
          on.2,
          subst (λ (a : Attributes). AgreesAt on.0 (on.0.names path) (Some (File (record { bytes = content.bytes; attributes = a })))) attributes on.3,
        )

    -- it did what the command does
    close_done : Does world state (commands.Close path) path opened old (opened_without path opened) new (Ok replies.Closed)
    close_done =
        let p = (told held).0 in
        let on = closes_here in
        record {
          applied = done_applied world state (commands.Close path) old new replies.Closed next on.0 steps
              (record { numbers = refl; attributes = tt; plain = record { bytes = λ moves. moves.0; file = λ opens. opens } })
              (state_with_node state path content (File content) held.ready.fits.is_state (carried held).named (without path state.opened)) on.1
              (agrees_with path p on.0 (held.sound p (told held).1) on.2 state.files (agrees held) (File content) on.3) opened_next;
          others = others_carried held new on.0 on.1 on.2;
          defaults = defaults_kept held new on.0 on.1 on.2;
        }

    -- the cluster's defaults stay
    close_keeps_defaults : defaults_of new.picture ≡ defaults_of old.picture
    close_keeps_defaults = let on = closes_here in defaults_kept held new on.0 on.1 on.2

  -- an error of the file's writer
  close_fails : (new : Shown) (error : HdfsError) → files.FailsToClose old file error new
      → Does world state (commands.Close path) path opened old opened new (Err error)
  close_fails new error fails =
      sending_fails held tt called (λ r. refl) (λ now byte lost. lost) is_done new fails.own.later error
      (subst (λ (x : List ℕ). TellsClose x old new error) held.holds.at fails.tells) fails.touches fails.cause

module _ {C : Type 0} (shown : C → Shown) (sound : (c : C) (p : Picture) → (shown c).picture ≡ Some p → IsSound p) (client client' : Client)
    (writer : FileWriter) (old new : C) where
  -- What `close` of a writer ensures is what the command does.
  pub close_does : (result : Result Unit HdfsError)
      → OnOk result ((file : inner.FileWriter) → open_of writer ≡ Some file → SeenBy shown client writer old new (λ s t. files.Closed s file t))
      → IfErr result (λ error. (file : inner.FileWriter) → open_of writer ≡ Some file → files.has_failed file ≡ false
      → SeenBy shown client writer old new (λ s t. files.FailsToClose s file error t))
      → ChangesService (MayGive (is_ok result && is_some (open_of writer)) (lease_of writer)) (service_of writer) client client'
      → ClosesAs client writer (shown old) client' (shown new) result
  close_does (Ok done) closes fails changes = λ whole path named opened is_open world its_world state ready holds.
      (let held : IsHeld client (shown old) path opened world state (commands.Close path) writer =
      record { sound = sound old; named = named; is_open = is_open; its_world = its_world; ready = ready; holds = holds } in
      let file = holds.file in
      let did = seen_whole shown client writer file holds.is_open old new (λ s t. files.Closed s file t) whole (closes file holds.is_open) in (
        close_done held did,
        knows_still (knows_given (is_some (open_of writer)) (lease_of writer)) changes (shown old) (shown new) (close_keeps_defaults held did),
      ))
  close_does (Err error) closes fails changes = λ whole path named opened is_open world its_world state ready holds.
      (let held : IsHeld client (shown old) path opened world state (commands.Close path) writer =
      record { sound = sound old; named = named; is_open = is_open; its_world = its_world; ready = ready; holds = holds } in
      let file = holds.file in
      let does = close_fails held (shown new) error
      (seen_whole shown client writer file holds.is_open old new (λ s t. files.FailsToClose s file error t) whole (fails file holds.is_open holds.fine)) in
      (does, knows_still (knows_given false (lease_of writer)) changes (shown old) (shown new) does.defaults))
