-- What a call of a writer comes to that holds an open file, over a told cluster.
use Rattle.std.proofs.Common.{◌≡◌, ◌≢◌, ◌⊎◌, inl, inr, ℕ, ◌==◌, Bool, true, false, List, [], ◌∷◌, Option, Some, None, Err, refl, sym, ◌∙◌, ap, subst}
use Rattle.std.proofs.lemmas.Bool.{cases_Bool, false≢true}
use Rattle.std.proofs.lemmas.Bool.Decides.{Decides-eqb}
use Rattle.std.specs.Prelude.{IfSome}
use Rattle.std.specs.Str.{bytes_eq}
use Rattle.hdfs_cluster.specs.declared.errors.HdfsError.{HdfsError}
use Rattle.hdfs_cluster.specs.declared.messages.ServerDefaults.{ServerDefaults}
use Rattle.hdfs_cluster.specs.Failures.{MayReplace}
use Rattle.hdfs_cluster.specs.Files.{State}
use Rattle.hdfs_cluster.specs.Picture.{Picture}
use Rattle.hdfs_cluster.specs.Shown.{Later, Shown}
use Rattle.hdfs_cluster.specs.Sound.{IsSound}
use Rattle.hdfs_cluster.specs.Stores.{AgreesAt}
use Rattle.hdfs_names.specs.Paths.{is_path}
use Rattle.hdfs_names.specs.declared.replacement.Policy.{Policy}
use Rattle.hdfs_model.specs.declared.commands.Command.{Command}
use Rattle.hdfs_model.specs.Causes.{Cause, CommandLost, IsDone, ReplacesAt, Sends}
use Rattle.hdfs_model.specs.Scenes.{Ready}
use Rattle.hdfs_model.specs.Sessions.{defaults_of, is_before_asking, touched}
use Rattle.hdfs_model.specs.Steps.{World, is_opened, step, target_of}
use Rattle.hdfs_namenode.specs.Clients.{defaults_of as kept_by}
use Rattle.hdfs_namenode.specs.declared.protocol.NamenodeProtocol.{NamenodeProtocol}
use Rattle.hdfs_rebuild.specs.declared.block_plan.RebuildSettings.{RebuildSettings}
use Rattle.hdfs_file_writer.specs.Failing.{CauseOfWrite, TellsClose}
use Rattle.hdfs_file_writer.specs.OnlyFiles.{OnlyFile}
use Rattle.hdfs_file_writer.specs.Tails.{FileCarries}
use Rattle.hdfs_file_writer.specs.Writers as files
use Rattle.hdfs_file_writer.specs.declared.file_writer.FileWriter as inner
use Rattle.hdfs_file_writer.proofs.Others.{carries_others}
use Rattle.hdfs_client.specs.Clients.{service_at}
use Rattle.hdfs_client.specs.Holding.{ChangesService}
use Rattle.hdfs_client.specs.Writing.{SeenBy, WritesWhole, open_of}
use Rattle.hdfs_client.specs.declared.client.Client.{Client}
use Rattle.hdfs_client.specs.declared.writing.FileWriter.{FileWriter}
use Rattle.hdfs_namenode.specs.Views.{Whole}
use Rattle.hdfs_commands.specs.Meeting.{KnowsDefaults}
use Rattle.hdfs_commands.specs.Session.{CarriesFile}
use Rattle.hdfs_commands.proofs.Acted.{spares_but}
use Rattle.hdfs_commands.proofs.OneFile.{agrees_elsewhere, apart_by_test}
use Rattle.hdfs_commands.proofs.WriteFaults.{cause_sending, is_after_asking}
use Rattle.hdfs_client_steps.specs.OpenFiles.{Holds, IsWorldOf}
use Rattle.hdfs_client_steps.specs.Steps.{Does, KeepsCarried, Knows, holding}
use Rattle.hdfs_client_steps.proofs.Applying.{agrees_of, failed_applied, told_of}

-- what a service sees that is all of the cluster's namenodes is so of the cluster as it is
pub seen_whole : {C : Type 0} (shown : C → Shown) (client : Client) (writer : FileWriter) (file : inner.FileWriter) → open_of writer ≡ Some file → (old new : C)
    (IsSo : Shown → Shown → Type 0) → WritesWhole client (shown old) writer → SeenBy shown client writer old new IsSo → IsSo (shown old) (shown new)
seen_whole shown client writer file is old new IsSo whole seen =
    let by = whole file is in
    seen by.0 by.1 Whole by.2

-- what is known of the defaults is the cluster's still, where both are what they were
knows_kept : (old new : Shown) (before after : Option ServerDefaults) → after ≡ before → defaults_of new.picture ≡ defaults_of old.picture
    → KnowsDefaults old before → KnowsDefaults new after
knows_kept old new before after same kept knows =
    subst (λ (known : Option ServerDefaults). KnowsDefaults new known) (sym same)
    (subst (λ (d : ServerDefaults). IfSome before (λ known. known ≡ d)) (sym kept) knows)

-- A client of which one service changes, that knows what it knew, knows no other defaults than the cluster's still, where those stay.
pub knows_still : {Changes : NamenodeProtocol → NamenodeProtocol → Type 0} (keeps : (before after : NamenodeProtocol) → Changes before after → kept_by after ≡ kept_by before)
    {k : ℕ} {client client' : Client} → ChangesService Changes k client client' → (old new : Shown) → defaults_of new.picture ≡ defaults_of old.picture
    → Knows client old → Knows client' new
knows_still {Changes} keeps {k} {client} {client'} changes old new kept knows = λ i namenode is. by i namenode is (cases_Bool (i == k))
  where
    at_k : (o : Option NamenodeProtocol) → service_at client k ≡ o → (namenode : NamenodeProtocol) → service_at client' k ≡ Some namenode → KnowsDefaults new (kept_by namenode)
    at_k None was namenode is = let none = changes.none was in absurd (cc (none, is))
    at_k (Some before) was namenode is =
        let to = changes.service before was in
        let one : to.0 ≡ namenode = (let there = to.1 in cc (there, is)) in
        subst (λ (n : NamenodeProtocol). KnowsDefaults new (kept_by n)) one
        (knows_kept old new (kept_by before) (kept_by to.0) (keeps before to.0 to.2) kept (knows k before was))

    by : (i : ℕ) (namenode : NamenodeProtocol) → service_at client' i ≡ Some namenode → ((i == k) ≡ true) ⊎ ((i == k) ≡ false) → KnowsDefaults new (kept_by namenode)
    by i namenode is (inl here) = at_k (service_at client k) refl namenode (ap (service_at client') (sym ((Decides-eqb i k).0 here)) ∙ is)
    by i namenode is (inr apart) =
        let other : i ≢ k = λ e. false≢true (sym apart ∙ (Decides-eqb i k).1 e) in
        knows_kept old new (kept_by namenode) (kept_by namenode) refl kept (knows i namenode (sym (changes.others.others i other) ∙ is))

-- A program is ready to run a command at a path that it has open, over a sound cluster that tells its picture, and a writer holds the file.
pub record IsHeld (client : Client) (old : Shown) (path : List ℕ) (opened : List ℕ → Bool) (world : World) (state : State) (command : Command)
    (writer : FileWriter) : Type 0 where
  pub sound : (p : Picture) → old.picture ≡ Some p → IsSound p
  pub named : is_path path ≡ true
  pub is_open : opened path ≡ true
  pub its_world : IsWorldOf client old world
  pub ready : Ready world (holding opened old) state (command ∷ [])
  pub holds : Holds client old state path writer

module _ {client : Client} {old : Shown} {path : List ℕ} {opened : List ℕ → Bool} {world : World} {state : State} {command : Command} {writer : FileWriter}
    (held : IsHeld client old path opened world state command writer) where
  -- the picture that is told
  abbrev pub told : (p : Picture) × (old.picture ≡ Some p)
  told = told_of old world state command held.ready

  -- it agrees with the files
  pub agrees : (r : List ℕ) → AgreesAt told.0 (told.0.names r) (state.files r)
  agrees = agrees_of old world state command held.ready

  -- the state has the path open
  pub opened_at : is_opened state path ≡ true
  opened_at = held.ready.opened path ∙ held.is_open

  -- the file as the writer carries it
  abbrev pub carried : CarriesFile told.0 state path held.holds.file
  carried = held.holds.carries told.0 told.1

  -- the same at the path that the writer has for it
  pub carried_there : FileCarries told.0 (files.path_of held.holds.file) (files.tail_of held.holds.file) carried.content.bytes
  carried_there = subst (λ (x : List ℕ). FileCarries told.0 x (files.tail_of held.holds.file) carried.content.bytes) (sym held.holds.at) carried.carries

  -- what the writers of other files carry they carry still, where only this file changes
  pub others_carried : (new : Shown) (q : Picture) → new.picture ≡ Some q → OnlyFile path told.0 q → KeepsCarried opened path old new
  others_carried new q now only = λ x y was is other is_there apart tail bytes carries.
      (let p = told.0 in
      let first : p ≡ x = (let there = told.1 in cc (there, was)) in
      let then : q ≡ y = cc (now, is) in
      subst (λ (z : Picture). FileCarries z other tail bytes) then
      (carries_others path p q (held.sound p told.1) only other tail bytes apart (subst (λ (z : Picture). FileCarries z other tail bytes) (sym first) carries)))

  -- and the defaults are what they were
  pub defaults_kept : (new : Shown) (q : Picture) → new.picture ≡ Some q → OnlyFile path told.0 q → defaults_of new.picture ≡ defaults_of old.picture
  defaults_kept new q now only = ap defaults_of now ∙ only.defaults ∙ sym (ap defaults_of told.1)

  -- only the file was touched
  touched_there : (new : Shown) → files.TouchesFile old held.holds.file new → (q : Picture) × (new.picture ≡ Some q) × OnlyFile path told.0 q
  touched_there new touches =
      let on = touches told.0 carried.content.bytes told.1 carried_there in
      (on.0, on.1, subst (λ (x : List ℕ). OnlyFile x told.0 on.0) held.holds.at on.2)

  -- the cause that the writer has for an error
  pub caused_there : (new : Shown) (error : HdfsError) → files.HasCause old held.holds.file error new
      → CauseOfWrite (files.sizes_of held.holds.file) path old new error
  caused_there new error causes =
      subst (λ (x : List ℕ). CauseOfWrite (files.sizes_of held.holds.file) x old new error) held.holds.at
      (causes told.0 carried.content.bytes told.1 carried_there)

  module _ (sends : Sends command) (called : target_of world command ≡ path) (own : (r : List ℕ) → touched state path command r ≡ bytes_eq path r)
      (lost : (new : Shown) (byte : ℕ) → CommandLost old.counts new (target_of world command) command byte → ⊥) (done : IsDone (step world state command)) where
    -- an error that came once something was asked, for a cause
    pub fails_for : (new : Shown) → Later old new → (error : HdfsError) → is_before_asking error ≡ false → Cause world state command old new error
        → files.TouchesFile old held.holds.file new → Does world state command path opened old opened new (Err error)
    fails_for new later error asked cause touches =
        let p = told.0 in
        let on = touched_there new touches in
        record {
          applied = failed_applied world state command old new later.namenodes (lost new) error (
            cause,
            spares_but world state command error path new.picture on.0 called asked on.1
                (λ r free. agrees_elsewhere path p on.0 (held.sound p told.1) on.2 state.files agrees r (apart_by_test path r (sym (own r) ∙ free)))
                (λ why is. absurd (let does = done.2 in cc (does, is))),
          );
          others = others_carried new on.0 on.1 on.2;
          defaults = defaults_kept new on.0 on.1 on.2;
        }

    -- a datanode of the file's pipeline may have to be replaced, by the client's policy and the file's replication
    replaces_there : MayReplace (files.sizes_of held.holds.file).rebuilding.replace.policy (files.sizes_of held.holds.file).replication → ReplacesAt world state path
    replaces_there may = (
      carried.content,
      carried.named,
      subst (λ (n : ℕ). MayReplace world.policy n) carried.replication
          (subst (λ (policy : Policy). MayReplace policy (files.sizes_of held.holds.file).replication)
          (ap (λ (r : RebuildSettings). r.replace.policy) held.holds.rebuilding ∙ sym held.its_world.policy) may),
    )

    -- an error of a writer of a file, but for bytes that are to be encrypted
    pub sending_fails : (new : Shown) → Later old new → (error : HdfsError) → TellsClose path old new error → files.TouchesFile old held.holds.file new
        → files.HasCause old held.holds.file error new → Does world state command path opened old opened new (Err error)
    sending_fails new later error tells touches causes =
        fails_for new later error (is_after_asking path error tells.0)
        (cause_sending path command sends old new world state called done (files.sizes_of held.holds.file)
        (ap (λ (r : RebuildSettings). r.rebuild_limit) held.holds.rebuilding ∙ sym held.its_world.rebuilds) (held.holds.setups ∙ sym held.its_world.setups)
        (ap (λ (r : RebuildSettings). r.replace.best_effort) held.holds.rebuilding ∙ sym held.its_world.best_effort) replaces_there error tells
        (caused_there new error causes))
        touches
