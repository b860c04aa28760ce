-- Errors of a command that opens a file to be written.
use Rattle.std.proofs.Common.{◌≡◌, inl, inr, ℕ, true, false, is_some, List, Some, Err, sym, ◌∙◌, ap, subst}
use Rattle.hdfs_cluster.specs.declared.asks.Ask.{Ask}
use Rattle.hdfs_model.specs.declared.commands.Command.{Command}
use Rattle.hdfs_model.specs.declared.commands.Command.TheVariants as commands
use Rattle.hdfs_model.specs.declared.commands.Reply.{Reply}
use Rattle.hdfs_model.specs.declared.commands.WriteOptions.{WriteOptions}
use Rattle.hdfs_cluster.specs.declared.errors.HdfsError.{HdfsError}
use Rattle.hdfs_cluster.specs.Failures.{CallsRose}
use Rattle.hdfs_model.specs.Causes.{Cause, CommandLost, Sends, Tells}
use Rattle.hdfs_cluster.specs.Files.{State}
use Rattle.hdfs_cluster.specs.Namenode.{MayBeDone}
use Rattle.hdfs_cluster.specs.Picture.{Picture, SameButActive, SameFiles}
use Rattle.hdfs_model.specs.Sessions.{is_before_asking}
use Rattle.hdfs_cluster.specs.Shown.{Shown}
use Rattle.hdfs_model.specs.Steps.{is_opened, target_of}
use Rattle.hdfs_cluster.specs.Stores.{Agrees}
use Rattle.hdfs_cluster.proofs.Frames.{told_before, told_weaker}
use Rattle.hdfs_cluster.specs.Repeating.{DoneOrNot, Repeats}
use Rattle.hdfs_namenode.specs.Relaying.{Came, RelaysTold, TellsAsk}
use Rattle.hdfs_namenode.proofs.Relayed.{relayed_done}
use Rattle.hdfs_file_writer.specs.Writers as files
use Rattle.hdfs_file_writer.specs.declared.file_writer.FileWriter.{FileWriter}
use Rattle.hdfs_commands.specs.Acting.{Acts, IsReady, world_at}
use Rattle.hdfs_file_reader.specs.Looking.{OnlyLooks}
use Rattle.hdfs_commands.specs.Preparing.{Remembers}
use Rattle.hdfs_commands.specs.Session.{CarriesFile, CarriesOpen, Stands, after, writer_of}
use Rattle.hdfs_commands.specs.declared.session.Session.{Session}
use Rattle.hdfs_commands.proofs.Still.{carries_stays}
use Rattle.hdfs_commands.proofs.Acted.{failed_acts, spares_but}
use Rattle.hdfs_commands.proofs.Agreeing.{agrees_files, is_told}
use Rattle.hdfs_commands.proofs.Opening.{Over}
use Rattle.hdfs_file_reader.proofs.Looking.{looks_from-Leaves, looks_trans}
use Rattle.hdfs_file_reader.proofs.Transfers.{OnlyAsks}
use Rattle.hdfs_commands.proofs.Refusing.{ask_not_early, ask_tells, exception_cause, rose_cause}

-- an ask that was done or not may be done
pub may_be_done : (ask : Ask) (p q : Picture) → DoneOrNot ask p q → MayBeDone ask p q
may_be_done ask p q (inl same) = inl same
may_be_done ask p q (inr done) = inr (inl done)

-- the command sends nothing, and asks for no bytes
pub record IsStill (command : Command) : Type 0 where
  pub sends : Sends command → ⊥
  pub found : (old new : Shown) (path : List ℕ) (byte : ℕ) → CommandLost old.counts new path command byte → ⊥

pub create_still : (name : List ℕ) (options : WriteOptions) → IsStill (commands.Create name options)
create_still name options = record { sends = λ sends. sends; found = λ old new path byte lost. lost }

pub append_still : (name : List ℕ) → IsStill (commands.Append name)
append_still name = record { sends = λ sends. sends; found = λ old new path byte lost. lost }

module _ (command : Command) (still : IsStill command) (s m : Shown) (session : Session) (stands : Stands s session) (quiet : OnlyAsks s m) where
  pub agrees_still : (state : State) → IsReady s session state command → Agrees m.picture state.files
  agrees_still state ready =
      agrees_files s.picture m.picture state.files (told_weaker SameButActive SameFiles s.picture m.picture (λ p q same. same.files) quiet.1) ready.ready.fits.agrees

  -- the session's files are carried still
  carried_still : (state : State) → IsReady s session state command → (p : Picture) → m.picture ≡ Some p → (r : List ℕ) (writer : FileWriter) → writer_of session r ≡ Some writer → CarriesFile p state r writer
  carried_still state ready p told r writer is =
      let one = told_before SameButActive s.picture m.picture p quiet.1 told in
      carries_stays one.0 p one.2.files one.2.writes state r writer (ready.carried.each one.0 one.1 r writer is)

  -- also where it has failed
  pub open_still : {session' : Session} → ((r : List ℕ) → writer_of session' r ≡ writer_of session r) → (state : State) → IsReady s session state command → CarriesOpen m session' state
  open_still writers state ready = record { each = λ p told r writer is. inr (carried_still state ready p told r writer (sym (writers r) ∙ is)) }

  module _ (t : Shown) (session' : Session) (writers : (r : List ℕ) → writer_of session' r ≡ writer_of session r) (remembers : Remembers session session') (ask : Ask) (path : List ℕ)
      (called : (state : State) → target_of (world_at session s) command ≡ path)
      (over : (state : State) → IsReady s session state command → (p : Picture) → m.picture ≡ Some p → Over p (world_at session s) state command path ask) where
    -- what the writers of other files carry they carry behind an ask that may have been done
    pub others_open : (state : State) → IsReady s session state command → (p : Picture) → m.picture ≡ Some p → (q : Picture) → t.picture ≡ Some q → MayBeDone ask p q → CarriesOpen t session' state
    others_open state ready p was q now may = record {
      each = λ x told r writer is.
          (let there : writer_of session r ≡ Some writer = sym (writers r) ∙ is in
          let o = over state ready p was in
          let opened : is_opened state r ≡ true = ready.ready.opened r ∙ ap is_some there in
          let c = carried_still state ready p was r writer there in
          let same : q ≡ x = cc (now, told) in
          inr (subst (λ (y : Picture). CarriesFile y state r writer) same (record {
            content = c.content;
            named = c.named;
            carries = o.keeps q may r (files.tail_of writer) c.content.bytes opened c.carries;
            replication = c.replication;
            block_size = c.block_size;
          })));
    }

    -- an error behind an ask that may have been done
    pub late_acts : (error : HdfsError) → is_before_asking error ≡ false → OnlyLooks m t → Tells command s t error
        → ((state : State) → IsReady s session state command → (p : Picture) → m.picture ≡ Some p → Cause (world_at session s) state command s t error × ((q : Picture) × (t.picture ≡ Some q) × MayBeDone ask p q))
        → Acts command s session t (after {T = Reply} session' (Err error)) (Err error)
    late_acts error late looks tells cause =
        failed_acts command still.sends s t session session' error stands (looks_trans s m t quiet.0 looks) writers remembers tells (still.found s t)
        (λ state ready.
        (let told = is_told m.picture state.files (agrees_still state ready) in
        let h = cause state ready told.0 told.1 in (
          h.0,
          spares_but (world_at session s) state command error path t.picture h.1.0 (called state) late h.1.1 ((over state ready told.0 told.1).spares h.1.0 h.1.2)
              (λ why is. (over state ready told.0 told.1).unchanged why is h.1.0 h.1.2),
        )))
        (λ state ready.
        (let told = is_told m.picture state.files (agrees_still state ready) in
        let h = cause state ready told.0 told.1 in
        others_open state ready told.0 told.1 h.1.0 h.1.1 h.1.2))

    pub asked_cause : (state : State) → IsReady s session state command → (p : Picture) → m.picture ≡ Some p → (error : HdfsError) → TellsAsk m t error
        → (q : Picture) → RelaysTold (CallsRose m.counts t) p ask (Err error) q → Cause (world_at session s) state command s t error
    asked_cause state ready p told error tells q (inl memory) = subst (Cause (world_at session s) state command s t) (sym memory.0) (tt, tt)
    asked_cause state ready p told error tells q (inr (inl refused)) =
        let o = over state ready p told in
        let by = refused.0 in
        subst (Cause (world_at session s) state command s t) (sym by.3)
        (exception_cause (world_at session s) state command s t by.0 by.1 (inl (o.refused by.0 by.2)))
    asked_cause state ready p told error tells q (inr (inr rose)) =
        rose_cause (world_at session s) state command s m t error quiet.0.later.counts tells rose.0

    -- an error of the ask
    pub refused_acts : (error : HdfsError) → Came m ask (Err error) t → ((p : Picture) → Repeats ask p) → Acts command s session t (after {T = Reply} session' (Err error)) (Err error)
    refused_acts error came repeats =
        late_acts error (ask_not_early m t error came.relays.tells) (looks_from-Leaves m t came.relays.leaves) (ask_tells command s m t error quiet.0.later.counts came.relays.tells)
        (λ state ready p told.
        (let to = came.told p told (repeats p) in
        (asked_cause state ready p told error came.relays.tells to.0 to.2, (to.0, to.1, may_be_done ask p to.0 (relayed_done (CallsRose m.counts t) p ask (Err error) to.0 tt to.2)))))
