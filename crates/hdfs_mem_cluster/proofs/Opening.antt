-- What the active namenode answers to the opening of a file.
use Rattle.std.proofs.Common.{◌≡◌, inl, inr, ℕ, List, [], ◌∷◌, ◌++◌, length, Option, Some, None, Ok, Err, IfSome, refl, sym, ◌∙◌, ap, subst}
use Rattle.std.specs.BTreeMap.{get_by_text}
use Rattle.std.specs.List.{All, Contains, IsDistinct}
use Rattle.std.specs.Str.{bytes_eq}
use Rattle.hdfs_cluster.specs.declared.asks.Ask.TheVariants as asks
use Rattle.hdfs_cluster.specs.declared.asks.Answer.TheVariants as answers
use Rattle.hdfs_cluster.specs.declared.asks.AskFault.{AskFault}
use Rattle.hdfs_cluster.specs.declared.asks.AskFault.TheVariants as faults
use Rattle.hdfs_cluster.specs.declared.messages.Appended.{Appended}
use Rattle.hdfs_cluster.specs.declared.messages.LocatedBlock.{LocatedBlock}
use Rattle.hdfs_cluster.specs.declared.mem_settings.MemSettings.{MemSettings}
use Rattle.hdfs_cluster.specs.declared.picture.BlockEntry.{BlockEntry}
use Rattle.hdfs_cluster.specs.declared.picture.Entry.{Entry}
use Rattle.hdfs_cluster.specs.declared.picture.Entry.TheVariants as entries
use Rattle.hdfs_cluster.specs.declared.picture.FileEntry.{FileEntry}
use Rattle.hdfs_cluster.specs.Effects.{Changes, HasStatus, Opens}
use Rattle.hdfs_cluster.specs.Namenode.{IsToWrite}
use Rattle.hdfs_cluster.specs.Picture.{Picture, SamePicture, kinds_in}
use Rattle.hdfs_cluster.specs.Refusals.{append_refusal}
use Rattle.hdfs_cluster.specs.Sending.{uuids}
use Rattle.hdfs_mem_namenode.specs.declared.namespace.Namespace.{Namespace}
use Rattle.hdfs_mem_datanodes.specs.declared.datanodes.Datanodes.{Datanodes}
use Rattle.hdfs_mem_cluster.specs.Links.{write_at}
use Rattle.hdfs_mem_cluster.specs.declared.mem_links.MemLinks.{MemLinks}
use Rattle.hdfs_mem_namenode.specs.Adding.{OpensAgain, whole_nodes}
use Rattle.hdfs_mem_namenode.specs.Spaces.{space_of}
use Rattle.hdfs_mem_namenode.specs.Answering.{Answers, StandsForWritten}
use Rattle.hdfs_mem_namenode.specs.Memory.{table_of}
use Rattle.hdfs_mem_cluster.specs.MemShown.{picture_at}
use Rattle.hdfs_mem_datanodes.specs.Nodes.{held_in, SameHeld}
use Rattle.hdfs_mem_namenode.proofs.Answering.{whole_apart, whole_held, whole_listed}
use Rattle.hdfs_mem_cluster.proofs.Places.{place_same}

abbrev new_entry : ℕ → ℕ → List (List ℕ) → BlockEntry
new_entry n stamp ns = record { length = n; stamp = stamp; nodes = ns }

module _ (space space' : Namespace) (nodes nodes' : Datanodes) (settings : MemSettings) (links : MemLinks) (held : SameHeld nodes nodes') where
  abbrev p : Picture
  p = picture_at space nodes settings links

  abbrev q : Picture
  q = picture_at space' nodes' settings links

  changes_space : (named : List ℕ → Option Entry) (listed : ℕ → Option BlockEntry) → ((path : List ℕ) → get_by_text space'.names path ≡ named path) → ((id : ℕ) → table_of space'.table.entries id ≡ listed id) → Changes p q named listed
  changes_space named listed names table = record {
    names = names;
    table = table;
    bytes = record { held = λ node id. (held node id).bytes; defaults = refl; reads = λ link. refl; writes = λ link. place_same nodes nodes' (λ d b l. (held d b).links l) link (write_at links link) };
  }

  same_space : (space'.names ≡ space.names) × (space'.table ≡ space.table) → SamePicture p q
  same_space same = record {
    rest = record {
      files = record { names = λ path. ap (λ names. get_by_text names path) same.0; table = λ id. ap (λ t. table_of t.entries id) same.1; held = λ node id. (held node id).bytes; defaults = refl };
      reads = λ link. refl;
      writes = λ link. place_same nodes nodes' (λ d b l. (held d b).links l) link (write_at links link);
    };
    active = refl;
  }

  opens : (src : List ℕ) (file : FileEntry) (block : Option LocatedBlock) → get_by_text space.names src ≡ Some (entries.File file)
      → OpensAgain (space_of space nodes) src file (space_of space' nodes') block → IfSome block IsToWrite → Opens src file block p q
  opens src file None is h shape = (h.0, changes_space _ _ h.1 h.2)
  opens src file (Some block) is h shape =
      let id = h.0 in
      let r = h.3 in
      let entry = r.entry in
      let named : uuids block.locs ≡ whole_nodes (held_in nodes) id entry = r.answered.nodes in
      let stamp = block.b.generation_stamp in (
        h.1.0,
        id,
        entry,
        record { length = entry.length; stamp = stamp; nodes = whole_nodes (held_in nodes) id entry },
        h.1.1 ∙ ap (λ (n : ℕ). h.1.0 ++ n ∷ []) h.2,
        record {
          is = r.is;
          same_id = h.2;
          same_length = r.same_length;
          stamp = r.greater;
          some = shape.some;
          listed = subst (All (Contains entry.nodes)) (sym named) (whole_listed (held_in nodes) id entry);
          apart = subst (IsDistinct bytes_eq) (sym named) (whole_apart (held_in nodes) id entry);
          whole = subst (All (λ node. length (held_in nodes node id) ≡ entry.length)) (sym named) (whole_held (held_in nodes) id entry);
          now = ap (λ (ns : List (List ℕ)). new_entry entry.length stamp ns) (sym named);
        },
        changes_space _ _ (r.opened file is) r.listed,
      )

  module _ (i : ℕ) (here : i ≡ settings.active) (text src : List ℕ) (is : text ≡ src) (client : List ℕ) (flag : ℕ) where
    pub answers_appended : (appended : Appended) → append_refusal (kinds_in (get_by_text space.names)) text ≡ None
        → (file : FileEntry) × (get_by_text space.names text ≡ Some (entries.File file)) × HasStatus file appended.stat
        × OpensAgain (space_of space nodes) text file (space_of space' nodes') appended.block
        → IfSome appended.block IsToWrite → Answers p i (asks.Append src client flag) (Ok (answers.Append appended)) q
    answers_appended appended allowed done shape =
        subst (λ (s : List ℕ). Answers p i (asks.Append s client flag) (Ok (answers.Append appended)) q) is
        (here, refl, tt, (allowed, (done.0, done.1, done.2, opens text done.0 appended.block done.1 done.3 shape)))

    pub answers_not_appended : (fault : AskFault) → StandsForWritten (kinds_in (get_by_text space.names) text) (append_refusal (kinds_in (get_by_text space.names)) text) fault
        → (space'.names ≡ space.names) × (space'.table ≡ space.table) → Answers p i (asks.Append src client flag) (Err fault) q
    answers_not_appended faults.NoMemory excused same = same_space same
    answers_not_appended (faults.Exception class message) excused same =
        subst (λ (s : List ℕ). Answers p i (asks.Append s client flag) (Err (faults.Exception class message)) q) is
        (excused.1, same_space same, inr (here, inl excused.0))
    answers_not_appended faults.Broken excused same = absurd excused
    answers_not_appended (faults.BadReply fault) excused same = absurd excused
    answers_not_appended (faults.Fatal class message) excused same = absurd excused
