-- What an ask for the blocks of a closed file says of the picture.
use Rattle.std.proofs.Common.{◌≡◌, ◌⊎◌, inl, inr, ⊎_elim, ℕ, ◌-◌, ◌^◌, Bool, List, Option, Some, None, Result, Ok, Err, refl, ◌∙◌}
use Rattle.hdfs_cluster.specs.declared.messages.LocatedBlocks.{LocatedBlocks}
use Rattle.hdfs_cluster.specs.declared.asks.Ask.{Ask}
use Rattle.hdfs_cluster.specs.declared.asks.Ask.TheVariants as asks
use Rattle.hdfs_cluster.specs.declared.asks.Answer.{Answer}
use Rattle.hdfs_cluster.specs.declared.asks.Answer.TheVariants as answers
use Rattle.hdfs_cluster.specs.declared.asks.AskFault.{AskFault}
use Rattle.hdfs_cluster.specs.declared.errors.HdfsError.{HdfsError}
use Rattle.hdfs_cluster.specs.declared.errors.HdfsError.TheVariants as errors
use Rattle.hdfs_cluster.specs.Failures.{CallsRose, IsOfAsk}
use Rattle.hdfs_cluster.specs.Effects.{KeepsBytes}
use Rattle.hdfs_cluster.specs.Namenode.{AsksWhole, Locates, Row, IsNoFile}
use Rattle.hdfs_cluster.specs.Picture.{Picture, SameFiles, SameButActive, Told}
use Rattle.hdfs_cluster.specs.Repeating.{DoneOrNot, Leaves}
use Rattle.hdfs_cluster.specs.Shown.{Shown, SamePlaces, Served}
use Rattle.hdfs_cluster.proofs.Frames.{later_refl, later_trans, same_files_trans, same_links_refl, same_links_trans, told_after, told_weaker}
use Rattle.hdfs_cluster.proofs.Repeating.{locations_repeats}
use Rattle.hdfs_namenode.specs.Asked.{AskedOnce, Through}
use Rattle.hdfs_namenode.specs.Relaying.{Came, RefusedBy}
use Rattle.hdfs_namenode.proofs.Observers.{once_leaves}
use Rattle.hdfs_namenode.proofs.Relayed.{relayed_done, relayed_row}
use Rattle.hdfs_file_reader.specs.Looking.{AnswersLookUp, FilesStay, IsClosed, LooksInVain, OnlyLooks}

-- a look-up by its row leaves the picture, but for which namenode is active
row_same : (p q : Picture) (src : List ℕ) (offset length : ℕ) (answer : Answer) → Row p (asks.GetBlockLocations src offset length) answer q → SameButActive p q
row_same p q src offset length (answers.GetBlockLocations None) row = row.1
row_same p q src offset length (answers.GetBlockLocations (Some found)) row = row.2
row_same p q src offset length answer row = absurd row

-- the files stay, whether it is done or not
done_same : (p q : Picture) (src : List ℕ) (offset length : ℕ) → DoneOrNot (asks.GetBlockLocations src offset length) p q → SameFiles p q
done_same p q src offset length (inl same) = same.files
done_same p q src offset length (inr done) = (row_same p q src offset length done.0 done.2).files

-- an error of an ask says nothing of what was answered
pub answered_in_vain : (may_answer : Ask → Answer → Type 0) (path : List ℕ) (error : HdfsError) → IsOfAsk error → AnswersLookUp may_answer path (Err error)
answered_in_vain may_answer path (errors.FileNotFound name) of = absurd of
answered_in_vain may_answer path error of = tt

pub looks_refl : (a : Shown) → OnlyLooks a a
looks_refl a = record { later = later_refl a; links = same_links_refl a; nodes = λ d. refl }

pub looks_trans : (a b c : Shown) → OnlyLooks a b → OnlyLooks b c → OnlyLooks a c
looks_trans a b c f g = record { later = later_trans a b c f.later g.later; links = same_links_trans a b c f.links g.links; nodes = λ d. g.nodes d ∙ f.nodes d }

-- an ask leaves all links
pub looks_from-Leaves : (a b : Shown) → Leaves a b → OnlyLooks a b
looks_from-Leaves a b left = record {
  later = left.later;
  links = record {
    links = left.reads;
    writes = left.writes;
    places = told_weaker KeepsBytes (SamePlaces a) a.picture b.picture (λ p q kept. (λ link is. kept.reads link, kept.writes)) left.bytes;
  };
  nodes = left.nodes;
}

-- so does one of a service of any kind
module _ {C : Type 0} (shown : C → Shown) (serves : C → ℕ → Ask → Result Answer AskFault → C → Type 0)
    (rows : (old new : C) (i : ℕ) (ask : Ask) (result : Result Answer AskFault) → serves old i ask result new → Served (shown old) i ask result (shown new)) where
  pub looks_once : (write : Bool) (ask : Ask) (old : Through C) (outcome : Result Answer HdfsError) (new : Through C) → AskedOnce serves write ask old outcome new
      → OnlyLooks (shown old.cluster) (shown new.cluster)
  looks_once write ask old outcome new asked =
      looks_from-Leaves (shown old.cluster) (shown new.cluster) (once_leaves shown serves rows write ask old outcome new asked)

-- what an ask for the blocks of a file has come to
module _ {s t : Shown} {src : List ℕ} {offset length : ℕ} where
  -- over a told picture, where nobody writes the file, the files stay
  pub files_looked : {result : Result Answer HdfsError} → Came s (asks.GetBlockLocations src offset length) result t → FilesStay src s t
  files_looked {result} came p told closed =
      let to = came.told p told (locations_repeats src offset length p closed) in
      (to.0, to.1, done_same p to.0 src offset length (relayed_done (CallsRose s.counts t) p (asks.GetBlockLocations src offset length) result to.0 came.relays.shaped to.2))

  row_looked : (found : Option LocatedBlocks) → Came s (asks.GetBlockLocations src offset length) (Ok (answers.GetBlockLocations found)) t → (p : Picture) → s.picture ≡ Some p → IsClosed p src
      → (q : Picture) × Row p (asks.GetBlockLocations src offset length) (answers.GetBlockLocations found) q
  row_looked found came p told closed =
      let to = came.told p told (locations_repeats src offset length p closed) in
      (to.0, relayed_row (CallsRose s.counts t) p (asks.GetBlockLocations src offset length) (answers.GetBlockLocations found) to.0 (λ is. absurd (cc)) (λ is. absurd (cc)) to.2)

  -- an answer is that of the file, where all its blocks were asked for
  pub found_looked : {found : LocatedBlocks} → Came s (asks.GetBlockLocations src offset length) (Ok (answers.GetBlockLocations (Some found))) t → (p : Picture) → s.picture ≡ Some p
      → IsClosed p src → AsksWhole offset length → Locates p src found
  found_looked {found} came p told closed = (row_looked (Some found) came p told closed).1.1

  -- no answer: there is no file
  pub missing_looked : Came s (asks.GetBlockLocations src offset length) (Ok (answers.GetBlockLocations None)) t → (p : Picture) → s.picture ≡ Some p → IsClosed p src → IsNoFile p src
  missing_looked came p told closed = (row_looked None came p told closed).1.0

  -- an error stands for a refusal, or a namenode has failed
  pub error_looked : {e : HdfsError} → Came s (asks.GetBlockLocations src offset length) (Err e) t → (p : Picture) → s.picture ≡ Some p → IsClosed p src
      → (e ≡ errors.NoMemory) ⊎ RefusedBy p (asks.GetBlockLocations src offset length) e ⊎ CallsRose s.counts t
  error_looked came p told closed =
      ⊎_elim (λ memory. inl memory.0) (λ more. inr (⊎_elim (λ refused. inl refused.0) (λ rose. inr rose.0) more))
      (came.told p told (locations_repeats src offset length p closed)).2

-- why there are no blocks
module _ {s t : Shown} {src name : List ℕ} {error : HdfsError} where
  -- there is no file
  pub vain_missing : error ≡ errors.FileNotFound name → Came s (asks.GetBlockLocations src 0 (2 ^ 63 - 1)) (Ok (answers.GetBlockLocations None)) t
      → LooksInVain name src s error t
  vain_missing is came = record { tells = inl (is, came.relays.fine); why = λ p told closed. inl (is, missing_looked came p told closed) }

  -- the ask has failed
  pub vain_error : Came s (asks.GetBlockLocations src 0 (2 ^ 63 - 1)) (Err error) t → LooksInVain name src s error t
  vain_error came = record {
    tells = inr came.relays.tells;
    why = λ p told closed. inr (came.relays.tells, error_looked came p told closed);
  }

-- for want of memory, which tells nothing
pub vain_memory : (name src : List ℕ) (s t : Shown) → LooksInVain name src s errors.NoMemory t
vain_memory name src s t = record { tells = inr (tt, (tt, tt)); why = λ p told closed. inr ((tt, (tt, tt)), inl refl) }

-- files that stay where the blocks are looked up, and then, stay
pub files_read : (s s' u : Shown) (path : List ℕ) → FilesStay path s s' → Told SameFiles s'.picture u.picture → FilesStay path s u
files_read s s' u path files stay p told closed =
    let first = files p told closed in
    let last = told_after SameFiles s'.picture u.picture first.0 stay first.1 in
    (last.0, last.1, same_files_trans p first.0 last.0 first.2 last.2)
