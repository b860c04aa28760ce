-- What an ask for a page, in the middle of a listing, says from its begin on.
use Rattle.std.proofs.Common.{◌≡◌, inl, inr, ⊎_elim, ℕ, Bool, List, ◌∷◌, Some, sym, ◌∙◌, subst}
use Rattle.hdfs_cluster.specs.declared.asks.Answer.{Answer}
use Rattle.hdfs_cluster.specs.declared.asks.Ask.{Ask}
use Rattle.hdfs_cluster.specs.declared.errors.HdfsError.{HdfsError}
use Rattle.hdfs_cluster.specs.declared.errors.HdfsError.TheVariants as errors
use Rattle.hdfs_cluster.specs.Counts.{NeverFall}
use Rattle.hdfs_cluster.specs.Failures.{ANamenode}
use Rattle.hdfs_cluster.specs.Files.{State}
use Rattle.hdfs_cluster.specs.Picture.{Picture, SameButActive}
use Rattle.hdfs_cluster.specs.Repeating.{Leaves}
use Rattle.hdfs_cluster.specs.Shown.{Shown}
use Rattle.hdfs_cluster.proofs.Failures.{failed_since, means_since}
use Rattle.hdfs_cluster.proofs.Frames.{same_files_trans}
use Rattle.hdfs_model.specs.Listings.{IsBelow}
use Rattle.hdfs_namenode.specs.Relaying.{TellsAsk}
use Rattle.hdfs_listing.specs.Listing.{FailsAsk, IsNotTurned, IsTurned, Tells, TellsListing, TellsWalk}
use Rattle.hdfs_listing.specs.Walking.{IsDue}
use Rattle.hdfs_listing.specs.declared.walk.Task.{Task}
use Rattle.hdfs_listing.specs.declared.walk.Task.TheVariants as tasks
use Rattle.hdfs_listing.proofs.Turning.{not_turned, tells_same, turned}

pub same_active_trans : (a b c : Picture) → SameButActive a b → SameButActive b c → SameButActive a c
same_active_trans a b c one two = record {
  files = same_files_trans a b c one.files two.files;
  reads = λ link. two.reads link ∙ one.reads link;
  writes = λ link. two.writes link ∙ one.writes link;
}

-- what an ask left, whatever it came to
pub turned_leaves : {may_answer : Ask → Answer → Type 0} {dir start : List ℕ} {rest : List Task} {s t : Shown} {todo : List Task} → IsTurned may_answer dir start rest s t todo → Leaves s t
turned_leaves h = h.has.came.relays.leaves

pub unturned_leaves : {may_answer : Ask → Answer → Type 0} {given dir start : List ℕ} {s t : Shown} (error : HdfsError) → IsNotTurned may_answer given dir start s error t → Leaves s t
unturned_leaves error (inl (inl none)) = none.1.came.relays.leaves
unturned_leaves error (inl (inr came)) = came.relays.leaves
unturned_leaves error (inr page) = page.1.came.relays.leaves

-- want of memory tells nothing
pub memory_tells : (s t : Shown) (error : HdfsError) → error ≡ errors.NoMemory → TellsAsk s t error
memory_tells s t error is = subst (TellsAsk s t) (sym is) (tt, (tt, tt))

-- why a listing stops
pub walk_error : {may_answer : Ask → Answer → Type 0} {recursive : Bool} {path given dir start : List ℕ} (begin s t : Shown) → Leaves begin s → IsBelow may_answer recursive path dir → (error : HdfsError)
    → IsNotTurned may_answer given dir start s error t → TellsWalk may_answer given recursive path begin error t
walk_error {start = start} begin s t since below error (inl (inl none)) = ⊎_elim
    (λ missing. inl (missing, none.1.came.relays.fine, record { dir = _; start = start; below = below; answered = none.1.answered }))
    (λ memory. inr (inr (memory_tells begin t error memory)))
    none.0
walk_error begin s t since below error (inl (inr came)) = inr (inr (came.relays.tells.0, means_since begin s t error since.later.counts came.relays.tells.1))
walk_error begin s t since below error (inr page) = ⊎_elim (λ memory. inr (inr (memory_tells begin t error memory))) (λ no_text. inr (inl no_text.0)) page.2

-- an ask that has failed has failed since
pub fails_since : (begin s t : Shown) → NeverFall begin.counts s.counts → (error : HdfsError) → FailsAsk s error t → FailsAsk begin error t
fails_since begin s t fall error (inl memory) = inl memory
fails_since begin s t fall error (inr rose) = inr ((rose.0.0, means_since begin s t error fall rose.0.1), failed_since begin s t ANamenode fall rose.1)

-- what was so far, over a told picture
abbrev pub SoFar : Shown → Shown → Bool → List Task → List Task → Type 0
SoFar begin s recursive first todo =
    (p : Picture) (state : State) (paths : List (List ℕ)) → begin.picture ≡ Some p → Tells p state → IsDue p.names state recursive first paths
    → (q : Picture) × (s.picture ≡ Some q) × SameButActive p q × IsDue q.names state recursive todo paths

pub turned_walk : {may_answer : Ask → Answer → Type 0} (begin s t : Shown) (recursive : Bool) (first : List Task) (dir start : List ℕ) (rest todo : List Task) → SoFar begin s recursive first (tasks.Ask dir start ∷ rest)
    → IsTurned may_answer dir start rest s t todo → SoFar begin t recursive first todo
turned_walk {may_answer} begin s t recursive first dir start rest todo so_far h p state paths was tells due =
    let on = so_far p state paths was tells due in
    let now = turned s t may_answer dir start rest on.0 on.1 state (tells_same p on.0 state on.2 tells) recursive paths on.3 todo h in
    (now.0, now.1, same_active_trans p on.0 now.0 on.2 now.2, now.3)

pub failed_walk : {may_answer : Ask → Answer → Type 0} {given : List ℕ} (begin s t : Shown) (recursive : Bool) (first : List Task) (dir start : List ℕ) (rest : List Task) → SoFar begin s recursive first (tasks.Ask dir start ∷ rest) → Leaves begin s → (error : HdfsError)
    → IsNotTurned may_answer given dir start s error t → (p : Picture) (state : State) (paths : List (List ℕ)) → begin.picture ≡ Some p → Tells p state → IsDue p.names state recursive first paths
    → (q : Picture) × (t.picture ≡ Some q) × SameButActive p q × FailsAsk begin error t
failed_walk {may_answer} {given} begin s t recursive first dir start rest so_far since error h p state paths was tells due =
    let on = so_far p state paths was tells due in
    let now = not_turned s t may_answer dir start rest on.0 on.1 state (tells_same p on.0 state on.2 tells) recursive paths on.3 given error h in
    (now.0, now.1, same_active_trans p on.0 now.0 on.2 now.2, fails_since begin s t since.later.counts error now.3)

-- what is told before any entry is too many is told of a listing
pub listing_from_walk : {may_answer : Ask → Answer → Type 0} {recursive : Bool} {path given : List ℕ} (s t : Shown) (limit : ℕ) (error : HdfsError) → TellsWalk may_answer given recursive path s error t
    → TellsListing may_answer given recursive path limit s error t
listing_from_walk s t limit error (inl missing) = inl missing
listing_from_walk s t limit error (inr (inl no_text)) = inr (inl no_text)
listing_from_walk s t limit error (inr (inr asked)) = inr (inr (inr asked))
