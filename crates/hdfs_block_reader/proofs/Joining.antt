-- What calls of a reader keep, joined.
use Rattle.std.proofs.Common.{◌≡◌, ◌≢◌, ◌⊎◌, inl, inr, ⊎_elim, ℕ, ◌≤◌, List, Option, Some, None, IsSome, IfSome, refl, sym, ◌∙◌, ap, subst, arith}
use Rattle.std.proofs.lemmas.Bool.{cases_eq}
use Rattle.std.proofs.lemmas.Option.{IfSome_then}
use Rattle.hdfs_cluster.specs.declared.picture.OpenRead.{OpenRead}
use Rattle.hdfs_cluster.specs.declared.messages.LocatedBlock.{LocatedBlock}
use Rattle.hdfs_cluster.specs.Counts.{FaultCounts}
use Rattle.hdfs_cluster.specs.Picture.{Picture, SameFiles, Told}
use Rattle.hdfs_cluster.specs.Shown.{Shown, OnlyReads}
use Rattle.hdfs_cluster.proofs.Frames.{told_after, told_join, only_reads_trans, never_fall_trans}
use Rattle.hdfs_block_reader.specs.Blocks.{node_at}
use Rattle.hdfs_block_reader.specs.Reader.{tried_of, Stands, AsksForWanted, OthersStay, Keeps, Reads, ShowsBlock, Over, Blamed, stage_of, GaveUp, GivesUp}
use Rattle.hdfs_block_reader.specs.Going.{Frame, Goes}
use Rattle.hdfs_block_reader.specs.declared.block_read.BlockRead.{BlockRead}
use Rattle.hdfs_block_reader.proofs.Locations.{grows, locations_trans}
use Rattle.hdfs_block_reader.proofs.Listing.{gave_up_before, gave_up_trans, gave_up_opened, gave_up_blamed, blame_after}

-- an open link is there or not
pub some_or_none : (o : Option OpenRead) → (IsSome o) ⊎ (o ≡ None)
some_or_none None = inr refl
some_or_none (Some x) = inl refl

-- a link is the kept one or not
pub is_link : (o : Option ℕ) (l : ℕ) → (o ≡ Some l) ⊎ (o ≢ Some l)
is_link None l = inr (λ e. cc)
is_link (Some x) l = ⊎_elim (λ e. inl (ap Some e)) (λ ne. inr (λ e. ne (cc))) (cases_eq x l)

-- what isn't there isn't open
pub not_some : (o : Option OpenRead) → o ≡ None → IsSome o → ⊥
not_some None is some = absurd (cc)
not_some (Some x) is some = absurd (cc)

-- where the reader keeps its link, and the links stay, nothing was asked for anew
pub asks_same : (s t : Shown) (r r' : BlockRead) → r'.link ≡ r.link → ((l : ℕ) → t.reads l ≡ s.reads l) → AsksForWanted s t r r'
asks_same s t r r' same reads l is = inl (sym same ∙ is, reads l)

-- a told picture before and after reads
pub same_files_shown : (s t : Shown) (p q : Picture) → OnlyReads s t → s.picture ≡ Some p → t.picture ≡ Some q → SameFiles p q
same_files_shown s t p q only before after =
    let found = told_after SameFiles s.picture t.picture p only.files before in
    let same : found.0 ≡ q = cc (found.1, after) in
    subst (λ (x : Picture). SameFiles p x) same found.2

module _ (s t u : Shown) (q r w : BlockRead) where
  -- the kept link is the first one, or was not open at first
  own_trans : Frame s t q r → Frame t u r w → (l : ℕ) → w.link ≡ Some l → (q.link ≡ Some l) ⊎ (s.reads l ≡ None)
  own_trans f g l is = ⊎_elim (f.own l) (λ none. ⊎_elim (λ same. inl same) (λ other. inr (closed l other none)) (is_link q.link l)) (g.own l is)
    where
      closed : (l : ℕ) → q.link ≢ Some l → t.reads l ≡ None → s.reads l ≡ None
      closed l other none = ⊎_elim (λ some. absurd (not_some (s.reads l) (sym (f.others l other some) ∙ none) some)) (λ e. e) (some_or_none (s.reads l))

  -- a link that was open and isn't the reader's isn't taken by it
  not_taken : Frame s t q r → (l : ℕ) → q.link ≢ Some l → IsSome (s.reads l) → r.link ≢ Some l
  not_taken f l other some = λ is. ⊎_elim (λ same. other same) (λ none. not_some (s.reads l) none some) (f.own l is)

  -- and it is still open
  still_open : Frame s t q r → (l : ℕ) → q.link ≢ Some l → IsSome (s.reads l) → IsSome (t.reads l)
  still_open f l other some = subst IsSome (sym (f.others l other some)) some

  -- so it stays over both calls
  others_trans : Frame s t q r → Frame t u r w → (l : ℕ) → q.link ≢ Some l → IsSome (s.reads l) → u.reads l ≡ s.reads l
  others_trans f g l other some = g.others l (not_taken f l other some) (still_open f l other some) ∙ f.others l other some

  -- its place too
  places_trans : Frame s t q r → Frame t u r w → Told (OthersStay s q) s.picture u.picture
  places_trans f g =
      told_join (OthersStay s q) (OthersStay t r) (OthersStay s q) s.picture t.picture u.picture
      (λ a b c before after l other some. after l (not_taken f l other some) (still_open f l other some) ∙ before l other some) f.places g.places

  -- a link that the reader used isn't left open
  frees_trans : Frame s t q r → Frame t u r w → (l : ℕ) → w.link ≢ Some l → (q.link ≡ Some l) ⊎ (s.reads l ≡ None) → u.reads l ≡ None
  frees_trans f g l not_its free = ⊎_elim (λ its. g.frees l not_its (inl its)) (λ other. g.frees l not_its (inr (f.frees l other free))) (is_link r.link l)

  -- what is kept was asked for from the wanted byte on, as the second call wants no earlier one than the first
  asks_trans : Frame s t q r → Frame t u r w → AsksForWanted s u q w
  asks_trans f g l is =
      ⊎_elim
      (λ kept. ⊎_elim
      (λ first. inl (first.0, kept.1 ∙ first.1))
      (λ asked. inr (subst (λ (o : Option OpenRead). IfSome o (λ opened. q.wanted ≤ opened.ask.offset)) (sym kept.1) asked))
      (f.asks l kept.0))
      (λ asked. inr (IfSome_then (u.reads l) asked (λ opened from. omega (arith, f.wanted, from))))
      (g.asks l is)

  -- both calls together
  pub frame_trans : Frame s t q r → Frame t u r w → Frame s u q w
  frame_trans f g = record {
    block = g.block ∙ f.block;
    client = g.client ∙ f.client;
    wanted = omega (arith, f.wanted, g.wanted);
    end = g.end ∙ f.end;
    only = only_reads_trans s t u f.only g.only;
    others = others_trans f g;
    places = places_trans f g;
    own = own_trans f g;
    asks = asks_trans f g;
    frees = frees_trans f g;
    holds = g.holds;
  }

  -- the locations that both gave up
  gives_up_trans : Frame s t q r → ((bytes : List ℕ) → ShowsBlock s q bytes → ShowsBlock t r bytes) → GivesUp s t q r → GivesUp t u r w → GivesUp s u q w
  gives_up_trans frame goes_on before after bytes shows =
      let first = before bytes shows in
      let mid = goes_on bytes shows in
      let second = after bytes mid in
      let same = same_files_shown s t shows.picture mid.picture frame.only shows.told mid.told in
      let moved = subst (λ (b : LocatedBlock). GaveUp mid.picture b bytes second.0 (stage_of t r) (stage_of u w)) frame.block second.1 in
      gave_up_trans shows.picture q.block bytes first.0 second.0 (stage_of s q) (stage_of t r) (stage_of u w) first.1
      (gave_up_before shows.picture mid.picture q.block bytes second.0 (stage_of t r) (stage_of u w) same moved)

  -- what is read over both
  pub reads_joined : Frame s t q r → Reads s t q r → Reads t u r w → Reads s u q w
  reads_joined frame before after = record {
    shows = λ bytes shows. after.shows bytes (before.shows bytes shows);
    over = λ start bytes over. after.over start bytes (before.over start bytes over);
    gives_up = gives_up_trans frame before.shows before.gives_up after.gives_up;
  }

  -- all that stays over both
  pub goes_trans : Goes s t q r → Goes t u r w → Goes s u q w
  goes_trans f g = record {
    frame = frame_trans f.frame g.frame;
    shows = λ bytes shows. g.shows bytes (f.shows bytes shows);
    gives_up = gives_up_trans f.frame f.shows f.gives_up g.gives_up;
    locations = locations_trans s t u q r w f.frame.block f.frame.only.later.counts g.frame.only.later.counts f.locations g.locations;
  }

module _ (s t : Shown) (r r' : BlockRead) (goes : Goes s t r r') where
  -- each location that was given up is still to blame since the start
  pub over_goes : (start : FaultCounts) (bytes : List ℕ) → Over start s r bytes → Over start t r' bytes
  over_goes start bytes o =
      let after = goes.shows bytes o.shows in
      let same = same_files_shown s t o.shows.picture after.picture goes.frame.only o.shows.told after.told in
      let given = goes.gives_up bytes o.shows in
      let opened = gave_up_opened o.shows.picture r.block bytes start given.0 (stage_of s r) (stage_of t r') o.since o.opened given.1 in
      let blamed = gave_up_blamed o.shows.picture r.block bytes start given.0 (stage_of s r) (stage_of t r') o.since o.opened o.blamed given.1 in
      record {
        shows = after;
        since = never_fall_trans start s.counts t.counts o.since goes.frame.only.later.counts;
        opened = subst (λ (b : LocatedBlock). start.nodes (node_at b (tried_of r')) ≤ (stage_of t r').before) (sym goes.frame.block) opened;
        blamed = λ k lt. subst (λ (b : LocatedBlock). Blamed start t after.picture b bytes k) (sym goes.frame.block) (blame_after o.shows.picture after.picture r.block bytes k (start.nodes (node_at r.block k)) t.counts same (blamed k lt));
      }

  -- what the public clauses say of it
  pub reads_from-Goes : Reads s t r r'
  reads_from-Goes = record { shows = goes.shows; over = over_goes; gives_up = goes.gives_up }

  pub keeps_from-Goes : Stands t r' → Keeps s t r r'
  keeps_from-Goes stands = record {
    block = goes.frame.block;
    client = goes.frame.client;
    wanted = goes.frame.wanted;
    end = goes.frame.end;
    given_up = grows s t r r' goes.locations;
    only = goes.frame.only;
    others = goes.frame.others;
    places = goes.frame.places;
    own = goes.frame.own;
    asks = goes.frame.asks;
    frees = goes.frame.frees;
    stands = stands;
  }
