-- How a read goes on from call to call.
use Rattle.std.proofs.Common.{◌≡◌, ◌≢◌, inl, inr, ⊎_elim, ℕ, zero, suc, ◌+◌, ◌<◌, ◌≤◌, Bool, false, List, [], length, take, Option, Some, None, IsSome, IfSome, refl, sym, ◌∙◌, ap, subst, arith}
use Rattle.hdfs_cluster.specs.declared.messages.ReadAsk.{ReadAsk}
use Rattle.hdfs_cluster.specs.declared.messages.Block.{Block}
use Rattle.hdfs_cluster.specs.declared.messages.LocatedBlock.{LocatedBlock}
use Rattle.hdfs_cluster.specs.declared.asks.LinkFault.{LinkFault}
use Rattle.hdfs_cluster.specs.declared.asks.LinkFault.TheVariants as faults
use Rattle.hdfs_cluster.specs.declared.picture.OpenRead.{OpenRead}
use Rattle.hdfs_cluster.specs.Counts.{Rose}
use Rattle.hdfs_cluster.specs.Picture.{Picture, SameFiles, SamePicture, Told}
use Rattle.hdfs_cluster.specs.Reading.{ReadsAt, Begins}
use Rattle.hdfs_cluster.specs.Shown.{Shown, Later, OnlyReads, Opened, NotOpened, NotGiven}
use Rattle.hdfs_cluster.specs.Stores.{HoldsPrefix}
use Rattle.hdfs_cluster.proofs.Frames.{told_after, told_before, told_weaker, only_reads_from-Reading, only_reads_from-same, never_fall_refl}
use Rattle.hdfs_block_reader.specs.Blocks.{node_at, node_count, IsToBlame}
use Rattle.hdfs_block_reader.specs.Reader.{tried_of, Holds, LinkHolds, IsAskFor, OthersStay, PlacedIn, ShowsBlock, stage_of, before_opening, before_link}
use Rattle.hdfs_block_reader.specs.Going.{Frame, RoseFor, StaysAt, MovesOn, Goes, GivesOrGivesUp, count_at, tries_left, gives_up, Loses}
use Rattle.hdfs_block_reader.specs.declared.block_read.BlockRead.{BlockRead}
use Rattle.hdfs_block_reader.specs.declared.given_up.GivenUp.{GivenUp}
use Rattle.hdfs_block_reader.proofs.Joining.{not_some, asks_same, frame_trans}
use Rattle.hdfs_block_reader.proofs.Locations.{one_more, stays_same}

-- what is shown of the block, but for the link
module _ (s t : Shown) (r r' : BlockRead) (bytes : List ℕ) (shows : ShowsBlock s r bytes) (only : OnlyReads s t) (block : r'.block ≡ r.block) (end : r'.end ≡ r.end) where
  -- the picture after reads has the same files
  pub later_picture : (q : Picture) × (t.picture ≡ Some q) × SameFiles shows.picture q
  later_picture = told_after SameFiles s.picture t.picture shows.picture only.files shows.told

  -- it shows the block where the link stands in it
  pub shows_later : ((q : Picture) → t.picture ≡ Some q → PlacedIn q r') → ShowsBlock t r' bytes
  shows_later placed =
      let after = later_picture in
      record {
        picture = after.0;
        told = after.1;
        within = omega (arith, end, shows.within);
        prefixes = subst (λ (b : LocatedBlock). (k : ℕ) → k < node_count b → HoldsPrefix (λ node. after.0.held node b.b.block_id) bytes (node_at b k)) (sym block)
            (λ k lt. subst (λ (l : List ℕ). l ≡ take (length l) bytes) (sym (after.2.held (node_at r.block k) r.block.b.block_id)) (shows.prefixes k lt));
        placed = placed after.0 after.1;
      }

  -- and without a link always
  pub shows_idle : r'.link ≡ None → ShowsBlock t r' bytes
  shows_idle idle = shows_later (λ q told l is. absurd (cc (idle, is)))

-- a count before an opening is at most a later one
before_opening_le : (o : Option OpenRead) (a b : ℕ) → a ≤ b → before_opening o a ≤ before_opening o b
before_opening_le None a b le = le
before_opening_le (Some x) a b le = omega arith

-- The count at the opening of a kept link is the same or, where it isn't kept, later.
pub before_link_le : (s t : Shown) (link : Option ℕ) (a b : ℕ) → ((l : ℕ) → t.reads l ≡ s.reads l) → a ≤ b → before_link s link a ≤ before_link t link b
before_link_le s t None a b same le = le
before_link_le s t (Some l) a b same le = subst (λ (o : Option OpenRead). before_opening (s.reads l) a ≤ before_opening o b) (sym (same l)) (before_opening_le (s.reads l) a b le)

-- a call that changes nothing but counts
module _ (s t : Shown) (r : BlockRead) (holds : Holds s r) (later : Later s t) (last : t.last ≡ s.last) (reads : (l : ℕ) → t.reads l ≡ s.reads l) (writes : (l : ℕ) → t.writes l ≡ s.writes l) (picture : Told SamePicture s.picture t.picture) where
  -- only reads happened
  still_only : OnlyReads s t
  still_only = only_reads_from-same s t later last writes picture

  -- the kept link still holds
  still_link : (l : ℕ) → LinkHolds s r l → LinkHolds t r l
  still_link l h = (h.0, h.1, reads l ∙ h.2, h.3, omega (arith, h.4, later.counts.nodes (node_at r.block (tried_of r))))

  -- everything else stays
  pub still_frame : Frame s t r r
  still_frame = record {
    block = refl;
    client = refl;
    wanted = omega arith;
    end = refl;
    only = still_only;
    others = λ l other is. reads l;
    places = told_weaker SamePicture (OthersStay s r) s.picture t.picture (λ p q same l other is. same.rest.reads l) picture;
    own = λ l is. inl is;
    asks = asks_same s t r r refl reads;
    frees = λ l not_its free. ⊎_elim (λ its. absurd (not_its its)) (λ none. reads l ∙ none) free;
    holds = record { range = holds.range; tried = holds.tried; link = λ l is. still_link l (holds.link l is); position = holds.position };
  }

  -- the place of the link too
  still_placed : (p q : Picture) → SamePicture p q → PlacedIn p r → PlacedIn q r
  still_placed p q same placed l is =
      let here = placed l is in
      (here.0, same.rest.reads l ∙ here.1, here.2 ∙ sym (same.rest.files.held (node_at r.block (tried_of r)) r.block.b.block_id), here.3, here.4)

  -- so the block is shown as before
  still_shows : (bytes : List ℕ) → ShowsBlock s r bytes → ShowsBlock t r bytes
  still_shows bytes shows =
      shows_later s t r r bytes shows still_only refl refl
      (λ q told.
      let before = told_before SamePicture s.picture t.picture q picture told in
      let same : shows.picture ≡ before.0 = cc (before.1, shows.told) in
      still_placed before.0 q before.2 (subst (λ (p : Picture). PlacedIn p r) same shows.placed))

  -- and no location was given up
  pub still_goes : Goes s t r r
  still_goes = record {
    frame = still_frame;
    shows = still_shows;
    gives_up = λ bytes shows. (zero, (refl, before_link_le s t r.link (count_at s r) (count_at t r) reads (later.counts.nodes (node_at r.block (tried_of r))), later.counts));
    locations = inl (stays_same s t r r refl (λ is. is));
  }

-- a location that is to blame was given up
module _ (s t : Shown) (r : BlockRead) (reason : GivenUp) where
  -- the location that is tried is to blame
  abbrev IsAtFault : Type 0
  IsAtFault = (bytes : List ℕ) (shows : ShowsBlock s r bytes) → IsToBlame shows.picture r.block bytes (tried_of r) (stage_of s r).before t.counts

  -- the next one is tried
  next_count : t.counts.nodes (node_at r.block (tried_of r + 1)) ≤ t.counts.nodes (node_at r.block (tried_of (gives_up r reason)))
  next_count =
      subst (λ (k : ℕ). t.counts.nodes (node_at r.block (tried_of r + 1)) ≤ t.counts.nodes (node_at r.block k)) (sym (one_more r.given_up reason)) (omega arith)

  -- with the reader that the giving up makes
  gave_up_here : Frame s t r (gives_up r reason) → IsAtFault → MovesOn s t r (gives_up r reason) → Goes s t r (gives_up r reason)
  gave_up_here frame fault moves = record {
    frame = frame;
    shows = λ bytes shows. shows_idle s t r (gives_up r reason) bytes shows frame.only refl refl refl;
    gives_up = λ bytes shows. (suc zero, (t.counts, frame.only.later.counts, fault bytes shows, (one_more r.given_up reason, next_count, never_fall_refl t.counts)));
    locations = inr moves;
  }

  -- and with any that is equal to it
  pub gave_up_goes : (r' : BlockRead) → r' ≡ gives_up r reason → Frame s t r r'
      → ((bytes : List ℕ) (shows : ShowsBlock s r bytes) → IsToBlame shows.picture r.block bytes (tried_of r) (stage_of s r).before t.counts) → MovesOn s t r r' → Goes s t r r'
  gave_up_goes r' is = subst (λ (x : BlockRead). Frame s t r x → IsAtFault → MovesOn s t r x → Goes s t r x) (sym is) gave_up_here

-- the count at the opening of a kept link is at most the one now
before_link_now : (s : Shown) (link : Option ℕ) (now : ℕ) → ((l : ℕ) → link ≡ Some l → (opened : OpenRead) × (s.reads l ≡ Some opened) × (opened.before ≤ now)) → before_link s link now ≤ now
before_link_now s None now is = omega arith
before_link_now s (Some l) now is = let here = is l refl in subst (λ (o : Option OpenRead). before_opening o now ≤ now) (sym here.1) here.2

-- the count at the opening of the reader's link is at most the one now
opened_before_now : (s : Shown) (r : BlockRead) → Holds s r → (stage_of s r).before ≤ count_at s r
opened_before_now s r holds = before_link_now s r.link (count_at s r) (λ l is. (let here = holds.link l is in (here.1, here.2, here.4)))

-- the link was ended, and no location given up
module _ (s t : Shown) (r : BlockRead) (holds : Holds s r) (moved : Bool) where
  -- with the reader that the ending makes
  ended_here : Frame s t r (record r { link = None; position = None; moved = moved }) → StaysAt s t r (record r { link = None; position = None; moved = moved })
      → Goes s t r (record r { link = None; position = None; moved = moved })
  ended_here frame stays =
      let later = frame.only.later.counts in
      record {
        frame = frame;
        shows = λ bytes shows. shows_idle s t r (record r { link = None; position = None; moved = moved }) bytes shows frame.only refl refl refl;
        gives_up = λ bytes shows. (zero, (refl, omega (arith, opened_before_now s r holds, later.nodes (node_at r.block (tried_of r))), later));
        locations = inl stays;
      }

  -- and with any that is equal to it
  ended_goes : (r' : BlockRead) → r' ≡ record r { link = None; position = None; moved = moved } → Frame s t r r' → StaysAt s t r r' → Goes s t r r'
  ended_goes r' is = subst (λ (x : BlockRead). Frame s t r x → StaysAt s t r x → Goes s t r x) (sym is) ended_here

-- the link was ended, and all else stays
pub stopped_goes : (s t : Shown) (r r' : BlockRead) → Holds s r → Frame s t r r' → r' ≡ record r { link = None; position = None } → Goes s t r r'
stopped_goes s t r r' holds frame is =
    ended_goes s t r holds r.moved r' is frame (stays_same s t r r' (ap (λ (x : BlockRead). x.given_up) is) (λ moved. ap (λ (x : BlockRead). x.moved) is ∙ moved))

-- a call on the link left the reader as it was, and then the link was ended
pub stopped_behind : (s s' t : Shown) (r x r' : BlockRead) → Holds s r → Frame s s' r r → x ≡ r → Frame s' t x r' → r' ≡ record x { link = None; position = None } → Goes s t r r'
stopped_behind s s' t r x r' holds frame same =
    subst (λ (y : BlockRead). Frame s' t y r' → r' ≡ record y { link = None; position = None } → Goes s t r r') (sym same)
    (λ stopped is. stopped_goes s t r r' holds (frame_trans s s' t r r r' frame stopped) is)

-- the location that is tried was lost, as its datanode has failed
pub loses_goes : (s t : Shown) (r r' : BlockRead) (reason : GivenUp) → Holds s r → Frame s t r r' → Rose (count_at s r) (count_at t r) → Loses r reason r' → Goes s t r r'
loses_goes s t r r' reason holds frame rose (inl (moved, is)) =
    gave_up_goes s t r reason r' is frame (λ bytes shows. inl (omega (arith, opened_before_now s r holds, rose)))
    (record {
      reason = reason;
      more = [];
      given_up = ap (λ (x : BlockRead). x.given_up) is;
      rose = λ of_it. subst (λ (b : Bool). RoseFor b (count_at s r) (count_at t r)) (sym moved) rose;
    })
loses_goes s t r r' reason holds frame rose (inr (moved, is)) =
    ended_goes s t r holds false r' is frame (record { given_up = ap (λ (x : BlockRead). x.given_up) is; lost = λ was now. rose })

-- no read was opened, since the datanode has failed
pub not_opened_goes : (s s' t : Shown) (r r' : BlockRead) (reason : GivenUp) (ask : ReadAsk) (fault : LinkFault) → Holds s r → NotOpened s None ask fault s' → fault ≢ faults.NoMemory
    → ask.node.datanode_uuid ≡ node_at r.block (tried_of r) → Frame s' t r r' → Loses r reason r' → Goes s t r r'
not_opened_goes s s' t r r' reason ask fault holds n is node frame =
    let fresh : Rose (s.counts.nodes ask.node.datanode_uuid) (s'.counts.nodes ask.node.datanode_uuid) = ⊎_elim (λ stale. absurd (cc (stale.0))) (λ rose. rose) (n.cause is) in
    let rose : Rose (count_at s r) (count_at s' r) = subst (λ (d : List ℕ). Rose (s.counts.nodes d) (s'.counts.nodes d)) node fresh in
    loses_goes s t r r' reason holds (frame_trans s s' t r r r' (still_frame s s' r holds n.later n.last n.reads n.writes n.picture) frame)
    (omega (arith, rose, frame.only.later.counts.nodes (node_at r.block (tried_of r))))

-- a link breaks where it fails neither for want of memory nor by a refusal
broken_else : (fault : LinkFault) → fault ≢ faults.NoMemory → fault ≢ faults.Refused → fault ≡ faults.Broken
broken_else faults.NoMemory not_memory not_refused = absurd (not_memory refl)
broken_else faults.Broken not_memory not_refused = refl
broken_else faults.Refused not_memory not_refused = absurd (not_refused refl)

-- no packet came, since the datanode has failed
pub not_given_goes : (s s' t : Shown) (r r' : BlockRead) (reason : GivenUp) (l : ℕ) (fault : LinkFault) → Holds s r → r.link ≡ Some l → NotGiven s l fault s' → fault ≢ faults.NoMemory
    → Frame s' t r r' → Loses r reason r' → Goes s t r r'
not_given_goes s s' t r r' reason l fault holds is n not_memory frame =
    let here = holds.link l is in
    let broke : IfSome (Some here.1) (λ read. Rose (s.counts.nodes read.ask.node.datanode_uuid) (s'.counts.nodes read.ask.node.datanode_uuid)) =
    subst (λ (o : Option OpenRead). IfSome o (λ read. Rose (s.counts.nodes read.ask.node.datanode_uuid) (s'.counts.nodes read.ask.node.datanode_uuid))) here.2 (n.cause (broken_else fault not_memory n.not_refused)) in
    let rose : Rose (count_at s r) (count_at s' r) = subst (λ (d : List ℕ). Rose (s.counts.nodes d) (s'.counts.nodes d)) here.3.node broke in
    loses_goes s t r r' reason holds (frame_trans s s' t r r r' (still_frame s s' r holds n.later n.last n.reads n.writes n.picture) frame)
    (omega (arith, rose, frame.only.later.counts.nodes (node_at r.block (tried_of r))))

-- a read was opened on the location that is tried, from the wanted byte on
module _ (s t : Shown) (r : BlockRead) (ask : ReadAsk) (l : ℕ) (holds : Holds s r) (idle : r.link ≡ None) (left : tried_of r < node_count r.block) (opened : Opened s ask l t) (asked : IsAskFor r.block (tried_of r) r.client r.end ask) (offset : ask.offset ≡ r.wanted) where
  -- only a read was opened
  opened_only : OnlyReads s t
  opened_only = only_reads_from-Reading l s t opened.reading

  -- a link that was open is another one
  apart : (m : ℕ) → IsSome (s.reads m) → m ≢ l
  apart m is same = not_some (s.reads m) (ap s.reads same ∙ opened.fresh) is

  -- what is shown of the new link
  abbrev opened_read : OpenRead
  opened_read = record { ask = ask; checksums = opened.checksums; before = s.counts.nodes ask.node.datanode_uuid }

  -- it is shown under the link that the reader keeps
  opened_shown : (m : ℕ) → l ≡ m → t.reads m ≡ Some opened_read
  opened_shown m same = ap t.reads (sym same) ∙ opened.opened

  -- the new link holds
  opened_link : (m : ℕ) → l ≡ m → LinkHolds t (record r { link = Some l; position = None }) m
  opened_link m same = (
    left,
    opened_read,
    opened_shown m same,
    asked,
    subst (λ (d : List ℕ). s.counts.nodes d ≤ count_at t r) (sym asked.node) (opened_only.later.counts.nodes (node_at r.block (tried_of r))),
  )

  -- and it was asked for from the wanted byte on
  opened_asks : (m : ℕ) → l ≡ m → IfSome (t.reads m) (λ read. r.wanted ≤ read.ask.offset)
  opened_asks m same = subst (λ (o : Option OpenRead). IfSome o (λ read. r.wanted ≤ read.ask.offset)) (sym (opened_shown m same)) (let le : r.wanted ≤ ask.offset = omega (arith, offset) in le)

  -- everything else stays
  opened_frame : Frame s t r (record r { link = Some l; position = None })
  opened_frame = record {
    block = refl;
    client = refl;
    wanted = omega arith;
    end = refl;
    only = opened_only;
    others = λ m no is. opened.reading.others m (apart m is);
    places = told_weaker (ReadsAt l) (OthersStay s r) s.picture t.picture (λ p q at m no is. at.others m (apart m is)) opened.reading.picture;
    own = λ m is. inr (let same : l ≡ m = cc in ap s.reads (sym same) ∙ opened.fresh);
    asks = λ m is. inr (opened_asks m (let same : l ≡ m = cc in same));
    frees = λ m not_its free. ⊎_elim (λ its. absurd (cc (idle, its))) (λ none. opened.reading.others m (λ same. not_its (ap Some (sym same))) ∙ none) free;
    holds = record { range = holds.range; tried = holds.tried; link = λ m is. opened_link m (let e : l ≡ m = cc in e); position = λ at is. absurd (cc) };
  }

  -- the place of the new link
  opened_placed : (q : Picture) → t.picture ≡ Some q → PlacedIn q (record r { link = Some l; position = None })
  opened_placed q told m is =
      let before = told_before (Begins ask l) s.picture t.picture q opened.begins told in
      let begins = before.2 in
      let same : l ≡ m = cc in (
        record { block = ask.block.block_id; offset = ask.offset; len = ask.len; base = before.0.held ask.node.datanode_uuid ask.block.block_id; place = begins.place },
        ap q.reads (sym same) ∙ begins.at,
        ap (λ (n : List ℕ). before.0.held n ask.block.block_id) asked.node
            ∙ ap (before.0.held (node_at r.block (tried_of r))) (ap (λ (b : Block). b.block_id) asked.same_block)
            ∙ sym (begins.rest.files.held (node_at r.block (tried_of r)) r.block.b.block_id),
        asked.same_end,
        omega (arith, offset, begins.behind),
      )

  -- the count is the one before the opening
  opened_before : (stage_of s r).before ≤ (stage_of t (record r { link = Some l; position = None })).before
  opened_before =
      let was : (stage_of s r).before ≡ count_at s r = ap (λ (link : Option ℕ). before_link s link (count_at s r)) idle in
      let now : before_opening (t.reads l) (count_at t r) ≡ count_at s r =
      ap (λ (o : Option OpenRead). before_opening o (count_at t r)) opened.opened ∙ ap s.counts.nodes asked.node in
      omega (arith, was, now)

  -- so the reader goes on
  pub opened_goes : Goes s t r (record r { link = Some l; position = None })
  opened_goes = record {
    frame = opened_frame;
    shows = λ bytes shows. shows_later s t r (record r { link = Some l; position = None }) bytes shows opened_only refl refl opened_placed;
    gives_up = λ bytes shows. (zero, (refl, opened_before, opened_only.later.counts));
    locations = inl (stays_same s t r (record r { link = Some l; position = None }) refl (λ is. is));
  }

-- what is given from a place is given from the same place of an earlier reader
pub gives_from : (q r w : BlockRead) (piece : Option (List ℕ)) → r.wanted ≡ q.wanted → tries_left r ≤ tries_left q → GivesOrGivesUp r piece w → GivesOrGivesUp q piece w
gives_from q r w (Some bytes) wanted tries h = (omega (arith, wanted, h.0), h.1, h.2)
gives_from q r w None wanted tries h = (h.0 ∙ wanted, (h.1.0, omega (arith, tries, h.1.1)))
