-- What a cluster in memory tells of a path is what the rows say that a namenode tells.
use Rattle.std.proofs.Common.{◌≡◌, ℕ, ◌++◌, List, [], length, Option, Some, None, refl, sym, ◌∙◌, ap, arith}
use Rattle.std.proofs.lemmas.List.Elements.{All-weaker}
use Rattle.hdfs_cluster.specs.declared.messages.DirList.{DirList}
use Rattle.hdfs_cluster.specs.declared.messages.FileStatusMsg.{FileStatusMsg}
use Rattle.hdfs_cluster.specs.declared.picture.BlockEntry.{BlockEntry}
use Rattle.hdfs_cluster.specs.declared.picture.Entry.{Entry}
use Rattle.hdfs_cluster.specs.declared.picture.Entry.TheVariants as entries
use Rattle.hdfs_cluster.specs.Listing.{TellsAt, TellsEntries, TellsFile, TellsListing, TellsPage, TellsStatus}
use Rattle.hdfs_cluster.specs.Names.{front_of}
use Rattle.hdfs_mem_namenode.specs.Listing.{IsPage, Lists, ListsAt}
use Rattle.hdfs_mem_namenode.specs.Looking.{Informs, IsStatusOf, TellsOf, length_of}

module _ (names : List ℕ → Option Entry) (table : ℕ → Option BlockEntry) where
  tells_file : (entry : Entry) (name : List ℕ) (count : ℕ) (status : FileStatusMsg) → length_of table entry ≡ Some count → IsStatusOf entry name count status
      → TellsFile table entry status
  tells_file entries.Dir name count status has is = tt
  tells_file (entries.File file) name count status has is = (
    record { told = status; is = refl; permission = is.permission; replication = is.replication; block_size = is.block_size; encryption = is.encryption },
    λ closed. has ∙ ap (λ (n : ℕ). Some n) (sym is.length),
  )

  tells_at : (path name : List ℕ) (status : FileStatusMsg) → TellsOf names table path name status → TellsAt names table path name status
  tells_at path name status h = record {
    entry = h.entry;
    there = h.is;
    named = h.told.named;
    type = h.told.type;
    file = tells_file h.entry name h.length status h.has h.told;
  }

  -- a status
  pub tells_status : (src : List ℕ) (status : Option FileStatusMsg) → Informs names table src status → TellsStatus names table src status
  tells_status src (Some status) h = tells_at src [] status h
  tells_status src None h = h

  tells_page : (dir from : List ℕ) (page : DirList) → IsPage names table dir from page → TellsPage names table dir from page
  tells_page dir from page h = record {
    rest = h.rest;
    are = h.are;
    told = All-weaker (λ status. TellsOf names table (front_of dir ++ status.path) status.path status) (λ status. TellsAt names table (front_of dir ++ status.path) status.path status)
        (λ status is. tells_at (front_of dir ++ status.path) status.path status is) page.partial_listing h.told;
    remaining = h.remaining;
    some = λ none. h.full (omega (arith, ap (λ (l : List FileStatusMsg). length l) none));
  }

  tells_entries : (src from : List ℕ) (entry : Entry) (page : DirList) → ListsAt names table src from entry page → TellsEntries names table src from entry page
  tells_entries src from entries.Dir page h = tells_page src from page h
  tells_entries src from (entries.File file) page h = record { status = h.1.0; one = h.1.1; told = tells_at src [] h.1.0 h.1.2; none = h.0 }

  -- a listing
  pub tells_listing : (src from : List ℕ) (page : Option DirList) → Lists names table src from page → TellsListing names table src from page
  tells_listing src from (Some page) h = (h.0, h.1, tells_entries src from h.0 page h.2)
  tells_listing src from None h = h
