-- How what calls of a writer leave as it was joins from call to call.
use Rattle.std.proofs.Common.{◌≡◌, ⊎_elim, inl, ℕ, List, Option, Some, None, refl, sym, ◌∙◌, subst}
use Rattle.hdfs_cluster.specs.Picture.{Picture}
use Rattle.hdfs_cluster.specs.declared.asks.LinkFault.{LinkFault}
use Rattle.hdfs_cluster.specs.declared.messages.Setup.{Setup}
use Rattle.hdfs_cluster.specs.Effects.{KeepsBytes}
use Rattle.hdfs_cluster.specs.Pipes.{OnlyWrites, WriteOpened, WriteNotOpened}
use Rattle.hdfs_cluster.specs.Shown.{Shown, SameReads, SameReadPlaces}
use Rattle.hdfs_cluster.proofs.Frames.{told_weaker}
use Rattle.hdfs_cluster.specs.Repeating.{Leaves}
use Rattle.hdfs_block_writer.proofs.OwnLinks as block_links
use Rattle.hdfs_file_writer.specs.OnlyFiles.{OnlyFile, SameFile}
use Rattle.hdfs_file_writer.specs.Writers.{OnlyOwnLink}

pub only_file_refl : (path : List ℕ) (p : Picture) → OnlyFile path p p
only_file_refl path p = record {
  names = λ other apart. refl;
  blocks = λ id some away. (refl, λ node. refl);
  writes = λ link place told some away. told;
  grown = λ id there some. there;
  listed = λ id some. some;
  reads = λ link. refl;
  defaults = refl;
}

pub only_file_trans : (path : List ℕ) (p q r : Picture) → OnlyFile path p q → OnlyFile path q r → OnlyFile path p r
only_file_trans path p q r one two = record {
  names = λ other apart. two.names other apart ∙ one.names other apart;
  blocks = λ id some away.
      (let first = one.blocks id some away in
      let then = two.blocks id (one.listed id some) (λ there. away (one.grown id there some)) in
      (then.0 ∙ first.0, λ node. then.1 node ∙ first.1 node));
  writes = λ link place told some away. two.writes link place (one.writes link place told some away) (one.listed place.block some) (λ there. away (one.grown place.block there some));
  grown = λ id there some. one.grown id (two.grown id there (one.listed id some)) some;
  listed = λ id some. two.listed id (one.listed id some);
  reads = λ link. two.reads link ∙ one.reads link;
  defaults = two.defaults ∙ one.defaults;
}

pub same_file_refl : (path : List ℕ) (p : Picture) → SameFile path p p
same_file_refl path p file is = (file.blocks, is)

pub same_file_trans : (path : List ℕ) (p q r : Picture) → SameFile path p q → SameFile path q r → SameFile path p r
same_file_trans path p q r one two file is =
    let first = one file is in
    two (record file { blocks = first.0 }) first.1

-- calls on write links leave the read links
only_writes_reads : (a b : Shown) → OnlyWrites a b → SameReads a b
only_writes_reads a b only = record { links = only.reads; places = only.places }

-- and so does an ask
left_reads : (a b : Shown) → Leaves a b → SameReads a b
left_reads a b left = record {
  links = left.reads;
  places = told_weaker KeepsBytes (SameReadPlaces a) a.picture b.picture (λ p q keeps link is. keeps.reads link) left.bytes;
}

-- one call behind another
pub own_link_trans : (a b c : Shown) (x y z : Option ℕ) → OnlyOwnLink a x b y → OnlyOwnLink b y c z → OnlyOwnLink a x c z
own_link_trans a b c x y z one two = block_links.own_link_trans a b c x y z one two

-- nothing happened
pub own_link_refl : (a : Shown) (x : Option ℕ) → OnlyOwnLink a x a x
own_link_refl a x = block_links.own_link_refl a x

-- an ask of namenodes
pub own_link_left : (a b : Shown) (x : Option ℕ) → Leaves a b → OnlyOwnLink a x b x
own_link_left a b x left = record {
  later = left.later;
  reads = left_reads a b left;
  others = λ link some apart. left.writes link;
  none = λ link was apart. ⊎_elim (λ none. left.writes link ∙ none) (λ own. absurd (apart own)) was;
  fresh = λ link mine. inl mine;
}

-- a link of its own was opened
pub own_link_opened : (a b : Shown) (setup : Setup) (link : ℕ) (x : Option ℕ) → x ≡ Some link → WriteOpened a setup link b → OnlyOwnLink a None b x
own_link_opened a b setup link x is opened = subst (OnlyOwnLink a None b) (sym is) (block_links.own_link_opened a b setup link opened)

-- no link was opened
pub own_link_unopened : (a b : Shown) (setup : Setup) (fault : LinkFault) (x : Option ℕ) → WriteNotOpened a setup fault b → OnlyOwnLink a x b x
own_link_unopened a b setup fault x not_opened = record {
  later = not_opened.only.later;
  reads = only_writes_reads a b not_opened.only;
  others = λ link some apart. not_opened.writes link;
  none = λ link was apart. ⊎_elim (λ none. not_opened.writes link ∙ none) (λ own. absurd (apart own)) was;
  fresh = λ link mine. inl mine;
}
