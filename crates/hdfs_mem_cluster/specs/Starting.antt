-- How a cluster in memory starts.
use Rattle.std.specs.Prelude.{◌≡◌, ℕ, List, [], Some, None}
use Rattle.hdfs_cluster.specs.declared.picture.LastAnswer.TheVariants as last_answers
use Rattle.hdfs_cluster.specs.Picture.{Picture}
use Rattle.hdfs_cluster.specs.Shown.{Shown}
use Rattle.hdfs_cluster.specs.declared.mem_settings.MemSettings.{MemSettings}

-- it has the namenodes and the defaults of its settings, and nothing was asked of it, read or loaded, or has failed
pub record Starts (settings : MemSettings) (shown : Shown) : Type 0 where
  pub picture : Picture
  pub told : shown.picture ≡ Some picture
  pub active : picture.active ≡ settings.active
  pub defaults : picture.defaults ≡ settings.defaults
  pub no_block : (id : ℕ) → picture.table id ≡ None
  pub no_bytes : (node : List ℕ) (id : ℕ) → picture.held node id ≡ []
  pub no_place : (link : ℕ) → picture.reads link ≡ None
  pub no_write_place : (link : ℕ) → picture.writes link ≡ None
  pub namenodes : shown.namenodes ≡ settings.namenodes
  pub last : shown.last ≡ last_answers.Fine
  pub no_read : (link : ℕ) → shown.reads link ≡ None
  pub no_write : (link : ℕ) → shown.writes link ≡ None
  pub no_line : shown.loaded ≡ record { settings = Some settings; lines = [] }
  pub asks : (i : ℕ) → shown.counts.asks i ≡ 0
  pub calls : (i : ℕ) → shown.counts.calls i ≡ 0
  pub links : shown.counts.links ≡ 0
  pub nodes : (d : List ℕ) → shown.counts.nodes d ≡ 0
