-- Whether bytes of files may be moved, by the cluster's defaults, which a client asks for once.
use Rattle.std.specs.Prelude.{◌≡◌, ◌⊎◌, ◌<◌, ℕ, true, false, Option, Some, IfSome, IsSomeAnd}
use Rattle.hdfs_cluster.specs.declared.errors.Feature.TheVariants as features
use Rattle.hdfs_cluster.specs.declared.errors.HdfsError.{HdfsError}
use Rattle.hdfs_cluster.specs.declared.errors.HdfsError.TheVariants as errors
use Rattle.hdfs_cluster.specs.declared.messages.ServerDefaults.{ServerDefaults}
use Rattle.hdfs_cluster.specs.Failures.{CallsRose}
use Rattle.hdfs_cluster.specs.Picture.{Picture}
use Rattle.hdfs_cluster.specs.Shown.{Shown}
use Rattle.hdfs_namenode.specs.Asked.{SameService}
use Rattle.hdfs_namenode.specs.Clients.{defaults_of, name_of, proxy_of}
use Rattle.hdfs_namenode.specs.Relaying.{TellsAsk}
use Rattle.hdfs_namenode.specs.Views.{View, HasView, see}
use Rattle.hdfs_namenode.specs.declared.protocol.NamenodeProtocol.{NamenodeProtocol}

-- the error of a read that can't be done without encryption
abbrev pub Unsupported : HdfsError → Type 0
Unsupported error = error ≡ errors.UnsupportedFeature features.Encryption

-- what is known of the defaults is what a picture has
abbrev pub AreDefaultsOf : Picture → Option ServerDefaults → Type 0
AreDefaultsOf p known = IfSome known (λ defaults. defaults ≡ p.defaults)

-- what a client knows of them is what the picture has still, where it was so before
abbrev pub StaysKnown : Shown → Option ServerDefaults → Shown → Option ServerDefaults → Type 0
StaysKnown old known new known' =
    (p q : Picture) → old.picture ≡ Some p → new.picture ≡ Some q → AreDefaultsOf p known → AreDefaultsOf q known'

-- The client asks the same service in the same name, and knows the defaults that it knew.
pub record SameButKnown (namenode namenode' : NamenodeProtocol) : Type 0 where
  pub service : SameService (proxy_of namenode) (proxy_of namenode')
  pub name : name_of namenode' ≡ name_of namenode
  pub known : (defaults : ServerDefaults) → defaults_of namenode ≡ Some defaults → defaults_of namenode' ≡ Some defaults

-- the defaults were asked for in vain, over a told picture only where a namenode has failed
abbrev pub AskedInVain : Shown → HdfsError → Shown → Type 0
AskedInVain old error new =
    TellsAsk old new error × ((p : Picture) → old.picture ≡ Some p → (error ≡ errors.NoMemory) ⊎ CallsRose old.counts new)

-- Bytes may not be moved: the defaults were asked for in vain, as their service sees it, or there are some, and the defaults want them
-- encrypted.
abbrev pub LacksTransfer : ℕ → Shown → NamenodeProtocol → HdfsError → Shown → NamenodeProtocol → Type 0
LacksTransfer len old namenode error new namenode' =
    ((view : View) → HasView (proxy_of namenode) old view → AskedInVain (see view old) error (see view new))
    ⊎ (Unsupported error × (0 < len) × IsSomeAnd (defaults_of namenode') (λ defaults. defaults.encrypt_data_transfer ≡ true))

-- there are none, or the defaults don't want them encrypted
abbrev pub MayMove : ℕ → NamenodeProtocol → Type 0
MayMove len namenode = 0 < len → IsSomeAnd (defaults_of namenode) (λ defaults. defaults.encrypt_data_transfer ≡ false)
