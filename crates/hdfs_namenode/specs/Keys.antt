-- The key by which a client encrypts data on its way to datanodes.
use Rattle.std.specs.Prelude.{◌≡◌, ◌⊎◌, ℕ, ◌+◌, ◌<◌, ◌≤◌, Bool, true, false, Option, Some, None, Result, Ok, Err}
use Rattle.hdfs_cluster.specs.declared.asks.Ask.{Ask}
use Rattle.hdfs_cluster.specs.declared.asks.Ask.TheVariants as asks
use Rattle.hdfs_cluster.specs.declared.asks.Answer.{Answer}
use Rattle.hdfs_cluster.specs.declared.asks.Answer.TheVariants as answers
use Rattle.hdfs_cluster.specs.declared.asks.AskFault.{AskFault}
use Rattle.hdfs_cluster.specs.declared.errors.HdfsError.{HdfsError}
use Rattle.hdfs_cluster.specs.declared.errors.HdfsError.TheVariants as errors
use Rattle.hdfs_cluster.specs.declared.messages.EncryptionKey.{EncryptionKey}
use Rattle.hdfs_cluster.specs.declared.messages.ServerDefaults.{ServerDefaults}
use Rattle.hdfs_namenode.specs.Asked.{Asked, Through, as_answer}

-- the key expires more than ten seconds behind this moment, in milliseconds
abbrev pub Lasts : ℕ → EncryptionKey → Type 0
Lasts moment key = moment + 10000 < key.expiry_date

-- a key is kept, and expires more than ten seconds behind this moment
abbrev pub IsLasting : ℕ → Option EncryptionKey → Type 0
IsLasting moment None = ⊥
IsLasting moment (Some key) = Lasts moment key

-- no key is kept that does
abbrev pub IsDue : ℕ → Option EncryptionKey → Type 0
IsDue moment None = Unit {0}
IsDue moment (Some key) = key.expiry_date ≤ moment + 10000

-- a copy of what is kept is given, or there is no memory for one
abbrev pub GivesCopy : Option EncryptionKey → Result (Option EncryptionKey) HdfsError → Type 0
GivesCopy key result = (result ≡ Ok key) ⊎ (result ≡ Err errors.NoMemory)

-- what is given of an answer: a copy of the key, or the error
abbrev pub GivesAnswer : Result (Option EncryptionKey) HdfsError → Result (Option EncryptionKey) HdfsError → Type 0
GivesAnswer (Ok key) result = GivesCopy key result
GivesAnswer (Err error) result = result ≡ Err error

-- what is kept behind an answer: the key that was answered, and else the one that was kept
abbrev pub kept_by : Result (Option EncryptionKey) HdfsError → Option EncryptionKey → Option EncryptionKey
kept_by (Ok key) kept = key
kept_by (Err error) kept = kept

-- A key is asked for once. What is answered is kept and given.
pub record AsksForKey {C : Type 0} (serves : C → ℕ → Ask → Result Answer AskFault → C → Type 0) (key : Option EncryptionKey) (old : Through C)
    (result : Result (Option EncryptionKey) HdfsError) (key' : Option EncryptionKey) (new : Through C) : Type 0 where
  pub answer : Result (Option EncryptionKey) HdfsError
  pub asked : Asked serves false asks.GetDataEncryptionKey old (as_answer answers.GetDataEncryptionKey answer) new
  pub gives : GivesAnswer answer result
  pub kept : key' ≡ kept_by answer key

-- What a client gives that has these server defaults: no key where they say that data isn't encrypted on its way; a copy of the key that is
-- kept where it lasts, without an ask; and else one that is asked for.
pub record GivesKey {C : Type 0} (serves : C → ℕ → Ask → Result Answer AskFault → C → Type 0) (moment : ℕ) (defaults : ServerDefaults)
    (key : Option EncryptionKey) (old : Through C) (result : Result (Option EncryptionKey) HdfsError) (key' : Option EncryptionKey)
    (new : Through C) : Type 0 where
  pub plain : defaults.encrypt_data_transfer ≡ false → (result ≡ Ok None) × (key' ≡ key) × (new ≡ old)
  pub lasts : defaults.encrypt_data_transfer ≡ true → IsLasting moment key → GivesCopy key result × (key' ≡ key) × (new ≡ old)
  pub due : defaults.encrypt_data_transfer ≡ true → IsDue moment key → AsksForKey serves key old result key' new

-- What comes of an ask for the server defaults: they are kept, and a key is given by them; or there are none, and nothing more is asked.
abbrev pub GoesOn : {C : Type 0} → (C → ℕ → Ask → Result Answer AskFault → C → Type 0) → ℕ → Result ServerDefaults HdfsError → Option EncryptionKey
    → Through C → Result (Option EncryptionKey) HdfsError → Option ServerDefaults → Option EncryptionKey → Through C → Type 0
GoesOn serves moment (Ok defaults) key old result known key' new = (known ≡ Some defaults) × GivesKey serves moment defaults key old result key' new
GoesOn serves moment (Err error) key old result known key' new = (known ≡ None) × (result ≡ Err error) × (key' ≡ key) × (new ≡ old)

-- The server defaults are asked for once, and then a key, if one is to be asked for.
pub record AsksForBoth {C : Type 0} (serves : C → ℕ → Ask → Result Answer AskFault → C → Type 0) (moment : ℕ) (key : Option EncryptionKey)
    (old : Through C) (result : Result (Option EncryptionKey) HdfsError) (known : Option ServerDefaults) (key' : Option EncryptionKey)
    (new : Through C) : Type 0 where
  pub defaults : Result ServerDefaults HdfsError
  pub between : Through C
  pub asked : Asked serves false asks.GetServerDefaults old (as_answer answers.GetServerDefaults defaults) between
  pub goes_on : GoesOn serves moment defaults key between result known key' new
