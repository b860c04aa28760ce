-- That a client gives its key by the server defaults that it has, or has asked for.
use Rattle.std.proofs.Common.{◌≡◌, ◌⊎◌, ℕ, Bool, true, false, Option, Some, None, Result, Ok, refl, sym, ◌∙◌, ap, subst}
use Rattle.std.specs.Prelude.{IfSome}
use Rattle.hdfs_cluster.specs.declared.asks.Ask.{Ask}
use Rattle.hdfs_cluster.specs.declared.asks.Ask.TheVariants as asks
use Rattle.hdfs_cluster.specs.declared.asks.Answer.{Answer}
use Rattle.hdfs_cluster.specs.declared.asks.Answer.TheVariants as answers
use Rattle.hdfs_cluster.specs.declared.asks.AskFault.{AskFault}
use Rattle.hdfs_cluster.specs.declared.errors.HdfsError.{HdfsError}
use Rattle.hdfs_cluster.specs.declared.messages.EncryptionKey.{EncryptionKey}
use Rattle.hdfs_cluster.specs.declared.messages.ServerDefaults.{ServerDefaults}
use Rattle.hdfs_cluster.specs.Shown.{Shown, Served}
use Rattle.hdfs_namenode.specs.Asked.{Asked, IsServiceOf, SameService, Through, as_answer}
use Rattle.hdfs_namenode.specs.Clients.{key_of, proxy_of, through}
use Rattle.hdfs_namenode.specs.Keys.{AsksForKey, GivesCopy, GivesKey, IsDue, IsLasting}
use Rattle.hdfs_namenode.specs.declared.protocol.NamenodeProtocol.{NamenodeProtocol}
use Rattle.hdfs_namenode.proofs.Observers.{asked_later}
use Rattle.hdfs_namenode.proofs.Services.{service_later}

-- one value is answered
ok_same : (outcome : Result ServerDefaults HdfsError) (a b : ServerDefaults) → outcome ≡ Ok a → outcome ≡ Ok b → a ≡ b
ok_same outcome a b is was = cc

module _ {C : Type 0} where
  through_same : (n n' : NamenodeProtocol) (c c' : C) → n' ≡ n → c' ≡ c → through n' c' ≡ through n c
  through_same n n' c c' same stays = ap (λ (x : NamenodeProtocol). through x c') same ∙ ap (λ (x : C). through n x) stays

  moved : (P : NamenodeProtocol → C → ServerDefaults → Type 0) (n n' : NamenodeProtocol) (c c' : C) (d d' : ServerDefaults) → n' ≡ n → c' ≡ c → d' ≡ d
      → P n' c' d' → P n c d
  moved P n n' c c' d d' same stays is p =
      subst (λ (x : ServerDefaults). P n c x) is (subst (λ (x : C). P n x d') stays (subst (λ (x : NamenodeProtocol). P x c' d') same p))

  -- what holds behind the look at the server defaults held before it, where they were known
  pub by_known : (P : NamenodeProtocol → C → ServerDefaults → Type 0) (n n' : NamenodeProtocol) (c c' : C) (outcome : Result ServerDefaults HdfsError)
      (d' : ServerDefaults) (known : Option ServerDefaults) → IfSome known (λ kept. (outcome ≡ Ok kept) × (c' ≡ c) × (n' ≡ n)) → outcome ≡ Ok d'
      → P n' c' d' → IfSome known (λ d. P n c d)
  by_known P n n' c c' outcome d' None kept was p = tt
  by_known P n n' c c' outcome d' (Some d) kept was p = moved P n n' c c' d d' kept.2 kept.1 (ok_same outcome d' d was kept.0) p

  -- a key is given so by the defaults
  pub gives_key : (serves : C → ℕ → Ask → Result Answer AskFault → C → Type 0) (moment : ℕ) (defaults : ServerDefaults) (key : Option EncryptionKey)
      (n n' : NamenodeProtocol) (c c' : C) (result : Result (Option EncryptionKey) HdfsError) → key_of n ≡ key
      → (defaults.encrypt_data_transfer ≡ false → (result ≡ Ok None) × (n' ≡ n) × (c' ≡ c))
      → (defaults.encrypt_data_transfer ≡ true → IsLasting moment (key_of n) → GivesCopy (key_of n) result × (n' ≡ n) × (c' ≡ c))
      → (defaults.encrypt_data_transfer ≡ true → IsDue moment (key_of n) → AsksForKey serves (key_of n) (through n c) result (key_of n') (through n' c'))
      → GivesKey serves moment defaults key (through n c) result (key_of n') (through n' c')
  gives_key serves moment defaults key n n' c c' result is plain lasts due =
      subst (λ (k : Option EncryptionKey). GivesKey serves moment defaults k (through n c) result (key_of n') (through n' c')) is (record {
        plain = λ no. (let p = plain no in (p.0, ap key_of p.1, through_same n n' c c' p.1 p.2));
        lasts = λ yes lasting. (let p = lasts yes lasting in (p.0, ap key_of p.1, through_same n n' c c' p.1 p.2));
        due = due;
      })

module _ {C : Type 0} (shown : C → Shown) (serves : C → ℕ → Ask → Result Answer AskFault → C → Type 0)
    (rows : (old new : C) (i : ℕ) (ask : Ask) (result : Result Answer AskFault) → serves old i ask result new → Served (shown old) i ask result (shown new)) where
  -- the service is one behind the look at the server defaults
  pub service_between : (n n' : NamenodeProtocol) (c c' : C) (outcome : Result ServerDefaults HdfsError) (known : Option ServerDefaults)
      → IfSome known (λ kept. (outcome ≡ Ok kept) × (c' ≡ c) × (n' ≡ n))
      → (known ≡ None → Asked serves false asks.GetServerDefaults (through n c) (as_answer answers.GetServerDefaults outcome) (through n' c'))
      → SameService (proxy_of n) (proxy_of n') → IsServiceOf (proxy_of n) (shown c) → IsServiceOf (proxy_of n') (shown c')
  service_between n n' c c' outcome None kept asked same of =
      let later = asked_later shown serves rows false asks.GetServerDefaults (through n c) (as_answer answers.GetServerDefaults outcome) (through n' c') (asked refl) in
      service_later (proxy_of n) (proxy_of n') (shown c) (shown c') same later of
  service_between n n' c c' outcome (Some d) kept asked same of =
      subst (λ (x : C). IsServiceOf (proxy_of n') (shown x)) (sym kept.1) (same.within (shown c) of)
