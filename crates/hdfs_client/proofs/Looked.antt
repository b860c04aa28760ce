-- What a look-up came to.
use Rattle.std.proofs.Common.{ℕ, false, List, refl, Result}
use Rattle.hdfs_cluster.specs.declared.asks.Ask.{Ask}
use Rattle.hdfs_cluster.specs.declared.asks.Ask.TheVariants as asks
use Rattle.hdfs_cluster.specs.declared.asks.Answer.{Answer}
use Rattle.hdfs_cluster.specs.declared.asks.Answer.TheVariants as answers
use Rattle.hdfs_cluster.specs.declared.asks.AskFault.{AskFault}
use Rattle.hdfs_cluster.specs.declared.errors.HdfsError.{HdfsError}
use Rattle.hdfs_client.specs.Calls.{Gives}
use Rattle.hdfs_client.specs.Clients.{mounts_of}
use Rattle.hdfs_client.specs.Globbing.{FailsToLook, IsDeclined, IsLooked, IsLookedUp, IsTaken}
use Rattle.hdfs_client.specs.Statuses.{IsInfo}
use Rattle.hdfs_client.specs.declared.client.Client.{Client}
use Rattle.hdfs_client.specs.declared.errors.ClientError.{ClientError}
use Rattle.hdfs_client.specs.declared.status.FileStatus.{FileStatus}

module _ {C : Type 0} (serves : C → ℕ → Ask → Result Answer AskFault → C → Type 0) (path : List ℕ) (client client' : Client) (old new : C) where
  pub looked_up : (result : Result FileStatus HdfsError)
      → Gives serves false asks.GetFileInfo answers.GetFileInfo client path old client' new (λ outcome. IsInfo path outcome result)
      → IsLookedUp serves (mounts_of client) path result
  looked_up result gives = record { client = client; old = old; client' = client'; new = new; by = refl; asked = gives }

  -- what is taken of it
  pub is_looked : (result : Result FileStatus HdfsError) (found : List FileStatus)
      → Gives serves false asks.GetFileInfo answers.GetFileInfo client path old client' new (λ outcome. IsInfo path outcome result)
      → IsTaken result found → IsLooked serves (mounts_of client) path found
  is_looked result found gives taken = (result, looked_up result gives, taken)

  pub is_unlooked : (result : Result FileStatus HdfsError) (error : ClientError)
      → Gives serves false asks.GetFileInfo answers.GetFileInfo client path old client' new (λ outcome. IsInfo path outcome result)
      → IsDeclined result error → FailsToLook serves (mounts_of client) path error
  is_unlooked result error gives declined = (result, looked_up result gives, declined)
