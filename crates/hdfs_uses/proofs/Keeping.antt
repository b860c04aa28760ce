-- What calls one behind another leave of the files of a client.
use Rattle.std.proofs.Common.{◌≡◌, Option, Some, None}
use Rattle.hdfs_cluster.specs.declared.asks.Answer.{Answer}
use Rattle.hdfs_cluster.specs.declared.asks.Ask.{Ask}
use Rattle.hdfs_cluster.specs.Requests.{Request}
use Rattle.hdfs_cluster.specs.Shown.{Shown}
use Rattle.hdfs_client.specs.Writing.{KeepsFiles, KeepsOthers, link_of}
use Rattle.hdfs_client.specs.declared.client.Client.{Client}
use Rattle.hdfs_client.specs.declared.writing.FileWriter.{FileWriter}

-- nothing is none and some
pub none_of : {T : Type 0} {x : T} {o : Option T} → o ≡ Some x → o ≡ None → ⊥
none_of some none = absurd (cc (some, none))

module _ {allows : Request → Type 0} {may_answer : Ask → Answer → Type 0} where
  pub others_refl : (client : Client) (shown : Shown) (writer : FileWriter) → KeepsOthers allows may_answer client shown writer client shown writer
  others_refl client shown writer = record {
    whole = λ src is. is;
    readers = λ reader is. is;
    wholes = λ other is. is;
    stand = λ other apart is. (is, apart);
    answered = λ other is. is;
    write = λ other is. is;
    close = λ other is. is;
  }

  pub others_trans : {a b c : Client} {s m t : Shown} {w v u : FileWriter} → KeepsOthers allows may_answer a s w b m v
      → KeepsOthers allows may_answer b m v c t u → KeepsOthers allows may_answer a s w c t u
  others_trans one two = record {
    whole = λ src is. two.whole src (one.whole src is);
    readers = λ reader is. two.readers reader (one.readers reader is);
    wholes = λ other is. two.wholes other (one.wholes other is);
    stand = λ other apart is. (let mid = one.stand other apart is in two.stand other mid.1 mid.0);
    answered = λ other is. two.answered other (one.answered other is);
    write = λ other is. two.write other (one.write other is);
    close = λ other is. two.close other (one.close other is);
  }

  -- first a call of another kind, then one of a writer
  pub files_others : {a b c : Client} {s m t : Shown} {w u : FileWriter} → KeepsFiles allows may_answer a s b m
      → KeepsOthers allows may_answer b m w c t u → KeepsOthers allows may_answer a s w c t u
  files_others one two = record {
    whole = λ src is. two.whole src (one.whole src is);
    readers = λ reader is. two.readers reader (one.readers reader is);
    wholes = λ other is. two.wholes other (one.wholes other is);
    stand = λ other apart is. two.stand other apart (one.stand other is);
    answered = λ other is. two.answered other (one.answered other is);
    write = λ other is. two.write other (one.write other is);
    close = λ other is. two.close other (one.close other is);
  }

  -- a writer without a link is apart from each
  pub files_alone : {a c : Client} {s t : Shown} {w u : FileWriter} → link_of w ≡ None → KeepsOthers allows may_answer a s w c t u
      → KeepsFiles allows may_answer a s c t
  files_alone none one = record {
    whole = one.whole;
    readers = one.readers;
    wholes = one.wholes;
    stand = λ other is. (one.stand other (λ link own theirs. none_of own none) is).0;
    answered = one.answered;
    write = one.write;
    close = one.close;
  }
