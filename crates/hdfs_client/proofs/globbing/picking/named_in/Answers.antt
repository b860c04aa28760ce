-- The name is what its characters are encoded to.
use Rattle.std.proofs.Common.{List, ℕ, ◌∷◌, ◌++◌, ◌∙◌, ap}
use Rattle.std.proofs.lemmas.Str.{IsUtf8-string_bytes}
use Rattle.hdfs_client.proofs.Picked.{as_encoded, if_ok_so}
use Rattle.hdfs_client.proofs.globbing.picking.named_in.Goals as goal

pub returns : goal.returns
returns c =
    if_ok_so _ _ c.in_directory.result
    (λ path is. is ∙ ap (λ (n : List ℕ). c.args.dir.now ++ 47 ∷ n)
    (c.as_str.ensures.value ∙ as_encoded _ _ (IsUtf8-string_bytes c.in_ok-name.name) c.in_ok-name.ensures)) c.in_directory.ensures
