-- The texts are what their characters are encoded to.
use Rattle.std.proofs.Common.{◌∙◌, List, Option, Some, ap, encode_utf8_all, map, sym, ℕ}
use Rattle.std.specs.Option.{option_map}
use Rattle.hdfs_client.proofs.Picked.{all_encoded}
use Rattle.hdfs_client.proofs.globbing.picking.texts_of.Goals as goal

pub returns-clause-ok : goal.returns-clause-ok
returns-clause-ok c =
    ap (λ (texts : Option (List (List ℕ))). option_map (map encode_utf8_all) texts) c.in_ok-expand_glob.ensures.ok
    ∙ ap (λ (texts : List (List ℕ)). Some texts) (all_encoded c.in_ok-expand_glob.field-0.items ∙ sym c.in_ok-as_texts.ensures)
