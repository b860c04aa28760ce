-- What the ask for a page came to.
use Rattle.std.proofs.Common.{◌∙◌, List, ap, refl, reverse}
use Rattle.std.proofs.lemmas.List.{reverse-reverse}
use Rattle.hdfs_cluster.specs.declared.messages.FileStatusMsg.{FileStatusMsg}
use Rattle.hdfs_client.specs.Iterating.{left_of}
use Rattle.hdfs_client.proofs.Turned.{asked_failed, asked_holds, asked_lacks, is_opened}
use Rattle.hdfs_client.proofs.list_iterator.DirListingIterator.take_page.Goals as goal

pub returns-in_err-page-clause-asked : goal.returns-in_err-page-clause-asked
returns-in_err-page-clause-asked g c =
    asked_failed g.C.Cluster.serves _ _ _ _ (left_of c.args.self.now) _ _ _ c.as_str.ensures c.as_slice.ensures c.in_err-page.field-0.0 c.from_residual.result
    c.from_residual.ensures.1 c.in_err-page.ensures.asked

pub returns-in_err-set_start-clause-asked : goal.returns-in_err-set_start-clause-asked
returns-in_err-set_start-clause-asked g c =
    asked_lacks g.C.Cluster.serves _ _ _ _ (left_of c.args.self.now) _ _ _ c.as_str.ensures c.as_slice.ensures c.in_ok-page.page
    c.from_residual-in_err-set_start.result c.in_err-set_start.field-0.0 c.from_residual-in_err-set_start.ensures.1 c.in_err-set_start.ensures.err
    c.in_ok-page.ensures.asked

pub returns-clause-asked : goal.returns-clause-asked
returns-clause-asked g c =
    asked_holds g.C.Cluster.serves _ _ _ _ (left_of c.args.self.now) _ _ _ c.as_str.ensures c.as_slice.ensures c.in_ok-page.page
    (is_opened (left_of c.args.self.now) _ c.in_ok-page.page refl c.in_ok-set_start.ensures.ok
    (ap (λ (xs : List FileStatusMsg). reverse xs) c.reverse.ensures.items ∙ reverse-reverse c.into_vec.result.items ∙ c.into_vec.ensures) c.has_more-self.ensures)
    c.in_ok-page.ensures.asked
