-- The cluster has as many namenodes as the client has addresses.
use Rattle.std.proofs.Common.{◌∙◌, sym}
use Rattle.hdfs_client.proofs.client.Client.is_of.Goals as goal

pub returns-then-namenodes-len : goal.returns-then-namenodes-len
returns-then-namenodes-len g c = (
  (λ is. record {
    many = sym c.namenodes.ensures ∙ c.if-namenodes-len.true ∙ c.len.ensures ∙ c.args.self.now.addresses.ok.0;
    each = c.has_services_of.ensures.0 is;
  }),
  (λ of. c.has_services_of.ensures.1 of.each),
)
