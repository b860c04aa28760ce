-- The addresses so far.
use Rattle.std.proofs.Common.{◌≡◌, Some, map, take, string_bytes}
use Rattle.hdfs_client.specs.Services.{address_in}
use Rattle.hdfs_client.proofs.service_plan.addresses_of.Given as goal

abbrev pub invariant-urls : goal.invariant-urls
invariant-urls l = l.found.items ≡ map (address_in (Some l.host)) (map string_bytes (take l.url-index l.fn.urls.items))
