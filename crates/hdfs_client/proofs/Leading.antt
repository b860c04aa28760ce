-- Each path leads to one of a client's services: to that of the first link that matches it, or of the fallback, which matches every path
-- that begins with a slash.
use Rattle.std.proofs.Common.{◌≡◌, ℕ, suc, ◌<◌, length, Bool, true, false, ◌&&◌, List, [], ◌∷◌, ◌++◌, Option, Some, None, refl, sym, ap, subst, arith}
use Rattle.std.specs.Prelude.{nat_lt}
use Rattle.std.specs.List.{list_all}
use Rattle.std.proofs.lemmas.Bool.Decides.{Decides-eqb, nat_tests}
use Rattle.hdfs_names.proofs.Mounted.{absolute_begins, resolved_behind}
use Rattle.hdfs_names.specs.Mounts.{first_match, is_absolute_or_empty, resolved}
use Rattle.hdfs_names.specs.Paths.{absolute}
use Rattle.hdfs_names.specs.declared.mounts.MountLink.{MountLink}
use Rattle.hdfs_names.specs.declared.mounts.Resolved.{Resolved}
use Rattle.hdfs_client.specs.Clients.{leads_to, services_of}
use Rattle.hdfs_client.specs.Linked.{is_linked, is_rooted}
use Rattle.hdfs_client.specs.declared.client.Client.{Client}

and_parts : (a b : Bool) → (a && b) ≡ true → (a ≡ true) × (b ≡ true)
and_parts true b is = (refl, is)
and_parts false b is = absurd (cc is)

below : (n many : ℕ) → nat_lt n many ≡ true → n < many
below n many is = grind (arith, nat_tests, is)

-- where the first of some links lead that matches
pub record Leads (answer : Option Resolved) (many : ℕ) : Type 0 where
  pub to : Resolved
  pub is : answer ≡ Some to
  pub within : to.service < many

matches : (fallback : MountLink) (number many : ℕ) (links : List MountLink) (path : List ℕ) → fallback.viewfs_path ≡ [] → is_absolute_or_empty path ≡ true
    → is_linked many fallback ≡ true → list_all (is_linked many) links ≡ true → Leads (first_match fallback number links path) many
unfolding first_match
matches fallback number many [] path empty begins last all =
    let e : path ≡ fallback.viewfs_path ++ path = sym (ap (λ (x : List ℕ). x ++ path) empty) in record {
      to = record { link = number; service = fallback.service; path = fallback.hdfs_path ++ path };
      is = rw (resolved_behind fallback.viewfs_path fallback.hdfs_path path path e begins) refl;
      within = below fallback.service many last;
    }
matches fallback number many (link ∷ links) path empty begins last all =
    let here = and_parts (is_linked many link) (list_all (is_linked many) links) all in
    by here.0 (matches fallback (suc number) many links path empty begins last here.1) (resolved link.viewfs_path link.hdfs_path path) refl
  where
    by : is_linked many link ≡ true → Leads (first_match fallback (suc number) links path) many → (found : Option (List ℕ))
        → resolved link.viewfs_path link.hdfs_path path ≡ found → Leads (first_match fallback number (link ∷ links) path) many
    by low other (Some answer) is = record {
      to = record { link = number; service = link.service; path = answer };
      is = rw is refl;
      within = below link.service many low;
    }
    by low other None is = record { to = other.to; is = rw is other.is; within = other.within }

rooted_begins : (home : List ℕ) → is_rooted home ≡ true → (rest : List ℕ) × (home ≡ 47 ∷ rest)
rooted_begins [] is = absurd (cc is)
rooted_begins (c ∷ rest) is = (rest, ap (λ (x : ℕ). x ∷ rest) ((Decides-eqb c 47).0 is))

pub home_begins : (client : Client) → (rest : List ℕ) × (client.mounts.home_dir ≡ 47 ∷ rest)
home_begins client = rooted_begins client.mounts.home_dir client.rooted

pub leads_somewhere : (client : Client) (src : List ℕ) → Leads (leads_to client src) (length (services_of client))
leads_somewhere client src =
    let home = home_begins client in
    let linked = and_parts (is_linked client.services.len client.mounts.fallback) (list_all (is_linked client.services.len) client.mounts.mounts) client.linked in
    let led = matches client.mounts.fallback 0 client.services.len client.mounts.mounts (absolute client.mounts.home_dir src) client.caught
    (absolute_begins client.mounts.home_dir src home.0 home.1) linked.0 linked.1 in
    record { to = led.to; is = led.is; within = subst (λ (n : ℕ). led.to.service < n) client.services.ok.0 led.within }
