-- One id more.
use Rattle.std.proofs.Common.{ℕ, List, Option, map, string_bytes, Bor, ap, ◌∙◌, sym, Some, lit<}
use Rattle.std.specs.List.{filter_map}
use Rattle.std.specs.Option.{option_map}
use Rattle.std.specs.Str.Iter.{split_text, split_has_more, split_pattern}
use Rattle.std.proofs.lemmas.Iterator.{items_from_drains}
use Rattle.std.proofs.lemmas.Iterator.Splits.{YieldsList-from_str_split}
use Rattle.hdfs_names.specs.Settings.{address_key}
use Rattle.hdfs_names.specs.Configurations.{setting}
use Rattle.hdfs_names.specs.declared.settings.Configuration.{Configuration}
use Rattle.hdfs_names.proofs.Configured.{found_more, found_none}
use Rattle.hdfs_names.proofs.settings.Configuration.addresses_at.Goals as goal

abbrev address_at : Configuration → List ℕ → List ℕ → Option (List ℕ)
address_at config service id = setting config (address_key service id)

pub ids-preserved-in_ok-push : goal.ids-preserved-in_ok-push
ids-preserved-in_ok-push c =
    ap (map string_bytes) c.in_ok-push.ensures.items
    ∙ found_more (address_at c.args.self.now c.args.nameservice.now) c.ids.addresses.items c.in_ok-from_str.field-0 c.ids.yielded c.in-Some.id c.ids.invariant
    (sym c.in_ok-address.ensures ∙ ap (option_map (λ (x : Bor (List ℕ)). x.now)) c.in-Some-2.is ∙ ap (λ (x : List ℕ). Some x) (sym c.in_ok-from_str.ensures.ok))

pub ids-preserved : goal.ids-preserved
ids-preserved c =
    found_none (address_at c.args.self.now c.args.nameservice.now) c.ids.addresses.items c.ids.yielded c.in-Some.id c.ids.invariant
    (sym c.in_ok-address.ensures ∙ ap (option_map (λ (x : Bor (List ℕ)). x.now)) c.in_default.is)

pub returns : goal.returns
returns c =
    c.ids.invariant ∙ ap (filter_map (address_at c.args.self.now c.args.nameservice.now))
    (items_from_drains c.ids.yielded (c.ids.id-iterator, c.ids.yielded_by, λ _. (c.next.new.self, c.in-None.ensures.steps))
    (YieldsList-from_str_split 44 c.args.ids.now (lit< tt)
    (ap split_text c.into_iter-id-iterator.ensures.into_iter_gives ∙ c.split-id-items.ensures.text)
    (ap split_has_more c.into_iter-id-iterator.ensures.into_iter_gives ∙ c.split-id-items.ensures.has_more)
    (ap split_pattern c.into_iter-id-iterator.ensures.into_iter_gives ∙ c.split-id-items.ensures.pattern)))
