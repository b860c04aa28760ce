-- A new cluster shows the root alone.
use Rattle.std.proofs.Common.{◌≡◌, ℕ, ◌<◌, List, Some, None, map, refl, sym, ◌∙◌, ap, subst}
use Rattle.hdfs_mem_faults.specs.Following.{Follows}
use Rattle.hdfs_mem_faults.specs.Series.{AsksOf}
use Rattle.hdfs_mem_faults.proofs.Following.{new_follows}
use Rattle.std.specs.List.{slice_index_or}
use Rattle.hdfs_cluster.specs.declared.mem_settings.MemSettings.{MemSettings}
use Rattle.hdfs_mem_cluster.specs.declared.loaded.Kept.{Kept}
use Rattle.hdfs_mem_cluster.specs.Lines.{line_of}
use Rattle.hdfs_mem_cluster.specs.Links.{read_told, read_place, write_told, write_place}
use Rattle.hdfs_mem_cluster.specs.MemShown.{picture_at, loaded_at}
use Rattle.hdfs_mem_cluster.specs.Laws.{agrees_bare}
use Rattle.hdfs_mem_namenode.proofs.Naming.{empty_is_state}
use Rattle.hdfs_mem_cluster.proofs.Failing.{no_namenode_faults}
use Rattle.hdfs_mem_cluster.proofs.mem_cluster.MemCluster.new.Goals as goal

pub returns-clause-starts : goal.returns-clause-starts
returns-clause-starts c = record {
  picture = picture_at c.in_ok-new.field-0 c.in_ok-new-2.field-0 c.new.result.settings c.new-4.result;
  told = refl;
  active = ap (λ (s : MemSettings). s.active) c.new.ensures;
  defaults = ap (λ (s : MemSettings). s.defaults) c.new.ensures;
  no_block = c.in_ok-new.ensures.empty;
  no_bytes = c.in_ok-new-2.ensures.held;
  no_place = λ link. ap (λ slots. read_place (slice_index_or slots link None)) c.new-4.ensures.reads;
  no_write_place = λ link. ap (λ slots. write_place c.in_ok-new-2.field-0 link (slice_index_or slots link None)) c.new-4.ensures.writes;
  namenodes = ap (λ (s : MemSettings). s.namenodes) c.new.ensures;
  last = refl;
  no_read = λ link. ap (λ slots. read_told (slice_index_or slots link None)) c.new-4.ensures.reads;
  no_write = λ link. ap (λ slots. write_told (slice_index_or slots link None)) c.new-4.ensures.writes;
  no_line = ap (λ (s : MemSettings). loaded_at s (map line_of c.new-6.result.items)) c.new.ensures ∙ ap (λ (xs : List Kept). loaded_at c.args.settings (map line_of xs)) c.new-6.ensures.items;
  asks = λ i. c.in_ok-new-3.ensures.new.calls (AsksOf i);
  calls = λ i. no_namenode_faults c.new.result.settings 0 c.in_ok-new-3.field-0 i (c.in_ok-new-3.ensures.new.asks i) refl;
  links = c.in_ok-new-3.ensures.new.links;
  nodes = c.in_ok-new-3.ensures.new.nodes;
}

pub returns-clause-fits : goal.returns-clause-fits
returns-clause-fits c =
    let p = picture_at c.in_ok-new.field-0 c.in_ok-new-2.field-0 c.new.result.settings c.new-4.result in
    record {
      is_state = empty_is_state;
      agrees = agrees_bare p c.in_ok-new.ensures.bare;
    }

pub returns-clause-asked : goal.returns-clause-asked
returns-clause-asked c = record {
  there = λ k below. record {
    there = c.in_ok-new-2.field-0.numbered k below;
    counted = c.in_ok-new-3.ensures.there k (subst (λ (n : ℕ). k < n) c.in_ok-new-2.ensures.count below);
  };
  calls = c.in_ok-new-3.ensures.new.calls;
}

pub invariant_of-result : goal.invariant_of-result
invariant_of-result c = record {
  counted = c.in_ok-new-2.ensures.count ∙ sym (ap (λ (s : MemSettings). s.nodes) c.new.ensures);
  unfailed = λ none. refl;
  follows = subst (λ (xs : List Kept). Follows c.in_ok-new-3.field-0 (map line_of xs)) (sym c.new-6.ensures.items) (new_follows c.in_ok-new-3.field-0 c.in_ok-new-3.ensures.new);
  earlier = λ link read is.
      (let none : read_told None ≡ Some read = sym (ap (λ slots. read_told (slice_index_or slots link None)) c.new-4.ensures.reads) ∙ is in
      absurd (cc));
}
