-- Shuffled or not, the addresses are the same.
use Rattle.std.proofs.Common.{String, Vec, Global, ap}
use Rattle.std.proofs.lemmas.List.Sorted.{IsPermutation-refl}
use Rattle.hdfs_names.proofs.Configured.{reordered}
use Rattle.hdfs_names.proofs.Shuffling.{shuffled_texts}
use Rattle.hdfs_names.proofs.settings.Configuration.get_urls_for_nameservice.Goals as goal
use Rattle.hdfs_names.proofs.settings.Configuration.get_urls_for_nameservice.Goals.{then-branch-2, else-branch-2}

pub returns-clause-members : goal.returns-clause-members
returns-clause-members g c = elim c.if-branch-2.branch [
  | then-branch-2 w ↦ reordered _ _ _ _ c.in_ok-urls.ensures w.reorder.ensures.permutation (ap (λ (v : Vec (String Global) Global). v.items) w.urls-is)
  | else-branch-2 w ↦ reordered _ _ _ _ c.in_ok-urls.ensures (IsPermutation-refl _) (ap (λ (v : Vec (String Global) Global). v.items) w.urls-is)
]

pub returns-clause-shuffled : goal.returns-clause-shuffled
returns-clause-shuffled g c random = elim c.if-branch-2.branch [
  | then-branch-2 w ↦ shuffled_texts _ _ _ _ _ _ _ c.in_ok-urls.ensures w.reorder.ensures.drawn (ap (λ (v : Vec (String Global) Global). v.items) w.urls-is) (ap g.G.Rng.stream w.rng-is)
  | else-branch-2 w ↦ (let asked = c.in_ok-is_set-2.ensures in absurd cc)
]
