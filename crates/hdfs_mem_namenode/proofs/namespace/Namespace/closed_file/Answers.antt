-- The first refusal that holds.
use Rattle.std.proofs.Common.{◌≡◌, Bool, cond, Some, None, refl, sym, ◌∙◌, ap}
use Rattle.std.specs.BTreeMap.{get_by_text}
use Rattle.std.specs.Option.{option_map}
use Rattle.hdfs_cluster.specs.declared.picture.Entry.TheVariants as entries
use Rattle.hdfs_cluster.specs.Files.{OpenFile, ClosedFile, NotDirectory, Missing, NotFile, no_file_at}
use Rattle.hdfs_cluster.specs.Namenode.{class_in_the_way}
use Rattle.hdfs_cluster.specs.Picture.{entry_kind, kinds_in}
use Rattle.hdfs_cluster.specs.Refusals.{Exists, Lacks, open_refusal}
use Rattle.hdfs_mem_namenode.proofs.Naming.{tree_from_tests}
use Rattle.hdfs_mem_namenode.proofs.Answering.{allowed_file, refused_directory}
use Rattle.hdfs_mem_namenode.proofs.namespace.Namespace.closed_file.Goals as goal

pub returns-then-is_below_file : goal.returns-then-is_below_file
returns-then-is_below_file c =
    let k = kinds_in (get_by_text c.args.self.now.names) c.args.src.now in
    (Lacks NotDirectory, ap (λ o. open_refusal o k) (ap (λ (b : Bool). cond b (Some NotDirectory) (no_file_at k)) (sym c.is_below_file.ensures ∙ c.if-is_below_file.true)), refl)

pub returns-else-is_below_file : goal.returns-else-is_below_file
returns-else-is_below_file c =
    let k = kinds_in (get_by_text c.args.self.now.names) c.args.src.now in
    let none : k ≡ None = ap (option_map entry_kind) (sym c.in-None.ensures.value) in
    (Lacks Missing, ap (λ o. open_refusal o k) (ap (λ (b : Bool). cond b (Some NotDirectory) (no_file_at k)) (sym c.is_below_file.ensures ∙ c.if-is_below_file.false) ∙ ap no_file_at none), refl)

pub returns-in-Some-Dir : goal.returns-in-Some-Dir
returns-in-Some-Dir c =
    let space = c.args.self.now in
    let names = get_by_text space.names in
    let refused = refused_directory names (tree_from_tests names space.rooted space.placed) c.args.src.now (sym c.in-Some-Dir.ensures.value ∙ ap Some c.in-Some-Dir.field-0-is) in
    (Lacks NotFile, ap (λ o. open_refusal o (kinds_in names c.args.src.now)) refused, refl)

pub returns-then-file : goal.returns-then-file
returns-then-file c =
    let space = c.args.self.now in
    let names = get_by_text space.names in
    let file = c.in-Some-File.file in
    let named : names c.args.src.now ≡ Some (entries.File file) = sym c.in-Some-File.ensures.value ∙ ap Some c.in-Some-File.field-0-is in
    let allowed = allowed_file names (tree_from_tests names space.rooted space.placed) c.args.src.now file named in
    let kind : kinds_in names c.args.src.now ≡ Some OpenFile = ap (option_map entry_kind) named ∙ ap (λ (b : Bool). Some (cond b OpenFile ClosedFile)) c.if-file.true in
    (Exists, ap (λ o. open_refusal o (kinds_in names c.args.src.now)) allowed ∙ ap (open_refusal None) kind, sym (ap class_in_the_way kind))

pub returns-else-file : goal.returns-else-file
returns-else-file c =
    let space = c.args.self.now in
    let names = get_by_text space.names in
    let file = c.in-Some-File.file in
    let named : names c.args.src.now ≡ Some (entries.File file) = sym c.in-Some-File.ensures.value ∙ ap Some c.in-Some-File.field-0-is in
    let allowed = allowed_file names (tree_from_tests names space.rooted space.placed) c.args.src.now file named in
    let kind : kinds_in names c.args.src.now ≡ Some ClosedFile = ap (option_map entry_kind) named ∙ ap (λ (b : Bool). Some (cond b OpenFile ClosedFile)) c.if-file.false in
    (named, ap (λ o. open_refusal o (kinds_in names c.args.src.now)) allowed ∙ ap (open_refusal None) kind)
