-- The goals of create_by: the defaults, the ask, and the writer.
use Rattle.std.proofs.Common.{◌≡◌, inl, inr, ℕ, true, List, false, Ok, Err, refl, sym, ◌∙◌, ap, subst}
use Rattle.std.proofs.lemmas.Result.{err_from_is_err_and}
use Rattle.std.specs.Prelude.{unwrap_or}
use Rattle.hdfs_cluster.specs.declared.asks.Answer.TheVariants as answers
use Rattle.hdfs_cluster.specs.declared.asks.Ask.{Ask}
use Rattle.hdfs_cluster.specs.declared.asks.Ask.TheVariants as asks
use Rattle.hdfs_cluster.specs.Asks.{create_ask}
use Rattle.hdfs_file_writer.specs.Writers.{AreSizes, IsAnswered}
use Rattle.hdfs_file_writer.specs.declared.sizes.WriteSizes.{WriteSizes}
use Rattle.hdfs_namenode.specs.Asked.{AskedOnce}
use Rattle.hdfs_namenode.specs.Clients.{through}
use Rattle.hdfs_namenode.specs.Views.{see}
use Rattle.hdfs_namenode.proofs.Observers.{once_leaves}
use Rattle.hdfs_namenode.proofs.Relayed.{came_as}
use Rattle.hdfs_file_writer.specs.Sizing.{sizes_by}
use Rattle.hdfs_opening.proofs.Answered.{answered_created}
use Rattle.hdfs_opening.proofs.Begun.{begun_new}
use Rattle.hdfs_opening.proofs.InLimits.{are_sizes_of}
use Rattle.hdfs_opening.proofs.Kept.{goes_by, goes_of, goes_service, goes_trans, goes_view, keeps_by, keeps_trans, links_from, making}
use Rattle.hdfs_opening.proofs.opening.create_by.Goals as goal

pub create-requires-clause-service : goal.create-requires-clause-service
create-requires-clause-service g c = goes_service (goes_of c.in_ok-defaults.ensures.keeps) c.requires.service

pub returns-in_err-status-clause-keeps : goal.returns-in_err-status-clause-keeps
returns-in_err-status-clause-keeps g c =
    keeps_trans c.in_ok-defaults.ensures.keeps (keeps_by c.create.ensures.keeps (links_from (once_leaves g.C.Cluster.shown g.C.Cluster.serves g.met.C.Cluster.serves_rows _ _ _ _ _ c.create.ensures.asked)))

pub refuse_created-requires-clause-service : goal.refuse_created-requires-clause-service
refuse_created-requires-clause-service g c =
    let first = goes_of c.in_ok-defaults.ensures.keeps in
    goes_service (goes_trans first (goes_by c.create.ensures.keeps (once_leaves g.C.Cluster.shown g.C.Cluster.serves g.met.C.Cluster.serves_rows _ _ _ _ _ c.create.ensures.asked))) c.requires.service

pub returns-then-told-clause-keeps : goal.returns-then-told-clause-keeps
returns-then-told-clause-keeps g c =
    keeps_trans (keeps_trans c.in_ok-defaults.ensures.keeps (keeps_by c.create.ensures.keeps (links_from (once_leaves g.C.Cluster.shown g.C.Cluster.serves g.met.C.Cluster.serves_rows _ _ _ _ _ c.create.ensures.asked))))
    (keeps_by c.refuse_created.ensures.keeps.0 c.refuse_created.ensures.keeps.1)

pub new-file-requires : goal.new-file-requires
new-file-requires g c =
    let options = c.args.options.now in
    let d = c.in_ok-defaults.defaults in
    let same : c.by-sizes.result ≡ sizes_by c.args.terms.rebuilding c.args.terms.setup_limit d (unwrap_or options.replication d.replication) (unwrap_or options.block_size d.block_size) =
    c.by-sizes.ensures ∙ ap (λ (x : ℕ). sizes_by c.args.terms.rebuilding c.args.terms.setup_limit d x c.unwrap_or-block_size.result) c.unwrap_or-replication.ensures
    ∙ ap (λ (x : ℕ). sizes_by c.args.terms.rebuilding c.args.terms.setup_limit d (unwrap_or options.replication d.replication) x) c.unwrap_or-block_size.ensures in
    subst AreSizes (sym same) (are_sizes_of c.args.terms.rebuilding c.args.terms.setup_limit d (c.requires.limits.1, c.requires.limits.2) c.in_ok-defaults.ensures.knows.limited options c.requires.limits.0)

pub returns-clause-created : goal.returns-clause-created
returns-clause-created g c =
    let first = goes_of c.in_ok-defaults.ensures.keeps in
    let options = c.args.options.now in
    let d = c.in_ok-defaults.defaults in
    let r = unwrap_or options.replication d.replication in
    let k = unwrap_or options.block_size d.block_size in
    let same : c.by-sizes.result ≡ sizes_by c.args.terms.rebuilding c.args.terms.setup_limit d r k =
    c.by-sizes.ensures ∙ ap (λ (x : ℕ). sizes_by c.args.terms.rebuilding c.args.terms.setup_limit d x c.unwrap_or-block_size.result) c.unwrap_or-replication.ensures
    ∙ ap (λ (x : ℕ). sizes_by c.args.terms.rebuilding c.args.terms.setup_limit d r x) c.unwrap_or-block_size.ensures in
    record {
      defaults = d;
      between = c.limited_defaults.new.namenode;
      mid = c.limited_defaults.new.cluster;
      knows = c.in_ok-defaults.ensures.knows;
      status = c.in_ok-status.status;
      asked = subst (λ (a : Ask). AskedOnce g.C.Cluster.serves true a (through c.limited_defaults.new.namenode c.limited_defaults.new.cluster)
          (Ok (answers.Create c.in_ok-status.status)) (through c.create.new.self c.create.new.cluster))
          (making options c.as_str.ensures first.0.name c.create_flag.ensures c.unwrap_or-replication.ensures c.unwrap_or-block_size.ensures)
          c.in_ok-status.ensures.asked;
      plain = sym c.told_by-told.ensures.encrypted ∙ c.if-told.false;
      fresh = record {
        at = c.new-file.ensures.path.0;
        id = c.new-file.ensures.path.2 ∙ c.told_by-told.ensures.id;
        with = c.new-file.ensures.path.1 ∙ same;
        stands = c.new-file.ensures.tail;
        idle = c.new-file.ensures.idle.0;
        fine = c.new-file.ensures.idle.1;
      };
      tells = c.told_by-told.ensures;
      kept = c.create.ensures.keeps.defaults ∙ c.in_ok-defaults.ensures.knows.has.kept;
    }

pub returns-clause-begins : goal.returns-clause-begins
unfolding returns-clause-created
returns-clause-begins g c =
    let first = goes_of c.in_ok-defaults.ensures.keeps in
    let options = c.args.options.now in
    let d = c.in_ok-defaults.defaults in
    let made = returns-clause-created g c in
    λ view has.
    begun_new (see view (g.C.Cluster.shown c.args.cluster.now)) (see view (g.C.Cluster.shown c.limited_defaults.new.cluster)) (see view (g.C.Cluster.shown c.create.new.cluster))
    (c.in_ok-defaults.ensures.picture view has) c.args.path c.args.namenode.now.client c.new-file.result options
    (unwrap_or options.replication d.replication) (unwrap_or options.block_size d.block_size) c.in_ok-status.status
    (ap (λ (s : WriteSizes). s.replication) made.fresh.with) (ap (λ (s : WriteSizes). s.block_size) made.fresh.with) made.fresh.stands
    (came_as (making options c.as_str.ensures first.0.name c.create_flag.ensures c.unwrap_or-replication.ensures c.unwrap_or-block_size.ensures) refl
    (c.in_ok-status.ensures.came view (goes_view view first has)))

pub returns-clause-keeps : goal.returns-clause-keeps
returns-clause-keeps g c =
    keeps_trans c.in_ok-defaults.ensures.keeps (keeps_by c.create.ensures.keeps (links_from (once_leaves g.C.Cluster.shown g.C.Cluster.serves g.met.C.Cluster.serves_rows _ _ _ _ _ c.create.ensures.asked)))

pub returns-in_err-defaults-clause-err : goal.returns-in_err-defaults-clause-err
returns-in_err-defaults-clause-err g c =
    let p = err_from_is_err_and c.from_residual.result c.from_residual.ensures.1 in
    rw (p.1, p.2) (inl c.in_err-defaults.ensures.err)

pub returns-in_err-status-clause-err : goal.returns-in_err-status-clause-err
returns-in_err-status-clause-err g c =
    let p = err_from_is_err_and c.from_residual-in_err-status.result c.from_residual-in_err-status.ensures.1 in
    let first = goes_of c.in_ok-defaults.ensures.keeps in
    rw (p.1, p.2) (inr (record {
      defaults = c.in_ok-defaults.defaults;
      between = c.limited_defaults.new.namenode;
      mid = c.limited_defaults.new.cluster;
      knows = c.in_ok-defaults.ensures.knows;
      why = inl (subst (λ (a : Ask). AskedOnce g.C.Cluster.serves true a (through c.limited_defaults.new.namenode c.limited_defaults.new.cluster)
          (Err c.in_err-status.field-0.0) (through c.create.new.self c.create.new.cluster))
          (making c.args.options.now c.as_str.ensures first.0.name c.create_flag.ensures c.unwrap_or-replication.ensures c.unwrap_or-block_size.ensures)
          c.in_err-status.ensures.asked);
      kept = c.create.ensures.keeps.defaults ∙ c.in_ok-defaults.ensures.knows.has.kept;
    }))

pub returns-then-told-clause-err : goal.returns-then-told-clause-err
returns-then-told-clause-err g c =
    let first = goes_of c.in_ok-defaults.ensures.keeps in
    let refused = c.refuse_created.ensures in
    inr (record {
      defaults = c.in_ok-defaults.defaults;
      between = c.limited_defaults.new.namenode;
      mid = c.limited_defaults.new.cluster;
      knows = c.in_ok-defaults.ensures.knows;
      why = inr (record {
        status = c.in_ok-status.status;
        between = c.create.new.self;
        mid = c.create.new.cluster;
        asked = subst (λ (a : Ask). AskedOnce g.C.Cluster.serves true a (through c.limited_defaults.new.namenode c.limited_defaults.new.cluster)
            (Ok (answers.Create c.in_ok-status.status)) (through c.create.new.self c.create.new.cluster))
            (making c.args.options.now c.as_str.ensures first.0.name c.create_flag.ensures c.unwrap_or-replication.ensures c.unwrap_or-block_size.ensures)
            c.in_ok-status.ensures.asked;
        answered = subst (λ (a : Ask). g.C.Cluster.may_answer a (answers.Create c.in_ok-status.status))
            (making c.args.options.now c.as_str.ensures first.0.name c.create_flag.ensures c.unwrap_or-replication.ensures c.unwrap_or-block_size.ensures)
            c.in_ok-status.ensures.answered;
        encrypted = sym c.told_by-told.ensures.encrypted ∙ c.if-told.true;
        outcome = refused.deleted.0;
        deleted = subst (λ (at : List ℕ). AskedOnce g.C.Cluster.serves true (asks.Delete at false) (through c.create.new.self c.create.new.cluster)
            refused.deleted.0 (through c.refuse_created.new.namenode c.refuse_created.new.cluster)) c.as_str-then-told.ensures refused.deleted.1;
        is = refused.deleted.2;
      });
      kept = refused.keeps.0.defaults ∙ c.create.ensures.keeps.defaults ∙ c.in_ok-defaults.ensures.knows.has.kept;
    })

pub returns-clause-stands : goal.returns-clause-stands
returns-clause-stands g c =
    let writer = c.new-file.result in
    let shown = g.C.Cluster.shown c.create.new.cluster in
    let options = c.args.options.now in (
      c.new-file.ensures.stands shown,
      subst (λ (client : List ℕ). IsAnswered g.C.Cluster.may_answer client writer) c.in_ok-defaults.ensures.keeps.0.0.name
          (answered_created writer c.args.path _ _ _ _ _ c.in_ok-status.status c.new-file.ensures.path.0
          (c.new-file.ensures.path.2 ∙ c.told_by-told.ensures.id) c.new-file.ensures.tail
          (subst (λ (at : List ℕ). g.C.Cluster.may_answer (create_ask at options.permission c.limited_defaults.new.namenode.client c.create_flag.result options.create_parent
          c.unwrap_or-replication.result c.unwrap_or-block_size.result) (answers.Create c.in_ok-status.status)) c.as_str.ensures c.in_ok-status.ensures.answered)),
    )
