-- The goals of append_by: the defaults, the ask, and the writer.
use Rattle.std.proofs.Common.{◌≡◌, inl, inr, ℕ, true, List, Option, Some, None, Ok, Err, refl, sym, ◌∙◌, ap, subst}
use Rattle.std.proofs.lemmas.Result.{err_from_is_err_and}
use Rattle.std.specs.Prelude.{unwrap_or}
use Rattle.hdfs_cluster.specs.declared.errors.HdfsError.TheVariants as errors
use Rattle.hdfs_model.specs.Opening.{tells_encryption}
use Rattle.hdfs_cluster.specs.declared.asks.Answer.TheVariants as answers
use Rattle.hdfs_cluster.specs.declared.asks.Ask.{Ask}
use Rattle.hdfs_cluster.specs.declared.asks.Ask.TheVariants as asks
use Rattle.hdfs_cluster.specs.declared.messages.Appended.{Appended}
use Rattle.hdfs_cluster.specs.declared.messages.FileStatusMsg.{FileStatusMsg}
use Rattle.hdfs_cluster.specs.declared.messages.LocatedBlock.{LocatedBlock}
use Rattle.hdfs_cluster.specs.Requests.{id_in}
use Rattle.hdfs_file_writer.specs.Writers.{IsAnswered, tail_opened}
use Rattle.hdfs_file_writer.specs.Sizing.{sizes_by}
use Rattle.hdfs_namenode.specs.Asked.{AskedOnce}
use Rattle.hdfs_namenode.specs.Clients.{through}
use Rattle.hdfs_namenode.specs.Views.{see}
use Rattle.hdfs_namenode.proofs.Observers.{once_leaves}
use Rattle.hdfs_namenode.proofs.Relayed.{came_as}
use Rattle.hdfs_opening.proofs.Answered.{answered_appended}
use Rattle.hdfs_opening.proofs.Begun.{begun_again}
use Rattle.hdfs_opening.proofs.Kept.{goes_by, goes_of, goes_service, goes_trans, goes_view, going_on, keeps_by, keeps_trans, links_from, picture_seen}
use Rattle.hdfs_opening.proofs.opening.append_by.Goals as goal

whole : (a : Appended) (block : Option LocatedBlock) (stat : Option FileStatusMsg) → a.block ≡ block → a.stat ≡ stat → a ≡ record { block = block; stat = stat }
whole a block stat one two =
    ap (λ (b : Option LocatedBlock). record { block = b; stat = a.stat }) one ∙ ap (λ (s : Option FileStatusMsg). record { block = block; stat = s }) two

pub append-requires-clause-service : goal.append-requires-clause-service
append-requires-clause-service g c = goes_service (goes_of c.in_ok-defaults.ensures.keeps) c.requires.service

pub returns-in_err-block-clause-keeps : goal.returns-in_err-block-clause-keeps
returns-in_err-block-clause-keeps g c =
    keeps_trans c.in_ok-defaults.ensures.keeps (keeps_by c.append.ensures.keeps (links_from (once_leaves g.C.Cluster.shown g.C.Cluster.serves g.met.C.Cluster.serves_rows _ _ _ _ _ c.append.ensures.asked)))

pub returns-in_err-from_str-clause-keeps : goal.returns-in_err-from_str-clause-keeps
returns-in_err-from_str-clause-keeps g c =
    keeps_trans c.in_ok-defaults.ensures.keeps (keeps_by c.append.ensures.keeps (links_from (once_leaves g.C.Cluster.shown g.C.Cluster.serves g.met.C.Cluster.serves_rows _ _ _ _ _ c.append.ensures.asked)))

pub returns-in_default-clause-keeps : goal.returns-in_default-clause-keeps
returns-in_default-clause-keeps g c =
    keeps_trans c.in_ok-defaults.ensures.keeps (keeps_by c.append.ensures.keeps (links_from (once_leaves g.C.Cluster.shown g.C.Cluster.serves g.met.C.Cluster.serves_rows _ _ _ _ _ c.append.ensures.asked)))

pub refuse_opened-requires-clause-service : goal.refuse_opened-requires-clause-service
refuse_opened-requires-clause-service g c =
    let first = goes_of c.in_ok-defaults.ensures.keeps in
    goes_service (goes_trans first (goes_by c.append.ensures.keeps (once_leaves g.C.Cluster.shown g.C.Cluster.serves g.met.C.Cluster.serves_rows _ _ _ _ _ c.append.ensures.asked))) c.requires.service

pub refuse_opened-requires-clause-stands : goal.refuse_opened-requires-clause-stands
refuse_opened-requires-clause-stands g c =
    (c.appended-writer.ensures.stands (g.C.Cluster.shown c.append.new.cluster), c.appended-writer.ensures.idle.1)

pub returns-then-told-clause-keeps : goal.returns-then-told-clause-keeps
returns-then-told-clause-keeps g c =
    keeps_trans (keeps_trans c.in_ok-defaults.ensures.keeps (keeps_by c.append.ensures.keeps (links_from (once_leaves g.C.Cluster.shown g.C.Cluster.serves g.met.C.Cluster.serves_rows _ _ _ _ _ c.append.ensures.asked))))
    (keeps_by c.refuse_opened.ensures.keeps.0 c.refuse_opened.ensures.keeps.1)

pub returns-clause-opened : goal.returns-clause-opened
returns-clause-opened g c =
    let first = goes_of c.in_ok-defaults.ensures.keeps in
    let d = c.in_ok-defaults.defaults in
    let stat = c.in-Some.stat in
    let is : c.in_ok-block.field-0 ≡ record { block = c.in_ok-block.block; stat = Some stat } =
    whole c.in_ok-block.field-0 c.in_ok-block.block (Some stat) c.in_ok-block.block-is c.in-Some.is in
    record {
      defaults = d;
      between = c.limited_defaults.new.namenode;
      mid = c.limited_defaults.new.cluster;
      knows = c.in_ok-defaults.ensures.knows;
      block = c.in_ok-block.block;
      status = stat;
      asked = subst (λ (a : Ask). AskedOnce g.C.Cluster.serves true a (through c.limited_defaults.new.namenode c.limited_defaults.new.cluster)
          (Ok (answers.Append (record { block = c.in_ok-block.block; stat = Some stat }))) (through c.append.new.self c.append.new.cluster))
          (going_on c.as_str.ensures first.0.name)
          (subst (λ (x : Appended). AskedOnce g.C.Cluster.serves true (asks.Append c.as_str.result.now c.limited_defaults.new.namenode.client 4)
          (through c.limited_defaults.new.namenode c.limited_defaults.new.cluster) (Ok (answers.Append x)) (through c.append.new.self c.append.new.cluster))
          is c.in_ok-block.ensures.asked);
      plain = sym c.told_by-told.ensures.encrypted ∙ c.if-told.false;
      fresh = record {
        at = c.appended-writer.ensures.path.0;
        id = c.appended-writer.ensures.path.2 ∙ c.told_by-told.ensures.id;
        with = c.appended-writer.ensures.path.1 ∙ c.by-sizes.ensures
            ∙ ap (λ (x : ℕ). sizes_by c.args.terms.rebuilding c.args.terms.setup_limit d x c.unwrap_or-2.result) c.unwrap_or.ensures
            ∙ ap (λ (x : ℕ). sizes_by c.args.terms.rebuilding c.args.terms.setup_limit d (unwrap_or stat.block_replication 0) x) c.unwrap_or-2.ensures;
        stands = c.appended-writer.ensures.tail ∙ ap (λ (b : Option LocatedBlock). tail_opened b None) c.in_ok-block.block-is;
        idle = c.appended-writer.ensures.idle.0;
        fine = c.appended-writer.ensures.idle.1;
      };
      tells = c.told_by-told.ensures;
      kept = c.append.ensures.keeps.defaults ∙ c.in_ok-defaults.ensures.knows.has.kept;
    }

pub returns-clause-begins : goal.returns-clause-begins
returns-clause-begins g c =
    let first = goes_of c.in_ok-defaults.ensures.keeps in
    let is : c.in_ok-block.field-0 ≡ record { block = c.in_ok-block.block; stat = Some c.in-Some.stat } =
    whole c.in_ok-block.field-0 c.in_ok-block.block (Some c.in-Some.stat) c.in_ok-block.block-is c.in-Some.is in
    λ view has.
    begun_again (see view (g.C.Cluster.shown c.args.cluster.now)) (see view (g.C.Cluster.shown c.limited_defaults.new.cluster)) (see view (g.C.Cluster.shown c.append.new.cluster))
    (c.in_ok-defaults.ensures.picture view has) c.args.path c.args.namenode.now.client c.appended-writer.result c.in_ok-block.block (Some c.in-Some.stat)
    (λ p told. g.met.C.Cluster.sound c.limited_defaults.new.cluster p (picture_seen view (g.C.Cluster.shown c.limited_defaults.new.cluster) p told))
    (c.appended-writer.ensures.tail ∙ ap (λ (b : Option LocatedBlock). tail_opened b None) c.in_ok-block.block-is)
    (came_as (going_on c.as_str.ensures first.0.name) (ap (λ (x : Appended). Ok (answers.Append x)) is)
    (c.in_ok-block.ensures.came view (goes_view view first has)))

pub returns-clause-keeps : goal.returns-clause-keeps
returns-clause-keeps g c =
    keeps_trans c.in_ok-defaults.ensures.keeps (keeps_by c.append.ensures.keeps (links_from (once_leaves g.C.Cluster.shown g.C.Cluster.serves g.met.C.Cluster.serves_rows _ _ _ _ _ c.append.ensures.asked)))

pub returns-clause-stands : goal.returns-clause-stands
returns-clause-stands g c =
    let writer = c.appended-writer.result in
    let shown = g.C.Cluster.shown c.append.new.cluster in (
      c.appended-writer.ensures.stands shown,
      subst (λ (client : List ℕ). IsAnswered g.C.Cluster.may_answer client writer) c.in_ok-defaults.ensures.keeps.0.0.name
          (answered_appended writer c.args.path c.in_ok-block.field-0
          c.appended-writer.ensures.path.0
          (c.appended-writer.ensures.path.2 ∙ c.told_by-told.ensures.id ∙ sym (ap id_in c.in-Some.is)) c.appended-writer.ensures.tail
          (subst (λ (a : Ask). g.C.Cluster.may_answer a (answers.Append c.in_ok-block.field-0)) (going_on c.as_str.ensures refl) c.in_ok-block.ensures.answered)),
    )

pub refuse_opened-requires-clause-answered : goal.refuse_opened-requires-clause-answered
refuse_opened-requires-clause-answered g c =
    let writer = c.appended-writer.result in
    subst (λ (client : List ℕ). IsAnswered g.C.Cluster.may_answer client writer) (sym c.append.ensures.keeps.name)
    (answered_appended writer c.args.path c.in_ok-block.field-0
    c.appended-writer.ensures.path.0
    (c.appended-writer.ensures.path.2 ∙ c.told_by-told.ensures.id ∙ sym (ap id_in c.in-Some.is)) c.appended-writer.ensures.tail
    (subst (λ (a : Ask). g.C.Cluster.may_answer a (answers.Append c.in_ok-block.field-0)) (going_on c.as_str.ensures refl) c.in_ok-block.ensures.answered))

-- what isn't there is nothing
no_some : (stat : Option FileStatusMsg) → ((status : FileStatusMsg) → stat ≡ Some status → ⊥) → stat ≡ None
no_some None none = refl
no_some (Some status) none = absurd (none status refl)

pub returns-in_err-defaults-clause-err : goal.returns-in_err-defaults-clause-err
returns-in_err-defaults-clause-err g c =
    let p = err_from_is_err_and c.from_residual.result c.from_residual.ensures.1 in
    rw (p.1, p.2) (inl c.in_err-defaults.ensures.err)

pub returns-in_err-block-clause-err : goal.returns-in_err-block-clause-err
returns-in_err-block-clause-err g c =
    let p = err_from_is_err_and c.from_residual-in_err-block.result c.from_residual-in_err-block.ensures.1 in
    let first = goes_of c.in_ok-defaults.ensures.keeps in
    rw (p.1, p.2) (inr (record {
      defaults = c.in_ok-defaults.defaults;
      between = c.limited_defaults.new.namenode;
      mid = c.limited_defaults.new.cluster;
      knows = c.in_ok-defaults.ensures.knows;
      why = inl (subst (λ (a : Ask). AskedOnce g.C.Cluster.serves true a (through c.limited_defaults.new.namenode c.limited_defaults.new.cluster)
          (Err c.in_err-block.field-0.0) (through c.append.new.self c.append.new.cluster)) (going_on c.as_str.ensures first.0.name)
          c.in_err-block.ensures.asked);
      kept = c.append.ensures.keeps.defaults ∙ c.in_ok-defaults.ensures.knows.has.kept;
    }))

pub returns-in_default-clause-err : goal.returns-in_default-clause-err
returns-in_default-clause-err g c =
    let first = goes_of c.in_ok-defaults.ensures.keeps in
    inr (record {
      defaults = c.in_ok-defaults.defaults;
      between = c.limited_defaults.new.namenode;
      mid = c.limited_defaults.new.cluster;
      knows = c.in_ok-defaults.ensures.knows;
      why = inr (inl (record {
        block = c.in_ok-block.field-0.block;
        asked = subst (λ (a : Ask). AskedOnce g.C.Cluster.serves true a (through c.limited_defaults.new.namenode c.limited_defaults.new.cluster)
            (Ok (answers.Append (record { block = c.in_ok-block.field-0.block; stat = None }))) (through c.append.new.self c.append.new.cluster)) (going_on c.as_str.ensures first.0.name)
            (subst (λ (x : Appended). AskedOnce g.C.Cluster.serves true (asks.Append c.as_str.result.now c.limited_defaults.new.namenode.client 4)
            (through c.limited_defaults.new.namenode c.limited_defaults.new.cluster) (Ok (answers.Append x)) (through c.append.new.self c.append.new.cluster))
            (whole c.in_ok-block.field-0 c.in_ok-block.field-0.block None refl (no_some c.in_ok-block.field-0.stat c.in_default.not-Some))
            c.in_ok-block.ensures.asked);
        answered = subst (λ (a : Ask). g.C.Cluster.may_answer a (answers.Append (record { block = c.in_ok-block.field-0.block; stat = None })))
            (going_on c.as_str.ensures first.0.name)
            (subst (λ (x : Appended). g.C.Cluster.may_answer (asks.Append c.as_str.result.now c.limited_defaults.new.namenode.client 4) (answers.Append x))
            (whole c.in_ok-block.field-0 c.in_ok-block.field-0.block None refl (no_some c.in_ok-block.field-0.stat c.in_default.not-Some))
            c.in_ok-block.ensures.answered);
        is = inl (ap errors.FileNotFound c.in_ok-from_str.ensures);
      }));
      kept = c.append.ensures.keeps.defaults ∙ c.in_ok-defaults.ensures.knows.has.kept;
    })

pub returns-in_err-from_str-clause-err : goal.returns-in_err-from_str-clause-err
returns-in_err-from_str-clause-err g c =
    let p = err_from_is_err_and c.from_residual-in_err-from_str.result c.from_residual-in_err-from_str.ensures.1 in
    let first = goes_of c.in_ok-defaults.ensures.keeps in
    rw (p.1, p.2) (inr (record {
      defaults = c.in_ok-defaults.defaults;
      between = c.limited_defaults.new.namenode;
      mid = c.limited_defaults.new.cluster;
      knows = c.in_ok-defaults.ensures.knows;
      why = inr (inl (record {
        block = c.in_ok-block.field-0.block;
        asked = subst (λ (a : Ask). AskedOnce g.C.Cluster.serves true a (through c.limited_defaults.new.namenode c.limited_defaults.new.cluster)
            (Ok (answers.Append (record { block = c.in_ok-block.field-0.block; stat = None }))) (through c.append.new.self c.append.new.cluster)) (going_on c.as_str.ensures first.0.name)
            (subst (λ (x : Appended). AskedOnce g.C.Cluster.serves true (asks.Append c.as_str.result.now c.limited_defaults.new.namenode.client 4)
            (through c.limited_defaults.new.namenode c.limited_defaults.new.cluster) (Ok (answers.Append x)) (through c.append.new.self c.append.new.cluster))
            (whole c.in_ok-block.field-0 c.in_ok-block.field-0.block None refl (no_some c.in_ok-block.field-0.stat c.in_default.not-Some))
            c.in_ok-block.ensures.asked);
        answered = subst (λ (a : Ask). g.C.Cluster.may_answer a (answers.Append (record { block = c.in_ok-block.field-0.block; stat = None })))
            (going_on c.as_str.ensures first.0.name)
            (subst (λ (x : Appended). g.C.Cluster.may_answer (asks.Append c.as_str.result.now c.limited_defaults.new.namenode.client 4) (answers.Append x))
            (whole c.in_ok-block.field-0 c.in_ok-block.field-0.block None refl (no_some c.in_ok-block.field-0.stat c.in_default.not-Some))
            c.in_ok-block.ensures.answered);
        is = inr refl;
      }));
      kept = c.append.ensures.keeps.defaults ∙ c.in_ok-defaults.ensures.knows.has.kept;
    }))

pub returns-then-told-clause-err : goal.returns-then-told-clause-err
returns-then-told-clause-err g c =
    let first = goes_of c.in_ok-defaults.ensures.keeps in
    inr (record {
      defaults = c.in_ok-defaults.defaults;
      between = c.limited_defaults.new.namenode;
      mid = c.limited_defaults.new.cluster;
      knows = c.in_ok-defaults.ensures.knows;
      why = inr (inr (record {
        appended = c.in_ok-block.field-0;
        between = c.append.new.self;
        mid = c.append.new.cluster;
        asked = subst (λ (a : Ask). AskedOnce g.C.Cluster.serves true a (through c.limited_defaults.new.namenode c.limited_defaults.new.cluster)
            (Ok (answers.Append c.in_ok-block.field-0)) (through c.append.new.self c.append.new.cluster)) (going_on c.as_str.ensures first.0.name)
            c.in_ok-block.ensures.asked;
        answered = subst (λ (a : Ask). g.C.Cluster.may_answer a (answers.Append c.in_ok-block.field-0)) (going_on c.as_str.ensures first.0.name)
            c.in_ok-block.ensures.answered;
        encrypted = ap tells_encryption c.in-Some.is ∙ sym c.told_by-told.ensures.encrypted ∙ c.if-told.true;
        writer = c.appended-writer.result;
        at = c.appended-writer.ensures.path.0;
        id = c.appended-writer.ensures.path.2 ∙ c.told_by-told.ensures.id ∙ sym (ap id_in c.in-Some.is);
        stands = c.appended-writer.ensures.tail;
        idle = c.appended-writer.ensures.idle.0;
        service = c.append.ensures.keeps.service;
        result = c.refuse_opened.ensures.closes.0;
        closes = c.refuse_opened.ensures.closes.1;
        nodes = c.refuse_opened.ensures.nodes;
        is = c.refuse_opened.ensures.closes.2;
      }));
      kept = c.refuse_opened.ensures.keeps.0.defaults ∙ c.append.ensures.keeps.defaults ∙ c.in_ok-defaults.ensures.knows.has.kept;
    })

pub refuse_opened-requires-clause-idle : goal.refuse_opened-requires-clause-idle
refuse_opened-requires-clause-idle g c = c.appended-writer.ensures.idle.0
