-- What is within the path is let go of, where it isn't the root, nothing of it is open, and nothing refuses it.
use Rattle.std.proofs.Common.{◌≡◌, ℕ, List, [], ◌∷◌, ◌++◌, Bool, Option, Some, None, cond, length, take, refl, sym, ◌∙◌, ap}
use Rattle.std.specs.BTreeMap.{get_by_text}
use Rattle.std.specs.List.{filter, list_any}
use Rattle.std.specs.Str.{bytes_eq}
use Rattle.hdfs_cluster.specs.Names.{is_below, is_within}
use Rattle.hdfs_cluster.specs.Files.{kinds_of}
use Rattle.hdfs_cluster.specs.Refusals.{Refusal, delete_refusal}
use Rattle.hdfs_model.specs.Steps.{delete_files, files_without}
use Rattle.hdfs_plain.specs.declared.files.PlainFiles.{PlainFiles}
use Rattle.hdfs_plain.specs.declared.files.PlainNode.{PlainNode}
use Rattle.hdfs_plain.specs.Plain.{files_of, look_up}
use Rattle.hdfs_plain.proofs.Named.{comes_to, holds_without, keeps_open, keeps_root, without}
use Rattle.hdfs_plain.proofs.files.PlainFiles.delete.Goals.{then-eq-via-then-eq, then-eq-via-else-eq+then-has_open_within}
use Rattle.hdfs_plain.proofs.files.PlainFiles.delete.Goals as goal

pub returns-then-eq : goal.returns-then-eq
returns-then-eq c = λ state holds.
    let old : PlainFiles = c.args.self.now in
    let path = c.args.path.now in (
      elim c.then-eq.branch [
        | then-eq-via-then-eq w ↦ keeps_root old state path holds c.args.recursive (sym w.if-eq.ensures)
        | then-eq-via-else-eq+then-has_open_within w ↦ keeps_open old state path holds c.args.recursive (sym w.if-has_open_within.ensures)
      ],
      holds,
    )

pub returns-in-Some : goal.returns-in-Some
returns-in-Some c = λ state holds.
    let old : PlainFiles = c.args.self.now in
    let path = c.args.path.now in
    let recursive = c.args.recursive in
    let paths = c.in_ok-paths.paths.items in
    let full : c.some_begin_with-full.result ≡ list_any (is_below path) paths =
    c.some_begin_with-full.ensures
    ∙ ap (λ (f : List ℕ). list_any (λ p. bytes_eq f (take (length f) p)) c.as_slice.result.now) (c.as_str-2.ensures.value ∙ c.in_ok-front.ensures)
    ∙ ap (list_any (is_below path)) c.as_slice.ensures.value in (
      comes_to old state path holds paths c.in_ok-paths.ensures recursive (sym c.if-eq.ensures) (sym c.if-has_open_within.ensures)
          ∙ ap (λ (b : Bool). delete_files state path (delete_refusal (kinds_of (files_of old)) path b recursive)) (sym full)
          ∙ ap (delete_files state path) (sym c.in-Some.ensures),
      holds,
    )

pub returns : goal.returns
returns c = λ state holds.
    let old : PlainFiles = c.args.self.now in
    let new : PlainFiles = record old { nodes = c.forget.new.map } in
    let path = c.args.path.now in
    let recursive = c.args.recursive in
    let paths = c.in_ok-paths.paths.items in
    let full : c.some_begin_with-full.result ≡ list_any (is_below path) paths =
    c.some_begin_with-full.ensures
    ∙ ap (λ (f : List ℕ). list_any (λ p. bytes_eq f (take (length f) p)) c.as_slice.result.now) (c.as_str-2.ensures.value ∙ c.in_ok-front.ensures)
    ∙ ap (list_any (is_below path)) c.as_slice.ensures.value in
    let gone : c.as_slice-3.result.now ≡ filter (is_within path) paths =
    c.as_slice-3.ensures.value ∙ c.in_ok-gone.ensures ∙ ap (filter (is_within path)) c.as_slice-2.ensures.value in (
      record state { files = files_without state.files path },
      comes_to old state path holds paths c.in_ok-paths.ensures recursive (sym c.if-eq.ensures) (sym c.if-has_open_within.ensures)
          ∙ ap (λ (b : Bool). delete_files state path (delete_refusal (kinds_of (files_of old)) path b recursive)) (sym full)
          ∙ ap (delete_files state path) (sym c.in_default.ensures),
      holds_without old new state path holds
          (without old state path holds paths c.in_ok-paths.ensures (look_up new)
          (λ q. c.forget.ensures q ∙ ap (λ (l : List (List ℕ)). cond (list_any (bytes_eq q) l) None (look_up old q)) gone))
          (λ q. refl),
    )
