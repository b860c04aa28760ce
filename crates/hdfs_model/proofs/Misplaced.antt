-- A command that is misplaced is refused by the step for that, and one that isn't is not.
use Rattle.std.proofs.Common.{◌≡◌, ◌⊎◌, inl, inr, ℕ, Bool, true, false, cond, ◌||◌, List, [], ◌∷◌, refl, sym, ◌∙◌, ap, subst}
use Rattle.std.proofs.lemmas.Bool.{false≢true}
use Rattle.std.proofs.lemmas.Slice.Eq.{bytes_eq-Decides}
use Rattle.std.specs.List.{list_any}
use Rattle.std.specs.Str.{bytes_eq}
use Rattle.hdfs_cluster.specs.Files.{State, kinds_of, no_file}
use Rattle.hdfs_cluster.specs.Names.{is_within}
use Rattle.hdfs_names.specs.Paths.{root, is_path}
use Rattle.hdfs_model.specs.declared.commands.Command.{Command}
use Rattle.hdfs_model.specs.declared.commands.Command.TheVariants as commands
use Rattle.hdfs_model.specs.Owing.{IsMisplaced, IsOpenWithin}
use Rattle.hdfs_model.specs.Sessions.{SameOpened}
use Rattle.hdfs_model.specs.Steps.{World, Outcome, Refused, BadPath, WrongState, append_file, append_refusal, close_node, create_file, create_refusal, created, delete_files, delete_refusal, has_below, info_node, is_opened, is_opened_within, look_refusal, make_directory, mkdirs_refusal, read_file, step, step_at, target_of, write_node}
use Rattle.hdfs_model.proofs.Ordered.{In}
use Rattle.hdfs_model.proofs.Walking.{any_found, any_passes, any_from_in, in_from_any}

or_true : (a b : Bool) → (a ≡ true) ⊎ (b ≡ true) → (a || b) ≡ true
or_true true b is = refl
or_true false b (inl is) = absurd (false≢true is)
or_true false b (inr is) = is

module _ (opened : List ℕ → Bool) (state : State) (same : SameOpened opened state) (path : List ℕ) where
  -- a path that is open lies within another
  pub opened_within : IsOpenWithin opened path → is_opened_within state path ≡ true
  opened_within within = any_passes (is_within path) state.opened within.0 (in_from_any within.0 state.opened (same within.0 ∙ within.1)) within.2

  -- and the other way round
  pub within_opened : is_opened_within state path ≡ true → IsOpenWithin opened path
  within_opened is = (let found = any_found (is_within path) state.opened is in (found.0, sym (same found.0) ∙ any_from_in found.0 state.opened found.1, found.2))

  refused_deletion : (recursive : Bool) → (path ≡ root) ⊎ IsOpenWithin opened path → (bytes_eq root path || is_opened_within state path) ≡ true
  refused_deletion recursive (inl at_root) = or_true (bytes_eq root path) (is_opened_within state path) (inl ((bytes_eq-Decides root path).1 (sym at_root)))
  refused_deletion recursive (inr within) = or_true (bytes_eq root path) (is_opened_within state path) (inr (opened_within within))

  open_here : opened path ≡ true → is_opened state path ≡ true
  open_here is = same path ∙ is

  closed_here : opened path ≡ false → is_opened state path ≡ false
  closed_here is = same path ∙ is

  pub misplaced_at : (w : World) (command : Command) → IsMisplaced opened path command → step_at w state path command ≡ Refused WrongState
  misplaced_at w (commands.Create text options) is =
      ap (λ (b : Bool). cond b (Refused WrongState) (create_file state path (created w options) (create_refusal (kinds_of state.files) path options.overwrite options.create_parent))) (open_here is)
  misplaced_at w (commands.Append text) is = ap (λ (b : Bool). cond b (Refused WrongState) (append_file state path (append_refusal (kinds_of state.files) path))) (open_here is)
  misplaced_at w (commands.Write text bytes) is = ap (λ (b : Bool). cond b (write_node state path (state.files path) bytes) (Refused WrongState)) (closed_here is)
  misplaced_at w (commands.Close text) is = ap (λ (b : Bool). cond b (close_node state path (state.files path)) (Refused WrongState)) (closed_here is)
  misplaced_at w (commands.Read text offset len) is = ap (λ (b : Bool). cond b (Refused WrongState) (read_file state path (no_file (kinds_of state.files) path) offset len)) (open_here is)
  misplaced_at w (commands.Mkdirs text permission create_parent) is =
      ap (λ (b : Bool). cond b (Refused WrongState) (make_directory state path (mkdirs_refusal (kinds_of state.files) path create_parent))) (open_here is)
  misplaced_at w (commands.Delete text recursive) is =
      ap (λ (b : Bool). cond b (Refused WrongState) (delete_files state path (delete_refusal (kinds_of state.files) path (has_below state path) recursive))) (refused_deletion recursive is)
  misplaced_at w (commands.Info text) is =
      ap (λ (b : Bool). cond b (Refused WrongState) (info_node state (look_refusal (kinds_of state.files) path) (state.files path))) (open_here is)
  misplaced_at w (commands.List text recursive limit) is = absurd is

-- the same of the step
pub misplaced_step : (w : World) (opened : List ℕ → Bool) (state : State) (command : Command) → SameOpened opened state → is_path (target_of w command) ≡ true
    → IsMisplaced opened (target_of w command) command → step w state command ≡ Refused WrongState
misplaced_step w opened state command same is misplaced =
    ap (λ (b : Bool). cond b (step_at w state (target_of w command) command) (Refused BadPath)) is ∙ misplaced_at opened state same (target_of w command) w command misplaced
