-- A command never makes a file that another client is writing.
use Rattle.std.proofs.Common.{◌≡◌, ℕ, ◌+◌, nat_lt, length, Bool, true, false, cond, not, ◌||◌, List, [], ◌∷◌, ◌++◌, map, Option, Some, None, unwrap_or, refl, sym, ◌∙◌, ap, subst}
use Rattle.std.specs.Prelude.{All}
use Rattle.std.specs.List.{list_any}
use Rattle.std.specs.Str.{bytes_eq}
use Rattle.std.proofs.lemmas.Bool.{false≢true}
use Rattle.std.proofs.lemmas.List.Elements.{All-weaker}
use Rattle.std.proofs.lemmas.Slice.Eq.{bytes_eq-Decides}
use Rattle.hdfs_model.specs.declared.commands.Command.{Command}
use Rattle.hdfs_model.specs.declared.commands.Command.TheVariants as commands
use Rattle.hdfs_model.specs.declared.commands.Reply.{Reply}
use Rattle.hdfs_model.specs.declared.commands.Reply.TheVariants as replies
use Rattle.hdfs_cluster.specs.Files.{State, Content, Node, Dir, File, Writing, NoFile, kinds_of, no_file}
use Rattle.hdfs_cluster.specs.Names.{is_within}
use Rattle.hdfs_names.specs.Paths.{root, is_path, ancestors}
use Rattle.hdfs_model.specs.Sessions.{Avoids, IsStrange}
use Rattle.hdfs_cluster.specs.Reading.{range_of}
use Rattle.hdfs_model.specs.Steps.{World, Outcome, Refused, Done, Refusal, BadPath, WrongState, BadRange, content_of, read_content, read_file, created, create_file, create_refusal, append_file, append_refusal, open_node, write_node, close_node, with_writing, with_node, without, is_opened, is_opened_within, step, step_at, target_of, with_directory, make_directory, mkdirs_refusal, delete_files, delete_refusal, files_without, has_below, info_node, look_refusal, list_node, list_paths, entry_at, TooMany}
use Rattle.hdfs_model.specs.Walks.{walk}

refused_or : (b : Bool) (o : Outcome) (why : Refusal) (reply : Reply) (next : State) → cond b (Refused why) o ≡ Done reply next → (b ≡ false) × (o ≡ Done reply next)
refused_or true o why reply next is = absurd (cc)
refused_or false o why reply next is = (refl, is)

or_refused : (b : Bool) (o : Outcome) (why : Refusal) (reply : Reply) (next : State) → cond b o (Refused why) ≡ Done reply next → (b ≡ true) × (o ≡ Done reply next)
or_refused true o why reply next is = (refl, is)
or_refused false o why reply next is = absurd (cc)

none_of_both : (a b : Bool) → (a || b) ≡ false → (a ≡ false) × (b ≡ false)
none_of_both true b is = absurd (false≢true (sym is))
none_of_both false b is = (refl, is)

-- a node that is being written below a new path was there
node_before : (made : Bool) (o : Option Node) (content : Content) → cond made (Some (unwrap_or o Dir)) o ≡ Some (Writing content) → o ≡ Some (Writing content)
node_before false o content is = is
node_before true None content is = absurd (cc)
node_before true (Some node) content is = is

-- a path at which the session begins to write
strange_writing : (state : State) (p q : List ℕ) (made : Content) → IsStrange (with_writing state p made) q → IsStrange state q
strange_writing state p q made h =
    let apart = none_of_both (bytes_eq q p) (is_opened state q) h.2 in
    by_test (bytes_eq p q) refl apart.0 apart.1
  where
    by_test : (t : Bool) → bytes_eq p q ≡ t → bytes_eq q p ≡ false → is_opened state q ≡ false → IsStrange state q
    by_test true same away closed = absurd (false≢true (sym away ∙ (bytes_eq-Decides q p).1 (sym ((bytes_eq-Decides p q).0 same))))
    by_test false other away closed = (
      h.0,
      node_before (list_any (bytes_eq q) (ancestors p)) (state.files q) h.0
          (sym (ap (λ (t : Bool). cond t (Some (Writing made)) (cond (list_any (bytes_eq q) (ancestors p)) (Some (unwrap_or (state.files q) Dir)) (state.files q))) other) ∙ h.1),
      closed,
    )

-- a path at which the session goes on writing
strange_written : (state : State) (p q : List ℕ) (made : Content) → is_opened state p ≡ true → IsStrange (with_node state p (Writing made)) q → IsStrange state q
strange_written state p q made own h = by_test (bytes_eq p q) refl
  where
    by_test : (t : Bool) → bytes_eq p q ≡ t → IsStrange state q
    by_test true same = absurd (false≢true (sym h.2 ∙ ap (is_opened state) (sym ((bytes_eq-Decides p q).0 same)) ∙ own))
    by_test false other = (h.0, sym (ap (λ (t : Bool). cond t (Some (Writing made)) (state.files q)) other) ∙ h.1, h.2)

-- what isn't open once another path was closed wasn't open
not_open : (p q : List ℕ) (paths : List (List ℕ)) → bytes_eq p q ≡ false → list_any (bytes_eq q) (without p paths) ≡ false → list_any (bytes_eq q) paths ≡ false
not_open p q [] other h = refl
not_open p q (x ∷ rest) other h = by_test (not_open p q rest other) (bytes_eq p x) refl h
  where
    by_test : (list_any (bytes_eq q) (without p rest) ≡ false → list_any (bytes_eq q) rest ≡ false) → (t : Bool) → bytes_eq p x ≡ t
        → list_any (bytes_eq q) (cond (not t) (x ∷ without p rest) (without p rest)) ≡ false → (bytes_eq q x || list_any (bytes_eq q) rest) ≡ false
    by_test behind false apart none =
        let both = none_of_both (bytes_eq q x) (list_any (bytes_eq q) (without p rest)) none in
        ap (λ (t : Bool). t || list_any (bytes_eq q) rest) both.0 ∙ behind both.1
    by_test behind true same none = by_other (bytes_eq q x) refl
      where
        by_other : (u : Bool) → bytes_eq q x ≡ u → (bytes_eq q x || list_any (bytes_eq q) rest) ≡ false
        by_other false is = ap (λ (t : Bool). t || list_any (bytes_eq q) rest) is ∙ behind none
        by_other true is = absurd (false≢true (sym other ∙ (bytes_eq-Decides p q).1 ((bytes_eq-Decides p x).0 same ∙ sym ((bytes_eq-Decides q x).0 is))))

-- a path at which the session closes its file
strange_closed : (state : State) (p q : List ℕ) (made : Content) → IsStrange (record (with_node state p (File made)) { opened = without p state.opened }) q → IsStrange state q
strange_closed state p q made h = by_test (bytes_eq p q) refl
  where
    by_test : (t : Bool) → bytes_eq p q ≡ t → IsStrange state q
    by_test true same =
        let is : Some (File made) ≡ Some (Writing h.0) = sym (ap (λ (t : Bool). cond t (Some (File made)) (state.files q)) same) ∙ h.1 in
        absurd (cc (is))
    by_test false other = (h.0, sym (ap (λ (t : Bool). cond t (Some (File made)) (state.files q)) other) ∙ h.1, not_open p q state.opened other h.2)

cond_done : (b : Bool) (state next : State) (reply reply' : Reply) (why : Refusal) → cond b (Refused why) (Done reply state) ≡ Done reply' next → next ≡ state
cond_done true state next reply reply' why is = absurd (cc)
cond_done false state next reply reply' why is = cc

content_done : (state next : State) (content : Option Content) (offset len : ℕ) (reply : Reply) → read_content state content offset len ≡ Done reply next → next ≡ state
content_done state next None offset len reply is = absurd (cc)
content_done state next (Some content) offset len reply is =
    cond_done (nat_lt (length content.bytes) (offset + len)) state next (replies.Bytes (range_of content.bytes offset len)) reply BadRange is

file_done : (state next : State) (path : List ℕ) (why : Option NoFile) (offset len : ℕ) (reply : Reply) → read_file state path why offset len ≡ Done reply next → next ≡ state
file_done state next path None offset len reply is = content_done state next (content_of (state.files path)) offset len reply is
file_done state next path (Some why) offset len reply is = absurd (cc)

content_closed : (state next : State) (path : List ℕ) (node : Option Node) (offset len : ℕ) (reply : Reply) → state.files path ≡ node → is_opened state path ≡ false → (IsStrange state path → ⊥)
    → read_content state (content_of node) offset len ≡ Done reply next → (content : Content) × (state.files path ≡ Some (File content))
content_closed state next path None offset len reply is closed avoids done = absurd (cc)
content_closed state next path (Some Dir) offset len reply is closed avoids done = absurd (cc)
content_closed state next path (Some (File content)) offset len reply is closed avoids done = (content, is)
content_closed state next path (Some (Writing content)) offset len reply is closed avoids done = absurd (avoids (content, is, closed))

file_closed : (state next : State) (path : List ℕ) (why : Option NoFile) (offset len : ℕ) (reply : Reply) → is_opened state path ≡ false → (IsStrange state path → ⊥)
    → read_file state path why offset len ≡ Done reply next → (content : Content) × (state.files path ≡ Some (File content))
file_closed state next path None offset len reply closed avoids done = content_closed state next path (state.files path) offset len reply refl closed avoids done
file_closed state next path (Some why) offset len reply closed avoids done = absurd (cc)

-- a file that is read is closed
pub read_closed : (w : World) (state next : State) (text : List ℕ) (offset len : ℕ) (reply : Reply) → step w state (commands.Read text offset len) ≡ Done reply next → Avoids w state (commands.Read text offset len)
    → (content : Content) × (state.files (target_of w (commands.Read text offset len)) ≡ Some (File content))
read_closed w state next text offset len reply done avoids =
    let path = target_of w (commands.Read text offset len) in
    let at = (or_refused (is_path path) (step_at w state path (commands.Read text offset len)) BadPath reply next done).1 in
    let free = refused_or (is_opened state path) (read_file state path (no_file (kinds_of state.files) path) offset len) WrongState reply next at in
    file_closed state next path (no_file (kinds_of state.files) path) offset len reply free.0 avoids free.1

create_done : (state next : State) (p : List ℕ) (made : Content) (why : Option Refusal) (reply : Reply) → create_file state p made why ≡ Done reply next → next ≡ with_writing state p made
create_done state next p made None reply is = cc
create_done state next p made (Some why) reply is = absurd (cc)

open_done : (state next : State) (p : List ℕ) (node : Option Node) (reply : Reply) → open_node state p node ≡ Done reply next → (made : Content) × (next ≡ with_writing state p made)
open_done state next p None reply is = absurd (cc)
open_done state next p (Some Dir) reply is = absurd (cc)
open_done state next p (Some (Writing content)) reply is = absurd (cc)
open_done state next p (Some (File content)) reply is = (content, cc)

append_done : (state next : State) (p : List ℕ) (why : Option Refusal) (reply : Reply) → append_file state p why ≡ Done reply next → (made : Content) × (next ≡ with_writing state p made)
append_done state next p None reply is = open_done state next p (state.files p) reply is
append_done state next p (Some why) reply is = absurd (cc)

write_done : (state next : State) (p : List ℕ) (node : Option Node) (more : List ℕ) (reply : Reply) → write_node state p node more ≡ Done reply next → (made : Content) × (next ≡ with_node state p (Writing made))
write_done state next p None more reply is = absurd (cc)
write_done state next p (Some Dir) more reply is = absurd (cc)
write_done state next p (Some (File content)) more reply is = absurd (cc)
write_done state next p (Some (Writing content)) more reply is = (record content { bytes = content.bytes ++ more }, cc)

close_done : (state next : State) (p : List ℕ) (node : Option Node) (reply : Reply) → close_node state p node ≡ Done reply next
    → (made : Content) × (next ≡ record (with_node state p (File made)) { opened = without p state.opened })
close_done state next p None reply is = absurd (cc)
close_done state next p (Some Dir) reply is = absurd (cc)
close_done state next p (Some (File content)) reply is = absurd (cc)
close_done state next p (Some (Writing content)) reply is = (content, cc)

-- of a new directory, and of a deletion
dir_done : (state next : State) (p : List ℕ) (why : Option Refusal) (reply : Reply) → make_directory state p why ≡ Done reply next → next ≡ with_directory state p
dir_done state next p None reply is = cc
dir_done state next p (Some why) reply is = absurd (cc)

delete_done : (state next : State) (p : List ℕ) (why : Option Refusal) (reply : Reply) → delete_files state p why ≡ Done reply next → next ≡ record state { files = files_without state.files p }
delete_done state next p None reply is = cc
delete_done state next p (Some why) reply is = absurd (cc)

-- and of what tells alone
info_done : (state next : State) (why : Option Refusal) (node : Option Node) (reply : Reply) → info_node state why node ≡ Done reply next → next ≡ state
info_done state next (Some why) node reply is = absurd (cc)
info_done state next None None reply is = absurd (cc)
info_done state next None (Some node) reply is = cc

list_done : (state next : State) (paths : List (List ℕ)) (limit : ℕ) (reply : Reply) → list_paths state paths limit ≡ Done reply next → next ≡ state
list_done state next paths limit reply is = cond_done (nat_lt limit (length paths)) state next (replies.Listed (map (entry_at state) paths)) reply TooMany is

listed_done : (state next : State) (p : List ℕ) (why : Option Refusal) (node : Option Node) (recursive : Bool) (limit : ℕ) (reply : Reply) → list_node state p why node recursive limit ≡ Done reply next → next ≡ state
listed_done state next p (Some why) node recursive limit reply is = absurd (cc)
listed_done state next p None None recursive limit reply is = absurd (cc)
listed_done state next p None (Some Dir) recursive limit reply is = list_done state next (walk state.files state.paths p recursive) limit reply is
listed_done state next p None (Some (File content)) recursive limit reply is = list_done state next (p ∷ []) limit reply is
listed_done state next p None (Some (Writing content)) recursive limit reply is = list_done state next (p ∷ []) limit reply is

-- a file that is being written beside a new directory was so before
written_beside : (here above : Bool) (o : Option Node) (content : Content) → cond here (Some Dir) (cond above (Some (unwrap_or o Dir)) o) ≡ Some (Writing content) → o ≡ Some (Writing content)
written_beside true above o content is = absurd (cc is)
written_beside false above o content is = node_before above o content is

written_without : (within : Bool) (o : Option Node) (content : Content) → cond within None o ≡ Some (Writing content) → o ≡ Some (Writing content)
written_without true o content is = absurd (cc is)
written_without false o content is = is

strange_beside : (state : State) (p q : List ℕ) → IsStrange (with_directory state p) q → IsStrange state q
strange_beside state p q h = (h.0, written_beside (bytes_eq p q) (list_any (bytes_eq q) (ancestors p)) (state.files q) h.0 h.1, h.2)

strange_without : (state : State) (p q : List ℕ) → IsStrange (record state { files = files_without state.files p }) q → IsStrange state q
strange_without state p q h = (h.0, written_without (is_within p q) (state.files q) h.0 h.1, h.2)

strange_at : (w : World) (state next : State) (p q : List ℕ) (command : Command) (reply : Reply) → step_at w state p command ≡ Done reply next → IsStrange next q → IsStrange state q
strange_at w state next p q (commands.Create text options) reply is h =
    let made = create_done state next p (created w options) (create_refusal (kinds_of state.files) p options.overwrite options.create_parent) reply (refused_or (is_opened state p) _ WrongState reply next is).1 in
    strange_writing state p q (created w options) (subst (λ (s : State). IsStrange s q) made h)
strange_at w state next p q (commands.Append text) reply is h =
    let made = append_done state next p (append_refusal (kinds_of state.files) p) reply (refused_or (is_opened state p) _ WrongState reply next is).1 in
    strange_writing state p q made.0 (subst (λ (s : State). IsStrange s q) made.1 h)
strange_at w state next p q (commands.Write text bytes) reply is h =
    let done = or_refused (is_opened state p) (write_node state p (state.files p) bytes) WrongState reply next is in
    let made = write_done state next p (state.files p) bytes reply done.1 in
    strange_written state p q made.0 done.0 (subst (λ (s : State). IsStrange s q) made.1 h)
strange_at w state next p q (commands.Close text) reply is h =
    let made = close_done state next p (state.files p) reply (or_refused (is_opened state p) (close_node state p (state.files p)) WrongState reply next is).1 in
    strange_closed state p q made.0 (subst (λ (s : State). IsStrange s q) made.1 h)
strange_at w state next p q (commands.Read text offset len) reply is h =
    let same = file_done state next p (no_file (kinds_of state.files) p) offset len reply (refused_or (is_opened state p) _ WrongState reply next is).1 in
    subst (λ (s : State). IsStrange s q) same h
strange_at w state next p q (commands.Mkdirs text permission parents) reply is h =
    let made = dir_done state next p (mkdirs_refusal (kinds_of state.files) p parents) reply (refused_or (is_opened state p) _ WrongState reply next is).1 in
    strange_beside state p q (subst (λ (s : State). IsStrange s q) made h)
strange_at w state next p q (commands.Delete text recursive) reply is h =
    let gone = delete_done state next p (delete_refusal (kinds_of state.files) p (has_below state p) recursive) reply (refused_or (bytes_eq root p || is_opened_within state p) _ WrongState reply next is).1 in
    strange_without state p q (subst (λ (s : State). IsStrange s q) gone h)
strange_at w state next p q (commands.Info text) reply is h =
    let same = info_done state next (look_refusal (kinds_of state.files) p) (state.files p) reply (refused_or (is_opened state p) _ WrongState reply next is).1 in
    subst (λ (s : State). IsStrange s q) same h
strange_at w state next p q (commands.List text recursive limit) reply is h =
    let same = listed_done state next p (look_refusal (kinds_of state.files) p) (state.files p) recursive limit reply is in
    subst (λ (s : State). IsStrange s q) same h

avoids_one : (w : World) (state next : State) (command : Command) (reply : Reply) → step w state command ≡ Done reply next → (other : Command) → Avoids w state other → Avoids w next other
avoids_one w state next command reply is (commands.Read text offset len) avoids =
    λ strange. avoids (strange_at w state next (target_of w command) (target_of w (commands.Read text offset len)) command reply (or_refused (is_path (target_of w command)) _ BadPath reply next is).1 strange)
avoids_one w state next command reply is (commands.Info text) avoids =
    λ strange. avoids (strange_at w state next (target_of w command) (target_of w (commands.Info text)) command reply (or_refused (is_path (target_of w command)) _ BadPath reply next is).1 strange)
avoids_one w state next command reply is other avoids = tt

-- commands that read no such file read none behind a command that was done
pub avoids_next : (w : World) (state next : State) (command : Command) (reply : Reply) → step w state command ≡ Done reply next → (others : List Command) → All (Avoids w state) others → All (Avoids w next) others
avoids_next w state next command reply is others avoids = All-weaker (Avoids w state) (Avoids w next) (avoids_one w state next command reply is) others avoids
