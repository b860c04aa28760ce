-- What directories give one behind another, and where components lead.
use Rattle.std.proofs.Common.{◌≡◌, ◌⊎◌, ℕ, zero, suc, arith, chars, ◌<◌, ◌≤◌, ◌+◌, Bool, true, false, List, [], ◌∷◌, ◌++◌, length, drop, get_or, map, refl, sym, ◌∙◌, ap, subst, inl, inr, add-one, append_assoc, drop-cons, Some, None, Result, Ok, Err, IfErr, IfOk, IsErrAnd}
use Rattle.std.proofs.lemmas.List.{append-nil}
use Rattle.hdfs_cluster.specs.declared.errors.HdfsError.TheVariants as errors
use Rattle.hdfs_cluster.specs.Requests.{Request}
use Rattle.hdfs_globs.specs.Escapes.{components}
use Rattle.hdfs_globs.specs.Globs.{Sign, signs}
use Rattle.hdfs_names.specs.declared.fault.NamesFault.{NamesFault}
use Rattle.hdfs_names.specs.declared.fault.NamesFault.TheVariants as faults
use Rattle.hdfs_client.specs.Refusing.{refusal_of}
use Rattle.hdfs_names.specs.declared.mounts.MountTable.{MountTable}
use Rattle.hdfs_client.specs.Globbing.{Arrives, EachOf, IsOneOf, IsPartsFault, IsReached, IsRead, IsStopped, IsTextFault, IsWanted, Joins, JoinsSome, LeadsTo, LetsBy, LetsReach, LetsStep, LetsText, Picks, Reaches, ReachesBy, ReachesText, StopsAt, StopsAtOne, is_wild, named, nothing, passed, picked, taken}
use Rattle.hdfs_client.specs.Listing.{LetsListAt}
use Rattle.hdfs_client.specs.Statuses.{or_root}
use Rattle.hdfs_client.specs.declared.errors.ClientError.{ClientError}
use Rattle.hdfs_client.specs.declared.errors.ClientError.TheVariants.{Hdfs}
use Rattle.hdfs_client.specs.declared.status.FileStatus.{FileStatus}

-- ---- texts

pub next_of : (texts : List (List ℕ)) (i : ℕ) (text : List ℕ) → i < length texts → text ≡ get_or texts i text
    → drop i texts ≡ text ∷ drop (i + 1) texts
next_of texts i text low is =
    let next : drop i texts ≡ get_or texts i text ∷ drop (i + 1) texts = rw (add-one, drop-cons texts i text) in
    next ∙ ap (λ (t : List ℕ). t ∷ drop (i + 1) texts) (sym is)

pub each_so : (P Q : List ℕ → Type 0) (texts : List (List ℕ)) → ((text : List ℕ) → P text → Q text) → EachOf P texts → EachOf Q texts
each_so P Q [] so each = tt
each_so P Q (text ∷ texts) so each = (so text each.0, each_so P Q texts so each.1)

pub each_one : (P : List ℕ → Type 0) (texts : List (List ℕ)) (text : List ℕ) → EachOf P texts → IsOneOf text texts → P text
each_one P [] text each one = absurd one
each_one P (other ∷ others) text each (inl is) = subst P (sym is) each.0
each_one P (other ∷ others) text each (inr one) = each_one P others text each.1 one

pub each_both : (P : List ℕ → Type 0) (texts others : List (List ℕ)) → EachOf P texts → EachOf P others → EachOf P (texts ++ others)
each_both P [] others each more = more
each_both P (text ∷ texts) others each more = (each.0, each_both P texts others each.1 more)

pub each_joined : (P Q : List ℕ → Type 0) (Gives : List ℕ → List (List ℕ) → Type 0) (texts found : List (List ℕ))
    → ((text : List ℕ) (first : List (List ℕ)) → P text → Gives text first → EachOf Q first)
    → EachOf P texts → Joins (List ℕ) Gives texts found → EachOf Q found
each_joined P Q Gives [] found so each joins = subst (λ (ts : List (List ℕ)). EachOf Q ts) (sym joins) tt
each_joined P Q Gives (text ∷ texts) found so each (first, later, gives, joins, is) =
    subst (λ (ts : List (List ℕ)). EachOf Q ts) (sym is)
    (each_both Q first later (so text first each.0 gives) (each_joined P Q Gives texts later so each.1 joins))

-- ---- what is given so far, and what is to come

pub record Goes (T : Type 0) (Gives : List ℕ → List T → Type 0) (texts rest : List (List ℕ)) (found : List T) : Type 0 where
  pub joins : (later : List T) → Joins T Gives rest later → Joins T Gives texts (found ++ later)

module _ (T : Type 0) (Gives : List ℕ → List T → Type 0) (texts : List (List ℕ)) where
  pub goes_begun : (found : List T) → found ≡ [] → Goes T Gives texts texts found
  goes_begun found none = record {
    joins = λ later joins. subst (λ (xs : List T). Joins T Gives texts (xs ++ later)) (sym none) joins;
  }

  pub goes_on : (old new : List (List ℕ)) (text : List ℕ) (found first found' : List T) → old ≡ text ∷ new → found' ≡ found ++ first → Gives text first
      → Goes T Gives texts old found → Goes T Gives texts new found'
  goes_on old new text found first found' next put gives goes = record {
    joins = λ later joins. subst (λ (xs : List T). Joins T Gives texts xs)
        (sym (ap (λ (xs : List T). xs ++ later) put ∙ append_assoc found first later))
        (goes.joins (first ++ later)
        (subst (λ (ts : List (List ℕ)). Joins T Gives ts (first ++ later)) (sym next) (first, later, gives, joins, refl)));
  }

  pub goes_done : (rest : List (List ℕ)) (found : List T) → rest ≡ [] → Goes T Gives texts rest found → Joins T Gives texts found
  goes_done rest found none goes =
      subst (λ (xs : List T). Joins T Gives texts xs) (append-nil found)
      (goes.joins [] (subst (λ (ts : List (List ℕ)). Joins T Gives ts []) (sym none) refl))

pub record GoesSome (Gives GivesSome : List ℕ → List FileStatus → Type 0) (texts rest : List (List ℕ)) (found : List FileStatus) : Type 0 where
  pub joins : (later : List FileStatus) → JoinsSome Gives GivesSome rest later → JoinsSome Gives GivesSome texts (found ++ later)

module _ (Gives GivesSome : List ℕ → List FileStatus → Type 0) (texts : List (List ℕ)) where
  pub some_begun : (found : List FileStatus) → found ≡ [] → GoesSome Gives GivesSome texts texts found
  some_begun found none = record {
    joins = λ later joins. subst (λ (xs : List FileStatus). JoinsSome Gives GivesSome texts (xs ++ later)) (sym none) joins;
  }

  pub some_on : (old new : List (List ℕ)) (text : List ℕ) (found first found' : List FileStatus) → old ≡ text ∷ new → found' ≡ found ++ first
      → Gives text first → GoesSome Gives GivesSome texts old found → GoesSome Gives GivesSome texts new found'
  some_on old new text found first found' next put gives goes = record {
    joins = λ later joins. subst (λ (xs : List FileStatus). JoinsSome Gives GivesSome texts xs)
        (sym (ap (λ (xs : List FileStatus). xs ++ later) put ∙ append_assoc found first later))
        (goes.joins (first ++ later)
        (subst (λ (ts : List (List ℕ)). JoinsSome Gives GivesSome ts (first ++ later)) (sym next) (inr (first, later, gives, joins, refl))));
  }

  pub some_over : (old new : List (List ℕ)) (text : List ℕ) (found more : List FileStatus) → old ≡ text ∷ new → GivesSome text more
      → GoesSome Gives GivesSome texts old found → JoinsSome Gives GivesSome texts (found ++ more)
  some_over old new text found more next gives goes =
      goes.joins more (subst (λ (ts : List (List ℕ)). JoinsSome Gives GivesSome ts more) (sym next) (inl gives))

-- ---- directories that are reached

module _ (Has : List ℕ → List FileStatus → Type 0) (parts : List (List ℕ)) where
  none_picked : (Is : FileStatus → Type 0) (own found : List FileStatus) → own ≡ [] → Picks Is own found → found ≡ []
  none_picked Is _ _ none nothing = refl
  none_picked Is _ _ none (taken status others found is picks) = cc
  none_picked Is _ _ none (passed status others found apart picks) = cc

  some_reached : (dir component : List ℕ) (rest : List (List ℕ)) (before behind found : List FileStatus)
      → IsReached Has parts dir (component ∷ rest) → is_wild component ≡ true → Has (or_root dir) (before ++ behind)
      → Picks (IsWanted true dir component) behind found → EachOf (λ mid. IsReached Has parts mid rest) (map (λ status. status.path) found)
  some_reached dir component rest before _ _ reached wild has nothing = tt
  some_reached dir component rest before _ _ reached wild has (taken status others found is picks) = (
    picked dir component rest before status others reached wild has is,
    some_reached dir component rest (before ++ status ∷ []) others found reached wild
        (subst (λ (xs : List FileStatus). Has (or_root dir) xs) (sym (append_assoc before (status ∷ []) others)) has) picks,
  )
  some_reached dir component rest before _ _ reached wild has (passed status others found apart picks) =
      some_reached dir component rest (before ++ status ∷ []) others found reached wild
      (subst (λ (xs : List FileStatus). Has (or_root dir) xs) (sym (append_assoc before (status ∷ []) others)) has) picks

  -- where listings give what was answered or nothing, a component leads from a directory that is reached to such directories
  module _ (Lists : List ℕ → List FileStatus → Type 0) (has : (path : List ℕ) (own : List FileStatus) → Lists path own → Has path own ⊎ (own ≡ [])) where
    led_by : (wild : Bool) (dir component : List ℕ) (rest mids : List (List ℕ)) → is_wild component ≡ wild → IsReached Has parts dir (component ∷ rest)
        → LeadsTo Lists wild component dir mids → EachOf (λ mid. IsReached Has parts mid rest) mids
    led_by false dir component rest mids plain reached is =
        subst (λ (ts : List (List ℕ)). EachOf (λ mid. IsReached Has parts mid rest) ts) (sym is) (named dir component rest reached plain, tt)
    led_by true dir component rest mids wild reached (found, within, is) =
        subst (λ (ts : List (List ℕ)). EachOf (λ mid. IsReached Has parts mid rest) ts) (sym is) (by (has (or_root dir) within.own within.lists))
      where
        by : Has (or_root dir) within.own ⊎ (within.own ≡ []) → EachOf (λ mid. IsReached Has parts mid rest) (map (λ status. status.path) found)
        by (inl own) = some_reached dir component rest [] within.own found reached wild own within.picks
        by (inr none) =
            subst (λ (xs : List FileStatus). EachOf (λ mid. IsReached Has parts mid rest) (map (λ status. status.path) xs))
            (sym (none_picked (IsWanted true dir component) within.own found none within.picks)) tt

    pub all_reached : (dirs : List (List ℕ)) (component : List ℕ) (rest mids : List (List ℕ))
        → EachOf (λ dir. IsReached Has parts dir (component ∷ rest)) dirs
        → Joins (List ℕ) (LeadsTo Lists (is_wild component) component) dirs mids → EachOf (λ mid. IsReached Has parts mid rest) mids
    all_reached dirs component rest mids each joins =
        each_joined (λ dir. IsReached Has parts dir (component ∷ rest)) (λ mid. IsReached Has parts mid rest)
        (LeadsTo Lists (is_wild component) component) dirs mids
        (λ dir first reached leads. led_by (is_wild component) dir component rest first refl reached leads) each joins

  -- leave for a component
  pub lets_list : (allows : Request → Type 0) (mounts : MountTable) (dirs : List (List ℕ)) (component : List ℕ) (rest : List (List ℕ))
      → LetsReach allows Has mounts parts → EachOf (λ dir. IsReached Has parts dir (component ∷ rest)) dirs → is_wild component ≡ true
      → EachOf (λ dir. LetsListAt allows mounts (or_root dir)) dirs
  lets_list allows mounts dirs component rest lets each wild =
      each_so (λ dir. IsReached Has parts dir (component ∷ rest)) (λ dir. LetsListAt allows mounts (or_root dir)) dirs
      (λ dir reached. subst (λ (b : Bool). LetsStep allows mounts b dir component rest) wild (lets dir component rest reached)) each

  pub lets_steps : (allows : Request → Type 0) (mounts : MountTable) (dirs : List (List ℕ)) (component : List ℕ) (rest : List (List ℕ))
      → LetsReach allows Has mounts parts → EachOf (λ dir. IsReached Has parts dir (component ∷ rest)) dirs
      → EachOf (λ dir. LetsStep allows mounts (is_wild component) dir component rest) dirs
  lets_steps allows mounts dirs component rest lets each =
      each_so (λ dir. IsReached Has parts dir (component ∷ rest)) (λ dir. LetsStep allows mounts (is_wild component) dir component rest) dirs
      (λ dir reached. lets dir component rest reached) each

  -- an error at one of these directories
  pub stopped : (NotListed NotLooked : List ℕ → ClientError → Type 0) (dirs : List (List ℕ)) (component : List ℕ) (rest : List (List ℕ)) (error : ClientError)
      → EachOf (λ dir. IsReached Has parts dir (component ∷ rest)) dirs → StopsAtOne NotListed NotLooked dirs component rest error
      → (error ≡ Hdfs errors.NoMemory) ⊎ IsStopped NotListed NotLooked Has parts error
  stopped NotListed NotLooked dirs component rest error each (inl none) = inl none
  stopped NotListed NotLooked dirs component rest error each (inr (dir, one, stops)) = inr (record {
    dir = dir;
    component = component;
    rest = rest;
    reached = each_one (λ d. IsReached Has parts d (component ∷ rest)) dirs dir each one;
    stops = stops;
  })

-- ---- components in front, one after another

pub record ArrivesOn (Lists : List ℕ → List FileStatus → Type 0) (begin front rest dirs : List (List ℕ)) : Type 0 where
  pub arrives : (later : List (List ℕ)) → Arrives Lists dirs rest later → Arrives Lists begin front later

module _ (Lists : List ℕ → List FileStatus → Type 0) (begin front : List (List ℕ)) where
  pub arrives_begun : (dirs : List (List ℕ)) → dirs ≡ begin → ArrivesOn Lists begin front front dirs
  arrives_begun dirs is = record {
    arrives = λ later arrives. subst (λ (ds : List (List ℕ)). Arrives Lists ds front later) is arrives;
  }

  pub arrives_on : (old new dirs mids : List (List ℕ)) (component : List ℕ) → old ≡ component ∷ new → IsRead dirs component
      → Joins (List ℕ) (LeadsTo Lists (is_wild component) component) dirs mids → ArrivesOn Lists begin front old dirs
      → ArrivesOn Lists begin front new mids
  arrives_on old new dirs mids component next read joins goes = record {
    arrives = λ later arrives. goes.arrives later
        (subst (λ (cs : List (List ℕ)). Arrives Lists dirs cs later) (sym next) (read, (mids, joins, arrives)));
  }

  pub arrives_done : (rest dirs : List (List ℕ)) → rest ≡ [] → ArrivesOn Lists begin front rest dirs → Arrives Lists begin front dirs
  arrives_done rest dirs none goes =
      goes.arrives dirs (subst (λ (cs : List (List ℕ)). Arrives Lists dirs cs dirs) (sym none) refl)

-- ---- a text by its components

no_last : (front : List (List ℕ)) (last : List ℕ) → [] ≡ front ++ last ∷ [] → ⊥
no_last [] last is = cc
no_last (text ∷ front) last is = cc

pub by_parts : (Lists Looks : List ℕ → List FileStatus → Type 0) (parts front : List (List ℕ)) (last : List ℕ) (found : List FileStatus)
    → parts ≡ front ++ last ∷ [] → Reaches Lists Looks parts found → ReachesBy Lists Looks parts found
by_parts Lists Looks [] front last found is reaches = absurd (no_last front last is)
by_parts Lists Looks (part ∷ parts) front last found is reaches = reaches

pub by_text : (Lists Looks : List ℕ → List FileStatus → Type 0) (text : List ℕ) (found : List FileStatus) → (text ≡ [] → ⊥)
    → ReachesBy Lists Looks (components text) found → ReachesText Lists Looks text found
by_text Lists Looks [] found some reaches = absurd (some refl)
by_text Lists Looks (c ∷ text) found some reaches = reaches

pub lets_text : (allows : Request → Type 0) (Has : List ℕ → List FileStatus → Type 0) (mounts : MountTable) (text : List ℕ) → (text ≡ [] → ⊥)
    → LetsText allows Has mounts text → LetsBy allows Has mounts (components text)
lets_text allows Has mounts [] some lets = absurd (some refl)
lets_text allows Has mounts (c ∷ text) some lets = lets

pub lets_parts : (allows : Request → Type 0) (Has : List ℕ → List FileStatus → Type 0) (mounts : MountTable) (parts front : List (List ℕ)) (last : List ℕ)
    → parts ≡ front ++ last ∷ [] → LetsBy allows Has mounts parts → LetsReach allows Has mounts (front ++ last ∷ [])
lets_parts allows Has mounts [] front last is lets = absurd (no_last front last is)
lets_parts allows Has mounts (part ∷ parts) front last is lets = subst (λ (ps : List (List ℕ)). LetsReach allows Has mounts ps) is lets

pub fault_of_parts : (NotListed NotLooked : List ℕ → ClientError → Type 0) (Has : List ℕ → List FileStatus → Type 0) (parts front : List (List ℕ)) (last : List ℕ)
    (error : ClientError) → parts ≡ front ++ last ∷ [] → IsStopped NotListed NotLooked Has (front ++ last ∷ []) error
    → IsPartsFault NotListed NotLooked Has parts error
fault_of_parts NotListed NotLooked Has [] front last error is stopped = absurd (no_last front last is)
fault_of_parts NotListed NotLooked Has (part ∷ parts) front last error is stopped =
    subst (λ (ps : List (List ℕ)). IsStopped NotListed NotLooked Has ps error) (sym is) stopped

pub fault_of_text : (NotListed NotLooked : List ℕ → ClientError → Type 0) (Has : List ℕ → List FileStatus → Type 0) (text : List ℕ) (error : ClientError)
    → (text ≡ [] → ⊥) → IsPartsFault NotListed NotLooked Has (components text) error → IsTextFault NotListed NotLooked Has text error
fault_of_text NotListed NotLooked Has [] error some fault = absurd (some refl)
fault_of_text NotListed NotLooked Has (c ∷ text) error some fault = fault

-- ---- the ends of loops, and errors in them

pub none_left : (texts : List (List ℕ)) (i : ℕ) → length texts ≤ i → drop i texts ≡ []
none_left [] zero long = refl
none_left [] (suc i) long = refl
none_left (text ∷ texts) zero long = absurd (omega arith)
none_left (text ∷ texts) (suc i) long = none_left texts i (omega arith)

pub some_one : (texts : List (List ℕ)) → (length texts ≡ 0 → ⊥) → (text : List ℕ) × IsOneOf text texts
some_one [] some = absurd (some refl)
some_one (text ∷ texts) some = (text, inl refl)

pub is_read : (dirs : List (List ℕ)) (component : List ℕ) (read : List Sign) → signs (chars component) ≡ Some read → IsRead dirs component
is_read [] component read is = tt
is_read (dir ∷ dirs) component read is = λ none. cc

pub unread : (dirs : List (List ℕ)) (component : List ℕ) → length dirs ≡ 0 → IsRead dirs component
unread [] component none = tt
unread (dir ∷ dirs) component none = absurd (omega arith)

pub none_joined : (T : Type 0) (Gives : List ℕ → List T → Type 0) (dirs : List (List ℕ)) (found : List T) → length dirs ≡ 0 → found ≡ []
    → Joins T Gives dirs found
none_joined T Gives [] found none is = is
none_joined T Gives (dir ∷ dirs) found none is = absurd (omega arith)

module _ (NotListed NotLooked : List ℕ → ClientError → Type 0) (dirs : List (List ℕ)) (component : List ℕ) where
  -- the component is no glob
  pub no_glob : (rest : List (List ℕ)) (fault : NamesFault) (error : ClientError) → error ≡ refusal_of fault
      → (fault ≡ faults.NoMemory) ⊎ ((fault ≡ faults.InvalidPath component) × (signs (chars component) ≡ None)) → (length dirs ≡ 0 → ⊥)
      → StopsAtOne NotListed NotLooked dirs component rest error
  no_glob rest fault error is (inl none) some = inl (is ∙ ap refusal_of none)
  no_glob rest fault error is (inr (path, no_signs)) some =
      let one = some_one dirs some in
      inr (one.0, one.1, inl (is ∙ ap refusal_of path, no_signs))

  -- a directory can't be listed
  pub no_listing : (rest : List (List ℕ)) (dir : List ℕ) (error : ClientError) → IsOneOf dir dirs
      → (error ≡ Hdfs errors.NoMemory) ⊎ ((is_wild component ≡ true) × NotListed (or_root dir) error)
      → StopsAtOne NotListed NotLooked dirs component rest error
  no_listing rest dir error one (inl none) = inl none
  no_listing rest dir error one (inr fails) = inr (dir, one, inr (inl fails))

  pub no_end : (dir : List ℕ) (error : ClientError) → IsOneOf dir dirs
      → (error ≡ Hdfs errors.NoMemory) ⊎ StopsAt NotListed NotLooked dir component [] error
      → StopsAtOne NotListed NotLooked dirs component [] error
  no_end dir error one (inl none) = inl none
  no_end dir error one (inr stops) = inr (dir, one, stops)

pub if_wild : (A B : Type 0) (b : Bool) → b ≡ true → A ⊎ B → A ⊎ ((b ≡ true) × B)
if_wild A B b wild (inl a) = inl a
if_wild A B b wild (inr more) = inr (wild, more)

pub err_so : {T : Type 0} (P Q : ClientError → Type 0) (result : Result T ClientError) → ((e : ClientError) → P e → Q e) → IsErrAnd result P → IfErr result Q
err_so P Q (Ok value) so is = absurd is
err_so P Q (Err e) so is = so e is

pub if_ok_two : {T E : Type 0} (P R Q : T → Type 0) (r : Result T E) → ((x : T) → P x → R x → Q x) → IfOk r P → IfOk r R → IfOk r Q
if_ok_two P R Q (Ok x) so is other = so x is other
if_ok_two P R Q (Err e) so is other = tt

pub nothing_of : (Lists Looks : List ℕ → List FileStatus → Type 0) (text : List ℕ) (found : List FileStatus) → length text ≡ 0 → found ≡ []
    → ReachesText Lists Looks text found
nothing_of Lists Looks [] found none is = is
nothing_of Lists Looks (c ∷ text) found none is = absurd (omega arith)

pub no_part : (parts : List (List ℕ)) → length parts ≡ 0 → parts ≡ []
no_part [] none = refl
no_part (part ∷ parts) none = absurd (omega arith)
