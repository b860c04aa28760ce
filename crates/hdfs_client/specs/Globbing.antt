-- What a pattern of paths reaches, over any cluster.
use Rattle.std.specs.Prelude.{◌≡◌, ◌≢◌, ◌⊎◌, ℕ, ◌<◌, ◌≤◌, Bool, true, false, ◌||◌, List, [], ◌∷◌, ◌++◌, length, map, Option, Some, None, Result, Ok, Err, bytes_eq, chars, encode_utf8_all}
use Rattle.std.specs.Option.{option_map}
use Rattle.hdfs_cluster.specs.declared.asks.Ask.{Ask}
use Rattle.hdfs_cluster.specs.declared.asks.Ask.TheVariants as asks
use Rattle.hdfs_cluster.specs.declared.asks.Answer.{Answer}
use Rattle.hdfs_cluster.specs.declared.asks.Answer.TheVariants as answers
use Rattle.hdfs_cluster.specs.declared.asks.AskFault.{AskFault}
use Rattle.hdfs_cluster.specs.declared.errors.HdfsError.{HdfsError}
use Rattle.hdfs_cluster.specs.declared.errors.HdfsError.TheVariants as errors
use Rattle.hdfs_cluster.specs.Namenode.{not_found, parent_not_directory}
use Rattle.hdfs_cluster.specs.Requests.{Request, AskOf}
use Rattle.hdfs_globs.specs.Escapes.{components, unescaped}
use Rattle.hdfs_globs.specs.Expansions.{opens}
use Rattle.hdfs_globs.specs.Fits.{Matches}
use Rattle.hdfs_globs.specs.Globs.{has_wildcard, signs}
use Rattle.hdfs_names.specs.Paths.{root}
use Rattle.hdfs_names.specs.declared.mounts.MountTable.{MountTable}
use Rattle.hdfs_names.specs.declared.mounts.Resolved.{Resolved}
use Rattle.hdfs_client.specs.Calls.{Gives}
use Rattle.hdfs_client.specs.Clients.{mounts_of}
use Rattle.hdfs_client.specs.Iterating.{IsAskFault, IsEntryFault, Left}
use Rattle.hdfs_client.specs.Listing.{AreOnPages, HasAll, HasSome, LetsListAt, leads_by}
use Rattle.hdfs_client.specs.Statuses.{IsInfo, or_root}
use Rattle.hdfs_client.specs.declared.client.Client.{Client}
use Rattle.hdfs_client.specs.declared.errors.ClientError.{ClientError}
use Rattle.hdfs_client.specs.declared.errors.ClientError.TheVariants.{Hdfs, TooMany}
use Rattle.hdfs_client.specs.declared.status.FileStatus.{FileStatus}

-- ---- patterns

-- the texts that a pattern opens to; None where it is none
abbrev pub texts_of : List ℕ → Option (List (List ℕ))
texts_of pattern = option_map (map encode_utf8_all) (opens (chars pattern))

-- a wildcard stands in a component
abbrev pub is_wild : List ℕ → Bool
is_wild component = has_wildcard (chars component)

-- a component can be read
abbrev pub IsGlob : List ℕ → Type 0
IsGlob component = signs (chars component) ≢ None

-- what a component without wildcards names in a directory. A directory has no slash at its end, and the root is empty.
abbrev pub named_in : List ℕ → List ℕ → List ℕ
named_in dir component = dir ++ 47 ∷ encode_utf8_all (unescaped (chars component))

-- An entry of a directory is wanted: its name fits, and it is a directory itself where more components follow.
pub record IsWanted (follow : Bool) (dir component : List ℕ) (status : FileStatus) : Type 0 where
  pub name : List ℕ
  pub below : status.path ≡ dir ++ 47 ∷ name
  pub some : name ≢ []
  pub fits : Matches (chars component) (chars name)
  pub directory : follow ≡ true → status.isdir ≡ true

-- just those that are so are picked, in their order
pub data Picks (Is : FileStatus → Type 0) : List FileStatus → List FileStatus → Type 0 where
  nothing : Picks Is [] []
  taken : (status : FileStatus) (others picked : List FileStatus) → Is status → Picks Is others picked
      → Picks Is (status ∷ others) (status ∷ picked)
  passed : (status : FileStatus) (others picked : List FileStatus) → ¬ (Is status) → Picks Is others picked
      → Picks Is (status ∷ others) picked

-- each of these texts is so
abbrev pub EachOf : (List ℕ → Type 0) → List (List ℕ) → Type 0
EachOf Is [] = Unit {0}
EachOf Is (text ∷ texts) = Is text × EachOf Is texts

-- a text is one of these
abbrev pub IsOneOf : List ℕ → List (List ℕ) → Type 0
IsOneOf text [] = ⊥
IsOneOf text (other ∷ others) = (text ≡ other) ⊎ IsOneOf text others

-- what each of these texts gives, one behind another
abbrev pub Joins : (T : Type 0) → (List ℕ → List T → Type 0) → List (List ℕ) → List T → Type 0
Joins T Gives [] found = found ≡ []
Joins T Gives (text ∷ texts) found =
    (first : List T) × (later : List T) × Gives text first × Joins T Gives texts later × (found ≡ first ++ later)

-- some of it: what the first of them give, and of the next one some
abbrev pub JoinsSome : (Gives GivesSome : List ℕ → List FileStatus → Type 0) → List (List ℕ) → List FileStatus → Type 0
JoinsSome Gives GivesSome [] found = found ≡ []
JoinsSome Gives GivesSome (text ∷ texts) found = GivesSome text found
    ⊎ ((first : List FileStatus) × (later : List FileStatus) × Gives text first × JoinsSome Gives GivesSome texts later × (found ≡ first ++ later))

-- a component is read where a directory is left
abbrev pub IsRead : List (List ℕ) → List ℕ → Type 0
IsRead [] component = Unit {0}
IsRead (dir ∷ dirs) component = IsGlob component

-- ---- what a text reaches, where `Lists` is what listings give of paths, and `Looks` what look-ups give

module _ (Lists : List ℕ → List FileStatus → Type 0) where
  -- what a component with wildcards gives of a directory: of its entries just those that are wanted
  pub record PicksIn (follow : Bool) (dir component : List ℕ) (picked : List FileStatus) : Type 0 where
    pub own : List FileStatus
    pub lists : Lists (or_root dir) own
    pub picks : Picks (IsWanted follow dir component) own picked

  -- where a component leads from a directory that others follow: with wildcards to the directories that are picked, else to what it names
  abbrev pub LeadsTo : Bool → List ℕ → List ℕ → List (List ℕ) → Type 0
  LeadsTo true component dir mids =
      (picked : List FileStatus) × PicksIn true dir component picked × (mids ≡ map (λ status. status.path) picked)
  LeadsTo false component dir mids = mids ≡ named_in dir component ∷ []

  -- where components lead from these directories
  abbrev pub Arrives : List (List ℕ) → List (List ℕ) → List (List ℕ) → Type 0
  Arrives dirs [] found = found ≡ dirs
  Arrives dirs (component ∷ rest) found = IsRead dirs component
      × ((mids : List (List ℕ)) × Joins (List ℕ) (LeadsTo (is_wild component) component) dirs mids × Arrives mids rest found)

module _ (Lists Looks : List ℕ → List FileStatus → Type 0) where
  -- what the last component gives of a directory: with wildcards what is picked, else what it names, which is looked up
  abbrev pub EndsAt : Bool → List ℕ → List ℕ → List FileStatus → Type 0
  EndsAt true component dir found = PicksIn Lists false dir component found
  EndsAt false component dir found = Looks (named_in dir component) found

  -- what a text reaches that has components: those in front lead from the root to directories, and the last one gives what is there
  pub record Reaches (parts : List (List ℕ)) (found : List FileStatus) : Type 0 where
    pub front : List (List ℕ)
    pub last : List ℕ
    pub are : parts ≡ front ++ last ∷ []
    pub dirs : List (List ℕ)
    pub arrives : Arrives Lists ([] ∷ []) front dirs
    pub read : IsRead dirs last
    pub ends : Joins FileStatus (EndsAt (is_wild last) last) dirs found

  -- some of it
  pub record ReachesSome (parts : List (List ℕ)) (found : List FileStatus) : Type 0 where
    pub front : List (List ℕ)
    pub last : List ℕ
    pub are : parts ≡ front ++ last ∷ []
    pub dirs : List (List ℕ)
    pub arrives : Arrives Lists ([] ∷ []) front dirs
    pub ends : JoinsSome (EndsAt (is_wild last) last) (EndsAt (is_wild last) last) dirs found

  -- what a text reaches: one without components the root
  abbrev pub ReachesBy : List (List ℕ) → List FileStatus → Type 0
  ReachesBy [] found = Looks root found
  ReachesBy (part ∷ parts) found = Reaches (part ∷ parts) found

  -- an empty one nothing
  abbrev pub ReachesText : List ℕ → List FileStatus → Type 0
  ReachesText [] found = found ≡ []
  ReachesText (c ∷ text) found = ReachesBy (components (c ∷ text)) found

  -- some of what a text reaches
  abbrev pub SomeOfText : List ℕ → List FileStatus → Type 0
  SomeOfText text found = ReachesText text found ⊎ ReachesSome (components text) found

  -- what a pattern reaches: what the texts reach that it opens to, in their order
  abbrev pub ReachesAll : List ℕ → List FileStatus → Type 0
  ReachesAll pattern found =
      (texts : List (List ℕ)) × (texts_of pattern ≡ Some texts) × Joins FileStatus ReachesText texts found

  -- some of it
  abbrev pub ReachesSomeOf : List ℕ → List FileStatus → Type 0
  ReachesSomeOf pattern found =
      (texts : List (List ℕ)) × (texts_of pattern ≡ Some texts) × JoinsSome ReachesText SomeOfText texts found

-- ---- directories that are reached

-- A directory is reached from the root by the first of these components, and others are left there. What is there is what was answered.
pub data IsReached (Has : List ℕ → List FileStatus → Type 0) (parts : List (List ℕ)) : List ℕ → List (List ℕ) → Type 0 where
  begun : IsReached Has parts [] parts
  named : (dir component : List ℕ) (rest : List (List ℕ)) → IsReached Has parts dir (component ∷ rest) → is_wild component ≡ false
      → IsReached Has parts (named_in dir component) rest
  picked : (dir component : List ℕ) (rest : List (List ℕ)) (before : List FileStatus) (status : FileStatus) (behind : List FileStatus)
      → IsReached Has parts dir (component ∷ rest) → is_wild component ≡ true → Has (or_root dir) (before ++ status ∷ behind)
      → IsWanted true dir component status → IsReached Has parts status.path rest

-- leave to look up what a path is called where it leads
abbrev pub LetsLook : (Request → Type 0) → MountTable → List ℕ → Type 0
LetsLook allows mounts path = (to : Resolved) → leads_by mounts path to → allows (AskOf (asks.GetFileInfo to.path))

-- leave to look up what the last component names
abbrev pub LetsEnd : (Request → Type 0) → MountTable → List (List ℕ) → List ℕ → Type 0
LetsEnd allows mounts [] path = LetsLook allows mounts path
LetsEnd allows mounts (component ∷ rest) path = Unit {0}

-- leave to go on from a directory: to list it where the next component has wildcards, and else to look up what that names, if it is the last
abbrev pub LetsStep : (Request → Type 0) → MountTable → Bool → List ℕ → List ℕ → List (List ℕ) → Type 0
LetsStep allows mounts true dir component rest = LetsListAt allows mounts (or_root dir)
LetsStep allows mounts false dir component rest = LetsEnd allows mounts rest (named_in dir component)

-- leave to go on from each directory that is reached
abbrev pub LetsReach : (Request → Type 0) → (List ℕ → List FileStatus → Type 0) → MountTable → List (List ℕ) → Type 0
LetsReach allows Has mounts parts = (dir component : List ℕ) (rest : List (List ℕ)) → IsReached Has parts dir (component ∷ rest)
    → LetsStep allows mounts (is_wild component) dir component rest

-- leave for a text: without components to look up the root
abbrev pub LetsBy : (Request → Type 0) → (List ℕ → List FileStatus → Type 0) → MountTable → List (List ℕ) → Type 0
LetsBy allows Has mounts [] = LetsLook allows mounts root
LetsBy allows Has mounts (part ∷ parts) = LetsReach allows Has mounts (part ∷ parts)

-- leave for a pattern's text, which is nothing or its components from the root on
abbrev pub LetsText : (Request → Type 0) → (List ℕ → List FileStatus → Type 0) → MountTable → List ℕ → Type 0
LetsText allows Has mounts [] = Unit {0}
LetsText allows Has mounts (c ∷ text) = LetsBy allows Has mounts (components (c ∷ text))

-- leave for each text that a pattern opens to
abbrev pub LetsGlob : (Request → Type 0) → (Ask → Answer → Type 0) → MountTable → List ℕ → Type 0
LetsGlob allows may_answer mounts pattern = (before : List (List ℕ)) (text : List ℕ) (behind : List (List ℕ))
    → texts_of pattern ≡ Some (before ++ text ∷ behind) → LetsText allows (HasAll may_answer mounts) mounts text

-- ---- why a text can't be gone on with

module _ (NotListed NotLooked : List ℕ → ClientError → Type 0) where
  -- the next component is no glob; or the directory can't be listed, or what the last component names can't be looked up
  abbrev pub StopsAt : List ℕ → List ℕ → List (List ℕ) → ClientError → Type 0
  StopsAt dir component rest error =
      ((error ≡ Hdfs (errors.InvalidPath component)) × (signs (chars component) ≡ None))
      ⊎ (((is_wild component ≡ true) × NotListed (or_root dir) error)
      ⊎ ((is_wild component ≡ false) × (rest ≡ []) × NotLooked (named_in dir component) error))

  -- that, at one of these directories; or there was no memory
  abbrev pub StopsAtOne : List (List ℕ) → List ℕ → List (List ℕ) → ClientError → Type 0
  StopsAtOne dirs component rest error = (error ≡ Hdfs errors.NoMemory)
      ⊎ ((dir : List ℕ) × IsOneOf dir dirs × StopsAt dir component rest error)

  -- that, at a directory that is reached
  pub record IsStopped (Has : List ℕ → List FileStatus → Type 0) (parts : List (List ℕ)) (error : ClientError) : Type 0 where
    pub dir : List ℕ
    pub component : List ℕ
    pub rest : List (List ℕ)
    pub reached : IsReached Has parts dir (component ∷ rest)
    pub stops : StopsAt dir component rest error

  -- why a text can't be gone on with that has these components
  abbrev pub IsPartsFault : (List ℕ → List FileStatus → Type 0) → List (List ℕ) → ClientError → Type 0
  IsPartsFault Has [] error = NotLooked root error
  IsPartsFault Has (part ∷ parts) error = IsStopped Has (part ∷ parts) error

  abbrev pub IsTextFault : (List ℕ → List FileStatus → Type 0) → List ℕ → ClientError → Type 0
  IsTextFault Has [] error = ⊥
  IsTextFault Has (c ∷ text) error = IsPartsFault Has (components (c ∷ text)) error

-- ---- what listings and look-ups give

-- an error tells that nothing stands at a path: nothing does, or a file stands above
abbrev pub is_missing : HdfsError → Bool
is_missing (errors.FileNotFound path) = true
is_missing (errors.RPCError class message) = bytes_eq class not_found || bytes_eq class parent_not_directory
is_missing error = false

-- an error that says that nothing stands there
abbrev pub finds_none : ClientError → Bool
finds_none (Hdfs error) = is_missing error
finds_none error = false

-- an ask for a page by these mounts came to this error; or an entry couldn't be given, or there was no memory
abbrev pub IsPageWhy : {C : Type 0} → (C → ℕ → Ask → Result Answer AskFault → C → Type 0) → MountTable → Left → HdfsError → Type 0
IsPageWhy {C} serves mounts dir error =
    ((client' : Client) × (new : C) × (fault : IsAskFault serves client' new dir error) × (mounts_of fault.client ≡ mounts))
    ⊎ (IsEntryFault dir.path dir.held error ⊎ (error ≡ errors.NoMemory))

-- a path couldn't be listed; the entries that were held stood on answered pages
pub record IsUnlisted {C : Type 0} (serves : C → ℕ → Ask → Result Answer AskFault → C → Type 0) (may_answer : Ask → Answer → Type 0)
    (mounts : MountTable) (path : List ℕ) (error : HdfsError) : Type 0 where
  pub dir : Left
  pub of : dir.path ≡ path
  pub told : AreOnPages may_answer mounts dir.path dir.held
  pub why : IsPageWhy serves mounts dir error

-- a path was looked up by these mounts, and a caller has this of it
pub record IsLookedUp {C : Type 0} (serves : C → ℕ → Ask → Result Answer AskFault → C → Type 0) (mounts : MountTable) (path : List ℕ)
    (result : Result FileStatus HdfsError) : Type 0 where
  pub client : Client
  pub old : C
  pub client' : Client
  pub new : C
  pub by : mounts_of client ≡ mounts
  pub asked : Gives serves false asks.GetFileInfo answers.GetFileInfo client path old client' new (λ outcome. IsInfo path outcome result)

-- a path has more entries than the limit, or couldn't be listed
abbrev pub IsNotListed : {C : Type 0} → (C → ℕ → Ask → Result Answer AskFault → C → Type 0) → (Ask → Answer → Type 0) → MountTable → ℕ
    → List ℕ → ClientError → Type 0
IsNotListed serves may_answer mounts limit path error =
    ((error ≡ TooMany limit) × ((own : List FileStatus) × HasSome may_answer mounts path own × (limit < length own)))
    ⊎ ((cause : HdfsError) × (error ≡ Hdfs cause) × IsUnlisted serves may_answer mounts path cause)

-- what a listing gives: all entries, which aren't more than the limit; nothing where nothing stands there
abbrev pub IsListed : {C : Type 0} → (C → ℕ → Ask → Result Answer AskFault → C → Type 0) → (Ask → Answer → Type 0) → MountTable → ℕ
    → List ℕ → List FileStatus → Type 0
IsListed serves may_answer mounts limit path own = (HasAll may_answer mounts path own × (length own ≤ limit))
    ⊎ ((own ≡ []) × ((error : ClientError) × (finds_none error ≡ true) × IsNotListed serves may_answer mounts limit path error))

-- why a listing fails: that, and not since nothing stands there
abbrev pub FailsToList : {C : Type 0} → (C → ℕ → Ask → Result Answer AskFault → C → Type 0) → (Ask → Answer → Type 0) → MountTable → ℕ
    → List ℕ → ClientError → Type 0
FailsToList serves may_answer mounts limit path error =
    IsNotListed serves may_answer mounts limit path error × (finds_none error ≡ false)

-- what is taken of a look-up: what stands there; nothing where nothing does
abbrev pub IsTaken : Result FileStatus HdfsError → List FileStatus → Type 0
IsTaken (Ok status) found = found ≡ status ∷ []
IsTaken (Err error) found = (found ≡ []) × (is_missing error ≡ true)

-- or else its error
abbrev pub IsDeclined : Result FileStatus HdfsError → ClientError → Type 0
IsDeclined (Ok status) error = ⊥
IsDeclined (Err cause) error = (error ≡ Hdfs cause) × (is_missing cause ≡ false)

-- what a look-up gives
abbrev pub IsLooked : {C : Type 0} → (C → ℕ → Ask → Result Answer AskFault → C → Type 0) → MountTable → List ℕ → List FileStatus → Type 0
IsLooked serves mounts path found =
    (outcome : Result FileStatus HdfsError) × IsLookedUp serves mounts path outcome × IsTaken outcome found

-- why a look-up fails
abbrev pub FailsToLook : {C : Type 0} → (C → ℕ → Ask → Result Answer AskFault → C → Type 0) → MountTable → List ℕ → ClientError → Type 0
FailsToLook serves mounts path error =
    (outcome : Result FileStatus HdfsError) × IsLookedUp serves mounts path outcome × IsDeclined outcome error

-- ---- the whole

-- what a pattern reaches over a cluster
abbrev pub Globs : {C : Type 0} → (C → ℕ → Ask → Result Answer AskFault → C → Type 0) → (Ask → Answer → Type 0) → MountTable → ℕ
    → List ℕ → List FileStatus → Type 0
Globs serves may_answer mounts limit =
    ReachesAll (IsListed serves may_answer mounts limit) (IsLooked serves mounts)

-- why what the last component gives of these directories can't be told: there is more than the limit, or one can't be gone on with
abbrev pub EndsNot : {C : Type 0} → (C → ℕ → Ask → Result Answer AskFault → C → Type 0) → (Ask → Answer → Type 0) → MountTable → ℕ
    → List (List ℕ) → List ℕ → ClientError → Type 0
EndsNot serves may_answer mounts limit dirs component error =
    ((error ≡ TooMany limit) × ((found : List FileStatus) × JoinsSome
    (EndsAt (IsListed serves may_answer mounts limit) (IsLooked serves mounts) (is_wild component) component)
    (EndsAt (IsListed serves may_answer mounts limit) (IsLooked serves mounts) (is_wild component) component) dirs found
    × (limit < length found)))
    ⊎ StopsAtOne (FailsToList serves may_answer mounts limit) (FailsToLook serves mounts) dirs component [] error

-- why what a text reaches can't be told: it is more than the limit, or there was no memory, or the text can't be gone on with
abbrev pub IsReachFault : {C : Type 0} → (C → ℕ → Ask → Result Answer AskFault → C → Type 0) → (Ask → Answer → Type 0) → MountTable → ℕ
    → List ℕ → ClientError → Type 0
IsReachFault serves may_answer mounts limit text error =
    ((error ≡ TooMany limit) × ((found : List FileStatus)
    × SomeOfText (IsListed serves may_answer mounts limit) (IsLooked serves mounts) text found × (limit < length found)))
    ⊎ ((error ≡ Hdfs errors.NoMemory)
    ⊎ IsTextFault (FailsToList serves may_answer mounts limit) (FailsToLook serves mounts) (HasAll may_answer mounts) text error)

-- it is refused as no pattern, or there is no memory to say so
abbrev pub IsNoPattern : List ℕ → ClientError → Type 0
IsNoPattern pattern error = (error ≡ Hdfs (errors.InvalidPath pattern)) ⊎ (error ≡ Hdfs errors.NoMemory)

-- Why a glob fails: the pattern is none; more is reached than the limit; or one of the texts that it opens to can't be gone on with.
abbrev pub IsGlobFault : {C : Type 0} → (C → ℕ → Ask → Result Answer AskFault → C → Type 0) → (Ask → Answer → Type 0) → MountTable → ℕ
    → List ℕ → ClientError → Type 0
IsGlobFault serves may_answer mounts limit pattern error =
    ((error ≡ Hdfs (errors.InvalidPath pattern)) × (texts_of pattern ≡ None))
    ⊎ (((error ≡ TooMany limit) × ((found : List FileStatus)
    × ReachesSomeOf (IsListed serves may_answer mounts limit) (IsLooked serves mounts) pattern found × (limit < length found)))
    ⊎ ((error ≡ Hdfs errors.NoMemory)
    ⊎ ((before : List (List ℕ)) × (text : List ℕ) × (behind : List (List ℕ)) × (texts_of pattern ≡ Some (before ++ text ∷ behind))
    × IsTextFault (FailsToList serves may_answer mounts limit) (FailsToLook serves mounts) (HasAll may_answer mounts) text error)))
