-- The state that a folder tells, and the effects of its calls on it.
use Rattle.std.specs.Prelude.{◌≡◌, ◌≢◌, ◌⊎◌, ℕ, ◌≤◌, ◌<◌, List, ◌++◌, Option, Some, None, IsSome, Result, IfErr}
use Rattle.safe_save.specs.declared.folder.FolderCall.{FolderCall}
use Rattle.safe_save.specs.declared.folder.FolderFault.{FolderFault}

-- what stands at each name: the bytes of a file, or nothing
abbrev pub Image : Type 0
Image = List ℕ → Option (List ℕ)

-- what a folder tells of itself
pub record FolderState : Type 1 where
  -- what stands at each name
  pub stands : Image
  -- what a crash at this moment may leave
  pub may_leave : Image → Type 0
  -- the moment, as a number that never falls
  pub moment : ℕ
  -- what a crash at some moment from that one on might have left, during a call or between two
  pub left_since : ℕ → Image → Type 0
  -- the moment, counted from 1, at which each kind of call last failed with each fault; 0 where it never did
  pub last_failed : FolderCall → FolderFault → ℕ
  -- who may read the file at each name, by the numbers of all users but the one whose folder this is
  pub may_read : List ℕ → ℕ → Type 0

-- the state that is taken for a folder that tells nothing
abbrev pub untold : FolderState
untold = record {
  stands = λ _. None;
  may_leave = λ _. ⊥;
  moment = 0;
  left_since = λ _ _. ⊥;
  last_failed = λ _ _. 0;
  may_read = λ _ _. ⊥;
}

-- at each name stands what stood there
abbrev pub Same : Image → Image → Type 0
Same old new = (n : List ℕ) → new n ≡ old n

-- at each other name stands what stood there
abbrev pub Touched : List ℕ → Image → Image → Type 0
Touched name old new = (n : List ℕ) → n ≢ name → new n ≡ old n

-- at each name but these two stands what stood there
abbrev pub TouchedBoth : List ℕ → List ℕ → Image → Image → Type 0
TouchedBoth one other old new = (n : List ℕ) → n ≢ one → n ≢ other → new n ≡ old n

-- at the name stands what stood there, with these bytes after it
abbrev pub Appended : List ℕ → List ℕ → Image → Image → Type 0
Appended name bytes old new = (before : List ℕ) → old name ≡ Some before → new name ≡ Some (before ++ bytes)

-- the second name has what the first had, where nothing stands now
pub record Moved (from to : List ℕ) (old new : Image) : Type 0 where
  pub there : new to ≡ old from
  pub gone : new from ≡ None

-- after a rename that a crash cuts short: nothing has changed at the two names, or the second has what the first had
pub record MayMove (from to : List ℕ) (old new : Image) : Type 0 where
  pub whole : ((new from ≡ old from) × (new to ≡ old to)) ⊎ (new to ≡ old from)
  pub others : TouchedBoth from to old new

-- if a file stood at the path, only users who could read it may read the file at the name now
abbrev pub NoWider : List ℕ → List ℕ → FolderState → FolderState → Type 0
NoWider name path old new = IsSome (old.stands path) → (user : ℕ) → new.may_read name user → old.may_read path user

-- at each name where a file stood, only users who could read it may read what is there now
abbrev pub WidensNone : FolderState → FolderState → Type 0
WidensNone old new = (n : List ℕ) → NoWider n n old new

-- at each name but this one where a file stood, only users who could read it may read what is there now
abbrev pub WidensNoOther : List ℕ → FolderState → FolderState → Type 0
WidensNoOther name old new = (n : List ℕ) → n ≢ name → NoWider n n old new

-- each image that a crash may leave now is a `change` of one that it could leave before
abbrev pub LeavesChanged : (Image → Image → Type 0) → FolderState → FolderState → Type 0
LeavesChanged change old new = (f : Image) → new.may_leave f → (g : Image) × old.may_leave g × change g f

-- a crash leaves at the name what stands there
abbrev pub IsDurable : List ℕ → FolderState → Type 0
IsDurable name state = (f : Image) → state.may_leave f → f name ≡ state.stands name

-- Time goes on: a crash since t leaves what it might have left before, or a change of what it `could_leave`.
pub record GoesOn (change : Image → Image → Type 0) (before now : ℕ) (past since : ℕ → Image → Type 0)
    (could_leave : Image → Type 0) : Type 0 where
  pub later : before ≤ now
  pub nothing_else : (t : ℕ) (f : Image) → t ≤ before → since t f
      → past t f ⊎ ((g : Image) × could_leave g × change g f)
  pub keeps : (t : ℕ) (f : Image) → t ≤ before → past t f → since t f

-- over a call time goes on, and a crash during it leaves a `change` of what it could leave before
abbrev pub Elapses : (Image → Image → Type 0) → FolderState → FolderState → Type 0
Elapses change old new = GoesOn change old.moment new.moment old.left_since new.left_since old.may_leave

-- A crash at any moment since old leaves an image that has P.
pub record LeavesOnly (old new : FolderState) (P : Image → Type 0) : Type 0 where
  pub later : old.moment ≤ new.moment
  pub each : (f : Image) → new.left_since old.moment f → P f
  -- for a run that began earlier
  pub before : (t : ℕ) (f : Image) → t ≤ old.moment → new.left_since t f → old.left_since t f ⊎ P f

-- a call of this kind has failed with this fault at the moment of the old state or later
abbrev pub FailedWith : FolderCall → FolderFault → FolderState → FolderState → Type 0
FailedWith call fault old new = old.moment < new.last_failed call fault

-- a call of this kind has failed at the moment of the old state or later
abbrev pub HasFailed : FolderCall → FolderState → FolderState → Type 0
HasFailed call old new = (fault : FolderFault) × FailedWith call fault old new

-- no fault is forgotten
abbrev pub KeepsFaults : FolderState → FolderState → Type 0
KeepsFaults old new =
    (call : FolderCall) (fault : FolderFault) → old.last_failed call fault ≤ new.last_failed call fault

-- no fault is forgotten, and a fault is told only where a call of this kind has failed with it
pub record HasCause {T : Type 0} (call : FolderCall) (old new : FolderState)
    (result : Result T FolderFault) : Type 0 where
  pub later : KeepsFaults old new
  pub failed : IfErr result (λ fault. FailedWith call fault old new)
