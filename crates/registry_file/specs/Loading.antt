-- Loading a registry file: its targets, or its first error.
use Rattle.std.specs.Prelude.{◌≡◌, ◌≢◌, ℕ, ◌+◌, ◌≤◌, ◌⊎◌, List, [], ◌∷◌, ◌++◌, length, string_bytes}
use Rattle.text_model.specs.Texts.{Text}
use Rattle.code_model.specs.Code.{Code}
use Rattle.verifier.specs.Accepted.{IsAcceptedFile}
use Rattle.verifier.specs.Faults.{IsLoadFault}
use Rattle.verifier.specs.declared.error.LoadError.TheVariants as load
use Rattle.files.specs.Found.{Found, Disk, Gives, OfFile, IsLong}
use Rattle.files.specs.Failures.{HasFailed}
use Rattle.files.specs.declared.call.FileCall.{FileCall}
use Rattle.files.specs.declared.call.FileCall.TheVariants.{Read}
use Rattle.kbart_rows.specs.Cells.{Row, Holdings}
use Rattle.kbart_rows.specs.Reading.{AreLines, IsTable, IsFault}
use Rattle.kbart_rows.specs.declared.keys.Keys.{Keys}
use Rattle.kbart_rows.specs.declared.error.TableError.TheVariants as table
use Rattle.registry.specs.Targets.{TargetValue}
use Rattle.registry.specs.Refusals.{IsAddRefusal}
use Rattle.registry.specs.declared.error.AddErrorKind.TheVariants as add
use Rattle.kbart_rows.specs.RandomKeys.{IsDrawn}
use Rattle.registry_file.specs.Lines.{IsTargetLine, IsNoTargetLine}
use Rattle.registry_file.specs.declared.lines.TheConstants.{MAX_REGISTRY_BYTES}
use Rattle.registry_file.specs.declared.error.RegistryError.{RegistryError}
use Rattle.registry_file.specs.declared.error.RegistryError.TheVariants.{Device, Line, Target, NoMemory}
use Rattle.registry_file.specs.declared.error.TargetError.{TargetError}
use Rattle.registry_file.specs.declared.error.TargetFault.{TargetFault}
use Rattle.registry_file.specs.declared.error.TargetFault.TheVariants as fault

-- there is the file of a code that the verifier accepts
abbrev pub HasCode : Found → Type 0
HasCode found = OfFile found (λ bytes. (code : Code) × IsAcceptedFile bytes code)

-- there is the file of a table
abbrev pub HasTable : Found → Type 0
HasTable found = OfFile found (λ bytes. (table : Holdings) × IsTable bytes table)

-- ---- targets

-- the target of a line: its code and its table are the files at the line's two paths, and the table has these keys
pub record IsTargetAt (disk : Disk) (keys : Keys) (row : Row) (target : TargetValue) : Type 0 where
  pub code_path : Text
  pub table_path : Text
  pub line : IsTargetLine row target.name code_path table_path
  pub code : OfFile (disk code_path) (λ bytes. IsAcceptedFile bytes target.code)
  pub table : OfFile (disk table_path) (λ bytes. IsTable bytes target.table)
  pub keyed : target.table.keys ≡ keys

-- the lines are those of the targets, in their order
abbrev pub AreTargets : Disk → Keys → List Row → List TargetValue → Type 0
AreTargets disk keys [] [] = Unit {0}
AreTargets disk keys (row ∷ rows) (target ∷ targets) = IsTargetAt disk keys row target × AreTargets disk keys rows targets
AreTargets disk keys [] (target ∷ targets) = ⊥
AreTargets disk keys (row ∷ rows) [] = ⊥

-- the bytes are a registry file of the targets
pub record AreTargetsOf (disk : Disk) (keys : Keys) (bytes : Text) (targets : List TargetValue) : Type 0 where
  pub rows : List Row
  pub short : length bytes ≤ MAX_REGISTRY_BYTES
  pub lines : AreLines bytes rows
  pub held : AreTargets disk keys rows targets

-- ---- errors

-- a call of this kind failed at the path, between two states; before it, at the path was what is there on this disk
abbrev pub fails_on : {F : Type 0} → (F → Disk) → (F → FileCall → Text → F → Type 0) → Disk → F → FileCall → Text → F → Type 0
fails_on at fails disk old call path new = fails old call path new × (at old path ≡ disk path)

module _ {F : Type 0} (fails : F → FileCall → Text → F → Type 0) (disk : Disk) where
  -- a read failed, and the error has its path: that of the code or, if the code is accepted, that of the table
  abbrev pub IsUnread : Text → Text → Text → Type 0
  IsUnread code_path table_path named =
      ((named ≡ code_path) × HasFailed fails Read code_path) ⊎ (HasCode (disk code_path) × (named ≡ table_path) × HasFailed fails Read table_path)

  -- why a target with this name is not added to others: first its code, then its table, then what `add` checks; running out of memory is not among the reasons
  abbrev pub IsTargetFault : List TargetValue → Text → Text → Text → TargetFault → Type 0
  IsTargetFault targets name code_path table_path (fault.Device named) = IsUnread code_path table_path (string_bytes named)
  IsTargetFault targets name code_path table_path (fault.Load e) = (e ≢ load.NoMemory) × OfFile (disk code_path) (λ bytes. IsLoadFault bytes e)
  IsTargetFault targets name code_path table_path (fault.Table e) =
      (e ≢ table.NoMemory) × HasCode (disk code_path) × OfFile (disk table_path) (λ bytes. IsFault bytes e)
  IsTargetFault targets name code_path table_path (fault.Add kind) =
      (kind ≢ add.NoMemory) × HasCode (disk code_path) × HasTable (disk table_path) × IsAddRefusal targets name kind

  -- the line is that of a target that cannot be added to the others
  pub record IsRefusedTarget (targets : List TargetValue) (row : Row) (e : TargetError) : Type 0 where
    pub code_path : Text
    pub table_path : Text
    pub line : IsTargetLine row (string_bytes e.name) code_path table_path
    pub fault : IsTargetFault targets (string_bytes e.name) code_path table_path e.fault

  -- why the line of this number gives no further target
  abbrev pub IsRefusedLine : List TargetValue → ℕ → Row → RegistryError → Type 0
  IsRefusedLine targets number row (Line n) = (n ≡ number) × IsNoTargetLine row
  IsRefusedLine targets number row (Target e) = IsRefusedTarget targets row e
  IsRefusedLine targets number row NoMemory = Unit {0}
  IsRefusedLine targets number row Device = ⊥

  module _ (keys : Keys) where
    -- the lines before one are those of targets, and that one gives no target
    pub record StopsAtLine (rows : List Row) (e : RegistryError) : Type 0 where
      pub before : List Row
      pub row : Row
      pub after : List Row
      pub targets : List TargetValue
      pub whole : rows ≡ before ++ row ∷ after
      pub held : AreTargets disk keys before targets
      pub refused : IsRefusedLine targets (length before + 1) row e

    -- the bytes are not too many, and one of their lines gives no target
    pub record HasLineFault (bytes : Text) (e : RegistryError) : Type 0 where
      pub rows : List Row
      pub short : length bytes ≤ MAX_REGISTRY_BYTES
      pub lines : AreLines bytes rows
      pub stops : StopsAtLine rows e

    -- why bytes are not a registry file
    abbrev pub IsRegistryFault : Text → RegistryError → Type 0
    IsRegistryFault bytes (Line n) = HasLineFault bytes (Line n)
    IsRegistryFault bytes (Target e) = HasLineFault bytes (Target e)
    IsRegistryFault bytes NoMemory = Unit {0}
    IsRegistryFault bytes Device = ⊥

-- ---- registry files at paths

module _ {K : Type 0} (draws : K → ℕ → ℕ → K → Type 0) (disk : Disk) (old : K) (path : Text) (new : K) where
  -- the file at the path is a registry file of the targets; their tables have the keys that were drawn
  pub record IsLoaded (targets : List TargetValue) : Type 0 where
    pub bytes : Text
    pub keys : Keys
    pub file : Gives (disk path) bytes
    pub drawn : IsDrawn draws old keys new
    pub held : AreTargetsOf disk keys bytes targets

  -- the file at the path was read, keys were drawn, and a line gives no target
  pub record HasFileFault {F : Type 0} (fails : F → FileCall → Text → F → Type 0) (e : RegistryError) : Type 0 where
    pub bytes : Text
    pub keys : Keys
    pub file : Gives (disk path) bytes
    pub drawn : IsDrawn draws old keys new
    pub fault : HasLineFault fails disk keys bytes e

-- why the file at a path gives no registry, in this order: it cannot be read or is too long, and then no keys are drawn; no keys can be drawn; a line gives no
-- target. If memory runs out, no keys were drawn yet, or those of the tables were
abbrev pub IsNotLoaded : {F K : Type 0} → (F → FileCall → Text → F → Type 0) → (K → ℕ → ℕ → K → Type 0) → (K → K → Type 0)
    → Disk → K → Text → K → RegistryError → Type 0
IsNotLoaded fails draws no_keys disk old path new Device =
    (HasFailed fails Read path × (new ≡ old)) ⊎ (OfFile (disk path) (λ bytes. length bytes ≤ MAX_REGISTRY_BYTES) × no_keys old new)
IsNotLoaded fails draws no_keys disk old path new (Line n) =
    ((n ≡ 0) × IsLong MAX_REGISTRY_BYTES (disk path) × (new ≡ old)) ⊎ HasFileFault draws disk old path new fails (Line n)
IsNotLoaded fails draws no_keys disk old path new (Target e) = HasFileFault draws disk old path new fails (Target e)
IsNotLoaded fails draws no_keys disk old path new NoMemory = (new ≡ old) ⊎ ((keys : Keys) × IsDrawn draws old keys new)
