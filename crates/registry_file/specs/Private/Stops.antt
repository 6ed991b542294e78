-- Why a target is not added, without the target's name.
use Rattle.std.specs.Prelude.{◌≡◌, ◌≢◌, List, string_bytes}
use Rattle.std.specs.Borrow.{Bor}
use Rattle.text_model.specs.Texts.{Text}
use Rattle.verifier.specs.Accepted.{IsAcceptedFile}
use Rattle.verifier.specs.Faults.{IsLoadFault}
use Rattle.verifier.specs.declared.error.LoadError.{LoadError}
use Rattle.verifier.specs.declared.error.LoadError.TheVariants as load
use Rattle.files.specs.Found.{Found, Disk, OfFile}
use Rattle.files.specs.Failures.{HasFailed}
use Rattle.files.specs.declared.call.FileCall.{FileCall}
use Rattle.files.specs.declared.call.FileCall.TheVariants.{Read}
use Rattle.files.specs.declared.error.FileError.{FileError}
use Rattle.files.specs.declared.error.FileError.TheVariants as file
use Rattle.files.specs.declared.error.ReadError.{ReadError}
use Rattle.files.specs.declared.error.ReadError.TheVariants as read
use Rattle.kbart_rows.specs.Reading.{IsTable, IsFault}
use Rattle.kbart_rows.specs.declared.keys.Keys.{Keys}
use Rattle.kbart_rows.specs.declared.error.TableError.{TableError}
use Rattle.kbart_rows.specs.declared.error.TableError.TheVariants as table
use Rattle.registry.specs.Targets.{TargetValue}
use Rattle.registry.specs.Refusals.{IsAddRefusal}
use Rattle.registry.specs.declared.error.AddErrorKind.{AddErrorKind}
use Rattle.registry.specs.declared.error.AddErrorKind.TheVariants as add
use Rattle.registry_file.specs.Loading.{IsTargetFault, IsUnread}
use Rattle.registry_file.specs.declared.error.RegistryError.{RegistryError}
use Rattle.registry_file.specs.declared.error.RegistryError.TheVariants as error
use Rattle.registry_file.specs.declared.error.TargetFault.{TargetFault}
use Rattle.registry_file.specs.declared.error.TargetFault.TheVariants as fault
use Rattle.registry_file.specs.declared.stop.Stop.{Stop}
use Rattle.registry_file.specs.declared.stop.Stop.TheVariants.{Device, Load, Table, Add, NoMemory}

-- ---- errors of calls

-- why the registry file cannot be read
abbrev pub error_of_read : ReadError → RegistryError
error_of_read read.TooLong = error.Line 0
error_of_read (read.File file.Failed) = error.Device
error_of_read (read.File file.NoMemory) = error.NoMemory

-- why the file at a path cannot be read
abbrev pub stop_of_file : FileError → Bor Text → Stop
stop_of_file file.Failed path = Device path
stop_of_file file.NoMemory path = NoMemory

-- each error, except that memory ran out, is a reason to reject the target

abbrev pub IsLoadStop : LoadError → Stop → Type 0
IsLoadStop e (Load told) = (told ≡ e) × (e ≢ load.NoMemory)
IsLoadStop e NoMemory = e ≡ load.NoMemory
IsLoadStop e other = ⊥

abbrev pub IsTableStop : TableError → Stop → Type 0
IsTableStop e (Table told) = (told ≡ e) × (e ≢ table.NoMemory)
IsTableStop e NoMemory = e ≡ table.NoMemory
IsTableStop e other = ⊥

abbrev pub IsAddStop : AddErrorKind → Stop → Type 0
IsAddStop kind (Add told) = (told ≡ kind) × (kind ≢ add.NoMemory)
IsAddStop kind NoMemory = kind ≡ add.NoMemory
IsAddStop kind other = ⊥

-- ---- stops

-- why a target of this name, whose files were read, is not added to others
abbrev pub IsNotAdded : List TargetValue → Text → Stop → Type 0
IsNotAdded targets name (Add kind) = (kind ≢ add.NoMemory) × IsAddRefusal targets name kind
IsNotAdded targets name NoMemory = Unit {0}
IsNotAdded targets name other = ⊥

module _ {F : Type 0} (fails : F → FileCall → Text → F → Type 0) where
  -- why what is at a path is not accepted code
  abbrev pub IsNoCode : Found → Text → Stop → Type 0
  IsNoCode found path (Device named) = (named.now ≡ path) × HasFailed fails Read path
  IsNoCode found path (Load e) = (e ≢ load.NoMemory) × OfFile found (λ bytes. IsLoadFault bytes e)
  IsNoCode found path NoMemory = Unit {0}
  IsNoCode found path other = ⊥

  -- why what is at a path is not a table
  abbrev pub IsNoTable : Found → Text → Stop → Type 0
  IsNoTable found path (Device named) = (named.now ≡ path) × HasFailed fails Read path
  IsNoTable found path (Table e) = (e ≢ table.NoMemory) × OfFile found (λ bytes. IsFault bytes e)
  IsNoTable found path NoMemory = Unit {0}
  IsNoTable found path other = ⊥

  -- why a target is not added to others
  abbrev pub IsStop : Disk → List TargetValue → Text → Text → Text → Stop → Type 0
  IsStop disk targets name code_path table_path (Device named) = IsUnread fails disk code_path table_path named.now
  IsStop disk targets name code_path table_path (Load e) = IsTargetFault fails disk targets name code_path table_path (fault.Load e)
  IsStop disk targets name code_path table_path (Table e) = IsTargetFault fails disk targets name code_path table_path (fault.Table e)
  IsStop disk targets name code_path table_path (Add kind) = IsTargetFault fails disk targets name code_path table_path (fault.Add kind)
  IsStop disk targets name code_path table_path NoMemory = Unit {0}

-- the error of a target that is not added
abbrev pub IsFaultOf : Stop → TargetFault → Type 0
IsFaultOf stop (fault.Device named) = (path : Bor Text) × (stop ≡ Device path) × (string_bytes named ≡ path.now)
IsFaultOf stop (fault.Load e) = stop ≡ Load e
IsFaultOf stop (fault.Table e) = stop ≡ Table e
IsFaultOf stop (fault.Add kind) = stop ≡ Add kind

-- ---- targets

-- the target has this name, and the code and the table of the files at the two paths
pub record IsTargetOf (disk : Disk) (keys : Keys) (name code_path table_path : Text) (target : TargetValue) : Type 0 where
  pub named : target.name ≡ name
  pub code : OfFile (disk code_path) (λ bytes. IsAcceptedFile bytes target.code)
  pub table : OfFile (disk table_path) (λ bytes. IsTable bytes target.table)
  pub keyed : target.table.keys ≡ keys
