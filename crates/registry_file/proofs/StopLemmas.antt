-- Why a target is not added, from what is wrong with its files.
use Rattle.std.proofs.Common.{◌≡◌, inl, inr, List, subst, sym, ◌∙◌}
use Rattle.text_model.specs.Texts.{Text}
use Rattle.files.specs.Found.{Disk, OfFile}
use Rattle.files.specs.declared.call.FileCall.{FileCall}
use Rattle.registry.specs.Targets.{TargetValue}
use Rattle.registry.specs.Refusals.{IsAddRefusal}
use Rattle.registry.specs.declared.error.AddErrorKind.{AddErrorKind}
use Rattle.files.specs.Found.{Found, Absent, Gives}
use Rattle.kbart_rows.specs.Reading.{IsFault}
use Rattle.verifier.specs.Faults.{IsLoadFault}
use Rattle.verifier.specs.declared.error.LoadError.{LoadError}
use Rattle.kbart_rows.specs.declared.error.TableError.{TableError}
use Rattle.registry_file.specs.Loading.{HasCode, HasTable, IsTargetFault}
use Rattle.registry_file.specs.Private.Stops.{IsAddStop, IsFaultOf, IsLoadStop, IsNoCode, IsNotAdded, IsNoTable, IsStop, IsTableStop}
use Rattle.registry_file.specs.declared.stop.Stop.{Stop}
use Rattle.registry_file.specs.declared.stop.Stop.TheVariants.{Device, Load, Table, Add, NoMemory}
use Rattle.registry_file.specs.declared.error.TargetFault.{TargetFault}
use Rattle.registry_file.specs.declared.error.TargetFault.TheVariants as fault

module _ {F : Type 0} (fails : F → FileCall → Text → F → Type 0) (disk : Disk) (targets : List TargetValue) (name code_path table_path : Text) where
  pub no_code : (stop : Stop) → IsNoCode fails (disk code_path) code_path stop → IsStop fails disk targets name code_path table_path stop
  no_code (Device named) why = inl why
  no_code (Load e) why = why
  no_code (Table e) why = absurd why
  no_code (Add kind) why = absurd why
  no_code NoMemory why = tt

  pub no_table : (stop : Stop) → HasCode (disk code_path) → IsNoTable fails (disk table_path) table_path stop
      → IsStop fails disk targets name code_path table_path stop
  no_table (Device named) code why = inr (code, why.0, why.1)
  no_table (Load e) code why = absurd why
  no_table (Table e) code why = (why.0, code, why.1)
  no_table (Add kind) code why = absurd why
  no_table NoMemory code why = tt

  pub not_taken : (stop : Stop) → HasCode (disk code_path) → HasTable (disk table_path) → IsNotAdded targets name stop
      → IsStop fails disk targets name code_path table_path stop
  not_taken (Device named) code table why = absurd why
  not_taken (Load e) code table why = absurd why
  not_taken (Table e) code table why = absurd why
  not_taken (Add kind) code table why = (why.0, code, table, why.1)
  not_taken NoMemory code table why = tt

  -- the error that is named is that of the stop
  pub named_fault : (stop : Stop) (f : TargetFault) → IsStop fails disk targets name code_path table_path stop → IsFaultOf stop f
      → IsTargetFault fails disk targets name code_path table_path f
  named_fault stop (fault.Device named) why is =
      let why2 : IsStop fails disk targets name code_path table_path (Device is.0) = subst (IsStop fails disk targets name code_path table_path) is.1 why in
      rw is.2 why2
  named_fault stop (fault.Load e) why is = subst (IsStop fails disk targets name code_path table_path) is why
  named_fault stop (fault.Table e) why is = subst (IsStop fails disk targets name code_path table_path) is why
  named_fault stop (fault.Add kind) why is = subst (IsStop fails disk targets name code_path table_path) is why

-- `add` refused the target
pub not_added : (targets : List TargetValue) (name : Text) (kind : AddErrorKind) (stop : Stop) → IsAddRefusal targets name kind → IsAddStop kind stop
    → IsNotAdded targets name stop
not_added targets name kind (Device named) why is = absurd is
not_added targets name kind (Load e) why is = absurd is
not_added targets name kind (Table e) why is = absurd is
not_added targets name kind (Add told) why is = (λ same. is.1 (sym is.0 ∙ same), subst (IsAddRefusal targets name) (sym is.0) why)
not_added targets name kind NoMemory why is = tt

-- the file was read, and is no code
pub code_refused : {F : Type 0} (fails : F → FileCall → Text → F → Type 0) (found : Found) (path : Text) (e : LoadError) (stop : Stop)
    → OfFile found (λ bytes. IsLoadFault bytes e) → IsLoadStop e stop → IsNoCode fails found path stop
code_refused fails found path e (Device named) why is = absurd is
code_refused fails found path e (Load told) why is =
    (λ same. is.1 (sym is.0 ∙ same), subst (λ e. OfFile found (λ bytes. IsLoadFault bytes e)) (sym is.0) why)
code_refused fails found path e (Table f) why is = absurd is
code_refused fails found path e (Add kind) why is = absurd is
code_refused fails found path e NoMemory why is = tt

-- the file was read, and is not a table
pub table_refused : {F : Type 0} (fails : F → FileCall → Text → F → Type 0) (found : Found) (path : Text) (e : TableError) (stop : Stop)
    → OfFile found (λ bytes. IsFault bytes e) → IsTableStop e stop → IsNoTable fails found path stop
table_refused fails found path e (Device named) why is = absurd is
table_refused fails found path e (Load f) why is = absurd is
table_refused fails found path e (Table told) why is =
    (λ same. is.1 (sym is.0 ∙ same), subst (λ e. OfFile found (λ bytes. IsFault bytes e)) (sym is.0) why)
table_refused fails found path e (Add kind) why is = absurd is
table_refused fails found path e NoMemory why is = tt

-- a file that was read is one that exists
pub exists : {A : Type 0} (found : Found) (bytes : Text) → Gives found bytes → found ≡ Absent → A
exists found bytes gives absent = absurd (subst (λ found. Gives found bytes) absent gives)
