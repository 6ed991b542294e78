-- The errors of the program: their exit statuses, and what the error of a registry file becomes.
use Rattle.std.specs.Prelude.{ℕ, Result, Ok, Err}
use Rattle.std.specs.Borrow.{Bor}
use Rattle.text_model.specs.Texts.{Text}
use Rattle.registry_file.specs.declared.error.RegistryError.{RegistryError}
use Rattle.registry_file.specs.declared.error.RegistryError.TheVariants as file
use Rattle.registry_file.specs.declared.error.TargetFault.{TargetFault}
use Rattle.registry_file.specs.declared.error.TargetFault.TheVariants as target
use Rattle.answers.specs.Refusals.{status_of_refusal}
use Rattle.answers.specs.declared.refusal.Refusal.{Refusal}
use Rattle.answers.specs.declared.refusal.Refusal.TheVariants.{Memory}
use Rattle.commands.specs.declared.fault.Fault.{Fault}
use Rattle.commands.specs.declared.fault.Fault.TheVariants.{Usage, Refused, Warning, Registry, Target, Port, Device}

-- a target that is rejected because one of its files cannot be read has the status of a device error
abbrev pub status_of_target : TargetFault → ℕ
status_of_target (target.Device path) = 4
status_of_target fault = 3

abbrev pub status_of : Fault → ℕ
status_of Usage = 2
status_of (Refused refusal) = status_of_refusal refusal
status_of Warning = 1
status_of (Registry n) = 3
status_of (Target e) = status_of_target e.fault
status_of (Port text) = 4
status_of (Device path) = 4

abbrev pub out_of_memory : Fault
out_of_memory = Refused Memory

-- the answer, with its error as the program's
abbrev pub answered : {A : Type 0} → Result A Refusal → Result A Fault
answered (Ok a) = Ok a
answered (Err refusal) = Err (Refused refusal)

-- the error of the registry file at the path
abbrev pub registry_fault : Bor Text → RegistryError → Fault
registry_fault path file.Device = Device path
registry_fault path (file.Line n) = Registry n
registry_fault path (file.Target e) = Target e
registry_fault path file.NoMemory = out_of_memory
