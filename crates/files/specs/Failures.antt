-- Calls that failed, as an implementer's `fails` says. Code that is generic over `Files` can know these facts only from calls that failed.
use Rattle.std.specs.Prelude.{◌≢◌}
use Rattle.text_model.specs.Texts.{Text}
use Rattle.files.specs.Found.{Disk, Absent}
use Rattle.files.specs.Changes.{ChangesOnly}
use Rattle.files.specs.declared.call.FileCall.{FileCall}

-- a call of this kind at the path failed
abbrev pub HasFailed : {F : Type 0} → (F → FileCall → Text → F → Type 0) → FileCall → Text → Type 0
HasFailed {F = F} fails call path = (old : F) × (new : F) × fails old call path new

-- a call of this kind at the path failed while something was there, and nothing at other paths had changed
pub record HasFailedThere {F : Type 0} (at : F → Disk) (fails : F → FileCall → Text → F → Type 0) (old : Disk) (call : FileCall) (path : Text) (new : F)
    : Type 0 where
  pub before : F
  pub there : at before path ≢ Absent
  pub others : ChangesOnly path old (at before)
  pub failed : fails before call path new
