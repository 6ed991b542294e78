-- A file that is placed as a whole: it is written at `PATH.new`, and renamed.
use Rattle.std.specs.Prelude.{◌≡◌, ◌≢◌, ◌⊎◌, ◌++◌, codes}
use Rattle.text_model.specs.Texts.{Text}
use Rattle.files.specs.Found.{Disk, Other, IsFile, IsFree}
use Rattle.files.specs.Changes.{ChangesOnly, Unchanged}
use Rattle.files.specs.Modes.{Modes, IsKeptMode}
use Rattle.files.specs.Failures.{HasFailedThere}
use Rattle.files.specs.declared.call.FileCall.{FileCall}
use Rattle.files.specs.declared.call.FileCall.TheVariants.{Check, Create, SetMode, Write, Keep, Rename, Remove}

-- the path of the new file
abbrev pub beside : Text → Text
beside path = path ++ codes ".new"

-- before, there was a regular file or nothing at the path, and nothing at that of the new file; after, the file of these bytes is at the path, and nothing else
-- has changed
pub record IsPlaced (old : Disk) (path bytes : Text) (new : Disk) : Type 0 where
  pub regular : old path ≢ Other
  pub free : IsFree (old (beside path))
  pub placed : IsFile (new path) bytes
  pub others : ChangesOnly path old new

-- the calls that give a new file its mode and its bytes, store it and rename it
abbrev pub IsDraftCall : FileCall → Type 0
IsDraftCall SetMode = Unit {0}
IsDraftCall Write = Unit {0}
IsDraftCall Keep = Unit {0}
IsDraftCall Rename = Unit {0}
IsDraftCall other = ⊥

module _ {F : Type 0} (at : F → Disk) (fails : F → FileCall → Text → F → Type 0) where
  -- nothing has changed; or only the new file is left, since at last its removal failed
  pub record IsAsBefore (old : Disk) (path : Text) (new : F) : Type 0 where
    pub others : ChangesOnly (beside path) old (at new)
    pub nothing_left : (at new (beside path) ≡ old (beside path)) ⊎ HasFailedThere at fails old Remove (beside path) new

  -- one of these calls on the new file failed, once it was there
  abbrev pub IsDraftFailure : Disk → Text → Type 0
  IsDraftFailure old other = (call : FileCall) × (after : F) × IsDraftCall call × HasFailedThere at fails old call other after

  -- no new file is written: its creation failed, before which nothing had changed; or its path was free, and a call on it failed
  pub data IsUnwritten (old : Disk) (path : Text) (new : F) : Type 0 where
    no_draft : (before : F) → Unchanged old (at before) → fails before Create (beside path) new → IsUnwritten old path new
    no_file : IsFree (old (beside path)) → IsDraftFailure old (beside path) → IsUnwritten old path new

  -- why nothing is placed: the check of the path failed, before any other call; or there is a regular file or nothing, and no new file is written
  pub data IsPlaceFailure (old : F) (path : Text) (new : F) : Type 0 where
    no_check : fails old Check path new → IsPlaceFailure old path new
    unwritten : at old path ≢ Other → IsUnwritten (at old) path new → IsPlaceFailure old path new

  -- no call was made, or one of these calls ran out of memory
  abbrev pub IsPlaceShortage : F → Text → F → Type 0
  IsPlaceShortage old path new = (new ≡ old) ⊎ IsPlaceFailure old path new

-- the file at the path has the mode of the file that was there, and no mode has changed at other paths, except at that of the new file
pub record KeepsModes (old : Modes) (path : Text) (new : Modes) : Type 0 where
  pub kept : IsKeptMode (old path) (new path)
  pub others : (other : Text) → other ≢ path → other ≢ beside path → new other ≡ old other
