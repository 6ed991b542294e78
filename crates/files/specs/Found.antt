-- What is known to be at a path, as an implementer of `Files` says.
use Rattle.std.specs.Prelude.{◌≡◌, ℕ, ◌+◌, ◌<◌, length, take}
use Rattle.text_model.specs.Texts.{Text}

pub data Found : Type 0 where
  -- the implementer does not say what is at the path; for the files of the system, this is so for all paths
  NotTold : Found
  Absent : Found
  -- a new file that is still being written, or was never finished
  Unfinished : Found
  -- a regular file of these bytes, which are stored
  File : Text → Found
  -- something that is not a regular file, such as a folder, a device or a symbolic link
  Other : Found

-- what is known about each path
abbrev pub Disk : Type 0
Disk = Text → Found

-- there is a file of these bytes, unless nothing is known about the path
abbrev pub IsFile : Found → Text → Type 0
IsFile NotTold bytes = Unit {0}
IsFile Absent bytes = ⊥
IsFile Unfinished bytes = ⊥
IsFile (File all) bytes = all ≡ bytes
IsFile Other bytes = ⊥

-- there is nothing, unless nothing is known about the path
abbrev pub IsFree : Found → Type 0
IsFree NotTold = Unit {0}
IsFree Absent = Unit {0}
IsFree Unfinished = ⊥
IsFree (File all) = ⊥
IsFree Other = ⊥

-- a read to the end can return these bytes: those of the file, if a file is known to be there
abbrev pub Gives : Found → Text → Type 0
Gives NotTold bytes = Unit {0}
Gives Absent bytes = ⊥
Gives Unfinished bytes = Unit {0}
Gives (File all) bytes = all ≡ bytes
Gives Other bytes = Unit {0}

-- a read to the limit can return these bytes: the first `limit` + 1 bytes of the file, if a file is known to be there
abbrev pub IsFrontOf : ℕ → Found → Text → Type 0
IsFrontOf limit NotTold front = Unit {0}
IsFrontOf limit Absent front = ⊥
IsFrontOf limit Unfinished front = Unit {0}
IsFrontOf limit (File all) front = front ≡ take (limit + 1) all
IsFrontOf limit Other front = Unit {0}

-- the property holds for bytes that a read to the end can return: for those of the file, if a file is known to be there
abbrev pub OfFile : Found → (Text → Type 0) → Type 0
OfFile found P = (bytes : Text) × Gives found bytes × P bytes

-- there are more bytes than the limit
abbrev pub IsLong : ℕ → Found → Type 0
IsLong limit found = OfFile found (λ bytes. limit < length bytes)
