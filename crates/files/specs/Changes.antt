-- What calls on files change. A path about which nothing is known stays unknown.
use Rattle.std.specs.Prelude.{◌≡◌, ◌≢◌}
use Rattle.text_model.specs.Texts.{Text}
use Rattle.files.specs.Found.{Found, Disk, NotTold, Absent, Unfinished, File, Other}

-- after the removal there is nothing at the path
abbrev pub removed : Found → Found
removed NotTold = NotTold
removed Absent = Absent
removed Unfinished = Absent
removed (File all) = Absent
removed Other = Absent

-- after the creation there is a new file, which is being written
abbrev pub created : Found → Found
created NotTold = NotTold
created Absent = Unfinished
created Unfinished = Unfinished
created (File all) = Unfinished
created Other = Unfinished

-- after the file is finished, there is a file of these bytes
abbrev pub kept : Text → Found → Found
kept bytes NotTold = NotTold
kept bytes Absent = File bytes
kept bytes Unfinished = File bytes
kept bytes (File all) = File bytes
kept bytes Other = File bytes

-- each path is as it was
abbrev pub Unchanged : Disk → Disk → Type 0
Unchanged old new = (path : Text) → new path ≡ old path

-- each path except this one is as it was
abbrev pub ChangesOnly : Text → Disk → Disk → Type 0
ChangesOnly path old new = (other : Text) → other ≢ path → new other ≡ old other
