-- What is known about files in memory.
use Rattle.std.specs.Prelude.{◌≡◌, ◌≢◌, ℕ, Option, Some, None, option_map}
use Rattle.text_model.specs.Texts.{Text}
use Rattle.std.specs.BTreeMap.{get_by_text}
use Rattle.files.specs.Found.{Found, Disk, Absent}
use Rattle.files.specs.Found as found
use Rattle.files.specs.declared.call.FileCall.{FileCall}
use Rattle.files.specs.declared.call.FileCall.TheVariants as call
use Rattle.files.specs.Modes.{Modes}
use Rattle.files_in_memory.specs.declared.content.Content.{Content}
use Rattle.files_in_memory.specs.declared.content.Entry.{Entry}
use Rattle.files_in_memory.specs.declared.content.Content.TheVariants.{Unfinished, File, Other}
use Rattle.files_in_memory.specs.declared.memory.Memory.{Memory}

abbrev pub found_of : Option Content → Found
found_of None = Absent
found_of (Some Unfinished) = found.Unfinished
found_of (Some (File bytes)) = found.File bytes.items
found_of (Some Other) = found.Other

abbrev pub content_of : Option Entry → Found
content_of entry = found_of (option_map (λ e. e.content) entry)

-- what is at each path
abbrev pub disk_of : Memory → Disk
disk_of memory path = content_of (get_by_text memory.files path)

abbrev pub mode_of : Option Entry → Option ℕ
mode_of None = None
mode_of (Some entry) = entry.mode

-- the mode of what is at each path, if it has one
abbrev pub modes_of : Memory → Modes
modes_of memory path = mode_of (get_by_text memory.files path)

-- why a call fails, by what is at its path: a read finds no regular file, a check finds something else, a new file is already there, and what is renamed or
-- removed is not. No other call fails
abbrev pub IsRefusedCall : FileCall → Found → Type 0
IsRefusedCall call.Read at = (bytes : Text) → at ≢ found.File bytes
IsRefusedCall call.Check at = at ≡ found.Other
IsRefusedCall call.Create at = at ≢ Absent
IsRefusedCall call.Rename at = at ≡ Absent
IsRefusedCall call.Remove at = at ≡ Absent
IsRefusedCall other at = ⊥

-- a call failed between two states because of what was at its path before it
abbrev pub HasRefused : Memory → FileCall → Text → Memory → Type 0
HasRefused old call path new = IsRefusedCall call (disk_of old path)
