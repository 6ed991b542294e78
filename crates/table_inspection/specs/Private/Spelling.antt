-- How a name is spelled byte by byte.
use Rattle.std.specs.Prelude.{ℕ, ◌&&◌, Bool, not, [], ◌∷◌, ◌++◌, if◌then◌else◌}
use Rattle.std.specs.Char.{is_ascii_alphabetic, to_ascii_lowercase}
use Rattle.text_model.specs.Texts.{Text}
use Rattle.table_inspection.specs.Columns.{is_empty_text, underscore, underscored, without_first_underscore}

-- the spelling so far after one more byte; the flag says whether the byte before it was not a letter
abbrev pub next_name : Text → Bool → ℕ → Text
next_name name is_after_other b =
    if is_ascii_alphabetic b
    then (if is_after_other && not (is_empty_text name) then (name ++ underscore ∷ []) ++ to_ascii_lowercase b ∷ [] else name ++ to_ascii_lowercase b ∷ [])
    else name

-- the spelling so far, continued with the spelling of the rest of a name
abbrev pub continued : Text → Bool → Text → Text
continued name is_after_other rest =
    if is_empty_text name then without_first_underscore rest else (if is_after_other then underscored rest else rest)
