-- Texts without the commands of LaTeX.
use Rattle.std.specs.Prelude.{◌≡◌, ℕ, ◌==◌, ◌||◌, nat_le, nat_lt, Bool, [], ◌∷◌, ◌++◌, length, drop, Option, None, if◌then◌else◌}
use Rattle.std.specs.List.{list_all}
use Rattle.std.specs.Option.{option_map, unwrap_or}
use Rattle.text_model.specs.Texts.{Text}
use Rattle.latex_text.specs.declared.commands.Command.{Command}
use Rattle.latex_text.specs.declared.places.Place.{Place}
use Rattle.latex_text.specs.declared.places.Place.TheVariants.{Start}
use Rattle.latex_text.specs.Places.{backslash, opening, next, has_commands, has_groups, follows_initial}
use Rattle.latex_text.specs.Groups.{opened, ungrouped}
use Rattle.latex_text.specs.Commands.{command_of, written}

-- what a command and the text after it are read as; a group after it is no argument then
abbrev pub done : Text → Command → Text
done t c = written c.character ++ ungrouped (drop c.len t)

-- what a byte at this place is read as, with the text after it that has been read; none if the byte stays
unfoldable pub changed : Place → ℕ → Text → Option Text
changed place b t =
    if b == backslash then (if has_commands place then option_map (done t) (command_of (follows_initial place) t) else None)
    else if b == opening then (if has_groups place then opened t else None) else None

abbrev pub put : Place → ℕ → Text → Text
put place b t = unwrap_or (changed place b t) (b ∷ t)

-- a text at this place, before a text that has been read; the last byte is read first
abbrev pub read_before : Place → Text → Text → Text
read_before place [] rest = rest
read_before place (b ∷ t) rest = put place b (read_before (next place b) t rest)

unfoldable pub read : Text → Text
read t = read_before Start t []

-- a text in which nothing is left to read
abbrev pub IsFree : Place → Text → Type 0
IsFree place [] = Unit {0}
IsFree place (b ∷ t) = (changed place b t ≡ None) × IsFree (next place b) t

-- spaces and control characters alone
abbrev pub is_blank : Text → Bool
is_blank t = list_all (λ b. nat_le b 0x20) t

-- the text without commands; one that is longer than 2,000 bytes stays, and so does one of which nothing would be left
abbrev pub without_latex : Text → Text
without_latex t = if nat_lt 2000 (length t) || is_blank (read t) then t else read t
