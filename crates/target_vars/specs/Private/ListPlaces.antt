-- Where the list of a name is.
use Rattle.std.specs.Prelude.{◌≡◌, ℕ, List, Result, MatchResult, Some, slice_get}
use Rattle.text_model.specs.Texts.{Text}
use Rattle.target_vars.specs.Private.NamesValue.{NamesValue, IsGap}
use Rattle.target_vars.specs.declared.place.Part.{Part}
use Rattle.target_vars.specs.declared.place.Place.{Place}
use Rattle.target_vars.specs.declared.place.Place.TheVariants.{One, Many}

-- the name is defined, and its place is that of a text
abbrev pub HasText : NamesValue → List Place → Text → Type 0
HasText names places name = (number : ℕ) × (part : Part) × (slice_get names.listed number ≡ Some name) × (slice_get places number ≡ Some (One part))

-- the number of the name, whose place is that of a list, or the gap for an undefined name
abbrev pub IsListPlace : NamesValue → List Place → Text → Result ℕ ℕ → Type 0
IsListPlace names places name found =
    MatchResult found (λ number. (slice_get names.listed number ≡ Some name) × (slice_get places number ≡ Some Many)) (IsGap names name)
