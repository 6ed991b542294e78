-- The arguments after `expand`.
use Rattle.std.specs.Prelude.{◌≡◌, ◌≢◌, List, [], ◌∷◌, ◌++◌, codes, Bool, false}
use Rattle.std.specs.List.{flat_map}
use Rattle.std.specs.Str.{bytes_eq}
use Rattle.text_model.specs.Texts.{Text}

-- the options that declare lists, each an argument `--list` and a name
abbrev pub list_options : List Text → List Text
list_options names = flat_map (λ name. codes "--list" ∷ name ∷ []) names

-- the arguments after `expand`: options, a template and a query; an argument `--list` before the template is always the option
pub record AreExpandArguments (arguments lists : List Text) (template query : Text) : Type 0 where
  pub whole : arguments ≡ list_options lists ++ template ∷ query ∷ []
  pub no_option : template ≢ codes "--list"

-- the arguments are not those after `expand`
abbrev pub NoExpandArguments : List Text → Type 0
NoExpandArguments arguments = (lists : List Text) (template query : Text) → AreExpandArguments arguments lists template query → ⊥

-- the first two arguments are `--list` and a name
abbrev pub begins_with_option : List Text → Bool
begins_with_option (option ∷ name ∷ arguments) = bytes_eq option (codes "--list")
begins_with_option arguments = false
