-- What the names of a code are bound to.
use Rattle.std.specs.Prelude.{◌≡◌, ℕ, List, [], ◌++◌, length, slice_get, Some, None}
use Rattle.text_model.specs.Texts.{Text}
use Rattle.environment_model.specs.Environment.{Environment, text_of, members_of}
use Rattle.target_vars.specs.EnvValue.{EnvValue, IsTextAt, AreMembersAt}
use Rattle.row_scope.specs.declared.binding.Binding.{Binding}
use Rattle.row_scope.specs.declared.binding.Binding.TheVariants as binding

-- the binding says what the environment has under the name
abbrev pub IsBound : EnvValue → Text → Binding → Type 0
IsBound env name binding.Nothing = (text_of env.entries name ≡ None) × (members_of env.entries name ≡ [])
IsBound env name (binding.Text start len) = IsTextAt env name (start, len) × (members_of env.entries name ≡ [])
IsBound env name (binding.List first count) = (text_of env.entries name ≡ None) × AreMembersAt env name first count

-- each name has its binding, in their order
pub record AreBound (env : EnvValue) (names : List Text) (bindings : List Binding) : Type 0 where
  pub one_each : length bindings ≡ length names
  pub bound : (i : ℕ) (name : Text) (b : Binding) → slice_get names i ≡ Some name → slice_get bindings i ≡ Some b → IsBound env name b

-- ---- where texts and members are

-- entries whose texts and members are in the buffer of a request's values
abbrev pub laid_in : EnvValue → Environment → EnvValue
laid_in values entries = record { entries = entries; buffer = values.buffer; seam = length values.buffer; spans = values.spans }

-- entries whose texts and members are in that buffer or, after it, in a row's line
abbrev pub laid_over : EnvValue → Text → Environment → EnvValue
laid_over values line entries = record { entries = entries; buffer = values.buffer ++ line; seam = length values.buffer; spans = values.spans }
