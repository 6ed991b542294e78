-- Where in a template `/`, `?` or `#` comes next. For private contracts.
use Rattle.std.specs.Prelude.{◌≡◌, ℕ, ◌≤◌, ◌+◌, Bool, List, length, get_or, drop}
use Rattle.uri_grammar.specs.declared.parts.Part.{Part}
use Rattle.rule_lint.specs.Host.{ends_next}

-- from one place on it is said before each part, and after the last one
pub record AreEnds (ends : List Bool) (parts : List Part) (first : ℕ) : Type 0 where
  pub count : length ends ≡ length parts + 1
  pub each : (k : ℕ) (d : Bool) → first ≤ k → k ≤ length parts → get_or ends k d ≡ ends_next (drop k parts)
