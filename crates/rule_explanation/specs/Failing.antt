-- Which rules do not hold, which guard of each fails, and which rule holds. Rules and guards count from 1.
use Rattle.std.specs.Prelude.{ℕ, Bool, not, List, Option}
use Rattle.std.specs.List.{before_first, enumerate_from, find}
use Rattle.environment_model.specs.Environment.{LookUp}
use Rattle.rule_parser.specs.declared.rule.Guard.{Guard}
use Rattle.rule_parser.specs.declared.rule.Rule.{Rule}
use Rattle.rule_parser.specs.Meaning.{guard_holds, guards_hold}

-- each item with its number
abbrev pub numbered : {A : Type 0} → List A → List (ℕ × A)
numbered items = enumerate_from 1 items

abbrev pub guard_fails : LookUp → ℕ × Guard → Bool
guard_fails look (place, guard) = not (guard_holds look guard)

abbrev pub rule_holds : LookUp → ℕ × Rule → Bool
rule_holds look (place, rule) = guards_hold look rule

-- the first guard that fails
abbrev pub failing_guard : LookUp → List Guard → Option (ℕ × Guard)
failing_guard look guards = find (guard_fails look) (numbered guards)

-- the first rule that holds
abbrev pub holding_rule : LookUp → List Rule → Option (ℕ × Rule)
holding_rule look rules = find (rule_holds look) (numbered rules)

-- the rules before the first that holds; all of them if none holds
abbrev pub failing_rules : LookUp → List Rule → List (ℕ × Rule)
failing_rules look rules = before_first (rule_holds look) (numbered rules)
