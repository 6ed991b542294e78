-- What the values of the program denote.
use Rattle.machine_model.specs.Values as value
use Rattle.target_vars.specs.Members.{members_left}
use Rattle.checked_machine.specs.declared.value.Value.{Value}
use Rattle.checked_machine.specs.declared.value.Value.TheVariants as held

abbrev pub value_of : Value → value.Value
value_of held.Nothing = value.Nothing
value_of held.Undefined = value.Undefined
value_of (held.Text t) = value.Text t.now
value_of (held.List m) = value.List (members_left m)
value_of (held.Number n) = value.Number n
