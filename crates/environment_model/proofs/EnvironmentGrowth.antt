-- How much an environment grows at most when a text or a member is added.
use Rattle.std.proofs.Common.{◌+◌, ◌≤◌, [], ◌∷◌, length, arith}
use Rattle.std.proofs.lemmas.Grind.{common_steps}
use Rattle.text_model.specs.Texts.{Text}
use Rattle.environment_model.specs.Environment.{Environment, byte_count, member_count, with_text, with_member}

-- ---- a text is added

pub byte_count-with_text-le : (env : Environment) (name t : Text) → byte_count (with_text env name t) ≤ byte_count env + length t
byte_count-with_text-le env name t = grind (arith, common_steps)

-- ---- a member is added

pub byte_count-with_member-le : (env : Environment) (name member : Text) → byte_count (with_member env name member) ≤ byte_count env + length member
unfolding with_member
byte_count-with_member-le [] name member = omega arith
byte_count-with_member-le (e ∷ env) name member = grind (arith, common_steps, byte_count-with_member-le env name member)

pub member_count-with_member-le : (env : Environment) (name member : Text) → member_count (with_member env name member) ≤ member_count env + 1
unfolding with_member
member_count-with_member-le [] name member = omega arith
member_count-with_member-le (e ∷ env) name member = grind (arith, common_steps, member_count-with_member-le env name member)
