use Rattle.std.proofs.Common.{◌≡◌, ◌||◌, Bool, true, false, cond, string_bytes, ap, refl, ◌∙◌}
use Rattle.std.proofs.lemmas.Map.Text.{hash_set_updates_text}
use Rattle.std.specs.Str.{bytes_eq}
use Rattle.text_model.specs.Texts.{Text}
use Rattle.rule_explanation.specs.Private.ListNames.{has}
use Rattle.rule_explanation.proofs.list_names.ListNames.add.Goals as goal

either : (is known : Bool) → cond is true known ≡ (known || is)
either true true = refl
either true false = refl
either false true = refl
either false false = refl

pub returns-clause-names : goal.returns-clause-names
returns-clause-names c = λ other.
    let known = has c.args.self.now other in
    let name = c.args.name.now in
    hash_set_updates_text (string_bytes c.in_ok-from_str.field-0) c.args.self.now.names c.insert.new.self true c.in_ok-insert.ensures.updates other
    ∙ ap (λ (text : Text). cond (bytes_eq text other) true known) c.in_ok-from_str.ensures.ok
    ∙ either (bytes_eq name other) known
