use Rattle.std.proofs.Common.{◌≡◌, [], ◌∷◌, inl, inr}
use Rattle.std.specs.Prelude.{codes}
use Rattle.text_model.specs.Texts.{Text}
use Rattle.commands.specs.Service.{IsServiceOf}
use Rattle.commands.specs.Arguments.{AreNoArguments}
use Rattle.commands.specs.declared.service.Service.{Service}
use Rattle.commands.specs.declared.arguments.Command.TheVariants.{Expand, Serve, Help}
use Rattle.commands.proofs.arguments.of_three_arguments.Goals as goal

-- `serve` with three other arguments is no command
no_service : (registry port count : Text) → ((service : Service) → IsServiceOf registry port count service → ⊥)
    → AreNoArguments (codes "serve" ∷ registry ∷ port ∷ count ∷ [])
no_service registry port count wrong (Serve s) h =
    let one : registry ≡ h.registry = cc (h.named) in
    let two : port ≡ h.port = cc (h.named) in
    let three : count ≡ h.count = cc (h.named) in
    wrong s (rw (one, two, three) h.given)
no_service registry port count wrong (Expand e) h = cc (h.named)
no_service registry port count wrong Help (inl h) = cc (h)
no_service registry port count wrong Help (inr (inl h)) = cc (h)
no_service registry port count wrong Help (inr (inr h)) = cc (h)
no_service registry port count wrong other h = cc (h)

pub returns-in_err-parse-in-serve-clause-none : goal.returns-in_err-parse-in-serve-clause-none
returns-in_err-parse-in-serve-clause-none c =
    rw (c.from_residual.ensures, c.in-serve.is) (no_service _ _ _ c.in_err-parse-in-serve.ensures.none)
