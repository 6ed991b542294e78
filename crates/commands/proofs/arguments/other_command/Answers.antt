use Rattle.std.proofs.Common.{◌≢◌, ◌≤◌, List, ◌∷◌, length, inl, inr, ap, arith}
use Rattle.std.specs.Prelude.{codes}
use Rattle.std.proofs.lemmas.List.{length-map}
use Rattle.text_model.specs.Texts.{Text}
use Rattle.commands.specs.Arguments.{AreNoArguments}
use Rattle.commands.specs.declared.arguments.Command.TheVariants.{Expand, Serve, Help}
use Rattle.commands.proofs.arguments.other_command.Goals as goal

-- only `expand` has more than three arguments
too_many : (name : Text) (rest : List Text) → 4 ≤ length rest → name ≢ codes "expand" → AreNoArguments (name ∷ rest)
too_many name rest many other (Expand e) h = other (cc (h.named))
too_many name rest many other (Serve s) h = omega (arith, many, ap length h.named)
too_many name rest many other Help (inl h) = omega (arith, many, ap length h)
too_many name rest many other Help (inr (inl h)) = omega (arith, many, ap length h)
too_many name rest many other Help (inr (inr h)) = omega (arith, many, ap length h)
too_many name rest many other command h = omega (arith, many, ap length h)

pub returns-in_default-clause-none : goal.returns-in_default-clause-none
returns-in_default-clause-none c =
    too_many _ _ (omega (arith, length-map c.args.rest.now (λ text. text.now))) c.requires
