-- Any command, and the text after it.
use Rattle.std.proofs.Common.{◌≡◌, ◌⊎◌, inl, inr, [], ◌∷◌}
use Rattle.std.proofs.Common.{Bool, Option, Some, None}
use Rattle.std.specs.Prelude.{◌&&◌}
use Rattle.std.proofs.lemmas.Bool.{and_parts}
use Rattle.text_model.specs.Texts.{Text}
use Rattle.latex_text.specs.declared.commands.Command.{Command}
use Rattle.latex_text.specs.Commands.{accent}
use Rattle.latex_text.specs.Commands.{named, reserved}
use Rattle.latex_text.specs.Commands.{is_quoted, apostrophe, or_else, command_of}
use Rattle.latex_text.proofs.TakenCommands.{IsTaken}
use Rattle.latex_text.proofs.AccentsTaken.{argument_taken}
use Rattle.latex_text.proofs.NamesTaken.{name_taken}
use Rattle.latex_text.proofs.SignsTaken.{sign_command, apostrophe_taken}

-- ---- commands

pub either_some : (o other : Option Command) (p : Command) → or_else o other ≡ Some p → (o ≡ Some p) ⊎ (other ≡ Some p)
either_some None other p h = inr h
either_some (Some c) other p h = inl h

pub accent_command : (t : Text) (p : Command) → accent t ≡ Some p → IsTaken t p
accent_command [] p h = cc
accent_command (a ∷ t) p h = argument_taken a t p h

pub taken : (i : Bool) (t : Text) (p : Command) → command_of i t ≡ Some p → IsTaken t p
unfolding command_of
taken i t p h =
    by_initial (either_some (apostrophe (i && is_quoted t))
    (or_else (accent t) (or_else (named t) (or_else (reserved t) (apostrophe (is_quoted t))))) p h)
  where
    by_last : (reserved t ≡ Some p) ⊎ (apostrophe (is_quoted t) ≡ Some p) → IsTaken t p
    by_last (inl e) = sign_command t p e
    by_last (inr e) = apostrophe_taken (is_quoted t) t p (λ is. is) e

    by_name : (named t ≡ Some p) ⊎ (or_else (reserved t) (apostrophe (is_quoted t)) ≡ Some p) → IsTaken t p
    by_name (inl e) = name_taken t p e
    by_name (inr e) = by_last (either_some (reserved t) (apostrophe (is_quoted t)) p e)

    by_accent : (accent t ≡ Some p) ⊎ (or_else (named t) (or_else (reserved t) (apostrophe (is_quoted t))) ≡ Some p) → IsTaken t p
    by_accent (inl e) = accent_command t p e
    by_accent (inr e) = by_name (either_some (named t) (or_else (reserved t) (apostrophe (is_quoted t))) p e)

    by_initial : (apostrophe (i && is_quoted t) ≡ Some p)
        ⊎ (or_else (accent t) (or_else (named t) (or_else (reserved t) (apostrophe (is_quoted t)))) ≡ Some p) → IsTaken t p
    by_initial (inl e) = apostrophe_taken (i && is_quoted t) t p (λ is. (and_parts i (is_quoted t) is).1) e
    by_initial (inr e) = by_accent (either_some (accent t) (or_else (named t) (or_else (reserved t) (apostrophe (is_quoted t)))) p e)
