-- Each name occurs once.
use Rattle.std.proofs.Common.{◌≡◌, [], ◌∷◌, ◌++◌, Bool, true, false, is_some, bytes_eq, refl, ap, arith}
use Rattle.text_model.specs.Texts.{Text}
use Rattle.environment_model.specs.Environment.{Environment, Entry, is_there, with_member}
use Rattle.environment_model.proofs.Environments.{look_up-empty, look_up-other, other_in_front, absent_after, is_there-append, with_member-new}
use Rattle.environment_model.proofs.Environments.{with_member-same, with_member-other, is_there-with_member}
use Rattle.environment_model.proofs.NameTests.{differs_back}
use Rattle.target_vars.specs.EnvValue.{EachNameOnce}

pub once-push : (env : Environment) (e : Entry) → EachNameOnce env → is_there env e.name ≡ false → EachNameOnce (env ++ e ∷ [])
once-push [] e once absent = (ap is_some (look_up-empty e.name), tt)
once-push (x ∷ env) e once absent =
    let alone : is_there (e ∷ []) x.name ≡ false = grind (arith, look_up-other, differs_back, other_in_front, look_up-empty) in
    (is_there-append env (e ∷ []) x.name once.0 alone, once-push env e once.1 (absent_after x env e.name absent))

once_longer : (env : Environment) (name t : Text) → is_there env name ≡ true → EachNameOnce env → EachNameOnce (with_member env name t)
once_longer [] name t there once = let none : is_there [] name ≡ false = ap is_some (look_up-empty name) in absurd (cc)
once_longer (e ∷ env) name t there once = by_cases (bytes_eq e.name name) refl (once_longer env name t)
  where
    by_cases : (b : Bool) → bytes_eq e.name name ≡ b → (is_there env name ≡ true → EachNameOnce env → EachNameOnce (with_member env name t))
        → EachNameOnce (with_member (e ∷ env) name t)
    by_cases b same following = grind (arith, with_member-same, look_up-other, with_member-other, is_there-with_member)

pub once-with_member : (env : Environment) (name t : Text) → EachNameOnce env → EachNameOnce (with_member env name t)
once-with_member env name t once = grind (arith, once_longer, with_member-new, once-push)
