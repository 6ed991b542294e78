-- After one more text or member, every other name is bound to what it was bound to before.
use Rattle.std.proofs.Common.{◌≡◌, Bool, false, [], ◌∷◌, ◌++◌, bytes_eq, refl, ap, ◌∙◌, arith}
use Rattle.std.proofs.lemmas.Slice.Eq.{bytes_eq-Decides}
use Rattle.text_model.specs.Texts.{Text}
use Rattle.environment_model.specs.Environment.{Environment, Single, Several, look_up, is_there, with_text, with_member}
use Rattle.environment_model.proofs.Environments.{look_up-same, look_up-other, with_text-new, with_member-empty}
use Rattle.environment_model.proofs.Environments.{with_member-same, with_member-other}

pub with_text-differs : (env : Environment) (key t other : Text) → bytes_eq key other ≡ false → look_up (with_text env key t) other ≡ look_up env other
with_text-differs env key t other differs = by_test (is_there env key) refl
  where
    last : Environment
    last = record { name = key; meaning = Single t } ∷ []

    none_last : look_up last other ≡ look_up [] other
    none_last = look_up-other (record { name = key; meaning = Single t }) [] other differs

    appended : (es : Environment) → look_up (es ++ last) other ≡ look_up es other
    appended [] = none_last
    appended (e ∷ es) = grind (arith, look_up-same, look_up-other, appended es)

    by_test : (b : Bool) → is_there env key ≡ b → look_up (with_text env key t) other ≡ look_up env other
    by_test b known = grind (arith, with_text-new, appended)

pub with_member-differs : (env : Environment) (key t other : Text) → bytes_eq key other ≡ false → look_up (with_member env key t) other ≡ look_up env other
with_member-differs [] key t other differs =
    ap (λ es. look_up es other) (with_member-empty key t) ∙ look_up-other (record { name = key; meaning = Several (t ∷ []) }) [] other differs
with_member-differs (e ∷ env) key t other differs = by_name (bytes_eq e.name key) refl (with_member-differs env key t other differs)
  where
    by_name : (b : Bool) → bytes_eq e.name key ≡ b → look_up (with_member env key t) other ≡ look_up env other
        → look_up (with_member (e ∷ env) key t) other ≡ look_up (e ∷ env) other
    by_name b same in_others = grind (arith, bytes_eq-Decides, with_member-same, look_up-other, with_member-other, look_up-same)
