use Rattle.std.proofs.Common.{◌≡◌, ap, sym, ◌∙◌, subst}
use Rattle.std.specs.Prelude.{IfOk}
use Rattle.std.specs.Str.{bytes_eq}
use Rattle.openurl_reading.specs.Identifiers.{all_namespaces, has_one_of}
use Rattle.openurl_reading.proofs.AsIdentifiers.{known_text, other_text, same_text}
use Rattle.openurl_reading.proofs.identifiers.as_identifier.Goals as goal

pub returns-then-eq : goal.returns-then-eq
returns-then-eq c =
    same_text c.args.value.now _ c.in_ok-text.ensures (ap (λ t. bytes_eq t c.args.value.now) (sym c.as_str.ensures) ∙ sym c.if-eq.ensures)

pub returns-then-is_found : goal.returns-then-is_found
returns-then-is_found c =
    subst (λ text. IfOk c.copy.result (λ copy. copy ≡ text))
    (known_text c.args.value.now
    (ap (has_one_of all_namespaces) (sym c.as_bytes.ensures.value) ∙ sym c.in_ok-is_found.ensures ∙ c.if-is_found.true)) c.copy.ensures

pub returns : goal.returns
returns c =
    other_text c.args.value.now _ c.in_ok-text.ensures
    (ap (has_one_of all_namespaces) (sym c.as_bytes.ensures.value) ∙ sym c.in_ok-is_found.ensures ∙ c.if-is_found.false)
