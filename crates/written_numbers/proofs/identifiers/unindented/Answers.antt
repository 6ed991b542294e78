use Rattle.std.proofs.Common.{◌≡◌, sym, ap, ◌∙◌, subst}
use Rattle.std.specs.Str.{IsCharBoundary}
use Rattle.written_numbers.specs.Identifiers as spec
use Rattle.written_numbers.proofs.Trimming.{after_blanks}
use Rattle.written_numbers.proofs.identifiers.unindented.Goals as goal

-- a blank is a character
pub split_at-requires : goal.split_at-requires
split_at-requires c =
    let is : c.blanks_before.result ≡ spec.blanks_before c.args.line.now =
    c.blanks_before.ensures.value ∙ ap (λ t. spec.blanks_before t) c.as_bytes.ensures.value in
    subst (λ n. IsCharBoundary c.args.line.now n) (sym is) (after_blanks c.args.line.now c.utf8.line)
