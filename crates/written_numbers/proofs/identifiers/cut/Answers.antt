use Rattle.std.proofs.Common.{◌≡◌, ◌-◌, length, sym, ap, ◌∙◌, subst}
use Rattle.std.specs.Str.{IsCharBoundary}
use Rattle.written_numbers.specs.Identifiers as spec
use Rattle.written_numbers.proofs.Trimming.{before_blanks}
use Rattle.written_numbers.proofs.identifiers.cut.Goals as goal

-- a blank is a character
pub split_at-requires : goal.split_at-requires
split_at-requires c =
    let is : length c.args.line.now - c.blanks_after.result ≡ length c.args.line.now - spec.blanks_after c.args.line.now =
    ap (λ n. length c.args.line.now - n) (c.blanks_after.ensures.value ∙ ap (λ t. spec.blanks_after t) c.as_bytes.ensures.value) in
    subst (λ n. IsCharBoundary c.args.line.now n) (sym is) (before_blanks c.args.line.now c.utf8.line)
