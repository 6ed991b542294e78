use Rattle.std.proofs.Common.{◌≡◌, sym, subst, arith}
use Rattle.std.proofs.lemmas.Grind.{common_steps}
use Rattle.std.specs.Str.{IsAscii}
use Rattle.standard_numbers.specs.Issn.{issn_of}
use Rattle.standard_numbers.proofs.Ascii.{ascii_issn}
use Rattle.standard_numbers.proofs.issn.issn_of.Goals as goal

pub ascii_text-requires : goal.ascii_text-requires
ascii_text-requires c =
    let e : c.deref.result.now ≡ issn_of c.args.spelling.now = grind (arith, common_steps) in
    subst IsAscii (sym e) (ascii_issn (issn_of c.args.spelling.now) c.requires)
