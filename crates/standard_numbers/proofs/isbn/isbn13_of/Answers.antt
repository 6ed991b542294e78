use Rattle.std.proofs.Common.{◌≡◌, sym, subst, arith}
use Rattle.std.proofs.lemmas.Grind.{common_steps}
use Rattle.std.specs.Str.{IsAscii}
use Rattle.standard_numbers.specs.Isbn.{isbn13_of}
use Rattle.standard_numbers.proofs.Ascii.{ascii_isbn13_of}
use Rattle.standard_numbers.proofs.Forms.{length_of_digits}
use Rattle.standard_numbers.proofs.isbn.isbn13_of.Goals as goal

pub split_at-requires : goal.split_at-requires
split_at-requires c = omega (arith, length_of_digits c.args.digits.now 10 c.requires)

pub ascii_text-requires : goal.ascii_text-requires
ascii_text-requires c =
    let e : c.deref-2.result.now ≡ isbn13_of c.args.digits.now = grind (arith, common_steps) in
    subst IsAscii (sym e) (ascii_isbn13_of c.args.digits.now c.requires)
