-- The table agrees with the definition at each byte, by computing.
use Rattle.std.proofs.Common.{not, nat_eq, get_or, refl, arith}
use Rattle.std.proofs.lemmas.Bool.{agree_below_at}
use Rattle.text_model.specs.Texts.{is_unreserved, is_reserved}
use Rattle.text_model.specs.Writing.{is_unreserved_or_reserved}
use Rattle.uri_text.specs.declared.classes.TheConstants.{UNRESERVED_OR_RESERVED}
use Rattle.uri_text.proofs.classes.is_unreserved_or_reserved.Goals as goal

pub returns : goal.returns
unfolding is_unreserved is_reserved
returns c =
    agree_below_at (λ k. not (nat_eq (get_or UNRESERVED_OR_RESERVED k 0) 37)) is_unreserved_or_reserved 256 c.args.byte refl (omega arith)
