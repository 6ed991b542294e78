-- The table agrees with the definition at each byte, by computing.
use Rattle.std.proofs.Common.{not, nat_eq, get_or, refl, arith}
use Rattle.std.proofs.lemmas.Bool.{agree_below_at}
use Rattle.text_model.specs.Texts.{is_unreserved}
use Rattle.uri_text.specs.declared.classes.TheConstants.{UNRESERVED}
use Rattle.uri_text.proofs.classes.is_unreserved.Goals as goal

pub returns : goal.returns
unfolding is_unreserved
returns c = agree_below_at (λ k. not (nat_eq (get_or UNRESERVED k 0) 37)) is_unreserved 256 c.args.byte refl (omega arith)
