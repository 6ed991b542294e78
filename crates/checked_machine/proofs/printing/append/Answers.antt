use Rattle.text_model.proofs.UriAscii.{IsUriText-utf8}
use Rattle.checked_machine.proofs.Results.{is_ok_unless}
use Rattle.checked_machine.proofs.printing.append.Goals as goal

pub unwrap-requires : goal.unwrap-requires
unwrap-requires c = is_ok_unless c.from_utf8.result _ _ c.from_utf8.ensures.cases (λ e no. no.0 (IsUriText-utf8 c.args.text.now c.requires))
