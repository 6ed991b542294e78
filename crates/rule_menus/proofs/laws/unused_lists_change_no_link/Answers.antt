use Rattle.std.proofs.Common.{arith}
use Rattle.std.proofs.lemmas.Grind.{common_steps}
use Rattle.rule_menus.proofs.SameMeaning.{LawsBelow, same_meaning}
use Rattle.rule_menus.proofs.laws.unused_lists_change_no_link.Goals as goal

pub returns : goal.returns
returns c = λ target pairs row sound.
    let laws : LawsBelow = grind (arith, common_steps) in
    same_meaning laws target sound pairs row
