use Rattle.std.proofs.Common.{subst}
use Rattle.code_file.specs.Grammar.{IsCodeFile}
use Rattle.answers.specs.Upgrade.{IsUpgradeOf}
use Rattle.answers.proofs.RefusalLemmas.{is_err}
use Rattle.answers.proofs.upgrade.upgrade_of.Goals as goal

pub returns-in_err-read_code : goal.returns-in_err-read_code
returns-in_err-read_code c = rw (is_err _ _ c.from_residual.ensures.1) (IsUpgradeOf.no_code _ c.in_err-read_code.ensures.err)

pub returns-in_err-upgraded : goal.returns-in_err-upgraded
returns-in_err-upgraded c = rw (is_err _ _ c.from_residual-in_err-upgraded.ensures.1) (IsUpgradeOf.no_memory _ c.in_ok-read_code.ensures.ok)

pub returns-in_err-file : goal.returns-in_err-file
returns-in_err-file c = rw (is_err _ _ c.from_residual-in_err-file.ensures.1) (IsUpgradeOf.no_memory _ c.in_ok-read_code.ensures.ok)

pub returns : goal.returns
returns c =
    let file = c.in_ok-file.field-0.items in
    IsUpgradeOf.upgraded c.in_ok-read_code.field-0 file c.in_ok-read_code.ensures.ok
    (subst (IsCodeFile file) c.in_ok-upgraded.ensures.upgraded c.in_ok-file.ensures)
