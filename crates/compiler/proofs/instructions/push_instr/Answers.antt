use Rattle.std.proofs.Common.{rules, sym, subst, All}
use Rattle.std.proofs.lemmas.List.Elements.{All-push}
use Rattle.code_file.specs.Grammar.{IsInstr}
use Rattle.compiler.proofs.instructions.push_instr.Goals as goal

pub returns-clause-fields : goal.returns-clause-fields
returns-clause-fields c =
    let fits : IsInstr c.args.instr = search rules in
    subst (All IsInstr) (sym c.in_ok-push.ensures.items) (All-push IsInstr _ c.args.instr c.requires fits)
