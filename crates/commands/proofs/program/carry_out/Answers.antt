use Rattle.std.proofs.Common.{Some, map, string_bytes, refl, ap, ◌∙◌}
use Rattle.text_model.specs.Texts.{texts_of}
use Rattle.commands.specs.Faults.{out_of_memory}
use Rattle.commands.specs.Program.{no_memory, ended}
use Rattle.commands.proofs.program.carry_out.Goals as goal

pub returns-in-Ok-argument_texts-clause-ends : goal.returns-in-Ok-argument_texts-clause-ends
returns-in-Ok-argument_texts-clause-ends g c =
    let same =
    ap texts_of c.deref-in-Ok-argument_texts.ensures.value ∙ c.in-Ok-argument_texts.ensures ∙ ap (map string_bytes) c.deref.ensures.value in
    let end = c.command.ensures.ends in
    rw c.in-Ok.is (end.0, end.2, ended end.1 end.0 (rw same at end.3))

pub returns-in-Ok-clause-ends : goal.returns-in-Ok-clause-ends
returns-in-Ok-clause-ends g c =
    rw c.in-Ok.is (Some out_of_memory, c.report.ensures.status, no_memory (refl {a = c.args.rt.now}) (refl {a = c.args.output.now}))
