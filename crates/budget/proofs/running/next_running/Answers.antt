use Rattle.std.proofs.Common.{sym, ◌∙◌}
use Rattle.budget.proofs.Walk.{running_on, running_off, running_opened}
use Rattle.budget.proofs.running.next_running.Goals as goal

pub returns-in-Some : goal.returns-in-Some
returns-in-Some c =
    running_on c.args.code.now c.args.place c.in-Some.running (sym c.in-Some.is ∙ c.requires.running) c.if-place-running.true

pub returns-in-Some-2 : goal.returns-in-Some-2
returns-in-Some-2 c =
    running_off c.args.code.now c.args.place c.in-Some.running (sym c.in-Some.is ∙ c.requires.running) c.if-place-running.false

pub returns-in-None : goal.returns-in-None
returns-in-None c = c.opened.ensures ∙ running_opened c.args.code.now c.args.place (sym c.in-None.is ∙ c.requires.running)
