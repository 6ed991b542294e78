use Rattle.std.proofs.Common.{refl}
use Rattle.commands.proofs.OutputLemmas.{prints_answer, reports_answer}
use Rattle.commands.proofs.program.run_command.Goals as goal

pub returns-in-Expand : goal.returns-in-Expand
returns-in-Expand g c = rw c.in-Expand.is (prints_answer _ _ _ _ c.expand.ensures c.print.ensures, λ path. refl, refl, refl)

pub returns-in-Link : goal.returns-in-Link
returns-in-Link g c = rw c.in-Link.is (prints_answer _ _ _ _ c.link.ensures.ends c.print-in-Link.ensures, c.link.ensures.same, refl, refl)

pub returns-in-Compile : goal.returns-in-Compile
returns-in-Compile g c = rw c.in-Compile.is (prints_answer _ _ _ _ c.compile.ensures c.print-in-Compile.ensures, tt, refl, refl)

pub returns-in-Verify : goal.returns-in-Verify
returns-in-Verify g c = rw c.in-Verify.is (prints_answer _ _ _ _ c.verify.ensures.ends c.print-in-Verify.ensures, c.verify.ensures.same, refl, refl)

pub returns-in-Show : goal.returns-in-Show
returns-in-Show g c = rw c.in-Show.is (prints_answer _ _ _ _ c.show.ensures.ends c.print-in-Show.ensures, c.show.ensures.same, refl, refl)

pub returns-in-Upgrade : goal.returns-in-Upgrade
returns-in-Upgrade g c = rw c.in-Upgrade.is (prints_answer _ _ _ _ c.upgrade.ensures c.print-in-Upgrade.ensures, tt, refl, refl)

pub returns-in-Run : goal.returns-in-Run
returns-in-Run g c = rw c.in-Run.is (prints_answer _ _ _ _ c.run.ensures.ends c.print-in-Run.ensures, c.run.ensures.same, refl, refl)

pub returns-in-Resolve : goal.returns-in-Resolve
returns-in-Resolve g c =
    rw c.in-Resolve.is (prints_answer _ _ _ _ c.resolve.ensures.ends c.print-in-Resolve.ensures, c.resolve.ensures.same, refl, refl)

pub returns-in-Read : goal.returns-in-Read
returns-in-Read g c = rw c.in-Read.is (prints_answer _ _ _ _ c.read.ensures c.print-in-Read.ensures, λ path. refl, refl, refl)

pub returns-in-Find : goal.returns-in-Find
returns-in-Find g c = rw c.in-Find.is (prints_answer _ _ _ _ c.find.ensures.ends c.print-in-Find.ensures, c.find.ensures.same, refl, refl)

pub returns-in-Inspect : goal.returns-in-Inspect
returns-in-Inspect g c = rw c.in-Inspect.is (reports_answer _ _ _ _ c.inspect.ensures.ends c.print_findings.ensures, c.inspect.ensures.same, refl, refl)

pub returns-in-Lint : goal.returns-in-Lint
returns-in-Lint g c = rw c.in-Lint.is (reports_answer _ _ _ _ c.lint.ensures.ends c.print_findings-in-Lint.ensures, c.lint.ensures.same, refl, refl)

pub returns-in-Explain : goal.returns-in-Explain
returns-in-Explain g c = rw c.in-Explain.is (c.explain.ensures.ends, c.explain.ensures.same, refl, refl)

pub returns-in-Serve : goal.returns-in-Serve
returns-in-Serve g c = rw c.in-Serve.is (c.serve.ensures.ends, c.serve.ensures.same, tt, tt)

pub returns-in-Help : goal.returns-in-Help
returns-in-Help g c = rw c.in-Help.is (c.print_text.ensures, λ path. refl, refl, refl)

pub returns-in-Version : goal.returns-in-Version
returns-in-Version g c = rw c.in-Version.is (c.print_text-in-Version.ensures, λ path. refl, refl, refl)
