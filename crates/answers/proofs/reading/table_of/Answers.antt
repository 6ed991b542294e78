use Rattle.std.proofs.Common.{◌≡◌, rules, sym, true≢false}
use Rattle.kbart_rows.specs.declared.error.TableError.TheVariants.{NoMemory}
use Rattle.answers.specs.Reading.{IsNoTable}
use Rattle.answers.proofs.reading.table_of.Goals as goal

pub returns-in-Err-clause-err : goal.returns-in-Err-clause-err
returns-in-Err-clause-err c =
    let same : c.in-Err.e ≡ NoMemory = search rules in
    IsNoTable.no_memory (rw same at c.in-Err.ensures.refused)

pub returns-in-Err-2-clause-err : goal.returns-in-Err-2-clause-err
returns-in-Err-2-clause-err c = IsNoTable.refused _ c.in-Err.ensures.refused (λ same. true≢false (sym (rw same at c.if-eq.ensures)))
