use Rattle.std.proofs.Common.{◌≡◌, length, take, ap, ◌∙◌}
use Rattle.kbart_rows.specs.NameSets.{with_name}
use Rattle.kbart_rows.proofs.NameSetLemmas.{first_stay, one_grows}
use Rattle.registry.proofs.names.Names.add.Goals as goal

pub returns-in-Err-clause-err : goal.returns-in-Err-clause-err
returns-in-Err-clause-err c =
    let old = c.args.self.now.columns in
    let header = c.args.table.now.header in
    let names : c.truncate.new.self.names ≡ old.names =
    c.truncate.ensures.names ∙ ap (λ n. take n c.add_columns.new.self.names) c.len-len.ensures
    ∙ ap (take (length old.names)) c.in_ok-add_columns.ensures.names ∙ first_stay with_name one_grows old.names header in
    let keys = c.truncate.ensures.keys ∙ c.in_ok-add_columns.ensures.keys in
    λ j. record { columns = record { names = names j; keys = keys j }; numbered = c.in-Err.ensures.err j }
