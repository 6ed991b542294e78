use Rattle.std.proofs.Common.{arith, ◌≡◌, ◌<◌, Option, IfSome, length, ap, sym, ◌∙◌}
use Rattle.std.proofs.lemmas.Grind.{common_steps}
use Rattle.text_model.specs.Texts.{Text}
use Rattle.kbart_rows.specs.Cells.{Holdings, Row, column_of}
use Rattle.kbart_rows.proofs.table.Table.column.Goals as goal

-- a column with a name is in the header
named_within : (header : Row) (name : Text) (found : Option _) → column_of header name ≡ found → IfSome found (λ column. column < length header)
named_within header name found is = grind (arith, common_steps)

pub returns-clause-within : goal.returns-clause-within
returns-clause-within c =
    let name = c.args.name.now in
    named_within c.args.self.now.header name c.copied.result
    (sym (c.copied.ensures ∙ c.get.ensures.value ∙ c.self.invariant.named name ∙ ap (λ (table : Holdings). column_of table.header name) c.self.view_is))
