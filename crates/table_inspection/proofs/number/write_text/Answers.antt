use Rattle.std.proofs.Common.{◌≡◌, ◌++◌, rules, sym, ap, ◌∙◌}
use Rattle.kbart_rows.proofs.NormalBytes.{normal_bytes}
use Rattle.table_inspection.proofs.NormalForms.{already_normal}
use Rattle.table_inspection.proofs.number.write_text.Goals as goal

pub returns-then-is_normal : goal.returns-then-is_normal
returns-then-is_normal c =
    let text = c.args.text.now in
    let bytes : c.extend_from_slice.new.self.items ≡ c.clear.new.self.items ++ c.as_bytes.result.now = search rules in
    let same = sym (already_normal text (sym c.is_normal.ensures ∙ c.if-is_normal.true)) ∙ normal_bytes text c.utf8.text in
    bytes ∙ ap (λ (front : _). front ++ c.as_bytes.result.now) c.clear.ensures.items ∙ c.as_bytes.ensures.value ∙ same
