use Rattle.std.proofs.Common.{sym, ◌∙◌}
use Rattle.retraction_remarks.proofs.WholeTitles.{wordless_free}
use Rattle.retraction_remarks.proofs.remarks.without_one.Goals as goal

pub returns-then-not-has_word : goal.returns-then-not-has_word
returns-then-not-has_word c = sym (wordless_free c.args.title.now (sym c.has_word.ensures ∙ c.if-not-has_word.true))
