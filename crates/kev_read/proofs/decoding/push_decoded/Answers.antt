use Rattle.std.proofs.Common.{rules, subst, sym, ◌∙◌, arith}
use Rattle.std.specs.Prelude.{IsUtf8}
use Rattle.std.proofs.lemmas.Grind.{common_steps}
use Rattle.std.proofs.lemmas.Str.{utf8_lossy-IsUtf8}
use Rattle.form_urlencoded.specs.Form as form
use Rattle.kev_read.proofs.decoding.push_decoded.Goals as goal

-- the bytes that were appended are UTF-8
appended_utf8 : (c : goal.Then-are_utf8) → IsUtf8 (form.decode c.args.input.now)
appended_utf8 c = grind (arith, common_steps)

pub returns-then-are_utf8-clause-utf8 : goal.returns-then-are_utf8-clause-utf8
returns-then-are_utf8-clause-utf8 c =
    let utf8 = appended_utf8 c in
    subst IsUtf8 (sym (utf8_lossy-IsUtf8 (form.decode c.args.input.now) utf8)) utf8

pub returns-then-are_utf8-clause-ok : goal.returns-then-are_utf8-clause-ok
returns-then-are_utf8-clause-ok c = grind (arith, utf8_lossy-IsUtf8, appended_utf8)

pub returns-clause-utf8 : goal.returns-clause-utf8
returns-clause-utf8 c =
    let decodes = c.in_ok-text.ensures.value.2 in
    let utf8 = subst IsUtf8 (c.as_str.ensures.value ∙ decodes) c.as_str.utf8 in
    search (rules, utf8)
