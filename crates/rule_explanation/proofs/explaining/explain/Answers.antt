-- A row matches, or none does.
use Rattle.std.proofs.Common.{ap, sym, ◌∙◌, subst, OnOk, OnErr}
use Rattle.std.specs.Io.KnownBytes.{Appends}
use Rattle.text_model.specs.Texts.{Text}
use Rattle.files.specs.Writing.{IsWrittenInPart}
use Rattle.kbart_rows.specs.Identifiers.{first_from, matching_rows}
use Rattle.rule_explanation.proofs.WholeText.{no_link, no_text, on_error, some_text}
use Rattle.rule_explanation.proofs.explaining.explain.Goals as goal

pub returns-in-Some-clause-printed : goal.returns-in-Some-clause-printed
returns-in-Some-clause-printed g c =
    let first = ap (λ ids. first_from 0 (matching_rows c.args.table.now ids)) (sym c.in_ok-ids.ensures) ∙ sym c.in-Some.ensures.first in
    let P : Text → Type 0 =
    λ whole. OnOk c.explain_rows.result (Appends (g.W.Write.contents c.args.output.now) (g.W.Write.contents c.explain_rows.new.output) whole) in
    subst P (sym (some_text c.args.rules.now c.args.table.now c.args.request.now.pairs _ first)) c.explain_rows.ensures.printed

pub returns-in-Some-clause-in_part : goal.returns-in-Some-clause-in_part
returns-in-Some-clause-in_part g c =
    let first = ap (λ ids. first_from 0 (matching_rows c.args.table.now ids)) (sym c.in_ok-ids.ensures) ∙ sym c.in-Some.ensures.first in
    let P : Text → Type 0 =
    λ whole. OnErr c.explain_rows.result (IsWrittenInPart (g.W.Write.contents c.args.output.now) (g.W.Write.contents c.explain_rows.new.output) whole) in
    subst P (sym (some_text c.args.rules.now c.args.table.now c.args.request.now.pairs _ first)) c.explain_rows.ensures.in_part

pub returns-clause-found : goal.returns-clause-found
returns-clause-found g c =
    let none = ap (λ ids. first_from 0 (matching_rows c.args.table.now ids)) (sym c.in_ok-ids.ensures) ∙ sym c.in-None.ensures.first in
    sym (no_link c.args.rules.now c.args.table.now c.args.request.now.pairs none)

pub returns-clause-printed : goal.returns-clause-printed
returns-clause-printed g c =
    let none = ap (λ ids. first_from 0 (matching_rows c.args.table.now ids)) (sym c.in_ok-ids.ensures) ∙ sym c.in-None.ensures.first in
    let P : Text → Type 0 = λ whole. Appends (g.W.Write.contents c.args.output.now) (g.W.Write.contents c.write.new.output) whole in
    subst P (sym (no_text c.args.rules.now c.args.table.now c.args.request.now.pairs none)) c.in_ok-write-in-None.ensures.ok

pub returns-in_err-write-in-None-clause-in_part : goal.returns-in_err-write-in-None-clause-in_part
returns-in_err-write-in-None-clause-in_part g c =
    let none = ap (λ ids. first_from 0 (matching_rows c.args.table.now ids)) (sym c.in_ok-ids.ensures) ∙ sym c.in-None.ensures.first in
    let P : Text → Type 0 = λ whole. IsWrittenInPart (g.W.Write.contents c.args.output.now) (g.W.Write.contents c.write.new.output) whole in
    on_error c.from_residual-in_err-write-in-None.result _
    (subst P (sym (no_text c.args.rules.now c.args.table.now c.args.request.now.pairs none)) c.in_err-write-in-None.ensures.in_part)
