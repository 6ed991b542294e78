use Rattle.std.proofs.Common.{All, sym, ◌∙◌, subst}
use Rattle.std.specs.Str.{IsUtf8}
use Rattle.std.proofs.lemmas.List.Elements.{All-push}
use Rattle.compiler_model.specs.Tables.{literal_entry}
use Rattle.compiler.specs.Private.Growth.{IsUtf8Literal}
use Rattle.compiler.proofs.tables.add_literal.Goals as goal

pub returns-clause-utf8 : goal.returns-clause-utf8
returns-clause-utf8 c =
    let text : IsUtf8 c.in_ok-bytes.bytes.items = subst IsUtf8 (sym (c.in_ok-bytes.ensures.items_if_clones_equal (λ x y p. p) ∙ c.as_bytes-2.ensures.value))
    c.utf8.text in
    subst (All IsUtf8Literal) (sym c.in_ok-push.ensures.items) (All-push IsUtf8Literal _ (literal_entry c.args.compared c.in_ok-bytes.bytes.items) c.requires
    text)
