use Rattle.std.proofs.Common.{◌≡◌, ◌∙◌, List, take, string_bytes, sym, subst}
use Rattle.std.proofs.lemmas.List.{take_all}
use Rattle.text_model.specs.UriText.{IsUriText}
use Rattle.uri_grammar.specs.declared.parts.Part.{Part}
use Rattle.uri_template.specs.Expansion.{expansion}
use Rattle.uri_template.proofs.UriExpansions.{expansion-uri}
use Rattle.uri_template.proofs.expansion.expand_in.Goals as goal

pub returns-clause-uri_text : goal.returns-clause-uri_text
returns-clause-uri_text g c =
    let look = g.V.Variables.look c.args.variables.now in
    let all_parts : take c.loop-part.part-index c.parts-part-items.result.now ≡ c.args.template.now.parts =
    take_all c.loop-part.part-index c.parts-part-items.result.now c.loop-part-test.false ∙ c.parts-part-items.ensures.parts in
    let whole : string_bytes c.loop-part.out ≡ expansion look c.args.template.now.parts =
    subst (λ (parts : List Part). string_bytes c.loop-part.out ≡ expansion look parts) all_parts c.loop-part.invariant in
    subst IsUriText (sym whole) (expansion-uri look c.args.template.now.parts c.parts-part-items.ensures.sound)
