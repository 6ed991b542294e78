use Rattle.std.proofs.Common.{◌≡◌, ◌++◌, ◌∷◌, ap, sym, ◌∙◌}
use Rattle.std.specs.Borrow.{Bor}
use Rattle.std.proofs.lemmas.List.{map-append}
use Rattle.text_model.specs.Texts.{Text, texts_of}
use Rattle.work_identifiers.specs.declared.namespace.Namespace.{Namespace}
use Rattle.work_identifiers.specs.declared.namespace.Namespace.TheVariants.{Doi}
use Rattle.work_identifiers.specs.Places.{named_places, places}
use Rattle.work_identifiers.proofs.places.places.Goals as goal

doi_places : (namespace : Namespace) (text : Text) → namespace ≡ Doi → text ∷ named_places namespace text ≡ places namespace text
doi_places namespace text is = ap (λ n. text ∷ named_places n text) is ∙ sym (ap (λ n. places n text) is)

pub returns-in-Doi : goal.returns-in-Doi
returns-in-Doi c =
    let text = c.args.text.now in
    let named = c.in_ok-named.named.items in
    ap texts_of c.in_ok-append-in-Doi.ensures.items ∙ map-append (λ (b : Bor Text). b.now) c.in_ok-places-in-Doi.places.items named
    ∙ ap (λ l. l ++ texts_of named) c.in_ok-places-in-Doi.ensures ∙ ap (λ l. text ∷ l) c.in_ok-named.ensures
    ∙ doi_places c.args.namespace text c.in-Doi.is
