use Rattle.std.proofs.Common.{◌≡◌, ◌++◌, ◌∷◌, ap, ◌∙◌}
use Rattle.std.specs.Borrow.{Bor}
use Rattle.std.proofs.lemmas.List.{map-append}
use Rattle.text_model.specs.Texts.{Text, texts_of}
use Rattle.work_identifiers.specs.Places.{after_words, after_addresses}
use Rattle.work_identifiers.proofs.places.named_places.Goals as goal

pub returns : goal.returns
returns c =
    let namespace = c.args.namespace in
    let text = c.args.text.now in
    let named = c.in_ok-named.named.items in
    let addresses = c.in_ok-addresses.addresses.items in
    let texts : texts_of c.extend_from_slice.new.self.items ≡ text ∷ after_words namespace text =
    ap texts_of c.in_ok-extend_from_slice.ensures.items ∙ map-append (λ (b : Bor Text). b.now) c.in_ok-texts.texts.items c.deref.result.now
    ∙ ap (λ l. l ++ texts_of c.deref.result.now) c.in_ok-texts.ensures
    ∙ ap (λ l. text ∷ l) (ap texts_of c.deref.ensures.value ∙ c.in_ok-named.ensures) in
    ap texts_of c.in_ok-append.ensures.items ∙ map-append (λ (b : Bor Text). b.now) named addresses
    ∙ ap (λ l. l ++ texts_of addresses) c.in_ok-named.ensures
    ∙ ap (λ l. after_words namespace text ++ l) (c.in_ok-addresses.ensures ∙ ap (after_addresses namespace) texts)
