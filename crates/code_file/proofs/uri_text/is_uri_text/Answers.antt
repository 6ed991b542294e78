use Rattle.std.proofs.Common.{refl, sym, ◌∙◌}
use Rattle.code_file.proofs.UriTextLemmas.{IsUriText-from_left, is_uri_text-from_set, is_uri_text-empty}
use Rattle.code_file.proofs.uri_text.is_uri_text.Goals as goal

pub returns-in-None : goal.returns-in-None
returns-in-None c =
    (λ h. cc, λ u. let e = is_uri_text-from_set u in let n = c.in-None.ensures.none in cc (e, n))

pub returns : goal.returns
returns c =
    let ended = is_uri_text-empty c.loop-rest.rest.now (sym c.is_empty.ensures ∙ c.loop-rest-test.false) in
    (λ h. IsUriText-from_left c.args.bytes.now (sym c.loop-rest.invariant ∙ ended), λ u. refl)
