use Rattle.std.proofs.Common.{◌≡◌, List, [], ◌∷◌, true, false, cond, Option, Some, None, refl, sym, ap, subst, ◌∙◌}
use Rattle.std.specs.Prelude.{codes, option_map, IfOk}
use Rattle.text_model.specs.Texts.{Text}
use Rattle.kev_read.specs.Pairs.{KeyValue, all_of}
use Rattle.work_identifiers.specs.declared.namespace.Namespace.{Namespace}
use Rattle.work_identifiers.specs.Uris.{uri_of}
use Rattle.openurl_reading.specs.Keys.{is_one_of}
use Rattle.openurl_reading.specs.Identifiers.{named, nameable, naming}
use Rattle.openurl_reading.specs.Steps.{Change, unchanged, leading, changed, taken}
use Rattle.openurl_reading.proofs.identifiers.name_work.Goals as goal

-- the URI leads, unless it is one of the values already
abbrev leads : Option Text → List Text → Change
leads None known = unchanged
leads (Some uri) known = cond (is_one_of known uri) unchanged (leading (uri ∷ []))

named-leads : (namespace : Namespace) (found : Option Text) (known : List Text)
    → named namespace found known ≡ leads (option_map (uri_of namespace) found) known
named-leads namespace None known = refl
named-leads namespace (Some n) known = refl

-- the step, if that URI is known
by_uri : (namespace : Namespace) (pairs : List KeyValue) (uri : Option Text) → uri ≡ option_map (uri_of namespace) (nameable namespace pairs)
    → changed (codes "rft_id") (leads uri (all_of pairs (codes "rft_id"))) pairs ≡ taken pairs (naming namespace)
by_uri namespace pairs uri e =
    let known = all_of pairs (codes "rft_id") in
    ap (λ change. changed (codes "rft_id") change pairs) (ap (λ o. leads o known) e ∙ sym (named-leads namespace (nameable namespace pairs) known))

pub known_stays : (namespace : Namespace) (pairs : List KeyValue) (uri : Text) → Some uri ≡ option_map (uri_of namespace) (nameable namespace pairs)
    → is_one_of (all_of pairs (codes "rft_id")) uri ≡ true → pairs ≡ taken pairs (naming namespace)
known_stays namespace pairs uri e is =
    ap (λ b. changed (codes "rft_id") (cond b unchanged (leading (uri ∷ []))) pairs) (sym is) ∙ by_uri namespace pairs (Some uri) e

pub unknown_leads : (namespace : Namespace) (pairs : List KeyValue) (uri : Text) → Some uri ≡ option_map (uri_of namespace) (nameable namespace pairs)
    → is_one_of (all_of pairs (codes "rft_id")) uri ≡ false → record { key = codes "rft_id"; value = uri } ∷ pairs ≡ taken pairs (naming namespace)
unknown_leads namespace pairs uri e is =
    ap (λ b. changed (codes "rft_id") (cond b unchanged (leading (uri ∷ []))) pairs) (sym is) ∙ by_uri namespace pairs (Some uri) e

known_in : (pairs others : List KeyValue) (uri : Text) → pairs ≡ others
    → is_one_of (all_of pairs (codes "rft_id")) uri ≡ is_one_of (all_of others (codes "rft_id")) uri
known_in pairs others uri e = ap (λ p. is_one_of (all_of p (codes "rft_id")) uri) e

pub returns-then-is_known : goal.returns-then-is_known
returns-then-is_known c =
    known_stays c.args.namespace c.args.pairs c.in-Some.uri (sym c.in-Some.is ∙ c.in_ok-uri.ensures)
    (ap (is_one_of (all_of c.args.pairs (codes "rft_id"))) (sym c.as_str.ensures)
    ∙ known_in c.args.pairs _ _ (sym c.pairs-2.ensures) ∙ sym c.in_ok-is_known.ensures ∙ c.if-is_known.true)

pub returns : goal.returns
returns c =
    subst (λ after. IfOk c.after_uri.result (λ led. led ≡ after))
    (unknown_leads c.args.namespace c.args.pairs c.in-Some.uri (sym c.in-Some.is ∙ c.in_ok-uri.ensures)
    (ap (is_one_of (all_of c.args.pairs (codes "rft_id"))) (sym c.as_str.ensures)
    ∙ known_in c.args.pairs _ _ (sym c.pairs-2.ensures) ∙ sym c.in_ok-is_known.ensures ∙ c.if-is_known.false)) c.after_uri.ensures
