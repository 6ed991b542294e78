-- Expressions without a defined variable.
use Rattle.std.proofs.Common.{◌≡◌, List, [], ◌∷◌, None, refl, ap, ◌∙◌}
use Rattle.std.specs.Prelude.{All}
use Rattle.std.specs.List.{cons_option}
use Rattle.std.proofs.lemmas.List.Elements.{All-head, All-tail}
use Rattle.environment_model.specs.Environment.{LookUp}
use Rattle.uri_grammar.specs.declared.parts.Op.{Op}
use Rattle.uri_grammar.specs.declared.parts.Spec.{Spec}
use Rattle.uri_template.specs.Expansion.{Style, style_of, piece, pieces, led}

undefined-pieces : (look : LookUp) (style : Style) (specs : List Spec) → All (λ spec. look spec.name ≡ None) specs → pieces look style specs ≡ []
undefined-pieces look style [] h = refl
undefined-pieces look style (spec ∷ specs) h =
    let here = All-head (λ (s : Spec). look s.name ≡ None) spec specs h in
    let following = All-tail (λ (s : Spec). look s.name ≡ None) spec specs h in
    ap (λ m. cons_option (piece style spec m) (pieces look style specs)) here ∙ undefined-pieces look style specs following

pub undefined-led : (look : LookUp) (op : Op) (specs : List Spec) → All (λ spec. look spec.name ≡ None) specs
    → led (style_of op) (pieces look (style_of op) specs) ≡ []
undefined-led look op specs h = ap (led (style_of op)) (undefined-pieces look (style_of op) specs h)
