-- Names that are mentioned, with one more.
use Rattle.std.proofs.Common.{◌≡◌, List, [], ◌∷◌, ◌++◌, true, false, Bor, sym, ap, ◌∙◌}
use Rattle.std.specs.List.{list_any}
use Rattle.std.specs.Str.{bytes_eq}
use Rattle.std.proofs.lemmas.List.{map-append}
use Rattle.text_model.specs.Texts.{Text, texts_of}
use Rattle.rule_parser.specs.declared.rule.Bound.{Bound}
use Rattle.rule_parser.specs.declared.rule.Bound.TheVariants as bound
use Rattle.rule_parser.specs.Names.{each_once}
use Rattle.rule_parser.specs.Mentions.{bound_names}
use Rattle.rule_parser.proofs.NameLemmas.{once_more}

pub bound_added : (items new : List (Bor Text)) (b : Bound) (t : Text) (name : Bor Text) (before : List Text) → b ≡ bound.Name t → name.now ≡ t
    → texts_of items ≡ each_once before → list_any (λ (y : Bor Text). bytes_eq y.now name.now) items ≡ false → new ≡ items ++ name ∷ []
    → texts_of new ≡ each_once (before ++ bound_names b)
bound_added items new b t name before is named e h p =
    ap texts_of p ∙ map-append (λ (y : Bor Text). y.now) items (name ∷ []) ∙ once_more items before name.now false e h
    ∙ ap (λ x. each_once (before ++ x ∷ [])) named ∙ sym (ap (λ x. each_once (before ++ bound_names x)) is)

pub bound_known : (items : List (Bor Text)) (b : Bound) (t : Text) (name : Bor Text) (before : List Text) → b ≡ bound.Name t → name.now ≡ t
    → texts_of items ≡ each_once before → list_any (λ (y : Bor Text). bytes_eq y.now name.now) items ≡ true
    → texts_of items ≡ each_once (before ++ bound_names b)
bound_known items b t name before is named e h =
    once_more items before name.now true e h ∙ ap (λ x. each_once (before ++ x ∷ [])) named
    ∙ sym (ap (λ x. each_once (before ++ bound_names x)) is)
