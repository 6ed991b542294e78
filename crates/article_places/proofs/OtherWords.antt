-- A text that is none of some words.
use Rattle.std.proofs.Common.{◌≡◌, List, [], ◌∷◌, Bool, true, false, not, map, refl, sym, ap, ◌∙◌}
use Rattle.std.specs.Char.{to_ascii_lowercase}
use Rattle.std.specs.List.{list_all}
use Rattle.std.specs.Str.{str_eq_ignore_ascii_case}
use Rattle.std.proofs.lemmas.Bool.{and_parts, or_from, not-true, false≢true}
use Rattle.std.proofs.lemmas.Slice.Eq.{bytes_eq-Decides}
use Rattle.text_model.specs.Texts.{Text}
use Rattle.article_places.specs.Labels.{is_one_of}

-- what holds of small letters tells two texts apart
differs : (q : Text → Bool) (w other : Text) → q (map to_ascii_lowercase w) ≡ true → not (q (map to_ascii_lowercase other)) ≡ true
    → str_eq_ignore_ascii_case w other ≡ false
differs q w other has none = by_test (str_eq_ignore_ascii_case w other) refl
  where
    by_test : (c : Bool) → str_eq_ignore_ascii_case w other ≡ c → str_eq_ignore_ascii_case w other ≡ false
    by_test false e = e
    by_test true e =
        let same : map to_ascii_lowercase w ≡ map to_ascii_lowercase other =
        (bytes_eq-Decides (map to_ascii_lowercase w) (map to_ascii_lowercase other)).0 e in
        let lacks : q (map to_ascii_lowercase other) ≡ false = not-true _ none in
        absurd (false≢true (sym lacks ∙ ap q (sym same) ∙ has))

pub none_of : (q : Text → Bool) (words : List Text) (w : Text) → list_all (λ word. not (q (map to_ascii_lowercase word))) words ≡ true
    → q (map to_ascii_lowercase w) ≡ true → is_one_of words w ≡ false
none_of q [] w none has = refl
none_of q (other ∷ words) w none has =
    let parts = and_parts _ _ none in or_from _ _ (differs q w other has parts.0) (none_of q words w parts.1 has)
