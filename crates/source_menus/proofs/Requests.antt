-- The links of one request after another.
use Rattle.std.proofs.Common.{◌≡◌, ◌<◌, ◌+◌, ◌++◌, ◌∷◌, [], ℕ, List, get_or, length, take, sym, ap, ◌∙◌, append-nil, append_assoc}
use Rattle.std.specs.Borrow.{Bor}
use Rattle.std.specs.List.{flat_map}
use Rattle.std.proofs.lemmas.List.{map-append, take_more}
use Rattle.std.proofs.lemmas.List.Concat.{flat_map-append}
use Rattle.text_model.specs.Texts.{Text, texts_of}
use Rattle.source_menus.specs.Found.{FoundLink, first_of_each}
use Rattle.source_menus.proofs.FirstOfEach.{each_after}

-- the links of one number more
pub one_number_more : (f : Text → List FoundLink) (numbers : List (Bor Text)) (index : ℕ) (d : Bor Text) → index < length numbers
    → flat_map f (texts_of (take (index + 1) numbers)) ≡ flat_map f (texts_of (take index numbers)) ++ f (get_or numbers index d).now
one_number_more f numbers index d within =
    let so_far = texts_of (take index numbers) in
    let number = get_or numbers index d in
    ap (λ ns. flat_map f (texts_of ns)) (take_more numbers index d within)
    ∙ ap (flat_map f) (map-append (λ (reference : Bor Text). reference.now) (take index numbers) (number ∷ []))
    ∙ flat_map-append f so_far (number.now ∷ [])
    ∙ ap (λ rest. flat_map f so_far ++ rest) (append-nil (f number.now))

-- the links of one request more
pub one_request_more : (own others more all old new : List FoundLink) → new ≡ first_of_each (old ++ more) → old ≡ first_of_each (own ++ others)
    → all ≡ others ++ more → new ≡ first_of_each (own ++ all)
one_request_more own others more all old new added before same =
    added ∙ ap (λ links. first_of_each (links ++ more)) before ∙ each_after (own ++ others) more
    ∙ ap first_of_each (append_assoc own others more) ∙ ap (λ links. first_of_each (own ++ links)) (sym same)
