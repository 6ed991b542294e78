-- The names in options.
use Rattle.std.proofs.Common.{◌≡◌, ◌-◌, ◌≤◌, List, [], ◌∷◌, ◌++◌, length, take, drop, sym, ◌∙◌, ap, append_assoc, slice_index_or, take_all, arith}
use Rattle.std.specs.Borrow.{Bor}
use Rattle.std.proofs.lemmas.List.{map-append}
use Rattle.text_model.specs.Texts.{Text, texts_of}
use Rattle.answers.specs.Expansion.{names_of}

-- the name in the option that comes next
pub one_more_name : (options names pushed rest : List (Bor Text)) (d : Bor Text) → 2 ≤ length rest
    → names_of (texts_of options) ≡ texts_of names ++ names_of (texts_of rest) → pushed ≡ names ++ slice_index_or rest 1 d ∷ []
    → names_of (texts_of options) ≡ texts_of pushed ++ names_of (texts_of (take (length rest - 2) (drop 2 rest)))
one_more_name options names pushed [] d two so_far more = absurd (omega arith)
one_more_name options names pushed (option ∷ []) d two so_far more = absurd (omega arith)
one_more_name options names pushed (option ∷ name ∷ rest) d two so_far more =
    let after : take (length (option ∷ name ∷ rest) - 2) rest ≡ rest = take_all (length (option ∷ name ∷ rest) - 2) rest (omega arith) in
    so_far
    ∙ sym (append_assoc (texts_of names) (name.now ∷ []) (names_of (texts_of rest)))
    ∙ sym (ap (λ texts. texts ++ names_of (texts_of rest)) (map-append (λ argument. argument.now) names (name ∷ [])))
    ∙ sym (ap (λ items. texts_of items ++ names_of (texts_of rest)) more)
    ∙ sym (ap (λ left. texts_of pushed ++ names_of (texts_of left)) after)
