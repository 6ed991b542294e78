-- A name is looked up among the names of its size alone.
use Rattle.std.proofs.Common.{◌≡◌, ℕ, List, [], ◌∷◌, ◌++◌, Bool, true, false, cond, Option, Some, None, length}
use Rattle.std.proofs.Common.{refl, sym, ap, ◌∙◌}
use Rattle.std.specs.Prelude.{◌==◌}
use Rattle.std.specs.List.{filter}
use Rattle.std.specs.Str.{bytes_eq}
use Rattle.std.proofs.lemmas.Bool.{eq-eqb}
use Rattle.std.proofs.lemmas.Slice.Eq.{bytes_eq-Decides}
use Rattle.text_model.specs.Texts.{Text}
use Rattle.title_markup.specs.Names.{latin_names, latin_characters, greek_names, greek_characters, marks_names, marks_characters}
use Rattle.title_markup.specs.Names.{size, has_size, names_of, characters_at, characters_of}
use Rattle.title_markup.specs.References.{listed, named}

none_listed : (names : List Text) (name : Text) → listed names [] name ≡ None
none_listed [] name = refl
none_listed (other ∷ names) name = either (bytes_eq other name) (none_listed names name)
  where
    either : (b : Bool) → listed names [] name ≡ None → cond b None (listed names [] name) ≡ None
    either true others = refl
    either false others = others

-- a name of another size is another name
others_differ : (n : ℕ) (other name : Text) → size name ≡ n → has_size n other ≡ false → bytes_eq other name ≡ false
others_differ n other name is h = by_test (bytes_eq other name) refl
  where
    by_test : (b : Bool) → bytes_eq other name ≡ b → b ≡ false
    by_test false e = refl
    by_test true e = let same : other ≡ name = (bytes_eq-Decides other name).0 e in sym (eq-eqb (size other) n (ap size same ∙ is)) ∙ h

size_listed : (n : ℕ) (names : List Text) (characters : List ℕ) (name : Text) → size name ≡ n
    → listed (filter (has_size n) names) (characters_at n names characters) name ≡ listed names characters name
size_listed n [] characters name is = refl
size_listed n (other ∷ names) [] name is = none_listed (filter (has_size n) (other ∷ names)) name ∙ sym (none_listed (other ∷ names) name)
size_listed n (other ∷ names) (c ∷ characters) name is = by_size (has_size n other) refl (size_listed n names characters name is)
  where
    those : List Text
    those = filter (has_size n) names

    theirs : List ℕ
    theirs = characters_at n names characters

    rest : Option ℕ
    rest = listed names characters name

    by_size : (b : Bool) → has_size n other ≡ b → listed those theirs name ≡ rest
        → listed (cond b (other ∷ those) those) (cond b (c ∷ theirs) theirs) name ≡ cond (bytes_eq other name) (Some c) rest
    by_size true e others = ap (λ o. cond (bytes_eq other name) (Some c) o) others
    by_size false e others = others ∙ sym (ap (λ b. cond b (Some c) rest) (others_differ n other name is e))

pub named_among : (n : ℕ) (name : Text) → size name ≡ n → listed (names_of n) (characters_of n) name ≡ named name
unfolding named names_of characters_of
named_among n name is =
    size_listed n (latin_names ++ greek_names ++ marks_names) (latin_characters ++ greek_characters ++ marks_characters) name is

pub looked_up : (n : ℕ) (name : Text) (names : List Text) (characters : List ℕ) (found : Option ℕ) → found ≡ listed names characters name
    → names ≡ names_of n → characters ≡ characters_of n → size name ≡ n → found ≡ named name
looked_up n name names characters found is these those size_is =
    is ∙ ap (λ t. listed t characters name) these ∙ ap (λ t. listed (names_of n) t name) those ∙ named_among n name size_is
