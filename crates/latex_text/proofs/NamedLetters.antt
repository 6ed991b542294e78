-- Letters with names in a text are read as these letters.
use Rattle.std.proofs.Common.{◌≡◌, ℕ, ◌+◌, [], ◌∷◌, ◌++◌, true, false, cond, Some, None, length, drop}
use Rattle.std.proofs.Common.{refl, sym, ap, ◌∙◌, append_assoc, arith}
use Rattle.std.specs.Prelude.{◌==◌, encode_utf8}
use Rattle.std.specs.List.{list_all}
use Rattle.std.specs.Option.{option_and_then}
use Rattle.std.proofs.lemmas.Bool.{and_parts}
use Rattle.std.proofs.lemmas.List.{take_at, drop_at}
use Rattle.text_model.specs.Texts.{Text}
use Rattle.latex_text.specs.declared.places.Place.{Place}
use Rattle.latex_text.specs.declared.places.Place.TheVariants.{Start, Word, Escaped, Name, Sign}
use Rattle.latex_text.specs.Places.{backslash, opening, closing, is_letter, in_text, place_after, is_within_text}
use Rattle.latex_text.specs.Letters.{letters_names}
use Rattle.latex_text.specs.Groups.{ungrouped}
use Rattle.latex_text.specs.Commands.{letter_named, base_of, of_letter, braced_letter, argument, named_with, named_by, named, name_length}
use Rattle.latex_text.specs.Commands.{reserved, is_quoted, apostrophe, or_else, command_of}
use Rattle.latex_text.specs.Texts.{put, read_before, read}
use Rattle.latex_text.proofs.Characters.{IsBeyond, named_character}
use Rattle.latex_text.proofs.Reading.{put_stays}
use Rattle.latex_text.proofs.Accents.{command_done, high_read, escaped_next, letter_stays, same_there}
use Rattle.latex_text.proofs.Frees.{changed_is, ordinary_none, escaped_none}
use Rattle.latex_text.proofs.BaseLetters.{letter_not}
use Rattle.latex_text.proofs.TakenCommands.{made}

-- an empty group, which ends a name
abbrev group_with : Text → Text
group_with t = opening ∷ closing ∷ t

name_size : (name t : Text) → list_all is_letter name ≡ true → name_length (name ++ group_with t) ≡ length name
name_size [] t h = refl
name_size (b ∷ name) t h =
    let parts = and_parts (is_letter b) (list_all is_letter name) h in
    let others : name_length (name ++ group_with t) ≡ length name = name_size name t parts.1 in
    ap (λ x. cond x (1 + name_length (name ++ group_with t)) 0) parts.0 ∙ omega (arith, others)

-- letters of a name stay
name_read : (name t : Text) → list_all is_letter name ≡ true → read_before Name (name ++ t) [] ≡ name ++ read_before Name t []
name_read [] t h = refl
name_read (b ∷ name) t h =
    let parts = and_parts (is_letter b) (list_all is_letter name) h in
    ap (λ x. put Name b (read_before (cond x Name (in_text false b)) (name ++ t) [])) parts.0 ∙ ap (put Name b) (name_read name t parts.1)
    ∙ letter_stays Name b (name ++ read_before Name t []) parts.0

group_read : (back : Text) → read_before Name (group_with back) [] ≡ group_with (read_before Word back [])
group_read back =
    let rest = read_before Word back [] in
    ap (put Name opening) (put_stays Start closing rest (ordinary_none Start closing rest refl refl))
    ∙ put_stays Name opening (closing ∷ rest) (changed_is Name opening (closing ∷ rest))

-- a name is no accent
no_argument : (a : ℕ) (name t : Text) → is_letter a ≡ true → list_all is_letter name ≡ true → argument a (name ++ group_with t) ≡ None
no_argument a [] [] h g = refl
no_argument a [] (b ∷ t) h g = refl
no_argument a (b ∷ name) t h g =
    let letter = (and_parts (is_letter b) (list_all is_letter name) g).0 in
    let rest = name ++ group_with t in
    ap (λ x. cond x (option_and_then (braced_letter a rest) (base_of rest)) (cond (b == 0x20) (option_and_then (of_letter a 2) (base_of rest))
    (cond (is_letter a) None (option_and_then (of_letter a 1) (base_of (b ∷ rest)))))) (letter_not b opening refl letter)
    ∙ ap (λ x. cond x (option_and_then (of_letter a 2) (base_of rest)) (cond (is_letter a) None (option_and_then (of_letter a 1) (base_of (b ∷ rest)))))
    (letter_not b 0x20 refl letter)
    ∙ ap (λ x. cond x None (option_and_then (of_letter a 1) (base_of (b ∷ rest)))) h

-- a name that has no letters denotes none
some_letter : (c : ℕ) → letter_named [] ≡ Some c → ⊥
unfolding letter_named letters_names
some_letter c h = cc

named_is : (name t : Text) (c : ℕ) → list_all is_letter name ≡ true → letter_named name ≡ Some c
    → named (name ++ group_with t) ≡ Some (made (length name + 0) (Some c))
named_is name t c h is =
    let all = name ++ group_with t in
    ap (λ n. named_by all n) (name_size name t h)
    ∙ ap (λ u. named_with u (drop (length name) all) (length name) (letter_named u)) (take_at name (group_with t) (length name) refl)
    ∙ ap (λ u. named_with name u (length name) (letter_named name)) (drop_at name (group_with t) (length name) refl)
    ∙ ap (λ o. named_with name (group_with t) (length name) o) is

command_is : (name t : Text) (c : ℕ) → list_all is_letter name ≡ true → letter_named name ≡ Some c
    → command_of false (name ++ group_with t) ≡ Some (made (length name + 0) (Some c))
unfolding command_of
command_is [] t c h is = absurd (some_letter c is)
command_is (a ∷ name) t c h is =
    let parts = and_parts (is_letter a) (list_all is_letter name) h in
    let all = a ∷ name ++ group_with t in
    let signs = or_else (reserved all) (apostrophe (is_quoted all)) in
    ap (λ o. or_else o (or_else (named all) signs)) (no_argument a name t parts.0 parts.1) ∙ ap (λ o. or_else o signs) (named_is (a ∷ name) t c h is)

name_here : (s : Place) (name : Text) (c : ℕ) (back : Text) → is_within_text s ≡ true → list_all is_letter name ≡ true → letter_named name ≡ Some c
    → read_before s (backslash ∷ name ++ group_with back) [] ≡ encode_utf8 c ++ read_before Word back []
name_here s [] c back w h is = absurd (some_letter c is)
name_here s (b ∷ name) c back w h is =
    let parts = and_parts (is_letter b) (list_all is_letter name) h in
    let rest = read_before Word back [] in
    let all = b ∷ name ++ group_with rest in
    let size : length (b ∷ name) + 0 ≡ length (b ∷ name) = omega arith in
    ap (λ p. put s backslash (read_before p (b ∷ name ++ group_with back) [])) (escaped_next s w)
    ∙ ap (λ x. put s backslash (put Escaped b (read_before (cond x Name Sign) (name ++ group_with back) []))) parts.0
    ∙ ap (λ t. put s backslash (put Escaped b t)) (name_read name (group_with back) parts.1 ∙ ap (λ t. name ++ t) (group_read back))
    ∙ ap (put s backslash) (put_stays Escaped b (name ++ group_with rest) (escaped_none b (name ++ group_with rest)))
    ∙ command_done s all (length (b ∷ name) + 0) c w (command_is (b ∷ name) rest c h is)
    ∙ ap (λ n. encode_utf8 c ++ ungrouped (drop n all)) size
    ∙ ap (λ u. encode_utf8 c ++ ungrouped u) (drop_at (b ∷ name) (group_with rest) (length (b ∷ name)) refl)

pub name_read_as : (name front back : Text) (c : ℕ) → list_all is_letter name ≡ true → letter_named name ≡ Some c
    → is_within_text (place_after Start front) ≡ true
    → read (front ++ backslash ∷ name ++ opening ∷ closing ∷ back) ≡ read (front ++ encode_utf8 c ++ back)
name_read_as name front back c h is w =
    let it : IsBeyond (length name) c = named_character name c is in
    let s = place_after Start front in
    ap read (append_assoc front (backslash ∷ name) (group_with back))
    ∙ same_there front (backslash ∷ name ++ group_with back) (encode_utf8 c ++ back)
    (name_here s name c back w h is ∙ sym (high_read s (encode_utf8 c) back w it.some it.high))
    ∙ ap read (sym (append_assoc front (encode_utf8 c) back))
