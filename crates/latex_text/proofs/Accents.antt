-- Accents in a text are read as letters with these accents.
use Rattle.std.proofs.Common.{◌≡◌, ℕ, suc, ◌<◌, ◌≤◌, [], ◌∷◌, ◌++◌, Bool, true, false, cond, Some, None, length, get_or, drop}
use Rattle.std.proofs.Common.{refl, sym, ap, ◌∙◌, subst, append_assoc, arith}
use Rattle.std.specs.Prelude.{◌==◌, ◌&&◌, encode_utf8}
use Rattle.std.specs.Option.{option_and_then, option_map, unwrap_or}
use Rattle.std.proofs.lemmas.Bool.{eqb-true}
use Rattle.std.proofs.lemmas.Bool.Decides.{nat_tests}
use Rattle.text_model.specs.Texts.{Text}
use Rattle.latex_text.specs.declared.commands.Command.{Command}
use Rattle.latex_text.specs.declared.bases.Base.{Base}
use Rattle.latex_text.specs.declared.places.Place.{Place}
use Rattle.latex_text.specs.declared.places.Place.TheVariants.{Start, Word, Initial, Escaped, Name, Sign, Formula}
use Rattle.latex_text.specs.Places.{backslash, opening, closing, dollar, is_letter}
use Rattle.latex_text.specs.Places.{is_word_byte, is_initial, in_text, next, place_after, is_within_text}
use Rattle.latex_text.specs.Groups.{opened, ungrouped}
use Rattle.latex_text.specs.Commands.{composed, dotless, base_of, of_letter, braced_letter, accent, named, reserved, is_quoted}
use Rattle.latex_text.specs.Commands.{apostrophe, or_else, command_of}
use Rattle.latex_text.specs.Texts.{done, changed, put, read_before, read, IsFree}
use Rattle.latex_text.proofs.Characters.{IsBeyond, composed_character}
use Rattle.latex_text.proofs.Reading.{put_stays, read_free, read_in_turn}
use Rattle.latex_text.proofs.PlaceSteps.{in_text_ordinary, after_group}
use Rattle.latex_text.proofs.Frees.{changed_is, ordinary_none, escaped_none}
use Rattle.latex_text.proofs.BaseLetters.{letter_not}
use Rattle.latex_text.proofs.TakenCommands.{made}
use Rattle.latex_text.proofs.AccentsTaken.{argument_next}

-- ---- places

and_false : (x : Bool) → (x && false) ≡ false
and_false true = refl
and_false false = refl

abbrev in_words : Bool → ℕ → Place
in_words at_start b = cond (is_word_byte b) (cond (is_initial b && at_start) Initial Word) Start

within_word : (b : ℕ) → (b == backslash) ≡ false → (b == dollar) ≡ false → is_word_byte b ≡ true → in_text false b ≡ Word
within_word b e d w =
    ap (λ c. cond c Escaped (cond (b == dollar) Formula (in_words false b))) e ∙ ap (λ c. cond c Formula (in_words false b)) d
    ∙ ap (λ c. cond c (cond (is_initial b && false) Initial Word) Start) w ∙ ap (λ c. cond c Initial Word) (and_false (is_initial b))

letter_word_byte : (b : ℕ) → is_letter b ≡ true → is_word_byte b ≡ true
letter_word_byte b h = grind (arith, nat_tests)

letter_word : (b : ℕ) → is_letter b ≡ true → in_text false b ≡ Word
letter_word b h = within_word b (letter_not b backslash refl h) (letter_not b dollar refl h) (letter_word_byte b h)

high_word_byte : (b : ℕ) → 128 ≤ b → is_word_byte b ≡ true
high_word_byte b h = grind (arith, nat_tests)

high_not : (b mark : ℕ) → mark < 128 → 128 ≤ b → (b == mark) ≡ false
high_not b mark m h = grind (arith, nat_tests)

high_initial : (b : ℕ) → 128 ≤ b → is_initial b ≡ false
high_initial b h = grind (arith, nat_tests)

high_word : (x : Bool) (b : ℕ) → 128 ≤ b → in_text x b ≡ Word
high_word x b h =
    ap (λ c. cond c Escaped (cond (b == dollar) Formula (in_words x b))) (high_not b backslash (omega arith) h)
    ∙ ap (λ c. cond c Formula (in_words x b)) (high_not b dollar (omega arith) h)
    ∙ ap (λ c. cond c (cond (is_initial b && x) Initial Word) Start) (high_word_byte b h)
    ∙ ap (λ c. cond (c && x) Initial Word) (high_initial b h)

within_next : (s : Place) (b : ℕ) → is_within_text s ≡ true → 128 ≤ b → next s b ≡ Word
within_next Start b w h = high_word true b h
within_next Word b w h = high_word false b h
within_next Initial b w h = cc
within_next Escaped b w h = cc
within_next Name b w h = cc
within_next Sign b w h = cc
within_next Formula b w h = cc

-- ---- characters

pub high_read : (s : Place) (c back : Text) → is_within_text s ≡ true → 0 < length c → ((k : ℕ) → k < length c → 128 ≤ get_or c k 0)
    → read_before s (c ++ back) [] ≡ c ++ read_before Word back []
high_read s [] back w some each = absurd (omega (arith, some))
high_read s (b ∷ []) back w some each =
    let high : 128 ≤ b = each 0 (omega arith) in
    ap (λ p. put s b (read_before p back [])) (within_next s b w high)
    ∙ put_stays s b (read_before Word back [])
    (ordinary_none s b (read_before Word back []) (high_not b backslash (omega arith) high) (high_not b opening (omega arith) high))
high_read s (b ∷ d ∷ c) back w some each =
    let high : 128 ≤ b = each 0 (omega arith) in
    let rest = d ∷ c ++ read_before Word back [] in
    ap (λ p. put s b (read_before p (d ∷ c ++ back) [])) (within_next s b w high)
    ∙ ap (put s b) (high_read Word (d ∷ c) back refl (omega arith) (λ k h. each (suc k) (omega (arith, h))))
    ∙ put_stays s b rest (ordinary_none s b rest (high_not b backslash (omega arith) high) (high_not b opening (omega arith) high))

-- ---- commands

ungrouped_same : (t : Text) → IsFree Word t → ungrouped t ≡ t
ungrouped_same [] free = refl
ungrouped_same (b ∷ t) free = by_group (b == opening) refl
  where
    by_group : (x : Bool) → (b == opening) ≡ x → cond x (unwrap_or (opened t) (b ∷ t)) (b ∷ t) ≡ b ∷ t
    by_group true e =
        let none : opened t ≡ None =
        sym (changed_is Word opening t) ∙ subst (λ k. changed Word k t ≡ None) (eqb-true b opening e) free.0 in
        ap (λ o. unwrap_or o (b ∷ t)) none
    by_group false e = refl

pub command_done : (s : Place) (t : Text) (n c : ℕ) → is_within_text s ≡ true → command_of false t ≡ Some (made n (Some c))
    → put s backslash t ≡ encode_utf8 c ++ ungrouped (drop n t)
command_done s t n c w h = ap (λ o. unwrap_or o (backslash ∷ t)) (by_place s w)
  where
    by_place : (s : Place) → is_within_text s ≡ true → changed s backslash t ≡ Some (done t (made n (Some c)))
    by_place Start w = changed_is Start backslash t ∙ ap (λ o. option_map (done t) o) h
    by_place Word w = changed_is Word backslash t ∙ ap (λ o. option_map (done t) o) h
    by_place Initial w = cc
    by_place Escaped w = cc
    by_place Name w = cc
    by_place Sign w = cc
    by_place Formula w = cc

command_put : (s : Place) (t rest : Text) (n c : ℕ) → is_within_text s ≡ true → command_of false t ≡ Some (made n (Some c)) → drop n t ≡ rest
    → IsFree Word rest → put s backslash t ≡ encode_utf8 c ++ rest
command_put s t rest n c w h is free =
    command_done s t n c w h ∙ ap (λ u. encode_utf8 c ++ ungrouped u) is ∙ ap (λ u. encode_utf8 c ++ u) (ungrouped_same rest free)

pub escaped_next : (s : Place) → is_within_text s ≡ true → next s backslash ≡ Escaped
escaped_next Start w = refl
escaped_next Word w = refl
escaped_next Initial w = cc
escaped_next Escaped w = cc
escaped_next Name w = cc
escaped_next Sign w = cc
escaped_next Formula w = cc

accent_first : (t : Text) (p : Command) → accent t ≡ Some p → command_of false t ≡ Some p
unfolding command_of
accent_first t p h = ap (λ o. or_else o (or_else (named t) (or_else (reserved t) (apostrophe (is_quoted t))))) h

abbrev made_base : ℕ → ℕ → Base
made_base n l = record { len = n; letter = l }

base_is : (l : ℕ) (t : Text) → is_letter l ≡ true → base_of (l ∷ t) ≡ Some (made_base 1 l)
base_is l t h = ap (λ x. cond x (Some (made_base 1 l)) (dotless (l ∷ t))) h

bare_command : (a l c : ℕ) (rest : Text) → is_letter a ≡ false → is_letter l ≡ true → composed a l ≡ Some c
    → command_of false (a ∷ l ∷ rest) ≡ Some (made 2 (Some c))
bare_command a l c rest sign letter is =
    let found : option_and_then (of_letter a 1) (base_of (l ∷ rest)) ≡ Some (made 2 (Some c)) =
    ap (λ o. option_and_then (of_letter a 1) o) (base_is l rest letter) ∙ ap (λ o. option_map (λ d. made 2 (Some d)) o) is in
    accent_first (a ∷ l ∷ rest) (made 2 (Some c))
    (ap (λ x. cond x (option_and_then (braced_letter a rest) (base_of rest)) (cond (l == 0x20) (option_and_then (of_letter a 2) (base_of rest))
    (cond (is_letter a) None (option_and_then (of_letter a 1) (base_of (l ∷ rest)))))) (letter_not l opening refl letter)
    ∙ ap (λ x. cond x (option_and_then (of_letter a 2) (base_of rest)) (cond (is_letter a) None (option_and_then (of_letter a 1) (base_of (l ∷ rest)))))
    (letter_not l 0x20 refl letter)
    ∙ ap (λ x. cond x None (option_and_then (of_letter a 1) (base_of (l ∷ rest)))) sign ∙ found)

braced_command : (a l c : ℕ) (rest : Text) → is_letter l ≡ true → composed a l ≡ Some c
    → command_of false (a ∷ opening ∷ l ∷ closing ∷ rest) ≡ Some (made 4 (Some c))
braced_command a l c rest letter is =
    accent_first (a ∷ opening ∷ l ∷ closing ∷ rest) (made 4 (Some c))
    (ap (λ o. option_and_then (braced_letter a (l ∷ closing ∷ rest)) o) (base_is l (closing ∷ rest) letter)
    ∙ ap (λ o. option_map (λ d. made 4 (Some d)) o) is)

-- ---- accents in a text

pub letter_stays : (s : Place) (l : ℕ) (t : Text) → is_letter l ≡ true → put s l t ≡ l ∷ t
letter_stays s l t h = put_stays s l t (ordinary_none s l t (letter_not l backslash refl h) (letter_not l opening refl h))

bare_here : (s : Place) (a l c : ℕ) (back : Text) → is_within_text s ≡ true → is_letter a ≡ false → is_letter l ≡ true → composed a l ≡ Some c
    → read_before s (backslash ∷ a ∷ l ∷ back) [] ≡ encode_utf8 c ++ read_before Word back []
bare_here s a l c back w sign letter is =
    let rest = read_before Word back [] in
    ap (λ p. put s backslash (put p a (put (next p a) l (read_before (next (next p a) l) back [])))) (escaped_next s w)
    ∙ ap (λ p. put s backslash (put Escaped a (put p l (read_before (next p l) back [])))) (ap (λ x. cond x Name Sign) sign)
    ∙ ap (λ p. put s backslash (put Escaped a (put Sign l (read_before p back [])))) (letter_word l letter)
    ∙ ap (λ t. put s backslash (put Escaped a t)) (letter_stays Sign l rest letter)
    ∙ ap (put s backslash) (put_stays Escaped a (l ∷ rest) (escaped_none a (l ∷ rest)))
    ∙ command_put s (a ∷ l ∷ rest) rest 2 c w (bare_command a l c rest sign letter is) refl (read_free Word back [] tt)

argument_stays : (x : Bool) (t : Text) → put (cond x Name Sign) opening t ≡ opening ∷ t
argument_stays true t = put_stays Name opening t (changed_is Name opening t)
argument_stays false t = put_stays Sign opening t (changed_is Sign opening t)

braced_here : (s : Place) (a l c : ℕ) (back : Text) → is_within_text s ≡ true → is_letter l ≡ true → composed a l ≡ Some c
    → read_before s (backslash ∷ a ∷ opening ∷ l ∷ closing ∷ back) [] ≡ encode_utf8 c ++ read_before Word back []
braced_here s a l c back w letter is =
    let rest = read_before Word back [] in
    let inside = in_text true l in
    let text = in_text_ordinary true l (letter_not l backslash refl letter) (letter_not l dollar refl letter) in
    let close : put inside closing rest ≡ closing ∷ rest = put_stays inside closing rest (ordinary_none inside closing rest refl refl) in
    ap (λ p. put s backslash (put p a (put (next p a) opening (put (next (next p a) opening) l
    (put (next (next (next p a) opening) l) closing (read_before (next (next (next (next p a) opening) l) closing) back [])))))) (escaped_next s w)
    ∙ ap (λ p. put s backslash (put Escaped a (put (next Escaped a) opening (put p l
    (put (next p l) closing (read_before (next (next p l) closing) back [])))))) (argument_next (is_letter a))
    ∙ ap (λ p. put s backslash (put Escaped a (put (next Escaped a) opening (put Start l (put inside closing (read_before p back []))))))
    (after_group inside text)
    ∙ ap (λ t. put s backslash (put Escaped a (put (next Escaped a) opening (put Start l t)))) close
    ∙ ap (λ t. put s backslash (put Escaped a (put (next Escaped a) opening t))) (letter_stays Start l (closing ∷ rest) letter)
    ∙ ap (λ t. put s backslash (put Escaped a t)) (argument_stays (is_letter a) (l ∷ closing ∷ rest))
    ∙ ap (put s backslash) (put_stays Escaped a (opening ∷ l ∷ closing ∷ rest) (escaped_none a (opening ∷ l ∷ closing ∷ rest)))
    ∙ command_put s (a ∷ opening ∷ l ∷ closing ∷ rest) rest 4 c w (braced_command a l c rest letter is) refl (read_free Word back [] tt)

character_here : (s : Place) (a l c : ℕ) (back : Text) → is_within_text s ≡ true → composed a l ≡ Some c
    → read_before s (encode_utf8 c ++ back) [] ≡ encode_utf8 c ++ read_before Word back []
character_here s a l c back w is =
    let it : IsBeyond 2 c = composed_character a l c is in high_read s (encode_utf8 c) back w it.some it.high

-- what is read alike at its place is read alike in a text
pub same_there : (front t u : Text) → read_before (place_after Start front) t [] ≡ read_before (place_after Start front) u []
    → read (front ++ t) ≡ read (front ++ u)
unfolding read
same_there front t u h =
    read_in_turn Start front t [] ∙ ap (λ v. read_before Start front v) h ∙ sym (read_in_turn Start front u [])

pub bare_read : (a l c : ℕ) (front back : Text) → is_letter a ≡ false → is_letter l ≡ true → composed a l ≡ Some c
    → is_within_text (place_after Start front) ≡ true → read (front ++ backslash ∷ a ∷ l ∷ back) ≡ read (front ++ encode_utf8 c ++ back)
bare_read a l c front back sign letter is w =
    same_there front (backslash ∷ a ∷ l ∷ back) (encode_utf8 c ++ back)
    (bare_here (place_after Start front) a l c back w sign letter is ∙ sym (character_here (place_after Start front) a l c back w is))
    ∙ ap read (sym (append_assoc front (encode_utf8 c) back))

pub braced_read : (a l c : ℕ) (front back : Text) → is_letter l ≡ true → composed a l ≡ Some c → is_within_text (place_after Start front) ≡ true
    → read (front ++ backslash ∷ a ∷ opening ∷ l ∷ closing ∷ back) ≡ read (front ++ encode_utf8 c ++ back)
braced_read a l c front back letter is w =
    same_there front (backslash ∷ a ∷ opening ∷ l ∷ closing ∷ back) (encode_utf8 c ++ back)
    (braced_here (place_after Start front) a l c back w letter is ∙ sym (character_here (place_after Start front) a l c back w is))
    ∙ ap read (sym (append_assoc front (encode_utf8 c) back))
