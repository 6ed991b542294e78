-- What a text begins with that has a piece or a word.
use Rattle.std.proofs.Common.{◌≡◌, ℕ, zero, suc, ◌+◌, ◌<◌, [], ◌∷◌, Bool, true, false, cond, Some, None, get_or, take, drop}
use Rattle.std.proofs.Common.{refl, subst, arith}
use Rattle.std.specs.Char.{is_ascii_alphabetic, is_ascii_digit}
use Rattle.std.specs.List.{All, list_all, prefix_len}
use Rattle.std.specs.Str.{IsAscii}
use Rattle.std.proofs.lemmas.Bool.{and_parts, both_ways}
use Rattle.std.proofs.lemmas.Bool.Decides.{nat_tests}
use Rattle.std.proofs.lemmas.List.Elements.{All-nil, All-cons}
use Rattle.std.proofs.lemmas.Option.{same_Some}
use Rattle.std.proofs.lemmas.Str.Ascii.{IsAscii-from_all}
use Rattle.text_model.specs.Texts.{Text}
use Rattle.journal_references.specs.declared.words.Word.{Word}
use Rattle.journal_references.specs.declared.words.Word.TheVariants.{OfVolume, OfIssue, OfPages, OfMonth}
use Rattle.journal_references.specs.declared.pieces.Piece.{Piece}
use Rattle.journal_references.specs.declared.pieces.Piece.TheVariants.{Volume, Plain, Issue, PlainIssue, Inner, Pages, Year, Days}
use Rattle.journal_references.specs.Words.{words, is_one_of, letters, gap, is_word, word_length}
use Rattle.journal_references.specs.Pieces.{is_number_byte, is_inner_byte, is_page_byte, is_byte, is_volume, is_year, is_piece, piece_length}

pub some_if : (c : Bool) (k n : ℕ) → cond c (Some k) None ≡ Some n → (c ≡ true) × (k ≡ n)
some_if true k n h = (refl, same_Some k n h)
some_if false k n h = cc

-- ---- pieces

pub passed : (p : Piece) (t : Text) (n : ℕ) → piece_length p t ≡ Some n → is_piece p (take n t) ≡ true
passed p t n h =
    let found = some_if (is_piece p (take (prefix_len (is_byte p) t) t)) (prefix_len (is_byte p) t) n h in
    subst (λ m. is_piece p (take m t) ≡ true) found.1 found.0

number_below : (b : ℕ) → is_number_byte b ≡ true → b < 128
number_below b h = grind (arith, nat_tests)

inner_below : (b : ℕ) → is_inner_byte b ≡ true → b < 128
inner_below b h = grind (arith, nat_tests)

page_below : (b : ℕ) → is_page_byte b ≡ true → b < 128
page_below b h = grind (arith, nat_tests)

byte_below : (p : Piece) (b : ℕ) → is_byte p b ≡ true → b < 128
byte_below Volume = number_below
byte_below Plain = number_below
byte_below Issue = number_below
byte_below PlainIssue = number_below
byte_below Inner = inner_below
byte_below Pages = page_below
byte_below Year = number_below
byte_below Days = inner_below

run_below : (test : ℕ → Bool) → ((b : ℕ) → test b ≡ true → b < 128) → (t : Text) → All (λ b. b < 128) (take (prefix_len test t) t)
run_below test below [] = All-nil (λ b. b < 128)
run_below test below (b ∷ t) = by_test (test b) refl (run_below test below t)
  where
    by_test : (c : Bool) → test b ≡ c → All (λ b. b < 128) (take (prefix_len test t) t)
        → All (λ b. b < 128) (take (cond c (1 + prefix_len test t) 0) (b ∷ t))
    by_test true e others =
        let more : suc (prefix_len test t) ≡ 1 + prefix_len test t = omega arith in
        subst (λ k. All (λ b. b < 128) (take k (b ∷ t))) more
        (All-cons (λ b. b < 128) b (take (prefix_len test t) t) (below b e) others)
    by_test false e others = All-nil (λ b. b < 128)

pub piece_ascii : (p : Piece) (t : Text) (n : ℕ) → piece_length p t ≡ Some n → IsAscii (take n t)
piece_ascii p t n h =
    let found = some_if (is_piece p (take (prefix_len (is_byte p) t) t)) (prefix_len (is_byte p) t) n h in
    subst (λ m. IsAscii (take m t)) found.1 (IsAscii-from_all _ (run_below (is_byte p) (byte_below p) t))

-- ---- the first byte

digit_of_front : (n : ℕ) (t : Text) → is_ascii_digit (get_or (take n t) 0 0) ≡ true → is_ascii_digit (get_or t 0 0) ≡ true
digit_of_front zero t h = cc
digit_of_front (suc n) [] h = cc
digit_of_front (suc n) (b ∷ t) h = h

-- pieces that begin with a digit
abbrev pub is_firm : Piece → Bool
is_firm Volume = true
is_firm Plain = true
is_firm Year = true
is_firm _ = false

pub volume_first : (t : Text) → is_volume t ≡ true → is_ascii_digit (get_or t 0 0) ≡ true
volume_first t h = (and_parts _ _ (and_parts _ _ (and_parts _ _ h).0).0).0

year_first : (t : Text) → is_year t ≡ true → is_ascii_digit (get_or t 0 0) ≡ true
year_first [] h = cc
year_first (b ∷ t) h = (and_parts (is_ascii_digit b) (list_all is_ascii_digit t) (and_parts _ _ (and_parts _ _ h).0).1).0

firm_first : (p : Piece) (t : Text) → is_firm p ≡ true → is_piece p t ≡ true → is_ascii_digit (get_or t 0 0) ≡ true
firm_first Volume t firm h = volume_first t h
firm_first Plain t firm h = volume_first t (and_parts _ _ h).0
firm_first Year t firm h = year_first t h
firm_first _ t firm h = cc

pub piece_first : (p : Piece) (t : Text) (n : ℕ) → is_firm p ≡ true → piece_length p t ≡ Some n → is_ascii_digit (get_or t 0 0) ≡ true
piece_first p t n firm h = digit_of_front n t (firm_first p (take n t) firm (passed p t n h))

no_word : (word : Word) → is_one_of (words word) [] ≡ false
no_word OfVolume = refl
no_word OfIssue = refl
no_word OfPages = refl
no_word OfMonth = refl

first_letter : (word : Word) (t : Text) → is_one_of (words word) (take (letters t) t) ≡ true → is_ascii_alphabetic (get_or t 0 0) ≡ true
first_letter word [] h = absurd (both_ways (is_one_of (words word) []) (no_word word) h)
first_letter word (b ∷ t) h = by_test (is_ascii_alphabetic b) refl h
  where
    by_test : (c : Bool) → is_ascii_alphabetic b ≡ c → is_one_of (words word) (take (cond c (1 + letters t) 0) (b ∷ t)) ≡ true
        → is_ascii_alphabetic b ≡ true
    by_test true e g = e
    by_test false e g = absurd (both_ways (is_one_of (words word) []) (no_word word) g)

pub word_first : (word : Word) (t : Text) (n : ℕ) → word_length word t ≡ Some n → is_ascii_alphabetic (get_or t 0 0) ≡ true
word_first word t n h =
    let after = gap (drop (letters t) t) in
    let found = some_if (is_word word (take (letters t) t) after) (letters t + after) n h in
    first_letter word t (and_parts _ _ found.0).0
