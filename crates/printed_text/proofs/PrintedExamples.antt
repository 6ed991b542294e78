-- How texts are printed: which bytes are printed as they are, which are escaped, and where a long text is cut.
use Rattle.std.proofs.Common.{◌≡◌, ◌++◌, [], ◌∷◌, refl, codes}
use Rattle.std.specs.List.{repeat}
use Rattle.std.specs.Fmt.{digits}
use Rattle.printed_text.specs.Printed.{quoted, shortened, visible}

marks_and_backslashes : quoted (codes "a\"b\\c 'd'") ≡ codes "\"a\\x22b\\x5cc 'd'\""
unfolding digits
marks_and_backslashes = refl

-- on both sides of each end of printable ASCII, of the quotation mark and of the backslash
ends_of_ascii : quoted (0x1f ∷ 0x20 ∷ 0x21 ∷ 0x22 ∷ 0x23 ∷ 0x5b ∷ 0x5c ∷ 0x5d ∷ 0x7e ∷ 0x7f ∷ [])
    ≡ codes "\"\\x1f !\\x22#[\\x5c]~\\x7f\""
unfolding digits
ends_of_ascii = refl

bytes_beyond_ascii : quoted (0 ∷ 9 ∷ 0xc3 ∷ 0xa9 ∷ 0xff ∷ []) ≡ codes "\"\\x00\\x09\\xc3\\xa9\\xff\""
unfolding digits
bytes_beyond_ascii = refl

empty_text : quoted [] ≡ codes "\"\""
empty_text = refl

sixty_bytes : shortened (repeat 60 (codes "a")) ≡ codes "\"" ++ (repeat 60 (codes "a") ++ codes "\"")
sixty_bytes = refl

sixty_one_bytes : shortened (repeat 61 (codes "a")) ≡ codes "\"" ++ (repeat 60 (codes "a") ++ codes "\"...")
sixty_one_bytes = refl

-- bytes are counted, and not what is printed for them
sixty_escaped_bytes : shortened (0 ∷ repeat 60 (codes "a")) ≡ codes "\"\\x00" ++ (repeat 59 (codes "a") ++ codes "\"...")
unfolding digits
sixty_escaped_bytes = refl

visible_marks : visible (codes "x is \"a\\b\"" ++ 0x0a ∷ 0x7f ∷ []) ≡ codes "x is \"a\\b\"\\x0a\\x7f"
unfolding digits
visible_marks = refl
