-- The lines of the plain text and of the report of a menu.
use Rattle.std.proofs.Common.{◌≡◌, ℕ, zero, suc, ◌/◌, ◌%◌, Bool, true, false, List, [], ◌∷◌, refl, ap, ◌∙◌, arith, codes}
use Rattle.std.specs.Prelude.{◌==◌, All, filter, map, if◌then◌else◌}
use Rattle.std.specs.Fmt.{decimal, digit_glyph, digits, digits_onto}
use Rattle.std.specs.List.{list_all}
use Rattle.std.specs.Str.Lines.{lines}
use Rattle.std.proofs.lemmas.Bool.Decides.{nat_tests, Decides-by_and}
use Rattle.std.proofs.lemmas.List.Elements.{All-append, All-cons, All-nil, All-push, All-weaker}
use Rattle.text_model.specs.Texts.{Text, percent, is_hexadecimal, is_unreserved, is_reserved}
use Rattle.text_model.specs.UriText.{IsUriText, nothing, and_character, and_triplet}
use Rattle.text_model.specs.Writing.{is_unreserved_or_reserved}
use Rattle.menu.specs.Contained.{IsTargetName, is_target_name_character}
use Rattle.menu.specs.Links.{NamedLink, links}
use Rattle.menu.specs.PageReading.{IsSoundLink, HasSoundLinks}
use Rattle.menu.specs.Printed.{report, resolution_text, text}
use Rattle.menu.specs.Entries.{MenuEntry}
use Rattle.menu.specs.declared.entry.Resolution.{Resolution}
use Rattle.menu.specs.declared.entry.Resolution.TheVariants as resolution
use Rattle.menu_laws.specs.Lines.{links_in_text, named_line}
use Rattle.menu_laws.specs.Shares.{lines_under, links_under}
use Rattle.menu_laws.proofs.CutLines.{IsLined, is_in_line, is_in_name, line, lines_cut, lines_that_pass, one_line_each}

abbrev in_line : ℕ → Type 0
in_line b = is_in_line b ≡ true

-- ---- bytes

name_byte : (b : ℕ) → is_target_name_character b ≡ true → is_in_name b ≡ true
name_byte b e = grind (arith, nat_tests)

name_bytes : (name : Text) → IsTargetName name → All (λ b. is_in_name b ≡ true) name
name_bytes name h = All-weaker (λ b. is_target_name_character b ≡ true) (λ b. is_in_name b ≡ true) name_byte name h.characters

uri_byte : (b : ℕ) → is_unreserved_or_reserved b ≡ true → in_line b
unfolding is_unreserved is_reserved
uri_byte b e = grind (arith, nat_tests)

hexadecimal_byte : (b : ℕ) → is_hexadecimal b ≡ true → in_line b
hexadecimal_byte b e = grind (arith, nat_tests)

uri_bytes : (t : Text) → IsUriText t → All in_line t
uri_bytes _ nothing = All-nil in_line
uri_bytes _ (and_character t b u e) = All-push in_line t b (uri_bytes t u) (uri_byte b e)
uri_bytes _ (and_triplet t high low u e f) =
    All-append in_line t (percent ∷ high ∷ low ∷ []) (uri_bytes t u)
    (All-cons in_line percent (high ∷ low ∷ []) refl (All-cons in_line high (low ∷ []) (hexadecimal_byte high e)
    (All-cons in_line low [] (hexadecimal_byte low f) (All-nil in_line))))

glyph_byte : (d : ℕ) → in_line (digit_glyph false d)
glyph_byte d = grind (arith, nat_tests)

digit_bytes : (k base n : ℕ) (after : Text) → All in_line after → All in_line (digits_onto k base false n after)
digit_bytes zero base n after all = all
digit_bytes (suc k) base n after all =
    let here = digit_glyph false (n % base) in
    let more = All-cons in_line here after (glyph_byte (n % base)) all in
    by_test (n / base == 0) more (digit_bytes k base (n / base) (here ∷ after) more)
  where
    by_test : (x : Bool) → All in_line (digit_glyph false (n % base) ∷ after)
        → All in_line (digits_onto k base false (n / base) (digit_glyph false (n % base) ∷ after))
        → All in_line (if x then (digit_glyph false (n % base) ∷ after) else digits_onto k base false (n / base) (digit_glyph false (n % base) ∷ after))
    by_test true last more = last
    by_test false last more = more

decimal_bytes : (n : ℕ) → All in_line (decimal n)
unfolding digits
decimal_bytes n = digit_bytes 64 10 n [] (All-nil in_line)

-- each byte of a fixed text
fixed_bytes : (t : Text) → list_all is_in_line t ≡ true → All in_line t
fixed_bytes t e = (Decides-by_and is_in_line in_line (list_all is_in_line) (λ _. (λ x. x, λ x. x)) refl (λ _ _. refl) t).0 e

resolution_bytes : (r : Resolution) → All in_line (resolution_text r)
resolution_bytes (resolution.Link row link) = All-append in_line (codes "link ") (decimal row) (fixed_bytes (codes "link ") refl) (decimal_bytes row)
resolution_bytes resolution.NoRow = fixed_bytes (codes "no row") refl
resolution_bytes resolution.NoLink = fixed_bytes (codes "no link") refl
resolution_bytes resolution.NotAWebLink = fixed_bytes (codes "not a web link") refl
resolution_bytes (resolution.OverBudget bytes) =
    All-append in_line (codes "over budget ") (decimal bytes) (fixed_bytes (codes "over budget ") refl) (decimal_bytes bytes)

-- ---- the plain text

abbrev link_name : NamedLink → Text
link_name l = l.name

abbrev link_rest : NamedLink → Text
link_rest l = l.link

abbrev pub link_line : NamedLink → Text
link_line l = line link_name link_rest l

lined_link : (l : NamedLink) → IsSoundLink l → IsLined link_name link_rest l
lined_link l h = record { name_within = name_bytes l.name h.name; rest_within = uri_bytes l.link h.uri }

lined_links : (ls : List NamedLink) → All IsSoundLink ls → All (IsLined link_name link_rest) ls
lined_links ls sound = All-weaker IsSoundLink (IsLined link_name link_rest) lined_link ls sound

pub text_lines : (menu : List MenuEntry) → HasSoundLinks menu → lines (text menu) ≡ map link_line (links menu)
text_lines menu sound = one_line_each link_name link_rest (links menu) (lined_links (links menu) sound)

pub text_lines_under : (test : Text → Bool) (menu : List MenuEntry) → HasSoundLinks menu
    → lines_under test (text menu) ≡ map link_line (links_under test (links menu))
text_lines_under test menu sound =
    ap (filter (λ l. test (link_name (named_line l)))) (text_lines menu sound)
    ∙ lines_that_pass link_name link_rest test (links menu) (lined_links (links menu) sound)

same_links : (ls : List NamedLink) → map (λ (l : NamedLink). record { name = l.name; link = l.link }) ls ≡ ls
same_links [] = refl
same_links (l ∷ ls) = ap (λ (others : List NamedLink). l ∷ others) (same_links ls)

pub text_links : (menu : List MenuEntry) → HasSoundLinks menu → links_in_text (text menu) ≡ links menu
text_links menu sound =
    ap (map named_line) (text_lines menu sound) ∙ lines_cut link_name link_rest (links menu) (lined_links (links menu) sound) ∙ same_links (links menu)

-- ---- the report

abbrev entry_name : MenuEntry → Text
entry_name entry = entry.name

abbrev entry_reason : MenuEntry → Text
entry_reason entry = resolution_text entry.resolution

abbrev pub entry_line : MenuEntry → Text
entry_line entry = line entry_name entry_reason entry

lined_entry : (entry : MenuEntry) → IsTargetName entry.name → IsLined entry_name entry_reason entry
lined_entry entry h = record { name_within = name_bytes entry.name h; rest_within = resolution_bytes entry.resolution }

lined_entries : (menu : List MenuEntry) → All (λ entry. IsTargetName entry.name) menu → All (IsLined entry_name entry_reason) menu
lined_entries menu named = All-weaker (λ entry. IsTargetName entry.name) (IsLined entry_name entry_reason) lined_entry menu named

pub report_lines : (menu : List MenuEntry) → All (λ entry. IsTargetName entry.name) menu → lines (report menu) ≡ map entry_line menu
report_lines menu named = one_line_each entry_name entry_reason menu (lined_entries menu named)

pub report_lines_under : (test : Text → Bool) (menu : List MenuEntry) → All (λ entry. IsTargetName entry.name) menu
    → lines_under test (report menu) ≡ map entry_line (filter (λ entry. test entry.name) menu)
report_lines_under test menu named =
    ap (filter (λ l. test (link_name (named_line l)))) (report_lines menu named) ∙ lines_that_pass entry_name entry_reason test menu (lined_entries menu named)
