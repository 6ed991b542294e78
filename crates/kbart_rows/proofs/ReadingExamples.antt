-- How small tables are read, and why bytes are not a table: the lines are written out here, and the checker compares.
use Rattle.std.proofs.Common.{◌≡◌, ◌≤◌, List, [], ◌∷◌, ◌++◌, length, None, refl, sym, ap, subst, ◌∙◌, codes, arith, true≢false}
use Rattle.kbart_rows.specs.Hashing.{keys_of}
use Rattle.std.proofs.lemmas.Str.{IsUtf8-from_is_utf8, is_utf8-from_IsUtf8}
use Rattle.csv.specs.Machine.{next_record}
use Rattle.std.proofs.lemmas.List.Elements.{All-cons, All-nil}
use Rattle.std.proofs.lemmas.Option.{none-some, same_Some}
use Rattle.csv.specs.Reading.{Reached, strip_bom}
use Rattle.csv.specs.declared.parser.State.{State}
use Rattle.csv.specs.declared.parser.State.TheVariants as state
use Rattle.text_model.specs.Texts.{Text}
use Rattle.kbart_rows.specs.Cells.{Row, row_bytes}
use Rattle.kbart_rows.specs.Reading.{tab_separated, AreLines, AllFit, IsTable, IsFault}
use Rattle.kbart_rows.specs.declared.error.TableError.TheVariants.{TooLong, NotUtf8, NoHeader}
use Rattle.kbart_rows.proofs.OnLiterals.{kbart_rows_on_literals}

-- ---- lines and cells

tabs_separate_cells_and_line_feeds_lines : AreLines (codes "a\tb\n1\t2\n") ((codes "a" ∷ codes "b" ∷ []) ∷ (codes "1" ∷ codes "2" ∷ []) ∷ [])
unfolding kbart_rows_on_literals Reached
tabs_separate_cells_and_line_feeds_lines = (_, _, (_, refl, refl, (_, refl, refl, (refl, refl))), refl)

last_line_needs_no_end : AreLines (codes "a\n1") ((codes "a" ∷ []) ∷ (codes "1" ∷ []) ∷ [])
unfolding kbart_rows_on_literals Reached
last_line_needs_no_end = (_, _, (_, refl, refl, (_, refl, refl, (refl, refl))), refl)

-- even after the last tab of a text
cells_may_be_empty : AreLines (codes "\ta\t\n\t") (([] ∷ codes "a" ∷ [] ∷ []) ∷ ([] ∷ [] ∷ []) ∷ [])
unfolding kbart_rows_on_literals Reached
cells_may_be_empty = (_, _, (_, refl, refl, (_, refl, refl, (refl, refl))), refl)

lines_end_in_three_ways : AreLines (codes "a\r\n1\r2\n3") ((codes "a" ∷ []) ∷ (codes "1" ∷ []) ∷ (codes "2" ∷ []) ∷ (codes "3" ∷ []) ∷ [])
unfolding kbart_rows_on_literals Reached
lines_end_in_three_ways = (_, _, (_, refl, refl, (_, refl, refl, (_, refl, refl, (_, refl, refl, (refl, refl))))), refl)

blank_lines_are_none : AreLines (codes "\n\r\na\n\n\r\r1\n\r\n") ((codes "a" ∷ []) ∷ (codes "1" ∷ []) ∷ [])
unfolding kbart_rows_on_literals Reached
blank_lines_are_none = (_, _, (_, refl, refl, (_, refl, refl, (refl, refl))), refl)

line_of_a_space_is_one : AreLines (codes "a\n \n") ((codes "a" ∷ []) ∷ (codes " " ∷ []) ∷ [])
unfolding kbart_rows_on_literals Reached
line_of_a_space_is_one = (_, _, (_, refl, refl, (_, refl, refl, (refl, refl))), refl)

nothing_is_trimmed : AreLines (codes " x \ty \n") ((codes " x " ∷ codes "y " ∷ []) ∷ [])
unfolding kbart_rows_on_literals Reached
nothing_is_trimmed = (_, _, (_, refl, refl, (refl, refl)), refl)

quotes_are_characters : AreLines (codes "\"a\tb\"\n\"\"c\n") ((codes "\"a" ∷ codes "b\"" ∷ []) ∷ (codes "\"\"c" ∷ []) ∷ [])
unfolding kbart_rows_on_literals Reached
quotes_are_characters = (_, _, (_, refl, refl, (_, refl, refl, (refl, refl))), refl)

nothing_escapes_or_comments : AreLines (codes "#a\\\tb\n") ((codes "#a\\" ∷ codes "b" ∷ []) ∷ [])
unfolding kbart_rows_on_literals Reached
nothing_escapes_or_comments = (_, _, (_, refl, refl, (refl, refl)), refl)

rows_may_have_any_number_of_cells : AreLines (codes "a\tb\n1\n1\t2\t3\n")
    ((codes "a" ∷ codes "b" ∷ []) ∷ (codes "1" ∷ []) ∷ (codes "1" ∷ codes "2" ∷ codes "3" ∷ []) ∷ [])
unfolding kbart_rows_on_literals Reached
rows_may_have_any_number_of_cells = (_, _, (_, refl, refl, (_, refl, refl, (_, refl, refl, (refl, refl)))), refl)

-- one byte order mark at the beginning is dropped, and a second is text
abbrev mark : Text
mark = 0xEF ∷ 0xBB ∷ 0xBF ∷ []

one_byte_order_mark_is_dropped : AreLines (mark ++ mark ++ codes "a\n" ++ mark) (((mark ++ codes "a") ∷ []) ∷ (mark ∷ []) ∷ [])
unfolding kbart_rows_on_literals Reached
one_byte_order_mark_is_dropped = (_, _, (_, refl, refl, (_, refl, refl, (refl, refl))), refl)

-- ---- bytes have no other lines

reached_once : (s s1 s2 : State) (xs ys1 ys2 : Text) (lines others : List Row)
    → Reached tab_separated s xs lines s1 ys1 → next_record tab_separated s1 [] [] ys1 ≡ None
    → Reached tab_separated s xs others s2 ys2 → next_record tab_separated s2 [] [] ys2 ≡ None → lines ≡ others
unfolding Reached
reached_once s s1 s2 xs ys1 ys2 [] [] one end1 two end2 = refl
reached_once s s1 s2 xs ys1 ys2 [] (cells ∷ others) one end1 two end2 =
    let state = one.0 in let rest = one.1 in let more = two.1 in absurd (none-some two.0 cc)
reached_once s s1 s2 xs ys1 ys2 (cells ∷ lines) [] one end1 two end2 =
    let state = two.0 in let rest = two.1 in let more = one.1 in absurd (none-some one.0 cc)
reached_once s s1 s2 xs ys1 ys2 (cells ∷ lines) (others ∷ rest) one end1 two end2 =
    let same = same_Some one.0 two.0 (sym one.1 ∙ two.1) in
    let same_others =
    reached_once one.0.1 s1 s2 one.0.2 ys1 ys2 lines rest one.3 end1 (subst (λ p. Reached tab_separated p.1 p.2 rest s2 ys2) (sym same) two.3) end2 in
    let first : cells ≡ others = one.2 ∙ ap (λ p. p.0) same ∙ sym two.2 in
    cc

pub lines_are_unique : (bytes : Text) (lines others : List Row) → AreLines bytes lines → AreLines bytes others → lines ≡ others
lines_are_unique bytes lines others one two =
    reached_once state.StartRecord one.0 two.0 (strip_bom bytes) one.1 two.1 lines others one.2 one.3 two.2 two.3

-- ---- tables

pub fits : (cells : Row) (lines : List Row) → row_bytes cells ≤ 65536 → AllFit lines → AllFit (cells ∷ lines)
fits cells lines few others = All-cons (λ line. row_bytes line ≤ 65536) cells lines few others

abbrev names : Row
names = codes "a" ∷ codes "b" ∷ []

abbrev rows : List Row
rows = (codes "1" ∷ codes "2" ∷ []) ∷ (codes "3" ∷ []) ∷ []

first_line_is_the_header : IsTable (codes "a\tb\n1\t2\n3\n") (record { header = names; rows = rows; keys = keys_of 0 0 })
unfolding kbart_rows_on_literals Reached
first_line_is_the_header = record {
  text = (omega arith, IsUtf8-from_is_utf8 _ refl);
  lines = (_, _, (_, refl, refl, (_, refl, refl, (_, refl, refl, (refl, refl)))), refl);
  few = omega arith;
  fit = fits names rows (omega arith)
      (fits (codes "1" ∷ codes "2" ∷ []) ((codes "3" ∷ []) ∷ []) (omega arith) (fits (codes "3" ∷ []) [] (omega arith) (All-nil _)));
}

-- ---- errors

-- a byte order mark counts
too_long : (letters : Text) → length letters ≡ 16777214 → IsFault (mark ++ letters) TooLong × ¬ (IsFault (mark ++ letters) NotUtf8)
    × ¬ (IsFault (mark ++ letters) NoHeader)
too_long letters many = (omega (arith, many), λ fault. omega (arith, many, fault.0), λ fault. omega (arith, many, fault.0.0))

largest_table : (letters : Text) → length letters ≡ 16777213 → ¬ (IsFault (mark ++ letters) TooLong)
largest_table letters many fault = omega (arith, many, fault)

no_characters : IsFault (0xFF ∷ []) NotUtf8 × IsFault (codes "a\n" ++ 0xC3 ∷ []) NotUtf8
unfolding kbart_rows_on_literals
no_characters = (
  (omega arith, λ utf8. true≢false (sym (is_utf8-from_IsUtf8 _ utf8))),
  (omega arith, λ utf8. true≢false (sym (is_utf8-from_IsUtf8 _ utf8))),
)

-- bytes that are not UTF-8 are rejected before they are split into lines
characters_before_lines : ¬ (IsFault (0xFF ∷ []) NoHeader) × ¬ (IsFault (codes "\n") NotUtf8)
unfolding kbart_rows_on_literals
characters_before_lines = (
  λ fault. true≢false (sym (is_utf8-from_IsUtf8 _ fault.0.1)),
  λ fault. fault.1 (IsUtf8-from_is_utf8 _ refl),
)

no_header : IsFault [] NoHeader × IsFault (codes "\n\r\n\r") NoHeader × IsFault mark NoHeader
unfolding kbart_rows_on_literals Reached
no_header = (
  ((omega arith, IsUtf8-from_is_utf8 _ refl), (_, _, (refl, refl), refl)),
  ((omega arith, IsUtf8-from_is_utf8 _ refl), (_, _, (refl, refl), refl)),
  ((omega arith, IsUtf8-from_is_utf8 _ refl), (_, _, (refl, refl), refl)),
)

-- so a line of a space is a header
space_is_a_header : ¬ (IsFault (codes " ") NoHeader)
unfolding kbart_rows_on_literals Reached
space_is_a_header fault =
    let lines : AreLines (codes " ") ((codes " " ∷ []) ∷ []) = (_, _, (_, refl, refl, (refl, refl)), refl) in
    let same : (codes " " ∷ []) ∷ [] ≡ [] = lines_are_unique (codes " ") _ _ lines fault.1 in
    omega (arith, ap length same)
