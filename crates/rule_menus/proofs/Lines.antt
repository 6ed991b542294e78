-- The lines of texts that are joined, and the last of them.
use Rattle.std.proofs.Common.{◌≡◌, ℕ, List, [], ◌∷◌, ◌++◌, Bool, true, not, ◌==◌, Option, Some, None, filter, refl, ap, sym, ◌∙◌, codes, arith}
use Rattle.std.specs.List.{AllByRecursion, flat_map, last_or, list_all}
use Rattle.std.proofs.lemmas.Grind.{common_steps}
use Rattle.std.proofs.lemmas.Bool.{and_parts, not-true}
use Rattle.std.proofs.lemmas.List.{append-nil}
use Rattle.std.proofs.lemmas.List.Elements.{filter-append}
use Rattle.std.proofs.lemmas.Option.{none-some}
use Rattle.text_model.specs.Texts.{Text}
use Rattle.menu.specs.declared.entry.Resolution.{Resolution}
use Rattle.rule_menus.specs.Explanations.{EndAs, after_byte, is_indented, line_feed, lines_of}

abbrev pub lacks : ℕ → Text → Bool
lacks c text = list_all (λ b. not (b == c)) text

-- no byte of the text is an LF
abbrev pub is_one_line : Text → Bool
is_one_line text = lacks line_feed text

-- whatever follows the text, it has these lines
pub record HasLines (text : Text) (lines : List Text) : Type 0 where
  pub before : (rest : Text) → lines_of (text ++ rest) ≡ lines ++ lines_of rest

pub no_lines : HasLines [] []
no_lines = record { before = λ rest. refl }

-- an LF ends an empty line
pub line_end : (text : Text) (lines : List Text) → HasLines text lines → HasLines (codes "\n" ++ text) ([] ∷ lines)
line_end text lines h = record { before = λ rest. ap (λ (ls : List Text). [] ∷ ls) (h.before rest) }

-- a text without LF makes the first line longer
pub longer_line : (front text line : Text) (lines : List Text) → is_one_line front ≡ true → HasLines text (line ∷ lines)
    → HasLines (front ++ text) ((front ++ line) ∷ lines)
longer_line [] text line lines one h = h
longer_line (b ∷ front) text line lines one h =
    let parts = and_parts (not (b == line_feed)) (is_one_line front) one in
    let inner = longer_line front text line lines parts.1 h in
    record { before = λ rest. rw (not-true (b == line_feed) parts.0) (ap (after_byte b) (inner.before rest)) }

pub lines_joined : (a b : Text) (xs ys : List Text) → HasLines a xs → HasLines b ys → HasLines (a ++ b) (xs ++ ys)
lines_joined a b xs ys h k = grind (arith, common_steps)

pub are_lines : (text : Text) (lines : List Text) → HasLines text lines → lines_of text ≡ lines
are_lines text lines h = ap lines_of (sym (append-nil text)) ∙ h.before [] ∙ append-nil lines

-- ---- indented lines

abbrev pub begins_row : Text → Bool
begins_row line = not (is_indented line)

-- whole lines, each of which is indented
pub record IsIndented (text : Text) : Type 0 where
  pub lines : List Text
  pub are : HasLines text lines
  pub inner : filter begins_row lines ≡ []

pub indented_nothing : IsIndented []
indented_nothing = record { lines = []; are = no_lines; inner = refl }

pub indented_joined : (a b : Text) → IsIndented a → IsIndented b → IsIndented (a ++ b)
indented_joined a b x y =
    record {
      lines = x.lines ++ y.lines;
      are = lines_joined a b x.lines y.lines x.are y.are;
      inner = filter-append begins_row x.lines y.lines ∙ ap (λ ls. ls ++ filter begins_row y.lines) x.inner ∙ y.inner;
    }

pub indented_all : {A : Type 0} (f : A → Text) (xs : List A) → AllByRecursion (λ x. IsIndented (f x)) xs → IsIndented (flat_map f xs)
indented_all f [] all = indented_nothing
indented_all f (x ∷ xs) all = indented_joined (f x) (flat_map f xs) all.0 (indented_all f xs all.1)

-- ---- the last lines

last_after : (before : Option Text) (lines : List Text) (line : Text) → last_or None lines ≡ Some line → last_or before lines ≡ Some line
last_after before [] line is = absurd (none-some line is)
last_after before (x ∷ lines) line is = is

last_joined_after : (before : Option Text) (front lines : List Text) (line : Text) → last_or None lines ≡ Some line
    → last_or before (front ++ lines) ≡ Some line
last_joined_after before [] lines line is = last_after before lines line is
last_joined_after before (x ∷ front) lines line is = last_joined_after (Some x) front lines line is

pub last_joined : (front lines : List Text) (line : Text) → last_or None lines ≡ Some line → last_or None (front ++ lines) ≡ Some line
last_joined front lines line is = last_joined_after None front lines line is

-- lines before them do not matter
pub end_joined : (front lines : List Text) (r : Resolution) → EndAs lines r → EndAs (front ++ lines) r
end_joined front lines r is = grind (arith, last_joined, lines, filter-append)
