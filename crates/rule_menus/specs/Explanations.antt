-- How an explanation ends, and the entry of a menu that agrees with it.
use Rattle.std.specs.Prelude.{◌≡◌, ◌≤◌, ℕ, ◌==◌, Bool, false, not, List, [], ◌∷◌, ◌++◌, All, Option, Some, None, filter, codes, if◌then◌else◌}
use Rattle.std.specs.List.{last_or}
use Rattle.std.specs.Fmt.{decimal}
use Rattle.text_model.specs.Texts.{Text}
use Rattle.kev_read.specs.Pairs.{KeyValue}
use Rattle.rule_explanation.specs.Rows.{tried_rows}
use Rattle.rule_explanation.specs.Explanation.{explanation}
use Rattle.verified_runs.specs.declared.run.TheConstants.{MAX_LINK_BYTES}
use Rattle.menu.specs.Entries.{MenuEntry}
use Rattle.menu.specs.declared.entry.Resolution.{Resolution}
use Rattle.menu.specs.declared.entry.Resolution.TheVariants as resolution
use Rattle.rule_menus.specs.RuleMenus.{RuleTarget, most_bytes_of_row}

-- the code cannot print too many bytes on any row that is tried
abbrev pub AreTriedRowsWithinBudget : List KeyValue → RuleTarget → Type 0
AreTriedRowsWithinBudget pairs target = All (λ row. most_bytes_of_row target pairs row ≤ MAX_LINK_BYTES) (tried_rows target.rules target.table pairs)

-- ---- lines

abbrev pub line_feed : ℕ
line_feed = 0x0A

abbrev pub space : ℕ
space = 0x20

-- the lines of a text that begins with one more byte, which is no LF
abbrev pub after_byte : ℕ → List Text → List Text
after_byte b [] = (b ∷ []) ∷ []
after_byte b (line ∷ lines) = (b ∷ line) ∷ lines

-- the lines of a text, each without the LF that ends it
abbrev pub lines_of : Text → List Text
lines_of [] = []
lines_of (b ∷ bytes) = if b == line_feed then ([] ∷ lines_of bytes) else after_byte b (lines_of bytes)

abbrev pub is_indented : Text → Bool
is_indented [] = false
is_indented (b ∷ bytes) = b == space

abbrev pub last_line : List Text → Option Text
last_line lines = last_or None lines

-- the last line that is not indented: it names the last row
abbrev pub last_row_line : List Text → Option Text
last_row_line lines = last_line (filter (λ line. not (is_indented line)) lines)

abbrev pub row_line : ℕ → Text
row_line row = codes "row " ++ decimal row

abbrev pub holding_line : ℕ → Text → Text
holding_line rule link = codes "  rule " ++ (decimal rule ++ (codes " holds: " ++ link))

-- ---- the last lines

-- the last lines agree with the entry of a target: no row matches; on the last row no rule holds, or the link is not
-- one of the web; or the last row and its link are those of the entry
abbrev pub EndAs : List Text → Resolution → Type 0
EndAs lines resolution.NoRow = last_line lines ≡ Some (codes "no row")
EndAs lines resolution.NoLink = last_line lines ≡ Some (codes "  no rule holds")
EndAs lines resolution.NotAWebLink = last_line lines ≡ Some (codes "  not a web link")
EndAs lines (resolution.Link row link) =
    (last_row_line lines ≡ Some (row_line row)) × (rule : ℕ) × (last_line lines ≡ Some (holding_line rule link))
EndAs lines (resolution.OverBudget bytes) = ⊥

-- the entry has the target's name, and agrees with the last lines of the target's explanation
pub record IsExplained (pairs : List KeyValue) (target : RuleTarget) (entry : MenuEntry) : Type 0 where
  pub name : entry.name ≡ target.name
  pub last : EndAs (lines_of (explanation target.rules target.table pairs)) entry.resolution
