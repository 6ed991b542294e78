-- Groups in braces (LaTeX2e: An unofficial reference manual, section "LaTeX command syntax").
use Rattle.std.specs.Prelude.{ℕ, suc, ◌==◌, ◌||◌, not, Bool, true, false, [], ◌∷◌, Option, Some, None, if◌then◌else◌}
use Rattle.std.specs.List.{remove}
use Rattle.std.specs.Option.{option_map, unwrap_or}
use Rattle.text_model.specs.Texts.{Text}
use Rattle.latex_text.specs.Places.{backslash, opening, closing, dollar}

-- how many bytes are before the end of a group; none if a command or another group is before it, but for formulas
abbrev pub closing_at : Bool → Text → Option ℕ
closing_at in_formula [] = None
closing_at true (b ∷ t) = option_map suc (closing_at (not (b == dollar)) t)
closing_at false (b ∷ t) =
    if b == closing then Some 0 else if b == backslash || b == opening then None else option_map suc (closing_at (b == dollar) t)

-- what is after the beginning of a group, without the end of the group
abbrev pub opened : Text → Option Text
opened t = option_map (λ n. remove t n) (closing_at false t)

-- without the braces of the group with which a text begins
abbrev pub ungrouped : Text → Text
ungrouped [] = []
ungrouped (b ∷ t) = if b == opening then unwrap_or (opened t) (b ∷ t) else b ∷ t
