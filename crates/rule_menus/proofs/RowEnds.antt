-- How the text of one row ends.
use Rattle.std.proofs.Common.{arith}
use Rattle.std.proofs.lemmas.Grind.{common_steps}
use Rattle.std.proofs.Common.{◌≡◌, ℕ, List, [], ◌∷◌, ◌++◌, Bool, true, false, Option, Some, None, IfSome, MatchOption, filter, refl, ap, sym, subst, codes}
use Rattle.std.specs.Prelude.{if◌then◌else◌}
use Rattle.std.specs.List.{last_or}
use Rattle.std.specs.Fmt.{decimal}
use Rattle.std.proofs.lemmas.List.{append-nil}
use Rattle.text_model.specs.Texts.{Text}
use Rattle.environment_model.specs.Environment.{Environment}
use Rattle.menu.specs.WebLink.{is_web_link}
use Rattle.menu.specs.declared.entry.Resolution.{Resolution}
use Rattle.menu.specs.declared.entry.Resolution.TheVariants as resolution
use Rattle.registry.specs.Entries.{resolution_by}
use Rattle.rule_parser.specs.Meaning.{meaning, seen}
use Rattle.rule_parser.specs.Rules.{IsSound, RuleSet}
use Rattle.rule_explanation.specs.Failing.{holding_rule}
use Rattle.rule_explanation.specs.Explanation.{holding_lines, link_lines, row_text}
use Rattle.rule_menus.specs.RuleMenus.{fate_of_meaning}
use Rattle.rule_menus.specs.Explanations.{EndAs, holding_line, last_row_line, row_line}
use Rattle.rule_menus.proofs.Lines.{HasLines, IsIndented, begins_row, is_one_line, last_joined, line_end, lines_joined, longer_line, no_lines}
use Rattle.rule_menus.proofs.OneLine.{decimal_one}
use Rattle.rule_menus.proofs.RowLines.{ExpansionsAreUriText, TreesAreSound, meaning_on_one_line, sound_indented}

-- the lines of the text end as the resolution says
pub record Ends (text : Text) (r : Resolution) : Type 0 where
  pub lines : List Text
  pub are : HasLines text lines
  pub last : EndAs lines r

-- a row, indented lines, and how they end
module _ (row : ℕ) (details text : Text) (inner : IsIndented details) where
  abbrev whole : Text
  whole = codes "row " ++ (decimal row ++ (codes "\n" ++ (details ++ text)))

  abbrev first : Text
  first = codes "row " ++ (decimal row ++ [])

  whole_lines : (ending : List Text) → HasLines text ending → HasLines whole (first ∷ (inner.lines ++ ending))
  whole_lines ending are =
      longer_line (codes "row ") _ _ _ refl
      (longer_line (decimal row) _ [] _ (decimal_one row) (line_end _ _ (lines_joined details text inner.lines ending inner.are are)))

  names_row : (ending : List Text) → filter begins_row ending ≡ [] → last_row_line (first ∷ (inner.lines ++ ending)) ≡ Some (row_line row)
  names_row ending indented = grind (arith, common_steps)

  last_of_whole : (ending : List Text) (line : Text) → last_or None ending ≡ Some line → last_or None (first ∷ (inner.lines ++ ending)) ≡ Some line
  last_of_whole ending line is = last_joined (first ∷ inner.lines) ending line is

  abbrev held : ℕ → Text → Text
  held place link = codes "  rule " ++ (decimal place ++ (codes " holds: " ++ (link ++ [])))

  held_is : (place : ℕ) (link : Text) → held place link ≡ holding_line place link
  held_is place link = ap (λ t. codes "  rule " ++ (decimal place ++ (codes " holds: " ++ t))) (append-nil link)

  held_lines : (place : ℕ) (link after : Text) (lines : List Text) → is_one_line link ≡ true → HasLines after lines
      → HasLines (codes "  rule " ++ (decimal place ++ (codes " holds: " ++ (link ++ (codes "\n" ++ after))))) (held place link ∷ lines)
  held_lines place link after lines one are =
      longer_line (codes "  rule ") _ _ lines refl
      (longer_line (decimal place) _ _ lines (decimal_one place)
      (longer_line (codes " holds: ") _ _ lines refl (longer_line link _ [] lines one (line_end after lines are))))

  abbrev Says : Option Text → Type 0
  Says o = MatchOption o (text ≡ codes "  no rule holds\n") (λ link. (place : ℕ) × (text ≡ link_lines place link))

  pub whole_ends : (o : Option Text) → Says o → IfSome o (λ link. is_one_line link ≡ true) → Ends whole (resolution_by row (fate_of_meaning o))
  whole_ends None says one =
      let ending : List Text = codes "  no rule holds" ∷ [] in
      let are : HasLines (codes "  no rule holds\n") ending = record { before = λ rest. refl } in
      record {
        lines = first ∷ (inner.lines ++ ending);
        are = whole_lines ending (subst (λ t. HasLines t ending) (sym says) are);
        last = last_of_whole ending (codes "  no rule holds") refl;
      }
  whole_ends (Some link) says one = by_web (is_web_link link) says.1
    where
      by_web : (web : Bool)
          → text ≡ codes "  rule " ++ (decimal says.0 ++ (codes " holds: " ++ (link ++ (codes "\n" ++ (if web then [] else codes "  not a web link\n")))))
          → Ends whole (if web then resolution.Link row link else resolution.NotAWebLink)
      by_web true is =
          let ending : List Text = held says.0 link ∷ [] in
          record {
            lines = first ∷ (inner.lines ++ ending);
            are = whole_lines ending (subst (λ t. HasLines t ending) (sym is) (held_lines says.0 link [] [] one no_lines));
            last = (names_row ending refl, says.0, last_of_whole ending (holding_line says.0 link) (ap Some (held_is says.0 link)));
          }
      by_web false is =
          let ending : List Text = held says.0 link ∷ codes "  not a web link" ∷ [] in
          let other : HasLines (codes "  not a web link\n") (codes "  not a web link" ∷ []) = record { before = λ rest. refl } in
          record {
            lines = first ∷ (inner.lines ++ ending);
            are = whole_lines ending (subst (λ t. HasLines t ending) (sym is) (held_lines says.0 link _ _ one other));
            last = last_of_whole ending (codes "  not a web link") refl;
          }

-- what is printed of a rule that holds, or of none
abbrev pub PrintedIsMeant : Type 0
PrintedIsMeant = (rules : RuleSet) (env : Environment) → MatchOption (meaning rules env)
    (holding_lines (seen rules env) (holding_rule (seen rules env) rules.rules) ≡ codes "  no rule holds\n")
    (λ link. (place : ℕ) × (holding_lines (seen rules env) (holding_rule (seen rules env) rules.rules) ≡ link_lines place link))

pub record LawsOfRows : Type 0 where
  pub trees : TreesAreSound
  pub uri : ExpansionsAreUriText
  pub printed : PrintedIsMeant

pub row_ends : (laws : LawsOfRows) (rules : RuleSet) → IsSound rules → (env : Environment) (detailed : Bool) (row : ℕ)
    → Ends (row_text rules env detailed row) (resolution_by row (fate_of_meaning (meaning rules env)))
row_ends laws rules sound env detailed row =
    whole_ends row _ (holding_lines (seen rules env) (holding_rule (seen rules env) rules.rules)) (sound_indented rules (seen rules env) detailed sound)
    (meaning rules env) (laws.printed rules env) (meaning_on_one_line laws.trees laws.uri rules env sound)
