-- The links and the texts of a registry are those of each target alone, one after another.
use Rattle.std.proofs.Common.{◌≡◌, List, [], ◌∷◌, ◌++◌, Option, Some, None, refl, sym, ap, ◌∙◌, append-nil}
use Rattle.std.specs.List.{cons_option, flat_map}
use Rattle.std.proofs.lemmas.Grind.{flat_map-append}
use Rattle.text_model.specs.Texts.{Text}
use Rattle.kev_read.specs.Pairs.{KeyValue}
use Rattle.menu.specs.Links.{NamedLink, link_under, links}
use Rattle.menu.specs.Printed.{report, report_line, text, text_line}
use Rattle.menu.specs.Entries.{MenuEntry}
use Rattle.registry.specs.Entries.{entry_of, menu_of}
use Rattle.registry.specs.Targets.{TargetValue}

first_apart : (first : Option NamedLink) (others : List NamedLink) → cons_option first others ≡ cons_option first [] ++ others
first_apart None others = refl
first_apart (Some l) others = refl

links_apart : (entry : MenuEntry) (menu : List MenuEntry) → links (entry ∷ menu) ≡ links (entry ∷ []) ++ links menu
links_apart entry menu = first_apart (link_under entry.name entry.resolution) (links menu)

text_apart : (entry : MenuEntry) (menu : List MenuEntry) → text (entry ∷ menu) ≡ text (entry ∷ []) ++ text menu
text_apart entry menu = ap (flat_map text_line) (links_apart entry menu) ∙ flat_map-append text_line (links (entry ∷ [])) (links menu)

report_apart : (entry : MenuEntry) (menu : List MenuEntry) → report (entry ∷ menu) ≡ report (entry ∷ []) ++ report menu
report_apart entry menu = ap (λ (line : Text). line ++ report menu) (sym (append-nil (report_line entry)))

module _ (pairs : List KeyValue) where
  pub each_link : (targets : List TargetValue) → links (menu_of targets pairs) ≡ flat_map (λ target. links (menu_of (target ∷ []) pairs)) targets
  each_link [] = refl
  each_link (target ∷ targets) =
      links_apart (entry_of target pairs) (menu_of targets pairs)
      ∙ ap (λ (others : List NamedLink). links (menu_of (target ∷ []) pairs) ++ others) (each_link targets)

  pub each_text : (targets : List TargetValue) → text (menu_of targets pairs) ≡ flat_map (λ target. text (menu_of (target ∷ []) pairs)) targets
  each_text [] = refl
  each_text (target ∷ targets) =
      text_apart (entry_of target pairs) (menu_of targets pairs)
      ∙ ap (λ (others : Text). text (menu_of (target ∷ []) pairs) ++ others) (each_text targets)

  pub each_report : (targets : List TargetValue) → report (menu_of targets pairs) ≡ flat_map (λ target. report (menu_of (target ∷ []) pairs)) targets
  each_report [] = refl
  each_report (target ∷ targets) =
      report_apart (entry_of target pairs) (menu_of targets pairs)
      ∙ ap (λ (others : Text). report (menu_of (target ∷ []) pairs) ++ others) (each_report targets)
