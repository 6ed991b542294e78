use Rattle.std.proofs.Common.{List, ap, sym, ◌∙◌}
use Rattle.std.specs.Str.Lines.{lines}
use Rattle.menu.specs.Links.{links}
use Rattle.menu.specs.Printed.{report, text}
use Rattle.registry.specs.Entries.{menu_of}
use Rattle.registry.specs.Targets.{TargetValue}
use Rattle.menu_laws.specs.Shares.{is_other}
use Rattle.menu_laws.proofs.ShareLemmas.{own_report, own_text}
use Rattle.menu_laws.proofs.targets.targets_are_independent.Goals as goal

pub returns-clause-text : goal.returns-clause-text
returns-clause-text c = λ old new name pairs known other same.
    let share = c.targets_have_their_shares.ensures.text in
    share old pairs (is_other name) known
    ∙ ap (λ (targets : List TargetValue). lines (text (menu_of targets pairs))) same
    ∙ sym (share new pairs (is_other name) other)

pub returns-clause-report : goal.returns-clause-report
returns-clause-report c = λ old new name pairs known other same.
    let share = c.targets_have_their_shares.ensures.report in
    share old pairs (is_other name) known
    ∙ ap (λ (targets : List TargetValue). lines (report (menu_of targets pairs))) same
    ∙ sym (share new pairs (is_other name) other)

pub returns-clause-page : goal.returns-clause-page
returns-clause-page c = λ old new name pairs tokens others known other same read again.
    let share = c.targets_have_their_shares.ensures.page in
    share old pairs (is_other name) tokens known read
    ∙ ap (λ (targets : List TargetValue). links (menu_of targets pairs)) same
    ∙ sym (share new pairs (is_other name) others other again)

pub returns-clause-own : goal.returns-clause-own
returns-clause-own c = λ targets name pairs known. own_text c.menus_are_sound.ensures name targets pairs known

pub returns-clause-own_report : goal.returns-clause-own_report
returns-clause-own_report c = λ targets name pairs known. own_report c.menus_are_sound.ensures name targets pairs known
