use Rattle.std.proofs.Common.{arith, List, ap, ◌∙◌}
use Rattle.registry.specs.Targets.{TargetValue}
use Rattle.registry.specs.Entries.{menu_of}
use Rattle.http_exchange.specs.RouteReplies.{page_text}
use Rattle.rule_menus.proofs.ReadTargets.{are_coded}
use Rattle.rule_menus.proofs.laws.compiled_files_have_one_menu.Goals as goal

pub returns-clause-meant : goal.returns-clause-meant
returns-clause-meant c = λ files targets by_rules pairs read of_files.
    let by = are_coded c.file_has_one_code.ensures files targets read in
    ap (λ (ts : List TargetValue). menu_of ts pairs) by.coded_as
    ∙ c.files_have_one_menu.ensures.one files by.meant by_rules pairs by.of_files of_files
    ∙ c.files_have_one_menu.ensures.meant files by_rules pairs of_files

pub returns-clause-one : goal.returns-clause-one
returns-clause-one c = grind (arith, are_coded, c.file_has_one_code.ensures, returns-clause-meant)

pub returns-clause-pages : goal.returns-clause-pages
returns-clause-pages c = λ files targets by_rules pairs page read of_files.
    ap (page_text page) (returns-clause-meant c files targets by_rules pairs read of_files)
