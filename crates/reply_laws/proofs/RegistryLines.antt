-- What the lines of a registry file decide of what is loaded.
use Rattle.std.proofs.Common.{List, [], ◌∷◌, sym, subst}
use Rattle.text_model.specs.Texts.{Text}
use Rattle.kbart_rows.specs.Cells.{Row}
use Rattle.kbart_rows.specs.Reading.{AreLines}
use Rattle.kbart_rows.specs.declared.keys.Keys.{Keys}
use Rattle.kbart_rows.proofs.ReadingExamples.{lines_are_unique}
use Rattle.registry.specs.Targets.{TargetValue}
use Rattle.files.specs.Found.{Disk, Gives}
use Rattle.registry_file.specs.Loading.{AreTargetsOf}
use Rattle.rule_menus.specs.CodeFiles.{AreReadFrom, IsReadFrom}
use Rattle.rule_menus.specs.RuleFiles.{TargetFiles, AreOfFiles}
use Rattle.rule_menus.specs.RuleMenus.{RuleTarget}
use Rattle.reply_laws.specs.Files.{AreLinesOf, IsRegistryOf}
use Rattle.reply_laws.proofs.ServedFiles.{given, read_all}

-- ---- bytes have one list of lines

-- ---- targets

pub loaded : (disk : Disk) (keys : Keys) (path bytes : Text) (targets : List TargetValue) (files : List TargetFiles) → IsRegistryOf disk path files
    → Gives (disk path) bytes → AreTargetsOf disk keys bytes targets
    → AreReadFrom files targets
loaded disk keys path bytes targets files r gives held =
    let same = given (disk path) bytes r.registry r.file gives in
    let here : AreLines r.registry held.rows = subst (λ (bytes : Text). AreLines bytes held.rows) (sym same) held.lines in
    let rows = lines_are_unique r.registry r.rows held.rows r.lines here in
    read_all disk keys held.rows files targets (subst (λ (rows : List Row). AreLinesOf disk rows files) rows r.targets) held.held

-- the rules of a target's code file, and its table
rules_of_target : (files : TargetFiles) (target : TargetValue) → IsReadFrom files target → RuleTarget
rules_of_target files target from = record { name = target.name; rules = from.is_of_rules.rules; table = target.table }

pub some_rules : (files : List TargetFiles) (targets : List TargetValue) → AreReadFrom files targets → (by_rules : List RuleTarget) × AreOfFiles files by_rules
unfolding rules_of_target
some_rules [] [] from = ([], tt)
some_rules [] (t ∷ targets) from = absurd from
some_rules (f ∷ files) [] from = absurd from
some_rules (f ∷ files) (t ∷ targets) from =
    let rest = some_rules files targets from.1 in (
      rules_of_target f t from.0 ∷ rest.0,
      (record { name = from.0.name; rules = from.0.is_of_rules.are_rules; table = from.0.table }, rest.1),
    )
