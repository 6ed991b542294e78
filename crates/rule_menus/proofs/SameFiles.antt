-- Targets with the same bytes have the same entry.
use Rattle.std.proofs.Common.{◌≡◌, List, [], ◌∷◌, refl, sym, ap, ◌∙◌}
use Rattle.std.specs.Prelude.{All}
use Rattle.std.proofs.lemmas.List.Elements.{All-cons, All-nil}
use Rattle.text_model.specs.Texts.{Text}
use Rattle.kev_read.specs.Pairs.{KeyValue}
use Rattle.kbart_rows.specs.Cells.{Row, Holdings}
use Rattle.kbart_rows.specs.declared.keys.Keys.{Keys}
use Rattle.kbart_rows.specs.Reading.{IsTable}
use Rattle.kbart_rows.proofs.ReadingExamples.{lines_are_unique}
use Rattle.rule_parser.specs.Grammar.{IsRuleText}
use Rattle.rule_parser.specs.Rules.{RuleSet}
use Rattle.menu.specs.Entries.{MenuEntry}
use Rattle.rule_menus.specs.RuleMenus.{RuleTarget, HasSoundRules, entry_by_rules, menu_by_rules}
use Rattle.rule_menus.specs.RuleFiles.{TargetFiles, IsOfFiles, AreOfFiles}

abbrev pub HasOneRuleSet : Type 0
HasOneRuleSet = (bytes : Text) (rules others : RuleSet) → IsRuleText bytes rules → IsRuleText bytes others → rules ≡ others

-- ---- lines

-- bytes are at most one table, apart from the keys of its look-ups
one_table : (bytes : Text) (table other : Holdings) → IsTable bytes table → IsTable bytes other → (table.header ≡ other.header) × (table.rows ≡ other.rows)
one_table bytes table other a b =
    let same : table.header ∷ table.rows ≡ other.header ∷ other.rows =
    lines_are_unique bytes (table.header ∷ table.rows) (other.header ∷ other.rows) a.lines b.lines in
    (cc, cc)

-- ---- targets

abbrev entry : Keys → List KeyValue → Text → RuleSet → Row → List Row → MenuEntry
entry keys pairs name rules header rows =
    entry_by_rules (record { name = name; rules = rules; table = record { header = header; rows = rows; keys = keys } }) pairs

module _ (once : HasOneRuleSet) where
  one_entry : (files : TargetFiles) (target other : RuleTarget) (pairs : List KeyValue) → IsOfFiles files target → IsOfFiles files other
      → entry_by_rules target pairs ≡ entry_by_rules other pairs
  one_entry files target other pairs a b =
      let keys = target.table.keys in
      let tables = one_table files.table target.table other.table a.table b.table in
      ap (λ name. entry keys pairs name target.rules target.table.header target.table.rows) (a.name ∙ sym b.name)
      ∙ ap (λ rules. entry keys pairs other.name rules target.table.header target.table.rows) (once files.rules target.rules other.rules a.rules b.rules)
      ∙ ap (λ header. entry keys pairs other.name other.rules header target.table.rows) tables.0
      ∙ ap (λ rows. entry keys pairs other.name other.rules other.table.header rows) tables.1

  pub one_menu : (files : List TargetFiles) (targets others : List RuleTarget) (pairs : List KeyValue) → AreOfFiles files targets → AreOfFiles files others
      → menu_by_rules targets pairs ≡ menu_by_rules others pairs
  one_menu [] [] [] pairs a b = refl
  one_menu [] [] (o ∷ others) pairs a b = absurd b
  one_menu [] (t ∷ targets) others pairs a b = absurd a
  one_menu (f ∷ files) [] others pairs a b = absurd a
  one_menu (f ∷ files) (t ∷ targets) [] pairs a b = absurd b
  one_menu (f ∷ files) (t ∷ targets) (o ∷ others) pairs a b =
      let first = one_entry f t o pairs a.0 b.0 in
      let rest = one_menu files targets others pairs a.1 b.1 in
      cc

pub rules_sound : (files : List TargetFiles) (targets : List RuleTarget) → AreOfFiles files targets → All HasSoundRules targets
rules_sound [] [] a = All-nil HasSoundRules
rules_sound [] (t ∷ targets) a = absurd a
rules_sound (f ∷ files) [] a = absurd a
rules_sound (f ∷ files) (t ∷ targets) a = All-cons HasSoundRules t targets a.0.rules.sound (rules_sound files targets a.1)
