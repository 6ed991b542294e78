-- Rules mean the same in the environment with the lists of their code as in the one with their own lists.
use Rattle.std.proofs.Common.{◌≡◌, ℕ, List, [], Option, None, refl, sym, arith}
use Rattle.std.specs.Prelude.{◌↔◌, All, if◌then◌else◌}
use Rattle.std.proofs.lemmas.Grind.{common_steps}
use Rattle.std.proofs.lemmas.List.Elements.{recursion_from_All}
use Rattle.text_model.specs.Texts.{Text}
use Rattle.environment_model.specs.Environment.{Environment, look_up, is_there, text_of, members_of}
use Rattle.environment_model.specs.Lists.{is_list}
use Rattle.code_model.specs.Code.{Code}
use Rattle.machine_model.specs.Runs.{HasOutcome, Outcome}
use Rattle.kev_read.specs.Pairs.{KeyValue, first_of, all_of}
use Rattle.kev_read.specs.Filling.{filled}
use Rattle.kbart_rows.specs.Cells.{NamedCell, named_cells}
use Rattle.row_laws.specs.Shadowing.{requested, row_of}
use Rattle.row_scope.specs.RowEnvironments.{cells_of_row, lists_of}
use Rattle.rule_parser.specs.Rules.{RuleSet, IsSound}
use Rattle.rule_parser.specs.Meaning.{meaning}
use Rattle.compiler_model.specs.Answer.{answer}
use Rattle.compiler_model.specs.Compiled.{code_of}
use Rattle.rule_menus.specs.RuleMenus.{RuleTarget, environment_by_code, environment_by_rules}
use Rattle.rule_menus.proofs.SameNames.{IsDeclared, same_kind}
use Rattle.rule_menus.proofs.SameRuns.{AgreeOn, same_states}

-- ---- laws of lower crates

-- the code of rules ends with what they mean
abbrev pub CodeMeansRules : Type 0
CodeMeansRules = (rules : RuleSet) → IsSound rules → (v : Environment) (o : Outcome) → HasOutcome (code_of rules) v o ↔ (answer (meaning rules v) ≡ o)

pub record LawsBelow : Type 0 where
  -- a cell hides the request's value of its name
  pub shadow : (lists : List Text) (cells : List NamedCell) (pairs : List KeyValue) (name : Text)
      → look_up (filled lists (row_of cells) pairs) name
      ≡ (if is_there (row_of cells) name then look_up (row_of cells) name else look_up (requested lists pairs) name)
  -- a request has the first value of a key as a text, or all of them as a list
  pub texts : (lists : List Text) (pairs : List KeyValue) (key : Text)
      → text_of (requested lists pairs) key ≡ (if is_list lists key then None else first_of pairs key)
  pub members : (lists : List Text) (pairs : List KeyValue) (key : Text)
      → members_of (requested lists pairs) key ≡ (if is_list lists key then all_of pairs key else [])
  pub means : CodeMeansRules
  -- each name of their code has the kind that they declare
  pub declared : (rules : RuleSet) → IsSound rules → All (IsDeclared rules.lists) (code_of rules).names

module _ (laws : LawsBelow) where
  -- ---- look-ups

  module _ (lists others : List Text) (cells : List NamedCell) (pairs : List KeyValue) where
    abbrev entries : Environment
    entries = row_of cells

    text_agrees : (name : Text) → is_list lists name ≡ is_list others name
        → text_of (filled lists entries pairs) name ≡ text_of (filled others entries pairs) name
    text_agrees name same = grind (arith, common_steps)

    members_agree : (name : Text) → is_list lists name ≡ is_list others name
        → members_of (filled lists entries pairs) name ≡ members_of (filled others entries pairs) name
    members_agree name same = grind (arith, common_steps)

  -- ---- runs

  module _ (target : RuleTarget) (sound : IsSound target.rules) (pairs : List KeyValue) (row : ℕ) where
    abbrev code : Code
    code = code_of target.rules

    abbrev by_code : Environment
    by_code = environment_by_code target pairs row

    abbrev by_rules : Environment
    by_rules = environment_by_rules target pairs row

    agree : AgreeOn code by_code by_rules
    agree k name at =
        let lists = lists_of code in
        let own = target.rules.lists in
        let cells = named_cells target.table.header (cells_of_row target.table row) in
        let same = same_kind own code.names k name (recursion_from_All (IsDeclared own) code.names (laws.declared target.rules sound)) at in
        (text_agrees lists own cells pairs name.text same, members_agree lists own cells pairs name.text same)

    same_ending : (m : Option Text) → HasOutcome code by_code (answer m) → HasOutcome code by_rules (answer m)
    same_ending m has = grind (arith, same_states, agree)

    one_answer : (m n : Option Text) → answer m ≡ answer n → m ≡ n
    one_answer m n same = grind (arith, common_steps)

    -- a list that is declared but not used does not change the meaning
    pub same_meaning : meaning target.rules by_code ≡ meaning target.rules by_rules
    same_meaning =
        let m = meaning target.rules by_code in
        let there = same_ending m ((laws.means target.rules sound by_code (answer m)).1 refl) in
        sym (one_answer (meaning target.rules by_rules) m ((laws.means target.rules sound by_rules (answer m)).0 there))
