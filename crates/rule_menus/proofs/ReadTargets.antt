-- Targets whose codes are read from the code files of rules are the coded targets of these rules.
use Rattle.std.proofs.Common.{arith, ◌≡◌, List, [], ◌∷◌, map, refl, ap, ◌∙◌}
use Rattle.text_model.specs.Texts.{Text}
use Rattle.code_model.specs.Code.{Code}
use Rattle.code_file.specs.Grammar.{IsCodeFile}
use Rattle.rule_parser.specs.Rules.{RuleSet}
use Rattle.rule_parser.specs.Grammar.{IsRuleText}
use Rattle.compiler_model.specs.Compiled.{code_of}
use Rattle.registry.specs.Targets.{TargetValue}
use Rattle.rule_menus.specs.RuleMenus.{RuleTarget, coded}
use Rattle.rule_menus.specs.RuleFiles.{TargetFiles, IsOfFiles, AreOfFiles}
use Rattle.rule_menus.specs.CodeFiles.{IsCodeFileOf, IsReadFrom, AreReadFrom}
use Rattle.rule_menus.proofs.SameFiles.{HasOneRuleSet}

-- bytes are the file of at most one code
abbrev pub HasOneCode : Type 0
HasOneCode = (bytes : Text) (c d : Code) → IsCodeFile bytes c → IsCodeFile bytes d → c ≡ d

-- a code has one file
abbrev pub HasOneFile : Type 0
HasOneFile = (x y : Text) (c : Code) → IsCodeFile x c → IsCodeFile y c → x ≡ y

module _ (one_set : HasOneRuleSet) where
  code_is_one : (text : Text) (rules others : RuleSet) → IsRuleText text rules → IsRuleText text others → code_of rules ≡ code_of others
  code_is_one text rules others a b = ap code_of (one_set text rules others a b)

  pub one_file : HasOneFile → (text file other : Text) → IsCodeFileOf text file → IsCodeFileOf text other → file ≡ other
  one_file once text file other a b = grind (arith, code_is_one)

  pub read_code : HasOneCode → (text file : Text) (rules : RuleSet) (code : Code) → IsRuleText text rules → IsCodeFileOf text file → IsCodeFile file code
      → code ≡ code_of rules
  read_code once text file rules code are_rules of read =
      once file code (code_of of.rules) read of.compiled ∙ code_is_one text of.rules rules of.are_rules are_rules

-- ---- targets

-- targets with rules, for targets that have the codes of these rules
pub record AreCoded (files : List TargetFiles) (targets : List TargetValue) : Type 0 where
  pub meant : List RuleTarget
  pub of_files : AreOfFiles files meant
  pub coded_as : targets ≡ map coded meant

module _ (once : HasOneCode) where
  meant_by : (files : TargetFiles) (target : TargetValue) → IsReadFrom files target → RuleTarget
  meant_by files target from = record { name = target.name; rules = from.is_of_rules.rules; table = target.table }

  is_of_files : (files : TargetFiles) (target : TargetValue) (from : IsReadFrom files target) → IsOfFiles files (meant_by files target from)
  unfolding meant_by
  is_of_files files target from = record { name = from.name; rules = from.is_of_rules.are_rules; table = from.table }

  is_coded : (files : TargetFiles) (target : TargetValue) (from : IsReadFrom files target) → target ≡ coded (meant_by files target from)
  unfolding meant_by
  is_coded files target from =
      let same = once from.file target.code (code_of from.is_of_rules.rules) from.read from.is_of_rules.compiled in
      ap (λ (c : Code). record { name = target.name; code = c; table = target.table }) same

  pub are_coded : (files : List TargetFiles) (targets : List TargetValue) → AreReadFrom files targets → AreCoded files targets
  are_coded [] [] from = record { meant = []; of_files = tt; coded_as = refl }
  are_coded [] (t ∷ targets) from = absurd from
  are_coded (f ∷ files) [] from = absurd from
  are_coded (f ∷ files) (t ∷ targets) from =
      let rest = are_coded files targets from.1 in
      let first = meant_by f t from.0 in
      record {
        meant = first ∷ rest.meant;
        of_files = (is_of_files f t from.0, rest.of_files);
        coded_as = ap (λ target. target ∷ targets) (is_coded f t from.0) ∙ ap (λ others. coded first ∷ others) rest.coded_as;
      }
