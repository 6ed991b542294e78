-- Why bytes and texts cannot be read as what they should be. An allocation is never reported to have failed for bytes that are too long to be read.
use Rattle.std.specs.Prelude.{◌≡◌, ◌≢◌, ◌≤◌, Some, length}
use Rattle.text_model.specs.Texts.{Text}
use Rattle.uri_grammar.specs.Texts.{IsRefusedTemplate}
use Rattle.uri_grammar.specs.declared.error.TemplateError.{TemplateError}
use Rattle.rule_parser.specs.Faults.{IsRefused}
use Rattle.rule_parser.specs.declared.error.RuleError.{RuleError}
use Rattle.code_model.specs.Code.{Code}
use Rattle.code_file.specs.Fault.{IsFirstFault}
use Rattle.code_file.specs.Grammar.{IsCodeFile}
use Rattle.code_file.specs.declared.error.CodeError.{CodeError}
use Rattle.verifier.specs.Faults.{IsLoadFault}
use Rattle.verifier.specs.declared.error.LoadError.{LoadError}
use Rattle.verifier.specs.declared.error.LoadError.TheVariants as load
use Rattle.kbart_rows.specs.Reading.{IsFault, IsText}
use Rattle.kbart_rows.specs.declared.error.TableError.{TableError}
use Rattle.kbart_rows.specs.declared.error.TableError.TheVariants as table
use Rattle.kev_read.specs.Refusal as kev
use Rattle.kev_read.specs.declared.error.KevError.{KevError}
use Rattle.answers.specs.declared.refusal.Refusal.{Refusal}
use Rattle.answers.specs.declared.refusal.Refusal.TheVariants as refusal

-- the text is not a template, or an allocation failed
pub data IsNoTemplate (text : Text) : Refusal → Type 0 where
  no_memory : length text ≤ 8192 → IsNoTemplate text refusal.Memory
  refused : (e : TemplateError) → IsRefusedTemplate text e.kind e.at → IsNoTemplate text (refusal.Template e)

-- the bytes are not a rule text, or an allocation failed
pub data IsNoRules (bytes : Text) : Refusal → Type 0 where
  no_memory : length bytes ≤ 65536 → IsNoRules bytes refusal.Memory
  refused : (e : RuleError) → IsRefused bytes e.kind e.line → IsNoRules bytes (refusal.Rules e)

-- the bytes are not a code file, or an allocation failed
pub data IsNoCodeFile (bytes : Text) : Refusal → Type 0 where
  no_memory : (code : Code) → IsCodeFile bytes code → IsNoCodeFile bytes refusal.Memory
  refused : (e : CodeError) → IsFirstFault bytes e → IsNoCodeFile bytes (refusal.Code e)

-- the verifier rejects the bytes, or an allocation failed
pub data IsNotAccepted (bytes : Text) : Refusal → Type 0 where
  no_memory : (code : Code) → IsCodeFile bytes code → IsNotAccepted bytes refusal.Memory
  refused : (e : LoadError) → IsLoadFault bytes e → e ≢ load.NoMemory → IsNotAccepted bytes (refusal.Load e)

-- the bytes are not a holdings table, or an allocation failed
pub data IsNoTable (bytes : Text) : Refusal → Type 0 where
  no_memory : IsText bytes → IsNoTable bytes refusal.Memory
  refused : (e : TableError) → IsFault bytes e → e ≢ table.NoMemory → IsNoTable bytes (refusal.Table e)

-- the query is not a request, or an allocation failed
pub data IsNoRequest (query : Text) : Refusal → Type 0 where
  no_memory : length query ≤ 65536 → IsNoRequest query refusal.Memory
  refused : (e : KevError) → kev.refusal query ≡ Some e → IsNoRequest query (refusal.Query e)
