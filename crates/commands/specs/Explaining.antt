-- What `explain` prints.
use Rattle.std.specs.Prelude.{◌≡◌, ℕ, codes, Option, Some, None, true, false}
use Rattle.std.specs.Borrow.{Bor}
use Rattle.text_model.specs.Texts.{Text}
use Rattle.files.specs.Found.{Disk}
use Rattle.files.specs.declared.call.FileCall.{FileCall}
use Rattle.kev_read.specs.Pairs.{pairs_of}
use Rattle.kev_read.specs.Refusal.{refusal}
use Rattle.kbart_rows.specs.Cells.{Holdings}
use Rattle.kbart_rows.specs.Reading.{IsTable}
use Rattle.kbart_rows.specs.declared.keys.Keys.{Keys}
use Rattle.rule_parser.specs.Rules.{RuleSet}
use Rattle.rule_explanation.specs.Explanation.{explanation}
use Rattle.rule_explanation.specs.Rows.{has_web_link}
use Rattle.answers.specs.Reading.{IsNoTable, IsNoRequest}
use Rattle.answers.specs.declared.refusal.Refusal.{Refusal}
use Rattle.answers.specs.declared.refusal.Refusal.TheVariants.{Memory}
use Rattle.commands.specs.Reading.{IsTarget, IsNoTarget}
use Rattle.commands.specs.Output.{Output}
use Rattle.commands.specs.declared.fault.Fault.{Fault}
use Rattle.commands.specs.declared.fault.Fault.TheVariants.{Refused, Warning, Device}

-- the text that explains what the rules give on the rows of the table is printed; whether one has a web link is in the error
pub data Explained (rules : RuleSet) (table : Holdings) (query : Text) (output : Output) : Option Fault → Type 0 where
  no_request : (e : Refusal) → IsNoRequest query e → output.gets_nothing → Explained rules table query output (Some (Refused e))
  explained : refusal query ≡ None → output.gets (explanation rules table (pairs_of query)) → has_web_link rules table (pairs_of query) ≡ true
      → Explained rules table query output None
  no_web_link : refusal query ≡ None → output.gets (explanation rules table (pairs_of query)) → has_web_link rules table (pairs_of query) ≡ false
      → Explained rules table query output (Some Warning)
  unprinted : (path : Bor Text) → refusal query ≡ None → path.now ≡ codes "-" → output.gets_part (explanation rules table (pairs_of query))
      → Explained rules table query output (Some (Device path))
  in_part : refusal query ≡ None → output.gets_part (explanation rules table (pairs_of query)) → Explained rules table query output (Some (Refused Memory))

-- the rules, the table and the query are read, in this order, and what they give is explained
module _ {F K : Type 0} (at : F → Disk) (fails runs_out : F → FileCall → Text → F → Type 0) (draws : K → ℕ → ℕ → K → Type 0) (no_keys : K → K → Type 0)
    (old new : F) (first last : K) (rules table : Bor Text) (query : Text) (output : Output) where
  pub data Explains : Option Fault → Type 0 where
    no_target : (fault : Fault) → IsNoTarget at fails runs_out no_keys old new first last rules table fault → output.gets_nothing → Explains (Some fault)
    no_table : (set : RuleSet) (bytes : Text) (keys : Keys) (e : Refusal) → IsTarget draws (at old) first last rules table set bytes keys → IsNoTable bytes e
        → output.gets_nothing → Explains (Some (Refused e))
    explains : (set : RuleSet) (bytes : Text) (held : Holdings) (end : Option Fault) → IsTarget draws (at old) first last rules table set bytes held.keys
        → IsTable bytes held → Explained set held query output end → Explains end
