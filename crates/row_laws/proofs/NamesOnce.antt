-- A row has each name once, and so has a request.
use Rattle.std.proofs.Common.{Bool, true, false, List, [], ◌∷◌, arith}
use Rattle.text_model.specs.Texts.{Text}
use Rattle.environment_model.specs.Environment.{Environment, with_text}
use Rattle.environment_model.specs.Lists.{is_list}
use Rattle.environment_model.proofs.Environments.{with_text-new}
use Rattle.target_vars.specs.EnvValue.{EachNameOnce}
use Rattle.target_vars.proofs.Once.{once-push, once-with_member}
use Rattle.kev_read.specs.Pairs.{KeyValue}
use Rattle.kev_read.specs.Filling as by_pairs
use Rattle.kbart_rows.specs.Cells.{NamedCell}
use Rattle.kbart_rows.specs.Filling as by_cells
use Rattle.row_laws.specs.Shadowing.{requested, row_of}

once-with_text : (env : Environment) (name t : Text) → EachNameOnce env → EachNameOnce (with_text env name t)
once-with_text env name t once = grind (arith, with_text-new, once-push)

-- ---- all cells, all pairs

once-cells : (env : Environment) (cells : List NamedCell) → EachNameOnce env → EachNameOnce (by_cells.with_named_cells env cells)
once-cells env [] once = once
once-cells env (cell ∷ cells) once = once-cells (by_cells.with_named_cell env cell) cells (once-with_text env cell.name cell.text once)

once-added : (list : Bool) (env : Environment) (pair : KeyValue) → EachNameOnce env → EachNameOnce (by_pairs.added list env pair)
once-added true env pair once = once-with_member env pair.key pair.value once
once-added false env pair once = once-with_text env pair.key pair.value once

once-pairs : (lists : List Text) (env : Environment) (pairs : List KeyValue) → EachNameOnce env → EachNameOnce (by_pairs.filled lists env pairs)
once-pairs lists env [] once = once
once-pairs lists env (pair ∷ pairs) once = once-pairs lists (by_pairs.fill_one lists env pair) pairs (once-added (is_list lists pair.key) env pair once)

pub row_once : (cells : List NamedCell) → EachNameOnce (row_of cells)
row_once cells = once-cells [] cells tt

pub requested_once : (lists : List Text) (pairs : List KeyValue) → EachNameOnce (requested lists pairs)
requested_once lists pairs = once-pairs lists [] pairs tt
