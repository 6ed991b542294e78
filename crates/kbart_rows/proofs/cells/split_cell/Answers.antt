use Rattle.std.proofs.Common.{Bor, ◌≡◌, ◌∷◌, ◌++◌, [], Option, Some, None, IfSome, IfNone, drop, length, take, ap, sym, refl, ◌∙◌, arith, append-nil}
use Rattle.std.proofs.lemmas.Grind.{common_steps}
use Rattle.std.proofs.Common.{append_assoc, length-append}
use Rattle.std.specs.Option.{unwrap_or}
use Rattle.text_model.specs.Texts.{Text}
use Rattle.kbart_rows.specs.Cells.{tab}
use Rattle.kbart_rows.specs.Lines.{cells_in}
use Rattle.kbart_rows.specs.Private.Line.{IsSplit}
use Rattle.kbart_rows.proofs.LineCells.{no_cells}
use Rattle.kbart_rows.proofs.cells.split_cell.Goals as goal

rest : (line : Text) (found : Option (Bor Text × Bor Text)) (other : Bor Text × Bor Text) → other.1.now ≡ []
    → IfSome found (λ p. cells_in line ≡ p.0.now ∷ cells_in p.1.now) → IfNone found (cells_in line ≡ []) → cells_in (unwrap_or found other).1.now
    ≡ drop 1 (cells_in line)
rest line found other empty some none = grind (arith, no_cells)

take_whole : (cell others : Text) → take (length cell) (cell ++ others) ≡ cell
take_whole cell others = grind (arith, common_steps)

parts : (line : Text) (found : Option (Bor Text × Bor Text)) (other : Bor Text × Bor Text) → other.0.now ≡ [] → other.1.now ≡ []
    → IfSome found (λ p. line ≡ p.0.now ++ tab ∷ p.1.now) → IsSplit line (unwrap_or found other).0.now (unwrap_or found other).1.now
parts line None other empty none some = rw (empty, none) record {
  starts = refl;
  within = omega arith;
  front = line;
  parts = sym (append-nil line);
}
parts line (Some (cell, others)) other empty none some =
    let long = ap length some ∙ length-append cell.now (tab ∷ others.now) in
    record {
      starts = ap (take (length cell.now)) some ∙ take_whole cell.now (tab ∷ others.now);
      within = omega (arith, long);
      front = cell.now ++ tab ∷ [];
      parts = some ∙ sym (append_assoc cell.now (tab ∷ []) others.now);
    }

pub returns-clause-rest : goal.returns-clause-rest
returns-clause-rest c = rw c.unwrap_or.ensures (rest c.args.line.now c.next_cell.result _ refl c.next_cell.ensures.cell c.next_cell.ensures.none)

pub returns-clause-parts : goal.returns-clause-parts
returns-clause-parts c = rw c.unwrap_or.ensures (parts c.args.line.now c.next_cell.result _ refl refl c.next_cell.ensures.parts)
