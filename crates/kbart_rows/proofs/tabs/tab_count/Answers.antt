use Rattle.std.proofs.Common.{◌≡◌, ◌==◌, ◌+◌, ◌≤◌, ℕ, count_by, length, map, take, ap, arith}
use Rattle.std.proofs.lemmas.List.{length-take-le}
use Rattle.std.proofs.lemmas.List.Sums.{count_by-le-length, sum_by-append}
use Rattle.std.proofs.lemmas.Simd.{ones-mask_l}
use Rattle.std.proofs.Math.Seq.{take-add}
use Rattle.std.specs.Prelude.{count_ones}
use Rattle.std.specs.Simd.Lanes.{chunk, mask_l}
use Rattle.text_model.specs.Texts.{Text}
use Rattle.kbart_rows.specs.Cells.{tab}
use Rattle.kbart_rows.proofs.tabs.tab_count.Goals as goal

abbrev tabs : Text → ℕ
tabs text = count_by (λ b. b == tab) text

-- 16 bytes more
tabs_more : (line : Text) (at : ℕ) → tabs (take (at + 16) line) ≡ tabs (take at line) + count_ones (mask_l (map (λ b. b == tab) (chunk at 16 line)))
tabs_more line at = grind (arith, take-add, sum_by-append, ones-mask_l)

few_tabs : (text : Text) → tabs text ≤ length text
few_tabs text = count_by-le-length (λ b. b == tab) text

pub overflow_add-count : goal.overflow_add-count
overflow_add-count c =
    let line = c.args.line.now in
    omega (
      arith,
      few_tabs (take (c.loop-at.at + 16) line),
      length-take-le (c.loop-at.at + 16) line (omega (arith, c.loop-at.invariant.within, c.loop-at-test.true)),
      tabs_more line c.loop-at.at,
      c.loop-at.invariant.count,
      ap count_ones c.tabs_of_16.ensures,
    )

pub loop-at-preserved : goal.loop-at-preserved
loop-at-preserved c = record {
  within = omega (arith, c.loop-at.invariant.within, c.loop-at-test.true);
  count = omega (arith, c.loop-at.invariant.count, tabs_more c.args.line.now c.loop-at.at, ap count_ones c.tabs_of_16.ensures);
}
