use Rattle.std.proofs.Common.{◌≡◌, ◌==◌, not, sym, ◌∙◌, arith}
use Rattle.std.proofs.lemmas.Bool.{eqb-true, eqb-false}
use Rattle.std.proofs.lemmas.Simd.{none_from_empty_mask, run_in_chunk_le, run_in_chunk_fails, run_in_chunk_stops}
use Rattle.std.specs.List.{prefix_len}
use Rattle.std.specs.Simd.Lanes.{chunk}
use lib.Count.{count_trailing_zeros}
use Rattle.kev_read.proofs.FirstLanes.{lowest_bit}
use Rattle.kbart_rows.specs.Cells.{tab}
use Rattle.kbart_rows.proofs.tabs.bytes_before_tab.Goals as goal

pub returns-then-tabs-eq0-clause-lacks : goal.returns-then-tabs-eq0-clause-lacks
returns-then-tabs-eq0-clause-lacks c k low high =
    eqb-false _ tab
    (none_from_empty_mask (λ b. b == tab) c.args.line.now c.args.place 16 0 c.requires (sym c.tabs_of_16-tabs.ensures ∙ c.if-tabs-eq0.true) k low high)

-- the lowest bit is that of the first tab
lowest : (c : goal.Else-tabs-eq0) → count_trailing_zeros 64 c.tabs_of_16-tabs.result ≡ prefix_len (λ b. not (b == tab)) (chunk c.args.place 16 c.args.line.now)
lowest c =
    lowest_bit (λ b. b == tab) c.args.line.now c.args.place _ c.tabs_of_16-tabs.ensures c.requires (omega (arith, c.if-tabs-eq0.false))

pub returns-else-tabs-eq0-clause-few : goal.returns-else-tabs-eq0-clause-few
returns-else-tabs-eq0-clause-few c = run_in_chunk_le (λ b. b == tab) c.args.line.now c.args.place 16 _ 0 c.requires (lowest c)

pub returns-else-tabs-eq0-clause-lacks : goal.returns-else-tabs-eq0-clause-lacks
returns-else-tabs-eq0-clause-lacks c k low high =
    eqb-false _ tab (run_in_chunk_fails (λ b. b == tab) c.args.line.now c.args.place 16 _ 0 c.requires (lowest c) k low high)

pub returns-else-tabs-eq0-clause-tab : goal.returns-else-tabs-eq0-clause-tab
returns-else-tabs-eq0-clause-tab c few =
    eqb-true _ tab (run_in_chunk_stops (λ b. b == tab) c.args.line.now c.args.place 16 _ 0 c.requires (lowest c) few)
