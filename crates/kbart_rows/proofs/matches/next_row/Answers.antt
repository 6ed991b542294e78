use Rattle.std.proofs.Common.{◌≡◌, ℕ, ◌∙◌, ◌+◌, ◌≤◌, true, false, Some, arith, sym, List, length}
use Rattle.std.proofs.lemmas.Grind.{common_steps}
use Rattle.std.proofs.lemmas.Option.{none-some, same_Some}
use Rattle.kbart_rows.specs.Cells.{Holdings}
use Rattle.kbart_rows.specs.Private.Runs.{AreReady, least, matches}
use Rattle.kbart_rows.specs.declared.runs.Runs.{Runs}
use Rattle.text_model.specs.Texts.{Text}
use Rattle.kbart_rows.proofs.MatchLemmas.{first_match, least_small, less_left, match_reached, match_within, none_in, ready_passed}
use Rattle.kbart_rows.proofs.matches.next_row.Goals as goal

-- no row that matches is before the least row
not_before : (table : Holdings) (ids : List Text) (from row other : ℕ) (runs : Runs) → AreReady table ids from runs → least runs ≡ Some row
    → matches table ids other ≡ true → from ≤ other → row ≤ other
not_before table ids from row other runs ready is match low =
    let reached = match_reached table ids from other runs ready match low in
    let same : row ≡ reached.0 = same_Some row reached.0 (sym is ∙ reached.1) in
    let small = reached.2 in
    omega (arith, same, small)

-- nor is it that row, if that one does not match
after_it : (table : Holdings) (ids : List Text) (row other : ℕ) → matches table ids row ≡ false → matches table ids other ≡ true → row ≤ other → row + 1 ≤ other
after_it table ids row other fails match le = grind (arith, common_steps)

pub is_match-requires : goal.is_match-requires
is_match-requires c =
    let small = least_small c.args.table.now c.args.ids.now c.loop-least.least c.in-Some.row c.loop-least.runs c.loop-least.invariant.ready (sym
    c.in-Some.ensures) in
    omega (arith, small)

pub returns-then-is_match-clause-first : goal.returns-then-is_match-clause-first
returns-then-is_match-clause-first c =
    let table = c.args.table.now in
    let ids = c.args.ids.now in
    let row = c.in-Some.row in
    let match = sym c.is_match.ensures ∙ c.if-is_match.true in
    let from = c.loop-least.invariant.from in
    let at = c.if-row-least.true in
    sym (first_match table ids c.args.from row match (omega (arith, from, at)) (match_within table ids row match)
    (λ other found low. not_before table ids c.loop-least.least row other c.loop-least.runs c.loop-least.invariant.ready (sym c.in-Some.ensures) found
    (c.loop-least.invariant.none other found low)))

pub returns-then-is_match-clause-within : goal.returns-then-is_match-clause-within
returns-then-is_match-clause-within c = match_within c.args.table.now c.args.ids.now c.in-Some.row (sym c.is_match.ensures ∙ c.if-is_match.true)

pub returns-then-is_match-clause-ready : goal.returns-then-is_match-clause-ready
returns-then-is_match-clause-ready c =
    let at = c.if-row-least.true in
    ready_passed c.args.table.now c.args.ids.now c.loop-least.least (c.in-Some.row + 1) c.in-Some.row c.loop-least.runs c.pass.new.self c.pass.ensures.entries
    c.pass.ensures.first c.pass.ensures.second c.pass.ensures.third (omega (arith, at)) (omega arith) c.loop-least.invariant.ready

pub overflow_add-least : goal.overflow_add-least
overflow_add-least c =
    let small = least_small c.args.table.now c.args.ids.now c.loop-least.least c.in-Some.row c.loop-least.runs c.loop-least.invariant.ready (sym
    c.in-Some.ensures) in
    omega (arith, small)

pub loop-least-smaller-then-row-least : goal.loop-least-smaller-then-row-least
loop-least-smaller-then-row-least c = less_left c.loop-least.runs c.pass.new.self c.in-Some.row c.pass.ensures.entries c.pass.ensures.first
    c.pass.ensures.second
    c.pass.ensures.third (sym c.in-Some.ensures)

pub loop-least-preserved-then-row-least : goal.loop-least-preserved-then-row-least
loop-least-preserved-then-row-least c =
    let table = c.args.table.now in
    let ids = c.args.ids.now in
    let row = c.in-Some.row in
    let from = c.loop-least.invariant.from in
    let at = c.if-row-least.true in
    let ready = c.loop-least.invariant.ready in
    let fails = sym c.is_match.ensures ∙ c.if-is_match.false in
    record {
      ready = ready_passed table ids c.loop-least.least (row + 1) row c.loop-least.runs c.pass.new.self c.pass.ensures.entries
          c.pass.ensures.first c.pass.ensures.second c.pass.ensures.third (omega (arith, at)) (omega arith) ready;
      from = omega (arith, from, at);
      none = λ other match low. after_it table ids row other fails match
          (not_before table ids c.loop-least.least row other c.loop-least.runs ready (sym c.in-Some.ensures) match (c.loop-least.invariant.none other
          match low));
    }

pub loop-least-smaller : goal.loop-least-smaller
loop-least-smaller c = less_left c.loop-least.runs c.pass.new.self c.in-Some.row c.pass.ensures.entries c.pass.ensures.first c.pass.ensures.second
    c.pass.ensures.third (sym c.in-Some.ensures)

pub loop-least-preserved : goal.loop-least-preserved
loop-least-preserved c =
    let early = c.if-row-least.false in
    record {
      ready = ready_passed c.args.table.now c.args.ids.now c.loop-least.least c.loop-least.least c.in-Some.row c.loop-least.runs c.pass.new.self
          c.pass.ensures.entries c.pass.ensures.first c.pass.ensures.second c.pass.ensures.third (omega arith) (omega (arith, early))
          c.loop-least.invariant.ready;
      from = c.loop-least.invariant.from;
      none = c.loop-least.invariant.none;
    }

pub returns-clause-first : goal.returns-clause-first
returns-clause-first c =
    let table = c.args.table.now in
    let ids = c.args.ids.now in
    sym (none_in (matches table ids) c.args.from (λ row match low.
    let reached = match_reached table ids c.loop-least.least row c.loop-least.runs c.loop-least.invariant.ready match (c.loop-least.invariant.none
    row match low) in
    none-some reached.0 (sym (sym c.least.ensures ∙ c.in_default.is) ∙ reached.1)) 0 (length table.rows))
