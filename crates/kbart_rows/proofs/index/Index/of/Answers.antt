use Rattle.std.proofs.Common.{◌<◌, ◌∙◌, ◌∷◌, [], List, arith, drop, rules, subst, sym}
use Rattle.std.proofs.lemmas.List.Sorted.{All-permutation, Contains-permutation, IsNonDecreasingBy-from_sort_by_key}
use Rattle.std.specs.List.Sorted.{IsPermutation}
use Rattle.kbart_rows.specs.Private.Index.{AreSmall, HasEntries, IsOrdered, entry_for, entry_key}
use Rattle.kbart_rows.specs.declared.index.Entry.{Entry}
use Rattle.kbart_rows.proofs.EntryLemmas.{sorted_same, starting_same}
use Rattle.kbart_rows.proofs.index.Index.of.Goals as goal

pub starts_of-requires-clause-order : goal.starts_of-requires-clause-order
starts_of-requires-clause-order c =
    let new = c.sort_unstable_by_key.new.self in
    let same = sorted_same c.in_ok-entries.entries.len new c.in_ok-entries.entries.items c.as_slice.result.now c.as_slice.ensures.value
    (c.sort_unstable_by_key.ensures.len ∙ c.as_mut_slice.ensures.len) in
    subst IsOrdered (sym same) (IsNonDecreasingBy-from_sort_by_key entry_key new c.sort_unstable_by_key.ensures.sorted (λ a r f' called. search rules))

pub starts_of-requires-clause-small : goal.starts_of-requires-clause-small
starts_of-requires-clause-small c =
    let new = c.sort_unstable_by_key.new.self in
    let same = sorted_same c.in_ok-entries.entries.len new c.in_ok-entries.entries.items c.as_slice.result.now c.as_slice.ensures.value
    (c.sort_unstable_by_key.ensures.len ∙ c.as_mut_slice.ensures.len) in
    let moved = subst (λ (old : List Entry). IsPermutation old new) c.as_mut_slice.ensures.value c.sort_unstable_by_key.ensures.permutation in
    subst AreSmall (sym same)
    (All-permutation (λ (entry : Entry). entry.row < 4294967296) c.in_ok-entries.entries.items new moved c.in_ok-entries.ensures.small)

pub invariant_of-result : goal.invariant_of-result
invariant_of-result c =
    let new = c.sort_unstable_by_key.new.self in
    let same = sorted_same c.in_ok-entries.entries.len new c.in_ok-entries.entries.items c.as_slice.result.now c.as_slice.ensures.value
    (c.sort_unstable_by_key.ensures.len ∙ c.as_mut_slice.ensures.len) in
    let whole = sym same ∙ c.as_slice.ensures.value in
    let moved = subst (λ (old : List Entry). IsPermutation old new) c.as_mut_slice.ensures.value c.sort_unstable_by_key.ensures.permutation in
    record {
      fits = omega arith;
      order = subst IsOrdered whole (IsNonDecreasingBy-from_sort_by_key entry_key new c.sort_unstable_by_key.ensures.sorted (λ a r f' called. search rules));
      small = subst AreSmall whole
          (All-permutation (λ (entry : Entry). entry.row < 4294967296) c.in_ok-entries.entries.items new moved c.in_ok-entries.ensures.small);
      starting = starting_same c.as_slice.result.now _ c.in_ok-starts.starts.items c.as_slice.ensures.value c.in_ok-starts.ensures;
    }

pub returns : goal.returns
returns c =
    let new = c.sort_unstable_by_key.new.self in
    let same = sorted_same c.in_ok-entries.entries.len new c.in_ok-entries.entries.items c.as_slice.result.now c.as_slice.ensures.value
    (c.sort_unstable_by_key.ensures.len ∙ c.as_mut_slice.ensures.len) in
    let whole = sym same ∙ c.as_slice.ensures.value in
    let moved = subst (λ (old : List Entry). IsPermutation old new) c.as_mut_slice.ensures.value c.sort_unstable_by_key.ensures.permutation in
    subst (λ (entries : List Entry). HasEntries c.args.keys.now (c.args.print ∷ c.args.online ∷ []) (drop 1 c.args.lines.now) entries) whole
    (λ row id has. Contains-permutation c.in_ok-entries.entries.items new (entry_for c.args.keys.now row id) moved (c.in_ok-entries.ensures.has row id has))
