use Rattle.std.proofs.Common.{◌≡◌, ℕ, ◌+◌, ◌-◌, ◌<◌, ◌≤◌, List, ◌++◌, ◌∷◌, [], true, false, length, map, take, get_or, sym, ap, subst, ◌∙◌, arith}
use Rattle.std.proofs.lemmas.List.{length-append, length-map, get_or-map, take_all}
use Rattle.std.proofs.lemmas.Option.{get_or_from_slice_get}
use Rattle.kev_read.specs.Pairs.{KeyValue}
use Rattle.openurl_reading.specs.Counting.{accepted, is_accepted, most_pairs}
use Rattle.openurl_reading.specs.Keys.{named}
use Rattle.openurl_reading.proofs.CountedPairs.{accepted_same, accepted_one, counting_one, none_left_out, counting_full, one_left_out}
use Rattle.openurl_reading.proofs.counting.counting.Goals as goal
use Rattle.openurl_reading.proofs.counting.counting.Goals.{then-branch+then-len-lt-MOST_PAIRS+in_ok-push_text}
use Rattle.openurl_reading.proofs.counting.counting.Goals.{then-branch+else-len-lt-MOST_PAIRS, else-branch}

all_named : (query : List KeyValue) (index : ℕ) → length query ≤ index → take index (map named query) ≡ map named query
all_named query index past = take_all index (map named query) (simp length-map past)

pub loop-index-preserved : goal.loop-index-preserved
loop-index-preserved c =
    let query = c.args.query.now in
    let pairs = map named query in
    let index = c.loop-index.index in
    let sent : KeyValue = record { key = c.pair.result.0.now; value = c.pair.result.1.now } in
    let item : KeyValue = record { key = c.as_str-key.result.now; value = c.pair.result.1.now } in
    let known : index < length query = omega (arith, c.len-index-end.ensures) in
    let within : index < length pairs = simp length-map known in
    let keyed : named sent ≡ item = ap (λ k. record { key = k; value = c.pair.result.1.now }) (sym (c.as_str-key.ensures ∙ c.in_ok-name.ensures)) in
    let is : get_or pairs index item ≡ item =
    get_or-map named query index sent item known ∙ ap named (get_or_from_slice_get query index sent sent c.pair.ensures) ∙ keyed in
    let so_far = c.loop-index.invariant in
    let list = accepted (take index pairs) in
    let test = c.in_ok-is_accepted.ensures in
    elim c.if-branch.branch [
      | then-branch+then-len-lt-MOST_PAIRS+in_ok-push_text w ↦
          let few : length (take most_pairs list) < most_pairs = subst (λ l. length l < most_pairs) so_far.list (omega (arith, w.len.ensures)) in
          let is_one : is_accepted (get_or pairs index item) ≡ true = subst (λ p. is_accepted p ≡ true) (sym is) (sym test ∙ w.if-branch.true) in
          let more = accepted_one pairs index item within is_one ∙ ap (λ p. list ++ p ∷ []) is in
          let pushed : c.if-branch.list.items ≡ c.loop-index.list.items ++ item ∷ [] = rw w.list-is w.in_ok-push_text.ensures in
          record {
            list = pushed ∙ ap (λ l. l ++ item ∷ []) so_far.list ∙ sym (counting_one list item few) ∙ ap (take most_pairs) (sym more);
            left_out = w.left_out-is ∙ so_far.left_out ∙ sym (none_left_out list item few) ∙ ap (λ l. length l - most_pairs) (sym more);
            few = subst (λ l. length l ≤ index + 1) (sym more) (simp length-append (omega (arith, so_far.few)));
          }
      | then-branch+else-len-lt-MOST_PAIRS w ↦
          let full : most_pairs ≤ length (take most_pairs list) = subst (λ l. most_pairs ≤ length l) so_far.list (omega (arith, w.len.ensures)) in
          let is_one : is_accepted (get_or pairs index item) ≡ true = subst (λ p. is_accepted p ≡ true) (sym is) (sym test ∙ w.if-branch.true) in
          let more = accepted_one pairs index item within is_one ∙ ap (λ p. list ++ p ∷ []) is in
          record {
            list = rw w.list-is (so_far.list ∙ sym (counting_full list item full) ∙ ap (take most_pairs) (sym more));
            left_out = w.left_out-is ∙ ap (λ n. n + 1) so_far.left_out ∙ sym (one_left_out list item full) ∙ ap (λ l. length l - most_pairs) (sym more);
            few = subst (λ l. length l ≤ index + 1) (sym more) (simp length-append (omega (arith, so_far.few)));
          }
      | else-branch w ↦
          let is_none : is_accepted (get_or pairs index item) ≡ false = subst (λ p. is_accepted p ≡ false) (sym is) (sym test ∙ w.if-branch.false) in
          let same = accepted_same pairs index item within is_none in
          record {
            list = rw w.list-is (so_far.list ∙ ap (take most_pairs) (sym same));
            left_out = w.left_out-is ∙ so_far.left_out ∙ ap (λ l. length l - most_pairs) (sym same);
            few = subst (λ l. length l ≤ index + 1) (sym same) (omega (arith, so_far.few));
          }
    ]

pub returns-clause-counting : goal.returns-clause-counting
returns-clause-counting c =
    let query = c.args.query.now in
    let index = c.loop-index.index in
    let past : length query ≤ index = omega (arith, c.len-index-end.ensures, c.loop-index-test.false) in
    c.new.ensures ∙ c.loop-index.invariant.list ∙ ap (λ l. take most_pairs (accepted l)) (all_named query index past)

pub returns-clause-left_out : goal.returns-clause-left_out
returns-clause-left_out c =
    let query = c.args.query.now in
    let index = c.loop-index.index in
    let past : length query ≤ index = omega (arith, c.len-index-end.ensures, c.loop-index-test.false) in
    c.loop-index.invariant.left_out ∙ ap (λ l. length (accepted l) - most_pairs) (all_named query index past)
