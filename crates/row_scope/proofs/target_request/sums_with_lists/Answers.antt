use Rattle.std.proofs.Common.{◌≡◌, ℕ, ◌+◌, List, ◌∷◌, length, take, get_or, sym, ap, ◌∙◌, arith}
use Rattle.std.specs.Prelude.{sum_by}
use Rattle.std.proofs.lemmas.Grind.{common_steps}
use Rattle.std.proofs.lemmas.List.{take_all}
use Rattle.text_model.specs.Texts.{Text}
use Rattle.environment_model.specs.Environment.{byte_count, member_count}
use Rattle.code_model.specs.Code.{Name}
use Rattle.machine_model.specs.Operands.{name_at, text_of_name}
use Rattle.kev_read.specs.Pairs.{all_of}
use Rattle.row_laws.specs.Shadowing.{requested, first_bytes}
use Rattle.row_scope.specs.RowEnvironments.{lists_of}
use Rattle.row_scope.specs.NameColumns.{names_at}
use Rattle.row_scope.proofs.SumLemmas.{one_name_more}
use Rattle.row_scope.proofs.target_request.sums_with_lists.Goals as goal

pub loop-number-init : goal.loop-number-init
loop-number-init c = record { bytes = c.sums-bytes.ensures.bytes; members = c.sums-bytes.ensures.members }

pub overflow_add-bytes : goal.overflow_add-bytes
overflow_add-bytes c = grind (arith, common_steps)

pub overflow_add-members : goal.overflow_add-members
overflow_add-members c = grind (arith, common_steps)

pub loop-number-preserved : goal.loop-number-preserved
loop-number-preserved c =
    let code = c.args.code.now in
    let numbers = c.args.lists.now in
    let pairs = c.args.request.now.pairs in
    let k = c.loop-number.number-index in
    let name = name_at code (get_or numbers k 0) in
    let so_far = names_at code (take k numbers) in
    let more = names_at code (take (k + 1) numbers) in
    let named : c.as_str-name.result.now ≡ name =
    c.as_str-name.ensures.value ∙ ap (λ (n : Name). n.text) c.behind-code.view_is ∙ sym (ap text_of_name c.name.ensures) in
    let all_bytes : c.sums_of-all_bytes.result.0 ≡ sum_by length (all_of pairs name) =
    c.sums_of-all_bytes.ensures.bytes ∙ ap (λ (key : Text). sum_by length (all_of pairs key)) named in
    let all_members : c.sums_of-all_bytes.result.1 ≡ length (all_of pairs name) =
    c.sums_of-all_bytes.ensures.members ∙ ap (λ (key : Text). length (all_of pairs key)) named in
    let first : c.sums_of.result.0 ≡ first_bytes (all_of pairs name) = c.sums_of.ensures.bytes ∙ ap (λ (key : Text). first_bytes (all_of pairs key)) named in
    let new = c.requires.new k 0 c.loop-number-test.true in
    let order : requested (name ∷ so_far) pairs ≡ requested more pairs =
    c.same_lists.ensures (name ∷ so_far) more pairs (one_name_more code numbers k 0 c.loop-number-test.true) in
    record {
      bytes = omega (arith, c.loop-number.invariant.bytes, all_bytes, first, c.one_more_list.ensures.bytes name so_far pairs new, ap byte_count order);
      members = omega (arith, c.loop-number.invariant.members, all_members, c.one_more_list.ensures.members name so_far pairs new, ap member_count order);
    }

pub returns-clause-bytes : goal.returns-clause-bytes
returns-clause-bytes c =
    let code = c.args.code.now in
    let numbers = c.args.lists.now in
    let pairs = c.args.request.now.pairs in
    c.loop-number.invariant.bytes ∙ ap (λ (ns : List ℕ). byte_count (requested (names_at code ns) pairs))
    (take_all c.loop-number.number-index numbers c.loop-number-test.false)
    ∙ ap byte_count (c.same_lists.ensures (names_at code numbers) (lists_of code) pairs c.requires.same)

pub returns-clause-members : goal.returns-clause-members
returns-clause-members c =
    let code = c.args.code.now in
    let numbers = c.args.lists.now in
    let pairs = c.args.request.now.pairs in
    c.loop-number.invariant.members ∙ ap (λ (ns : List ℕ). member_count (requested (names_at code ns) pairs))
    (take_all c.loop-number.number-index numbers c.loop-number-test.false)
    ∙ ap member_count (c.same_lists.ensures (names_at code numbers) (lists_of code) pairs c.requires.same)
