use Rattle.std.proofs.Common.{◌≡◌, ◌+◌, length, take, get_or, sym, ap, ◌∙◌, rules, length-append}
use Rattle.row_scope.proofs.EndLemmas.{lengths, lengths_more, ends_more}
use Rattle.row_scope.proofs.request_values.ends_of.Goals as goal

pub loop-i-preserved : goal.loop-i-preserved
loop-i-preserved c =
    let inv = c.loop-i.invariant in
    let spans = c.args.values.now.spans in
    let i = c.loop-i.i in
    let end = c.loop-i.end + c.span.result.1 in
    let items = c.in_ok-push-2.ensures.items in
    let last : end ≡ lengths (take (i + 1) spans) = ap (λ n. n + c.span.result.1) inv.last ∙ sym (lengths_more spans i c.span.result c.span.ensures.value) in
    let small = inv.small in
    record {
      many = ap length items ∙ length-append c.loop-i.ends.items _ ∙ ap (λ n. n + 1) inv.many;
      sums = λ k d within. ap (λ ends. get_or ends k d) items ∙ ends_more spans c.loop-i.ends.items i end inv.many inv.sums last k d within;
      last = last;
      small = search rules;
    }
