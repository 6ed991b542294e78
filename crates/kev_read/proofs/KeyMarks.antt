-- Keys compare by a total order, in which only the same keys are equal.
use Rattle.std.proofs.Common.{arith, ◌≡◌, bytes_eq}
use Rattle.std.proofs.lemmas.Cmp.{nat_cmp_total, nat_list_cmp_total, on_total, then_total, tied_itself}
use Rattle.std.proofs.lemmas.Map.Text.{is_eq-slice_cmp}
use Rattle.std.proofs.lemmas.Slice.Eq.{bytes_eq-Decides}
use Rattle.std.specs.Cmp.{IsTotalOrder}
use Rattle.std.specs.Ordering.{is_eq}
use Rattle.text_model.specs.Texts.{Text}
use Rattle.kev_read.specs.Private.KeyMarks.{compared_keys, mark_of}

pub keys_total : IsTotalOrder compared_keys
keys_total = then_total (on_total mark_of nat_cmp_total) nat_list_cmp_total

pub is_eq-compared_keys : (x y : Text) → is_eq (compared_keys x y) ≡ bytes_eq x y
is_eq-compared_keys x y = grind (arith, is_eq-slice_cmp, bytes_eq-Decides, tied_itself, keys_total)
