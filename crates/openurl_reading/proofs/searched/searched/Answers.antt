use Rattle.std.proofs.Common.{◌≤◌, ◌∙◌, length, sym, subst}
use Rattle.std.proofs.lemmas.List.{take_all}
use Rattle.openurl_reading.specs.Values.{most_bytes}
use Rattle.openurl_reading.proofs.searched.searched.Goals as goal

pub returns-then-bytes-le-MOST_BYTES : goal.returns-then-bytes-le-MOST_BYTES
returns-then-bytes-le-MOST_BYTES c =
    let same = c.as_bytes-bytes.ensures.value ∙ c.as_str.ensures in
    same ∙ sym (take_all most_bytes c.args.text.now (subst (λ t. length t ≤ most_bytes) same c.if-bytes-le-MOST_BYTES.true))
