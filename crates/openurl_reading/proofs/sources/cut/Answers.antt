use Rattle.std.proofs.Common.{sym, subst}
use Rattle.std.specs.Str.{IsUtf8}
use Rattle.openurl_reading.proofs.Ends.{before_utf8}
use Rattle.openurl_reading.proofs.sources.cut.Goals as goal

pub text_of-requires : goal.text_of-requires
text_of-requires c =
    subst IsUtf8 (sym c.before_place-name.ensures)
    (before_utf8 c.as_bytes-bytes.result.now c.as_bytes-bytes.ensures.utf8)
