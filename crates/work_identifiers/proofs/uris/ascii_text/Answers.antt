use Rattle.std.proofs.Common.{◌∙◌}
use Rattle.std.proofs.lemmas.Str.{IsUtf8-from_ascii}
use Rattle.work_identifiers.proofs.uris.ascii_text.Goals as goal

pub returns : goal.returns
returns c = c.new.ensures ∙ c.in_ok-text.ensures.ok (IsUtf8-from_ascii c.args.bytes.now c.requires)
