use Rattle.std.proofs.Common.{arith}
use Rattle.std.proofs.lemmas.Grind.{common_steps}
use Rattle.code_file.proofs.FieldLemmas.{name_text, ok_of_utf8}
use Rattle.code_file.proofs.build.read_name.Goals as goal

pub unwrap-text-requires : goal.unwrap-text-requires
unwrap-text-requires c =
    ok_of_utf8 c.from_utf8.result _ _ _ c.from_utf8.ensures.cases
    (name_text c.args.bytes.now _ c.split_at.result.0.now c.requires (grind (arith, common_steps)) c.split_at.ensures.front)
