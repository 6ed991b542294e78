use Rattle.std.proofs.Common.{◌+◌, ◌++◌, [], ◌∷◌, ℕ, sym, ◌∙◌, length, take, get_or, encode_utf8, encode_utf8_all, ap, arith, length-append}
use Rattle.std.proofs.lemmas.List.{take_more}
use Rattle.std.proofs.lemmas.Str.{length-encode}
use Rattle.uri_grammar.proofs.CharacterLemmas.{length-encodes-take, encodes_push}
use Rattle.uri_grammar.proofs.characters.byte_len.Goals as goal

pub overflow_add-len : goal.overflow_add-len
overflow_add-len c =
    let push = encodes_push (take c.loop-c.c-index c.args.chars.now) (get_or c.args.chars.now c.loop-c.c-index 0) in
    let whole = ap length (ap encode_utf8_all (take_more c.args.chars.now c.loop-c.c-index 0 c.loop-c-test.true) ∙ push) in
    omega (
      arith,
      whole,
      length-append (encode_utf8_all (take c.loop-c.c-index c.args.chars.now)) (encode_utf8 (get_or c.args.chars.now c.loop-c.c-index 0)),
      length-encodes-take c.args.chars.now (c.loop-c.c-index + 1),
      length-encode (get_or c.args.chars.now c.loop-c.c-index 0),
      c.len_utf8-len.ensures,
    )

pub loop-c-preserved : goal.loop-c-preserved
loop-c-preserved c =
    let push = encodes_push (take c.loop-c.c-index c.args.chars.now) c.c-item.result in
    let whole = ap length
    (ap encode_utf8_all (take_more c.args.chars.now c.loop-c.c-index c.c-item.result c.loop-c-test.true
    ∙ ap (λ (x : ℕ). take c.loop-c.c-index c.args.chars.now ++ x ∷ []) (sym c.c-item.is)) ∙ push) in
    omega (
      arith,
      whole,
      length-append (encode_utf8_all (take c.loop-c.c-index c.args.chars.now)) (encode_utf8 c.c-item.result),
      length-encode c.c-item.result,
      c.len_utf8-len.ensures,
    )
