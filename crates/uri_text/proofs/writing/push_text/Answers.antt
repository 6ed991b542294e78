use Rattle.std.proofs.Common.{sym, subst, ◌∙◌, length, append-nil, add-zero, IsUtf8, string_bytes, vec_len}
use Rattle.std.proofs.lemmas.Bool.{eqb-true}
use Rattle.std.proofs.lemmas.Str.{IsUtf8-string_bytes, IsUtf8-append}
use Rattle.text_model.specs.Writing.{written}
use Rattle.text_model.proofs.UriAscii.{IsUriText-utf8}
use Rattle.text_model.proofs.UriTexts.{written-uri}
use Rattle.text_model.proofs.Written.{length-written}
use Rattle.uri_text.proofs.Firsts.{written-nothing}
use Rattle.uri_text.proofs.writing.push_text.Goals as goal

pub put_back-requires : goal.put_back-requires
put_back-requires c =
    let none = written-nothing c.args.writing c.loop-rest.rest.now
    (eqb-true (length c.loop-rest.rest.now) 0 (sym c.is_empty.ensures ∙ c.loop-rest-test.false)) in
    let all = sym (append-nil c.loop-rest.bytes.items) ∙ (rw none at c.loop-rest.invariant.items) in
    subst IsUtf8 (sym all)
    (IsUtf8-append (string_bytes c.args.out.now) (written c.args.writing c.args.text.now) (IsUtf8-string_bytes c.args.out.now)
    (IsUriText-utf8 (written c.args.writing c.args.text.now) (written-uri c.args.writing c.args.text.now)))

pub returns-clause-bytes : goal.returns-clause-bytes
returns-clause-bytes c =
    let none = written-nothing c.args.writing c.loop-rest.rest.now
    (eqb-true (length c.loop-rest.rest.now) 0 (sym c.is_empty.ensures ∙ c.loop-rest-test.false)) in
    c.put_back.ensures.bytes ∙ (sym (append-nil c.loop-rest.bytes.items) ∙ (rw none at c.loop-rest.invariant.items))

pub returns-clause-len : goal.returns-clause-len
returns-clause-len c =
    let none = written-nothing c.args.writing c.loop-rest.rest.now
    (eqb-true (length c.loop-rest.rest.now) 0 (sym c.is_empty.ensures ∙ c.loop-rest-test.false)) in
    c.put_back.ensures.len ∙ (sym (add-zero (vec_len c.loop-rest.bytes)) ∙ (rw none at c.loop-rest.invariant.len))

pub returns-clause-at_most_triples : goal.returns-clause-at_most_triples
returns-clause-at_most_triples c = length-written c.args.writing c.args.text.now

pub returns-clause-uri_text : goal.returns-clause-uri_text
returns-clause-uri_text c = written-uri c.args.writing c.args.text.now
