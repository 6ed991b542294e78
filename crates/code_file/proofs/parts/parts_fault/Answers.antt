use Rattle.std.proofs.Common.{◌++◌, refl, sym, ◌∙◌, arith}
use Rattle.std.specs.List.{flat_map}
use Rattle.code_file.specs.Grammar.{code_with, header_of, name_field, literal_field, instr_field}
use Rattle.code_file.specs.Fault.{too_long, in_field, bad_counts}
use Rattle.code_file.proofs.PartsLemmas.{short_of_min, long_of_min, header_small, allowed_header, bad_name_in, bad_literal_in, some_there, none_there}
use Rattle.code_file.proofs.parts.parts_fault.Goals as goal

pub returns-then-file_len-gt-MAX_BYTES-clause-some : goal.returns-then-file_len-gt-MAX_BYTES-clause-some
returns-then-file_len-gt-MAX_BYTES-clause-some c =
    (65536, too_long (long_of_min _ _ (c.file_len.ensures c.args.version) c.if-file_len-gt-MAX_BYTES.true))

pub overflow_cast-header : goal.overflow_cast-header
overflow_cast-header c =
    let small = header_small (code_with c.args.version c.args.names.now c.args.literals.now c.args.instrs.now) c.requires
    (short_of_min _ _ (c.file_len.ensures c.args.version) c.if-file_len-gt-MAX_BYTES.false) in
    omega (arith, small.names)

pub overflow_cast-header-2 : goal.overflow_cast-header-2
overflow_cast-header-2 c =
    let small = header_small (code_with c.args.version c.args.names.now c.args.literals.now c.args.instrs.now) c.requires
    (short_of_min _ _ (c.file_len.ensures c.args.version) c.if-file_len-gt-MAX_BYTES.false) in
    omega (arith, small.literals)

pub overflow_cast-header-3 : goal.overflow_cast-header-3
overflow_cast-header-3 c =
    let small = header_small (code_with c.args.version c.args.names.now c.args.literals.now c.args.instrs.now) c.requires
    (short_of_min _ _ (c.file_len.ensures c.args.version) c.if-file_len-gt-MAX_BYTES.false) in
    omega (arith, small.instrs)

pub returns-in-Some-clause-some : goal.returns-in-Some-clause-some
returns-in-Some-clause-some c =
    let code = code_with c.args.version c.args.names.now c.args.literals.now c.args.instrs.now in
    let short = short_of_min _ _ (c.file_len.ensures c.args.version) c.if-file_len-gt-MAX_BYTES.false in (
      c.in-Some.e.at,
      in_field _ short
          (bad_counts
          (record {
            header = header_of code;
            rest = flat_map name_field c.args.names.now ++ (flat_map literal_field c.args.literals.now ++ flat_map instr_field c.args.instrs.now);
            numbers = header_small code c.requires short;
            spells = refl;
          })
          c.in-Some.e (sym c.fault.ensures ∙ c.in-Some.is)),
    )

pub returns-then-is_some-clause-some : goal.returns-then-is_some-clause-some
returns-then-is_some-clause-some c =
    let bad = some_there c.first_bad_name.result _ (sym c.is_some.ensures ∙ c.if-is_some.true) c.first_bad_name.ensures.some in
    bad_name_in (code_with c.args.version c.args.names.now c.args.literals.now c.args.instrs.now) bad.0
    (short_of_min _ _ (c.file_len.ensures c.args.version) c.if-file_len-gt-MAX_BYTES.false) (allowed_header _ c.requires (sym c.in_default.ensures)) bad.1

pub returns-then-is_some-2-clause-some : goal.returns-then-is_some-2-clause-some
returns-then-is_some-2-clause-some c =
    let bad = some_there c.first_bad_literal.result _ (sym c.is_some-2.ensures ∙ c.if-is_some-2.true) c.first_bad_literal.ensures.some in
    bad_literal_in (code_with c.args.version c.args.names.now c.args.literals.now c.args.instrs.now) bad.0
    (short_of_min _ _ (c.file_len.ensures c.args.version) c.if-file_len-gt-MAX_BYTES.false) (allowed_header _ c.requires (sym c.in_default.ensures))
    (none_there c.first_bad_name.result _ (sym c.is_some.ensures ∙ c.if-is_some.false) c.first_bad_name.ensures.none) bad.1

pub returns-clause-none : goal.returns-clause-none
returns-clause-none c = record {
  header = allowed_header _ c.requires (sym c.in_default.ensures);
  names = none_there c.first_bad_name.result _ (sym c.is_some.ensures ∙ c.if-is_some.false) c.first_bad_name.ensures.none;
  literals = none_there c.first_bad_literal.result _ (sym c.is_some-2.ensures ∙ c.if-is_some-2.false) c.first_bad_literal.ensures.none;
  short = short_of_min _ _ (c.file_len.ensures c.args.version) c.if-file_len-gt-MAX_BYTES.false;
}
