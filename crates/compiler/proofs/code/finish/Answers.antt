use Rattle.std.proofs.Common.{◌≡◌, ◌≤◌, length, refl, ◌∙◌, subst}
use Rattle.std.specs.Prelude.{All}
use Rattle.code_model.specs.Code.{Code}
use Rattle.code_file.specs.Grammar.{spelled, IsInstr, IsCode}
use Rattle.code_file.specs.Fault.{fault, IsFirstFault}
use Rattle.code_file.specs.declared.limits.TheConstants.{MAX_BYTES, MAX_NAMES, MAX_LITERALS, MAX_INSTRS}
use Rattle.compiler_model.specs.Compiled.{has_counts, code_of}
use Rattle.compiler_model.specs.Size.{file_size}
use Rattle.compiler.specs.Private.Growth.{IsUtf8Literal}
use Rattle.compiler.proofs.CodeParts.{length-spelled, is_code, whole_code, known_version, refused_long}
use Rattle.compiler.proofs.code.finish.Goals as goal

pub returns-in-Ok-clause-ok : goal.returns-in-Ok-clause-ok
returns-in-Ok-clause-ok c =
    let r = c.requires in
    let whole = whole_code c.args.rules.now c.has_counts-counts.result c.args.tables.names.items c.args.tables.literals.items c.args.instrs.items
    c.has_counts-counts.ensures r.names r.literals r.instrs in
    let same : c.in-Ok.code ≡ code_of c.args.rules.now = c.in-Ok.ensures.code.0 ∙ whole in
    let size : file_size c.in-Ok.code ≤ MAX_BYTES = subst (λ n. n ≤ MAX_BYTES) (length-spelled c.in-Ok.code) c.in-Ok.ensures.code.1.short in
    (same, subst (λ (x : Code). file_size x ≤ MAX_BYTES) same size)

pub returns-in-Err-clause-err : goal.returns-in-Err-clause-err
returns-in-Err-clause-err c =
    let r = c.requires in
    let rules = c.args.rules.now in
    let code = code_of rules in
    let whole = whole_code rules c.has_counts-counts.result c.args.tables.names.items c.args.tables.literals.items c.args.instrs.items
    c.has_counts-counts.ensures r.names r.literals r.instrs in
    let e = fault c.in-Err.field-0 c.in-Err.ensures.refused.0 in
    let laws = c.compiled_code_is_accepted.ensures in
    let sound = c.rules-known.ensures.sound in
    let good : length (spelled code) ≤ MAX_BYTES → IsCode code =
    λ short. is_code code (known_version (has_counts rules)) (laws.file rules sound) (laws.names rules sound) (subst (All IsUtf8Literal) r.literals r.utf8)
    (subst (λ xs. length xs ≤ MAX_NAMES) r.names r.few_names) (subst (λ xs. length xs ≤ MAX_LITERALS) r.literals r.few_literals)
    (subst (λ xs. length xs ≤ MAX_INSTRS) r.instrs r.few_instrs) short in (
      refl,
      refused_long c.file_has_no_fault.ensures code e good (subst (All IsInstr) r.instrs r.fields)
          (subst (λ (x : Code). IsFirstFault (spelled x) e) whole c.in-Err.ensures.refused.1),
    )
