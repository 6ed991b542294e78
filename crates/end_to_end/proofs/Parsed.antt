-- Why bytes are not a rule text.
use Rattle.std.proofs.Common.{◌≡◌, ◌≤◌, ◌<◌, Err, length, inl, inr, refl, ap}
use Rattle.std.proofs.lemmas.Bool.{cases_lt}
use Rattle.std.proofs.lemmas.Str.{IsUtf8-from_is_utf8, is_utf8-from_IsUtf8}
use Rattle.std.specs.Prelude.{◌↔◌, ◌⊎◌, Bool, true, false, Result, IsUtf8}
use Rattle.std.specs.Str.{is_utf8}
use Rattle.text_model.specs.Texts.{Text}
use Rattle.rule_parser.specs.Faults.{IsRefused}
use Rattle.rule_parser.specs.declared.rules.TheConstants.{MAX_BYTES}
use Rattle.rule_parser.specs.declared.error.RuleError.{RuleError}
use Rattle.rule_parser.specs.declared.error.TheConstants.{NO_MEMORY}
use Rattle.rule_parser.specs.declared.error.RuleErrorKind.{RuleErrorKind}
use Rattle.rule_parser.specs.declared.error.RuleErrorKind.TheVariants as kind
use Rattle.end_to_end.specs.Causes.{IsParseCause}

-- an error, of a result of any type
abbrev pub wrong : (T : Type 0) → RuleError → Result T RuleError
wrong T error = Err error

abbrev too_long : RuleError
too_long = record { kind = kind.TooLong; line = 0 }

abbrev not_utf8 : RuleError
not_utf8 = record { kind = kind.NotUtf8; line = 0 }

is_utf8_or_not : (bytes : Text) (b : Bool) → is_utf8 bytes ≡ b → IsUtf8 bytes ⊎ (IsUtf8 bytes → ⊥)
is_utf8_or_not bytes true is = inl (IsUtf8-from_is_utf8 bytes is)
is_utf8_or_not bytes false is_not = inr (λ utf8. let is = is_utf8-from_IsUtf8 bytes utf8 in absurd (cc (is, is_not)))

error_is : (T : Type 0) (d f : RuleError) → wrong T d ≡ wrong T f → d ≡ f
error_is T d f same = cc

kinds_differ : (d : RuleErrorKind) → d ≡ kind.NoMemory → (d ≡ kind.TooLong) ⊎ (d ≡ kind.NotUtf8) → ⊥
kinds_differ d memory (inl long) = cc
kinds_differ d memory (inr other) = cc

kind_is : (error other : RuleError) → error ≡ other → error.kind ≡ other.kind
kind_is error other same = ap (λ (e : RuleError). e.kind) same

no_memory_is_not_long : (T : Type 0) (error : RuleError) → error ≡ NO_MEMORY → wrong T error ≡ wrong T too_long → ⊥
no_memory_is_not_long T error memory same =
    kinds_differ error.kind (kind_is error NO_MEMORY memory) (inl (kind_is error too_long (error_is T error too_long same)))

no_memory_is_not_utf8 : (T : Type 0) (error : RuleError) → error ≡ NO_MEMORY → wrong T error ≡ wrong T not_utf8 → ⊥
no_memory_is_not_utf8 T error memory same =
    kinds_differ error.kind (kind_is error NO_MEMORY memory) (inr (kind_is error not_utf8 (error_is T error not_utf8 same)))

-- what the contract of parsing says about its errors
pub record IsParseError (T : Type 0) (bytes : Text) (error : RuleError) : Type 0 where
  pub refused : (error ≡ NO_MEMORY) ⊎ IsRefused bytes error.kind error.line
  pub too_long : (wrong T error ≡ wrong T too_long) ↔ (MAX_BYTES < length bytes)
  pub not_utf8 : (wrong T error ≡ wrong T not_utf8) ↔ ((length bytes ≤ MAX_BYTES) × (IsUtf8 bytes → ⊥))

pub parse_cause : (T : Type 0) (bytes : Text) (error : RuleError) → IsParseError T bytes error → IsParseCause bytes error
parse_cause T bytes error promised = elim promised.refused [
  | inr refused ↦ inl refused
  | inl memory ↦ elim (cases_lt MAX_BYTES (length bytes)) [
    | inl long ↦ absurd (no_memory_is_not_long T error memory (promised.too_long.1 long))
    | inr short ↦ elim (is_utf8_or_not bytes (is_utf8 bytes) refl) [
      | inl utf8 ↦ inr (record { no_memory = memory; short = short; utf8 = utf8 })
      | inr other ↦ absurd (no_memory_is_not_utf8 T error memory (promised.not_utf8.1 (short, other)))
    ]
  ]
]
