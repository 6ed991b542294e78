-- The place of an error in a longer text. For private contracts.
use Rattle.std.specs.Prelude.{ℕ, ◌+◌}
use Rattle.uri_grammar.specs.declared.error.TemplateError.{TemplateError}
use Rattle.uri_grammar.specs.declared.error.TemplateErrorKind.{TemplateErrorKind}
use Rattle.uri_grammar.specs.declared.error.TemplateErrorKind.TheVariants.{NoMemory}

-- the place of an error when that many bytes come before; out of memory has no place
abbrev pub moved_place : TemplateErrorKind → ℕ → ℕ → ℕ
moved_place NoMemory at front = at
moved_place other at front = at + front

abbrev pub moved : TemplateError → ℕ → TemplateError
moved e front = record { kind = e.kind; at = moved_place e.kind e.at front }
