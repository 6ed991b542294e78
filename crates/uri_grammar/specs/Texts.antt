-- Which texts, as bytes, are templates, and why others are rejected.
use Rattle.std.specs.Prelude.{◌≡◌, ℕ, ◌<◌, ◌≤◌, List, length, encode_utf8_all, ◌⊎◌}
use Rattle.text_model.specs.Texts.{Text}
use Rattle.uri_grammar.specs.declared.error.TemplateErrorKind.{TemplateErrorKind}
use Rattle.uri_grammar.specs.declared.error.TemplateErrorKind.TheVariants.{TooLong}
use Rattle.uri_grammar.specs.declared.parts.Part.{Part}
use Rattle.uri_grammar.specs.declared.template.TheConstants.{MAX_BYTES}
use Rattle.uri_grammar.specs.Templates.{Spells}
use Rattle.uri_grammar.specs.Faults.{IsFirstFault}

-- the text is that of the parts
abbrev pub IsTemplate : Text → List Part → Type 0
IsTemplate text parts = (length text ≤ MAX_BYTES) × (cs : List ℕ) × (text ≡ encode_utf8_all cs) × Spells cs parts

-- the text is too long, or this is its first error, at this byte
abbrev pub IsRefusedTemplate : Text → TemplateErrorKind → ℕ → Type 0
IsRefusedTemplate text kind at =
    ((MAX_BYTES < length text) × (kind ≡ TooLong) × (at ≡ MAX_BYTES))
    ⊎ ((length text ≤ MAX_BYTES) × (cs : List ℕ) × (text ≡ encode_utf8_all cs) × IsFirstFault cs kind at)

-- what contracts see of a template: the text that was parsed, and its tree
pub record Parsed : Type 0 where
  pub text : Text
  pub parts : List Part
