-- Web links.
use Rattle.std.specs.Prelude.{Bool, ◌||◌, codes}
use Rattle.text_model.specs.Texts.{Text}
use Rattle.uri_text.specs.AnyCase.{begins_in_any_case}

abbrev pub is_web_link : Text → Bool
is_web_link link = begins_in_any_case link (codes "http://") || begins_in_any_case link (codes "https://")
