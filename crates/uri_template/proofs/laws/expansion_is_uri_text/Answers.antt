use Rattle.uri_template.proofs.UriExpansions.{expansion-uri}
use Rattle.uri_template.proofs.laws.expansion_is_uri_text.Goals as goal

pub returns : goal.returns
returns c = expansion-uri
