use Rattle.text_model.proofs.UriTexts.{IsUriText-append}
use Rattle.text_model.proofs.laws.uri_texts_join.Goals as goal

pub returns : goal.returns
returns c = IsUriText-append
