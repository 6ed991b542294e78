use Rattle.text_model.proofs.UriTexts.{written-uri}
use Rattle.text_model.proofs.laws.writing_gives_uri_text.Goals as goal

pub returns : goal.returns
returns c = written-uri
