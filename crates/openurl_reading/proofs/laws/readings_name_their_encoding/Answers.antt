use Rattle.openurl_reading.proofs.VersionsStated.{encoding_stated}
use Rattle.openurl_reading.proofs.laws.readings_name_their_encoding.Goals as goal

pub returns : goal.returns
returns c = encoding_stated
