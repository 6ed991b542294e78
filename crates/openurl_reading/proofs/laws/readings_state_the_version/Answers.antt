use Rattle.openurl_reading.proofs.VersionsStated.{version_stated}
use Rattle.openurl_reading.proofs.laws.readings_state_the_version.Goals as goal

pub returns : goal.returns
returns c = version_stated
