-- The digits get fewer with each call.
use Rattle.std.proofs.Common.{length}
use Rattle.article_places.proofs.last_pages.+is_less.Given as goal

abbrev pub decreases-is_less : goal.decreases-is_less
decreases-is_less l = length l.digits.now
