-- What is missing until a head is closed.
use Rattle.std.specs.Prelude.{ℕ, List, Bool, true, ◌||◌}
use Rattle.http_streams.specs.Closing.{begins_with_lf, begins_with_empty_line, has_empty_line, is_closed}
use Rattle.http_streams.specs.declared.progress.Progress.{Progress}
use Rattle.http_streams.specs.declared.progress.Progress.TheVariants.{BeforeText, InLine, AfterLineFeed, AfterReturn, Closed}

-- whether these bytes, after those that were read before, close the head
abbrev pub closes_with : Progress → List ℕ → Bool
closes_with BeforeText more = is_closed more
closes_with InLine more = has_empty_line more
closes_with AfterLineFeed more = begins_with_empty_line more || has_empty_line more
closes_with AfterReturn more = begins_with_lf more || has_empty_line more
closes_with Closed more = true
