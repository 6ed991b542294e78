use Rattle.answers.specs.Listing.{IsListingOf}
use Rattle.answers.proofs.RefusalLemmas.{is_err}
use Rattle.answers.proofs.listing.listing_of.Goals as goal

pub returns-in_err-read_code : goal.returns-in_err-read_code
returns-in_err-read_code c = rw (is_err _ _ c.from_residual.ensures.1) (IsListingOf.no_code _ c.in_err-read_code.ensures.err)

pub returns-in_err-listing : goal.returns-in_err-listing
returns-in_err-listing c = rw (is_err _ _ c.from_residual-in_err-listing.ensures.1) (IsListingOf.no_memory _ c.in_ok-read_code.ensures.ok)

pub returns : goal.returns
returns c = IsListingOf.listed c.in_ok-read_code.field-0 _ c.in_ok-read_code.ensures.ok c.in_ok-listing.ensures
