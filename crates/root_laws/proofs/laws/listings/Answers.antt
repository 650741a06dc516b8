use Rattle.root_laws.proofs.Listing.{listings_tell}
use Rattle.root_laws.proofs.laws.listings.Goals as goal

pub returns : goal.returns
returns c = listings_tell
