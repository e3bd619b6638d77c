use Rattle.mn_frame_laws.proofs.Fit.{fits_or_falls}
use Rattle.mn_frame_laws.proofs.what_enters_is_fit.Goals as goal

pub returns : goal.returns
returns c = fits_or_falls
