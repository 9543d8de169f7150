use Rattle.mt_resolve.proofs.Captured.{all_captured}
use Rattle.mt_resolve.proofs.laws.services_capture_the_top.Goals as goal

pub returns : goal.returns
returns g c p code stands s t environment no_cells no_closures is = all_captured g.H.Host.meaning p code stands s t environment no_cells no_closures is
