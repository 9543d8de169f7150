use Rattle.mt_eval_meaning.specs.Agreement.{without_functions}
use Rattle.mt_eval_meaning.specs.States.{keeping_whole}
use Rattle.mt_eval_agreement.proofs.Places.{shown_agrees}
use Rattle.mt_eval_agreement.proofs.Whole.{start_law}
use Rattle.mt_eval_meaning.specs.Evaluation.{file}
use Rattle.mt_eval_meaning.specs.Slots as slots
use Rattle.mt_eval_agreement.proofs.file_start_agrees.Goals as goal

pub returns : goal.returns
returns g c around units table stands u items code s empty =
    shown_agrees around.tildes table items (file (keeping_whole around) g.H.Host.meaning items (without_functions s)) (slots.unit units g.H.Host.meaning u s) (start_law around units table g.H.Host.meaning stands u items code s empty)
