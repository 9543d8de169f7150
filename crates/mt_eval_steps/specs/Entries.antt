-- The property that an entry of data becomes.
use Rattle.mt_eval_meaning.specs.Building.{Built, data_step, entry_step}
use Rattle.mt_tree.specs.declared.data.Data.TheFolds.{fold-Entry}
use Rattle.mt_tree.specs.declared.data.Entry.{Entry}
use Rattle.mt_value.specs.declared.cell.Property.{Property}
use Rattle.mt_value.specs.declared.value.Value.{Value}

unfoldable pub build_entry : Entry → Built Property
build_entry = fold-Entry (Built Value) (Built Property) data_step entry_step
