-- Each job on slots stands for the job by names, whose functions keep their whole environments.
use Rattle.std.proofs.Common.{◌≡◌, List, [], refl}
use Rattle.mt_eval_meaning.specs.Agreement.{EvaluatesAs, FreeIsEnough, StartsAs, file_on_slots, without_functions}
use Rattle.mt_eval_meaning.specs.Code.{TableStands, FileStands, ClientCodeStands}
use Rattle.mt_eval_meaning.specs.States.{Numbered, keeping_free, keeping_whole}
use Rattle.mt_eval_agreement.proofs.FreeLevels.{file_same, client_code_same, called_trimmed}
use Rattle.mt_eval_agreement.proofs.Laws.{evaluates_as}
use Rattle.mt_eval_agreement.proofs.Places.{starts_as}
use Rattle.mt_eval_agreement.proofs.Levels.{file_agrees, client_agrees, called_agrees}
use Rattle.mt_eval_meaning.specs.Evaluation.{file, client_code, called}
use Rattle.mt_eval_meaning.specs.Host.{Meaning}
use Rattle.mt_eval_meaning.specs.Names.{Surroundings}
use Rattle.mt_eval_meaning.specs.declared.state.State.{State}
use Rattle.mt_eval_meaning.specs.Slots as slots
use Rattle.mt_eval_meaning.specs.declared.function.Function.{Function as Code}
use Rattle.mt_eval_meaning.specs.declared.function.Unit.{Unit as Unit'}
use Rattle.mt_syntax.specs.declared.tree.Stmt.{Stmt}
use Rattle.mt_value.specs.declared.value.Value.{Value}

pub free_law : {H : Type 0} (around : Surroundings) (host : Meaning H) → FreeIsEnough around host
free_law around host = record {
  file = file_same (keeping_whole around) (λ own f environment. refl) host;
  client_code = client_code_same (keeping_whole around) (λ own f environment. refl) host;
  called = called_trimmed (keeping_whole around) (λ own f environment. refl) host;
}

module _ {H : Type 0} (around : Surroundings) (units : List Code) (table : List Numbered) (host : Meaning H) (stands : TableStands around units table) where
  pub file_law : (u : Unit') (items : List Stmt) → FileStands around units table u items → EvaluatesAs around.tildes table (file_on_slots units host u items) (file (keeping_whole around) host items)
  file_law u items code =
      evaluates_as around.tildes table (file_on_slots units host u items) (file (keeping_whole around) host items) (file (keeping_free around) host items) ((free_law around host).file items) (file_agrees around units table host stands u items code)

  pub start_law : (u : Unit') (items : List Stmt) → FileStands around units table u items → (s : State × H) → s.0.store ≡ [] → StartsAs around.tildes table items (file (keeping_whole around) host items (without_functions s)) (slots.unit units host u s)
  start_law u items code s empty = starts_as around units table u items code host (file (keeping_whole around) host items) (file_law u items code) s empty

  pub client_law : (u : Unit') (items : List Stmt) → ClientCodeStands around units table u items → EvaluatesAs around.tildes table (slots.unit units host u) (client_code (keeping_whole around) host items)
  client_law u items code =
      evaluates_as around.tildes table (slots.unit units host u) (client_code (keeping_whole around) host items) (client_code (keeping_free around) host items) ((free_law around host).client_code items) (client_agrees around units table host stands u items code)

  pub called_law : (f : Value) (arguments : List Value) → EvaluatesAs around.tildes table (slots.called units host f arguments) (called (keeping_whole around) host f arguments)
  called_law f arguments =
      evaluates_as around.tildes table (slots.called units host f arguments) (called (keeping_whole around) host f arguments) (called (keeping_free around) host f arguments) ((free_law around host).called f arguments) (called_agrees around units table host stands f arguments)
