-- What the forms of expressions do with the evaluations of their parts. Operands are evaluated from left to right; then the steps of the
-- node are taken, one and those for the texts and nodes that it works through, and last its work is done.
use Rattle.std.specs.Prelude.{ℕ, pos, if◌then◌else◌, List, [], ◌∷◌, Result, Ok, Err}
use Rattle.mt_eval_meaning.specs.Building.{build}
use Rattle.mt_eval_meaning.specs.Host.{Outside}
use Rattle.mt_eval_meaning.specs.References.{read, write, get}
use Rattle.mt_eval_meaning.specs.Runs.{Run, gives, ◌>>=◌, ◌>>◌, pure, all}
use Rattle.mt_eval_meaning.specs.State.{Eval, on_state, spend, or_throw, operate, add_cell, unmetered}
use Rattle.mt_eval_meaning.specs.declared.named_value.NamedValue.{NamedValue}
use Rattle.mt_eval_meaning.specs.declared.reference.Reference.{Reference}
use Rattle.mt_eval_meaning.specs.declared.state.State.{State}
use Rattle.mt_ops.specs.Errors.{settled}
use Rattle.mt_ops.specs.Operators.{binary_of, unary_of, is_truthy}
use Rattle.mt_ops.specs.declared.error.ErrorKind.{ErrorKind}
use Rattle.mt_ops.specs.declared.error.ErrorKind.TheVariants as error
use Rattle.mt_ops.specs.declared.error.Operator.{Operator}
use Rattle.mt_ops.specs.declared.error.Operator.TheVariants as operator
use Rattle.mt_ops_properties.specs.Costs.{steps, binary_units, unary_units, property_units}
use Rattle.mt_ops_properties.specs.Objects.{object_written}
use Rattle.mt_syntax.specs.DataLimits.{nodes_of_data}
use Rattle.mt_tree.specs.declared.operators.Binary.{Binary}
use Rattle.mt_tree.specs.declared.operators.Binary.TheVariants as binary
use Rattle.mt_tree.specs.declared.operators.StepKind.{StepKind}
use Rattle.mt_tree.specs.declared.operators.StepKind.TheVariants as step
use Rattle.mt_tree.specs.declared.operators.Unary.{Unary}
use Rattle.mt_tree.specs.declared.data.Data.{Data}
use Rattle.mt_value.specs.declared.cell.Cell.TheVariants as cell
use Rattle.mt_value.specs.declared.cell.Property.{Property}
use Rattle.mt_value.specs.declared.value.Value.{Value}
use Rattle.mt_value.specs.declared.value.Value.TheVariants as value

-- ---- what works are

-- the properties of a literal, the keys tried in text order: a repeated key keeps its first place, and takes its last value
abbrev pub literal_behind : Result (List Property) ErrorKind → List Property → Result (List Property) ErrorKind
literal_behind (Err e) ps = Err e
literal_behind (Ok done) [] = Ok done
literal_behind (Ok done) (p ∷ ps) = literal_behind (object_written done (value.Text p.name) p.value) ps

abbrev pub literal : List Property → Result (List Property) ErrorKind
literal ps = literal_behind (Ok []) ps

abbrev pub step_binary : StepKind → Binary
step_binary step.IncBefore = binary.Add
step_binary step.IncAfter = binary.Add
step_binary step.DecBefore = binary.Sub
step_binary step.DecAfter = binary.Sub

abbrev pub step_operator : StepKind → Operator
step_operator step.IncBefore = operator.Increment
step_operator step.IncAfter = operator.Increment
step_operator step.DecBefore = operator.Decrement
step_operator step.DecAfter = operator.Decrement

-- of a number, as `+ 1` and `- 1`
unfoldable pub stepped : StepKind → Value → Result Value ErrorKind
stepped kind (value.Num n) = binary_of (step_binary kind) (value.Num n) (value.Num (pos 1))
stepped kind _ = Err (error.OperandsDoNotFit (step_operator kind))

-- the new number before the target, and the old one behind it
abbrev pub step_value : StepKind → Value → Value → Value
step_value step.IncBefore old new = new
step_value step.DecBefore old new = new
step_value step.IncAfter old new = old
step_value step.DecAfter old new = old

-- fresh cells for the arrays and objects of data
unfoldable pub build_cells : Data → Run State Value
build_cells d = λ s. gives (build d s.store).0 (record s { store = (build d s.store).1 })

-- ---- the forms

module _ {K : Type 0} where
  unfoldable pub constant : Value → Eval K Value
  constant v = do
    on_state (spend 0)
    pure v

  unfoldable pub array : List (Eval K Value) → Eval K Value
  array items = do
    values ← all items
    on_state (spend 0)
    at ← on_state (add_cell (cell.Arr values))
    pure (value.Arr at)

  unfoldable pub entry : List ℕ → Eval K Value → Eval K Property
  entry key e = do
    v ← e
    pure (record { name = key; value = v })

  unfoldable pub object : List (Eval K Property) → Eval K Value
  object entries = do
    properties ← all entries
    on_state (spend 0)
    made ← on_state (or_throw (literal properties))
    at ← on_state (add_cell (cell.Obj made))
    pure (value.Obj at)

  -- the cell of a function, once it is made
  unfoldable pub function : Eval K ℕ → Eval K Value
  function capture = do
    on_state (spend 0)
    at ← capture
    pure (value.Fun at)

  unfoldable pub unary : Unary → Eval K Value → Eval K Value
  unary op a = do
    v ← a
    on_state (spend (steps (unary_units op v)))
    on_state (operate (settled (unary_of op v)))

  unfoldable pub operation : Binary → Eval K Value → Eval K Value → Eval K Value
  operation op a b = do
    v ← a
    w ← b
    on_state (spend (steps (binary_units op v w)))
    on_state (operate (settled (binary_of op v w)))

  -- the second operand is evaluated where the first is true
  unfoldable pub conjunction : Eval K Value → Eval K Value → Eval K Value
  conjunction a b = do
    v ← a
    w ← if is_truthy v then b else pure v
    on_state (spend 0)
    pure w

  -- where the first isn't true
  unfoldable pub disjunction : Eval K Value → Eval K Value → Eval K Value
  disjunction a b = do
    v ← a
    w ← if is_truthy v then pure v else b
    on_state (spend 0)
    pure w

  unfoldable pub conditional : Eval K Value → Eval K Value → Eval K Value → Eval K Value
  conditional test a b = do
    v ← test
    w ← if is_truthy v then a else b
    on_state (spend 0)
    pure w

  -- a value that was put in the place of a dollar: fresh cells for its arrays and objects, a step for each of its nodes
  unfoldable pub built : Data → Eval K Value
  built d = do
    on_state (spend (nodes_of_data d))
    on_state (build_cells d)

module _ {K : Type 0} (outside : Outside K) where
  unfoldable pub index : Eval K Value → Eval K Value → Eval K Value
  index a k = do
    base ← a
    key ← k
    on_state (spend (steps (property_units base key)))
    get outside base key

  unfoldable pub looked_up : Eval K Value → Eval K Value
  looked_up reading = do
    on_state (spend 0)
    reading

  -- the base and the key of a target are evaluated before the value; the target itself takes no step
  unfoldable pub assignment : Eval K Reference → Eval K Value → Eval K Value
  assignment target e = do
    place ← target
    v ← e
    on_state (spend 0)
    write outside place v
    pure v

  -- the target is read, without taking steps, before the operand is evaluated
  unfoldable pub update : Binary → Eval K Reference → Eval K Value → Eval K Value
  update op target e = do
    place ← target
    old ← unmetered (read outside place)
    v ← e
    on_state (spend (steps (binary_units op old v)))
    new ← on_state (operate (settled (binary_of op old v)))
    write outside place new
    pure new

  unfoldable pub count : StepKind → Eval K Reference → Eval K Value
  count kind target = do
    place ← target
    old ← unmetered (read outside place)
    on_state (spend 0)
    new ← on_state (operate (settled (stepped kind old)))
    write outside place new
    pure (step_value kind old new)

  -- a tilde: the values of its dollars are kept as they are now
  unfoldable pub tilde : ℕ → List (Eval K Value) → Eval K Value
  tilde id dollars = do
    values ← all dollars
    on_state (spend 0)
    outside.staged id values

  unfoldable pub attribute : List ℕ → Eval K Value → Eval K NamedValue
  attribute text e = do
    v ← e
    pure (record { name = text; value = v })

  unfoldable pub element : List ℕ → List (Eval K NamedValue) → List (Eval K Value) → Eval K Value
  element tag attributes children = do
    named ← all attributes
    values ← all children
    on_state (spend 0)
    outside.element tag named values
