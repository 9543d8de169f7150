-- The forms of expressions, over parts that agree.
use Rattle.std.proofs.Common.{ℕ, List, [], ◌∷◌, ◌++◌}
use Rattle.mt_eval_agreement.proofs.Keeps.{keep_spend, keep_or_throw, keep_add, keep_settled}
use Rattle.mt_eval_agreement.proofs.Views.{View, Sim, sim_pure, sim_bind, sim_if, sim_on_state, sim_unmetered}
use Rattle.mt_eval_meaning.specs.Expressions as forms
use Rattle.mt_eval_meaning.specs.Expressions.{literal, stepped, step_value}
use Rattle.mt_eval_meaning.specs.Host.{Outside}
use Rattle.mt_eval_meaning.specs.References.{read, write, get}
use Rattle.mt_eval_meaning.specs.Runs.{all, all_behind}
use Rattle.mt_eval_meaning.specs.State.{Eval}
use Rattle.mt_eval_meaning.specs.declared.named_value.NamedValue.{NamedValue}
use Rattle.mt_eval_meaning.specs.declared.reference.Reference.{Reference}
use Rattle.mt_ops.specs.Operators.{binary_of, unary_of, is_truthy}
use Rattle.mt_ops_properties.specs.Costs.{steps, binary_units, unary_units, property_units}
use Rattle.mt_tree.specs.declared.operators.Binary.{Binary}
use Rattle.mt_tree.specs.declared.operators.StepKind.{StepKind}
use Rattle.mt_tree.specs.declared.operators.Unary.{Unary}
use Rattle.mt_value.specs.declared.cell.Cell.TheVariants as cell
use Rattle.mt_value.specs.declared.cell.Property.{Property}
use Rattle.mt_value.specs.declared.value.Value.{Value}
use Rattle.mt_value.specs.declared.value.Value.TheVariants as value

module _ {K L : Type 0} (through : View K L) where
  -- each of a list with the one at its place
  pub data AllSim {A : Type 0} : List (Eval K A) → List (Eval L A) → Type 0 where
    none : AllSim [] []
    one : {m : Eval K A} {n : Eval L A} {ms : List (Eval K A)} {ns : List (Eval L A)} → Sim through m n → AllSim ms ns → AllSim (m ∷ ms) (n ∷ ns)

  pub sim_constant : (v : Value) → Sim through (forms.constant v) (forms.constant v)
  unfolding forms.constant
  sim_constant v = sim_bind through (sim_on_state through (keep_spend through.table 0)) (λ _. sim_pure through v)

  pub sim_unary : {a : Eval K Value} {b : Eval L Value} (op : Unary) → Sim through a b → Sim through (forms.unary op a) (forms.unary op b)
  unfolding forms.unary
  sim_unary op k =
      sim_bind through k (λ v.
      sim_bind through (sim_on_state through (keep_spend through.table (steps (unary_units op v)))) (λ _.
      sim_on_state through (keep_settled through.table (unary_of op v))))

  pub sim_operation : {a c : Eval K Value} {b d : Eval L Value} (op : Binary) → Sim through a b → Sim through c d → Sim through (forms.operation op a c) (forms.operation op b d)
  unfolding forms.operation
  sim_operation op k l =
      sim_bind through k (λ v.
      sim_bind through l (λ w.
      sim_bind through (sim_on_state through (keep_spend through.table (steps (binary_units op v w)))) (λ _.
      sim_on_state through (keep_settled through.table (binary_of op v w)))))

  -- the steps of a node, once its value is there
  sim_counted : (w : Value) → Sim through (forms.constant w) (forms.constant w)
  sim_counted w = sim_constant w

  pub sim_conjunction : {a c : Eval K Value} {b d : Eval L Value} → Sim through a b → Sim through c d → Sim through (forms.conjunction a c) (forms.conjunction b d)
  unfolding forms.conjunction forms.constant
  sim_conjunction k l = sim_bind through k (λ v. sim_bind through (sim_if through (is_truthy v) l (sim_pure through v)) (λ w. sim_counted w))

  pub sim_disjunction : {a c : Eval K Value} {b d : Eval L Value} → Sim through a b → Sim through c d → Sim through (forms.disjunction a c) (forms.disjunction b d)
  unfolding forms.disjunction forms.constant
  sim_disjunction k l = sim_bind through k (λ v. sim_bind through (sim_if through (is_truthy v) (sim_pure through v) l) (λ w. sim_counted w))

  pub sim_conditional : {t a c : Eval K Value} {u b d : Eval L Value} → Sim through t u → Sim through a b → Sim through c d → Sim through (forms.conditional t a c) (forms.conditional u b d)
  unfolding forms.conditional forms.constant
  sim_conditional j k l = sim_bind through j (λ v. sim_bind through (sim_if through (is_truthy v) k l) (λ w. sim_counted w))

  pub sim_function : {a : Eval K ℕ} {b : Eval L ℕ} → Sim through a b → Sim through (forms.function a) (forms.function b)
  unfolding forms.function
  sim_function k = sim_bind through (sim_on_state through (keep_spend through.table 0)) (λ _. sim_bind through k (λ at. sim_pure through (value.Fun at)))

  -- ---- lists

  all_from : {A : Type 0} (done : List A) {ms : List (Eval K A)} {ns : List (Eval L A)} → AllSim ms ns → Sim through (all_behind done ms) (all_behind done ns)
  all_from done none = sim_pure through done
  all_from done (one k ks) = sim_bind through k (λ a. all_from (done ++ a ∷ []) ks)

  pub sim_all : {A : Type 0} {ms : List (Eval K A)} {ns : List (Eval L A)} → AllSim ms ns → Sim through (all ms) (all ns)
  sim_all ks = all_from [] ks

  pub sim_array : {ms : List (Eval K Value)} {ns : List (Eval L Value)} → AllSim ms ns → Sim through (forms.array ms) (forms.array ns)
  unfolding forms.array
  sim_array ks =
      sim_bind through (sim_all ks) (λ values.
      sim_bind through (sim_on_state through (keep_spend through.table 0)) (λ _.
      sim_bind through (sim_on_state through (keep_add through.table (cell.Arr values) tt)) (λ at. sim_pure through (value.Arr at))))

  pub sim_entry : {a : Eval K Value} {b : Eval L Value} (key : List ℕ) → Sim through a b → Sim through (forms.entry key a) (forms.entry key b)
  unfolding forms.entry
  sim_entry key k = sim_bind through k (λ v. sim_pure through (record { name = key; value = v }))

  pub sim_object : {ms : List (Eval K Property)} {ns : List (Eval L Property)} → AllSim ms ns → Sim through (forms.object ms) (forms.object ns)
  unfolding forms.object
  sim_object ks =
      sim_bind through (sim_all ks) (λ properties.
      sim_bind through (sim_on_state through (keep_spend through.table 0)) (λ _.
      sim_bind through (sim_on_state through (keep_or_throw through.table (literal properties))) (λ made.
      sim_bind through (sim_on_state through (keep_add through.table (cell.Obj made) tt)) (λ at. sim_pure through (value.Obj at)))))

  -- ---- what is read and assigned

  -- what lies outside agrees
  pub record SimOutside (o : Outside K) (q : Outside L) : Type 0 where
    pub reads : (r : Reference) → Sim through (read o r) (read q r)
    pub writes : (r : Reference) (v : Value) → Sim through (write o r v) (write q r v)
    pub gets : (base key : Value) → Sim through (get o base key) (get q base key)
    pub staged : (id : ℕ) (vs : List Value) → Sim through (o.staged id vs) (q.staged id vs)
    pub element : (tag : List ℕ) (xs : List NamedValue) (cs : List Value) → Sim through (o.element tag xs cs) (q.element tag xs cs)

  module _ (o : Outside K) (q : Outside L) (k : SimOutside o q) where
    pub sim_index : {a c : Eval K Value} {b d : Eval L Value} → Sim through a b → Sim through c d → Sim through (forms.index o a c) (forms.index q b d)
    unfolding forms.index
    sim_index l m =
        sim_bind through l (λ base.
        sim_bind through m (λ key.
        sim_bind through (sim_on_state through (keep_spend through.table (steps (property_units base key)))) (λ _. k.gets base key)))

    pub sim_looked_up : {a : Eval K Value} {b : Eval L Value} → Sim through a b → Sim through (forms.looked_up o a) (forms.looked_up q b)
    unfolding forms.looked_up
    sim_looked_up l = sim_bind through (sim_on_state through (keep_spend through.table 0)) (λ _. l)

    pub sim_assignment : {t : Eval K Reference} {u : Eval L Reference} {a : Eval K Value} {b : Eval L Value} → Sim through t u → Sim through a b → Sim through (forms.assignment o t a) (forms.assignment q u b)
    unfolding forms.assignment
    sim_assignment l m =
        sim_bind through l (λ place.
        sim_bind through m (λ v.
        sim_bind through (sim_on_state through (keep_spend through.table 0)) (λ _.
        sim_bind through (k.writes place v) (λ _. sim_pure through v))))

    pub sim_update : {t : Eval K Reference} {u : Eval L Reference} {a : Eval K Value} {b : Eval L Value} (op : Binary) → Sim through t u → Sim through a b → Sim through (forms.update o op t a) (forms.update q op u b)
    unfolding forms.update
    sim_update op l m =
        sim_bind through l (λ place.
        sim_bind through (sim_unmetered through (k.reads place)) (λ old.
        sim_bind through m (λ v.
        sim_bind through (sim_on_state through (keep_spend through.table (steps (binary_units op old v)))) (λ _.
        sim_bind through (sim_on_state through (keep_settled through.table (binary_of op old v))) (λ new.
        sim_bind through (k.writes place new) (λ _. sim_pure through new))))))

    pub sim_count : {t : Eval K Reference} {u : Eval L Reference} (kind : StepKind) → Sim through t u → Sim through (forms.count o kind t) (forms.count q kind u)
    unfolding forms.count
    sim_count kind l =
        sim_bind through l (λ place.
        sim_bind through (sim_unmetered through (k.reads place)) (λ old.
        sim_bind through (sim_on_state through (keep_spend through.table 0)) (λ _.
        sim_bind through (sim_on_state through (keep_settled through.table (stepped kind old))) (λ new.
        sim_bind through (k.writes place new) (λ _. sim_pure through (step_value kind old new))))))

    pub sim_tilde : {ms : List (Eval K Value)} {ns : List (Eval L Value)} (id : ℕ) → AllSim ms ns → Sim through (forms.tilde o id ms) (forms.tilde q id ns)
    unfolding forms.tilde
    sim_tilde id ks = sim_bind through (sim_all ks) (λ values. sim_bind through (sim_on_state through (keep_spend through.table 0)) (λ _. k.staged id values))

    pub sim_attribute : {a : Eval K Value} {b : Eval L Value} (text : List ℕ) → Sim through a b → Sim through (forms.attribute o text a) (forms.attribute q text b)
    unfolding forms.attribute
    sim_attribute text l = sim_bind through l (λ v. sim_pure through (record { name = text; value = v }))

    pub sim_element : {xs : List (Eval K NamedValue)} {ys : List (Eval L NamedValue)} {ms : List (Eval K Value)} {ns : List (Eval L Value)} (tag : List ℕ) → AllSim xs ys → AllSim ms ns → Sim through (forms.element o tag xs ms) (forms.element q tag ys ns)
    unfolding forms.element
    sim_element tag ks ls =
        sim_bind through (sim_all ks) (λ named.
        sim_bind through (sim_all ls) (λ values.
        sim_bind through (sim_on_state through (keep_spend through.table 0)) (λ _. k.element tag named values)))
