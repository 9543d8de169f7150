-- Names, properties and calls, over what agrees outside.
use Rattle.std.proofs.Common.{ℕ, List, [], Option, Some, None}
use Rattle.mt_eval_meaning.specs.States.{Numbered}
use Rattle.mt_eval_agreement.proofs.Forms.{AllSim, SimOutside, sim_all}
use Rattle.mt_eval_agreement.proofs.Keeps.{keep_spend, keep_throw, keep_write_name, keep_read_variable, keep_read_global}
use Rattle.mt_eval_agreement.proofs.Operations.{keep_property, keep_written, keep_method}
use Rattle.mt_eval_agreement.proofs.Sim.{slots_view, sim_does}
use Rattle.mt_eval_agreement.proofs.Views.{View, Sim, sim_pure, sim_bind, sim_on_state}
use Rattle.mt_eval_meaning.specs.Calls as calls
use Rattle.mt_eval_meaning.specs.Calls.{method_name, member_by, applied, method_by}
use Rattle.mt_eval_meaning.specs.Entering.{Named}
use Rattle.mt_eval_meaning.specs.Evaluation.{on_host}
use Rattle.mt_eval_meaning.specs.Host.{Meaning, Outside, outside_by}
use Rattle.mt_eval_meaning.specs.References.{host_key, read_builtin, read_name, read, write, get, get_by, set, set_by}
use Rattle.mt_eval_meaning.specs.State.{Eval}
use Rattle.mt_eval_meaning.specs.declared.callee.Callee.{Callee}
use Rattle.mt_eval_meaning.specs.declared.callee.Callee.TheVariants as callee
use Rattle.mt_eval_meaning.specs.declared.named_value.NamedValue.{NamedValue}
use Rattle.mt_eval_meaning.specs.declared.reference.Reference.{Reference}
use Rattle.mt_eval_meaning.specs.declared.reference.Reference.TheVariants as reference
use Rattle.mt_eval_meaning.specs.declared.reference.Referent.{Referent}
use Rattle.mt_eval_meaning.specs.declared.reference.Referent.TheVariants as refers
use Rattle.mt_ops.specs.declared.error.ErrorKind.TheVariants as error
use Rattle.mt_ops_properties.specs.Costs.{steps, property_units}
use Rattle.mt_value.specs.declared.value.Native.{Native}
use Rattle.mt_value.specs.declared.value.Native.TheVariants as native
use Rattle.mt_value.specs.declared.value.Value.{Value}
use Rattle.mt_value.specs.declared.value.Value.TheVariants as value

module _ {K L : Type 0} (through : View K L) where
  -- each call agrees
  pub record SimCalls (o : Outside K) (q : Outside L) : Type 0 where
    pub native : (which : Native) (vs : List Value) → Sim through (o.native which vs) (q.native which vs)
    pub method : (base : Value) (key : List ℕ) (vs : List Value) → Sim through (o.method base key vs) (q.method base key vs)
    pub get : (base : Value) (key : List ℕ) → Sim through (o.get base key) (q.get base key)
    pub set : (base : Value) (key : List ℕ) (v : Value) → Sim through (o.set base key v) (q.set base key v)
    pub frame : (service : List ℕ) (vs : List Value) → Sim through (o.frame service vs) (q.frame service vs)
    pub staged : (id : ℕ) (vs : List Value) → Sim through (o.staged id vs) (q.staged id vs)
    pub element : (tag : List ℕ) (xs : List NamedValue) (vs : List Value) → Sim through (o.element tag xs vs) (q.element tag xs vs)
    pub enter : (at : ℕ) (vs : List Value) → Sim through (o.enter at vs) (q.enter at vs)

  module _ (o : Outside K) (q : Outside L) (k : SimCalls o q) where
    -- ---- names and properties

    builtin_sim : (n : Native) → Sim through (read_builtin o n) (read_builtin q n)
    builtin_sim native.Event = k.native native.Event []
    builtin_sim native.Object = sim_pure through (value.Native native.Object)
    builtin_sim native.Array = sim_pure through (value.Native native.Array)
    builtin_sim native.Document = sim_pure through (value.Native native.Document)
    builtin_sim native.String = sim_pure through (value.Native native.String)
    builtin_sim native.Number = sim_pure through (value.Native native.Number)
    builtin_sim native.Error = sim_pure through (value.Native native.Error)
    builtin_sim native.Log = sim_pure through (value.Native native.Log)
    builtin_sim native.Alert = sim_pure through (value.Native native.Alert)

    pub name_sim : (text : List ℕ) (r : Referent) → Sim through (read_name o text r) (read_name q text r)
    name_sim text (refers.Variable at b) = sim_on_state through (keep_read_variable through.table text at)
    name_sim text refers.Service = sim_pure through (value.Svc text)
    name_sim text (refers.Builtin n) = builtin_sim n
    name_sim text refers.Global = sim_on_state through (keep_read_global through.table text)

    get_by_sim : (by : Option (List ℕ)) (base key : Value) → Sim through (get_by o by base key) (get_by q by base key)
    get_by_sim (Some text) base key = k.get base text
    get_by_sim None base key = sim_on_state through (keep_property through.table base key)

    pub get_sim : (base key : Value) → Sim through (get o base key) (get q base key)
    unfolding get
    get_sim base key = get_by_sim (host_key base key) base key

    set_by_sim : (by : Option (List ℕ)) (base key v : Value) → Sim through (set_by o by base key v) (set_by q by base key v)
    set_by_sim (Some text) base key v = k.set base text v
    set_by_sim None base key v = sim_on_state through (keep_written through.table base key v)

    set_sim : (base key v : Value) → Sim through (set o base key v) (set q base key v)
    unfolding set
    set_sim base key v = sim_bind through (set_by_sim (host_key base key) base key v) (λ _. sim_pure through tt)

    read_sim : (r : Reference) → Sim through (read o r) (read q r)
    read_sim (reference.Name text r) = name_sim text r
    read_sim (reference.Property base key) = get_sim base key

    write_sim : (r : Reference) (v : Value) → Sim through (write o r v) (write q r v)
    write_sim (reference.Name text r) v = sim_on_state through (keep_write_name through.table text r v)
    write_sim (reference.Property base key) v = set_sim base key v

    pub outside_sim : SimOutside through o q
    outside_sim = record { reads = read_sim; writes = write_sim; gets = get_sim; staged = k.staged; element = k.element }

    -- ---- calls

    pub sim_plain_callee : {a : Eval K Value} {b : Eval L Value} → Sim through a b → Sim through (calls.plain_callee o a) (calls.plain_callee q b)
    unfolding calls.plain_callee
    sim_plain_callee l = sim_bind through l (λ f. sim_pure through (callee.Function f))

    member_sim : (by : Option (List ℕ)) (base key : Value) → Sim through (member_by o by base key) (member_by q by base key)
    member_sim (Some text) base key = sim_bind through (sim_on_state through (keep_spend through.table 0)) (λ _. sim_pure through (callee.Method base text))
    member_sim None base key = sim_bind through (sim_on_state through (keep_spend through.table (steps (property_units base key)))) (λ _. sim_bind through (get_sim base key) (λ f. sim_pure through (callee.Function f)))

    pub sim_member_callee : {a c : Eval K Value} {b d : Eval L Value} → Sim through a b → Sim through c d → Sim through (calls.member_callee o a c) (calls.member_callee q b d)
    unfolding calls.member_callee
    sim_member_callee l m = sim_bind through l (λ base. sim_bind through m (λ key. member_sim (method_name base key) base key))

    pub applied_sim : (f : Value) (vs : List Value) → Sim through (applied o f vs) (applied q f vs)
    applied_sim (value.Fun at) vs = k.enter at vs
    applied_sim (value.Svc name) vs = k.frame name vs
    applied_sim (value.Native n) vs = k.native n vs
    applied_sim _ vs = sim_on_state through (keep_throw through.table error.NotFunction)

    function_sim : (f : Value) (vs : List Value) → Sim through (calls.applied_function o f vs) (calls.applied_function q f vs)
    unfolding calls.applied_function
    function_sim f vs = sim_bind through (sim_on_state through (keep_spend through.table 0)) (λ _. applied_sim f vs)

    hosted_sim : (base : Value) (key : List ℕ) (vs : List Value) → Sim through (calls.hosted_method o base key vs) (calls.hosted_method q base key vs)
    unfolding calls.hosted_method
    hosted_sim base key vs = sim_bind through (sim_on_state through (keep_spend through.table 0)) (λ _. k.method base key vs)

    method_sim : (by : Option (List ℕ)) (base : Value) (key : List ℕ) (vs : List Value) → Sim through (method_by o by base key vs) (method_by q by base key vs)
    method_sim (Some text) base key vs = hosted_sim base key vs
    method_sim None base key vs = sim_on_state through (keep_method through.table base key vs)

    invoked_sim : (f : Callee) (vs : List Value) → Sim through (calls.invoked o f vs) (calls.invoked q f vs)
    invoked_sim (callee.Function f) vs = function_sim f vs
    invoked_sim (callee.Method base key) vs = method_sim (host_key base (value.Text key)) base key vs

    pub sim_call : {f : Eval K Callee} {g : Eval L Callee} {ms : List (Eval K Value)} {ns : List (Eval L Value)} → Sim through f g → AllSim through ms ns → Sim through (calls.call o f ms) (calls.call q g ns)
    unfolding calls.call
    sim_call l ls = sim_bind through l (λ f. sim_bind through (sim_all through ls) (λ vs. invoked_sim f vs))

module _ {H : Type 0} (table : List Numbered) where
  -- those of a host agree, on the host itself and on the host beside what functions hold
  pub host_calls : (host : Meaning H) (enter : ℕ → List Value → Eval H Value) (other : ℕ → List Value → Eval (Named H) Value) → ((at : ℕ) (vs : List Value) → Sim (slots_view table) (enter at vs) (other at vs))
      → SimCalls (slots_view table) (outside_by host (λ p. p) enter) (outside_by host on_host other)
  host_calls host enter other k = record {
    native = λ which vs. sim_does table (host.native which vs);
    method = λ base key vs. sim_does table (host.method base key vs);
    get = λ base key. sim_does table (host.get base key);
    set = λ base key v. sim_does table (host.set base key v);
    frame = λ service vs. sim_does table (host.frame service vs);
    staged = λ id vs. sim_does table (host.staged id vs);
    element = λ tag xs vs. sim_does table (host.element tag xs vs);
    enter = k;
  }
