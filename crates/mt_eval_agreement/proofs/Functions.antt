-- What is entered: functions, the file and the code of a tilde, with the functions that they declare.
use Rattle.std.proofs.Common.{◌≡◌, ℕ, suc, ◌+◌, ◌<◌, ◌≤◌, List, [], ◌∷◌, ◌++◌, length, map, Some, None, Bool, refl, sym, ap, ◌∙◌, subst, arith}
use Rattle.std.proofs.lemmas.List.{append-nil, map-append, length-map}
use Rattle.std.specs.Prelude.{slice_index_or}
use Rattle.mt_eval_meaning.specs.Code.{AllStand, NameStands, HoistedStands, CodeStands, FileStands, ClientCodeStands, captured_scope}
use Rattle.mt_eval_meaning.specs.Scopes.{Scope, environment_of, IsBelow, with_lexicals, own_given, body_entry}
use Rattle.mt_eval_meaning.specs.States.{Numbered, keeping_free}
use Rattle.mt_eval_agreement.proofs.Shown.{zipped}
use Rattle.mt_eval_agreement.proofs.Blocks.{both_first, wider}
use Rattle.mt_eval_agreement.proofs.Captures.{sim_capture}
use Rattle.mt_eval_agreement.proofs.Entries.{lexicals_length, entry_lexicals_then, body_then}
use Rattle.mt_eval_agreement.proofs.Keeps.{keep_declare, keep_write_name, keep_declare_global}
use Rattle.mt_eval_agreement.proofs.Sim.{slots_view}
use Rattle.mt_eval_agreement.proofs.Views.{Sim, sim_pure, sim_bind, sim_on_state, sim_as, regrouped}
use Rattle.mt_eval_agreement.proofs.Slots.{referent_same}
use Rattle.mt_eval_meaning.specs.Entering as names
use Rattle.mt_eval_meaning.specs.Entering.{Closure, Named, lexical_variables, body_scope, closure}
use Rattle.mt_eval_meaning.specs.Hoisting.{Lexical, lexicals, functions, variables, names_of}
use Rattle.mt_eval_meaning.specs.Names.{Environment, Surroundings, referent}
use Rattle.mt_eval_meaning.specs.References.{declare, declare_global, write_name}
use Rattle.mt_eval_meaning.specs.Runs.{Ran, gives, leaves, Run, and_then, each}
use Rattle.mt_eval_meaning.specs.State.{Eval, on_state, beside}
use Rattle.mt_eval_meaning.specs.declared.reference.Referent.{Referent}
use Rattle.mt_eval_meaning.specs.declared.state.State.{State}
use Rattle.mt_eval_meaning.specs.Activations as activations
use Rattle.mt_eval_meaning.specs.Activations.{Activation, grown, with_own, with_parameters}
use Rattle.mt_eval_meaning.specs.declared.function.Function.{Function as Code}
use Rattle.mt_eval_meaning.specs.declared.function.Hoisted.{Hoisted}
use Rattle.mt_eval_meaning.specs.declared.function.Unit.{Unit as Unit'}
use Rattle.mt_eval_meaning.specs.declared.name.Name.{Name}
use Rattle.mt_syntax.specs.declared.tree.Function.{Function, out-Function}
use Rattle.mt_syntax.specs.declared.tree.Stmt.{Stmt}
use Rattle.mt_value.specs.declared.value.Value.{Value}
use Rattle.mt_value.specs.declared.value.Value.TheVariants as value

module _ {H : Type 0} (table : List Numbered) where
  beside_bind : {A B : Type 0} (r : Ran State A) (host : H) (h : A → Run State B) → beside host (and_then r h) ≡ and_then (beside host r) (λ a. on_state (h a))
  beside_bind (gives a s) host h = refl
  beside_bind (leaves e s) host h = refl

  -- two steps on the state alone
  state_bind : {A B : Type 0} (m : Run State A) (h : A → Run State B) (n : Eval (Named H) B) → Sim (slots_view table) (λ s. and_then (on_state m s) (λ a. on_state (h a))) n → Sim (slots_view table) (on_state (λ t. and_then (m t) h)) n
  state_bind m h n k = sim_as (slots_view table) (on_state (λ t. and_then (m t) h)) (λ s. and_then (on_state m s) (λ a. on_state (h a))) n n (λ s. beside_bind (m s.0) s.1 h) (λ s. refl) k

  globals_sim : (text : List (List ℕ)) → Sim (slots_view {H = H} table) (on_state (each (map declare_global text))) (each (map (λ name. on_state (declare_global name)) text))
  globals_sim [] = sim_pure (slots_view table) tt
  globals_sim (name ∷ text) =
      state_bind (declare_global name) (λ _. each (map declare_global text)) (each (map (λ name. on_state (declare_global name)) (name ∷ text)))
      (sim_bind (slots_view table) (sim_on_state (slots_view table) (keep_declare_global table name)) (λ _. globals_sim text))

-- ---- the scopes of what is entered

both_low : (size : ℕ) (a b : Scope) → IsBelow size a → IsBelow size b → IsBelow size (a ++ b)
both_low size [] b h k = k
both_low size (s ∷ a) b h k = (h.0, both_low size a b h.1 k)

abbrev pub entry_of : Numbered → Scope
entry_of n = body_entry (length n.names) n.own (names_of (out-Function n.function).parameters) (out-Function n.function).body

abbrev pub closure_of : Numbered → Activation → Closure
closure_of n captured = record { own = n.own; function = n.function; environment = zipped n.names captured }

abbrev pub file_scope : List Stmt → Scope
file_scope items = body_entry 0 None [] items ++ []

abbrev pub client_scope : List Stmt → Scope
client_scope items = with_lexicals 0 (lexicals items) []

module _ (around : Surroundings) (units : List Code) (table : List Numbered) where
  stands_same : (scope : Scope) (activation : Activation) → IsBelow (length activation) scope → (n : Name) (text : List ℕ) → NameStands around units table scope n text → activations.referent activation n.binding ≡ referent (keeping_free around) (environment_of scope activation) text
  stands_same scope activation low n text h = ap (activations.referent activation) h.1 ∙ referent_same around activation text scope low

  -- ---- the captured variables

  shifted : (k : ℕ) (ls : List Lexical) (at : ℕ) (activation : Activation) → environment_of (captured_scope (suc k) ls) (at ∷ activation) ≡ environment_of (captured_scope k ls) activation
  shifted k [] at activation = refl
  shifted k (l ∷ ls) at activation = ap (λ (bs : Environment). record { name = l.name; address = slice_index_or activation k 0; constant = l.constant } ∷ bs) (shifted (suc k) ls at activation)

  captured_environment : (ls : List Lexical) (captured : Activation) → length captured ≡ length ls → environment_of (captured_scope 0 ls) captured ≡ zipped ls captured
  captured_environment [] captured e = refl
  captured_environment (l ∷ ls) [] e = absurd (omega (arith, e))
  captured_environment (l ∷ ls) (at ∷ captured) e =
      let rest : length captured ≡ length ls = omega (arith, e) in
      ap (λ (bs : Environment). record { name = l.name; address = at; constant = l.constant } ∷ bs) (shifted 0 ls at captured ∙ captured_environment ls captured rest)

  captured_low : (k : ℕ) (ls : List Lexical) (size : ℕ) → k + length ls ≤ size → IsBelow size (captured_scope k ls)
  captured_low k [] size le = tt
  captured_low k (l ∷ ls) size le =
      let here : k < size = omega (arith, le) in
      let rest : suc k + length ls ≤ size = omega (arith, le) in
      (here, captured_low (suc k) ls size rest)

  abbrev pub scope_of : Numbered → Scope
  scope_of n = entry_of n ++ captured_scope 0 n.names

module _ {H : Type 0} (around : Surroundings) (units : List Code) (table : List Numbered) where
  -- ---- the functions that a body declares

  module _ (scope : Scope) (activation : Activation) (low : IsBelow (length activation) scope) where
    pub declare_sim : (n : Name) (text : List ℕ) → NameStands around units table scope n text → (v : Value) → Sim (slots_view {H = H} table) (on_state (declare n.text (activations.referent activation n.binding) v)) (on_state (declare text (referent (keeping_free around) (environment_of scope activation) text) v))
    declare_sim n text h v =
        let r = referent (keeping_free around) (environment_of scope activation) text in
        subst (λ (z : List ℕ). Sim (slots_view {H = H} table) (on_state (declare z (activations.referent activation n.binding) v)) (on_state (declare text r v))) (sym h.0)
        (subst (λ (z : Referent). Sim (slots_view {H = H} table) (on_state (declare text z v)) (on_state (declare text r v))) (sym (stands_same around units table scope activation low n text h)) (sim_on_state (slots_view table) (keep_declare table text r v)))

    pub write_sim : (n : Name) (text : List ℕ) → NameStands around units table scope n text → (v : Value) → Sim (slots_view {H = H} table) (on_state (write_name n.text (activations.referent activation n.binding) v)) (on_state (write_name text (referent (keeping_free around) (environment_of scope activation) text) v))
    write_sim n text h v =
        let r = referent (keeping_free around) (environment_of scope activation) text in
        subst (λ (z : List ℕ). Sim (slots_view {H = H} table) (on_state (write_name z (activations.referent activation n.binding) v)) (on_state (write_name text r v))) (sym h.0)
        (subst (λ (z : Referent). Sim (slots_view {H = H} table) (on_state (write_name text z v)) (on_state (write_name text r v))) (sym (stands_same around units table scope activation low n text h)) (sim_on_state (slots_view table) (keep_write_name table text r v)))

    define_sim : (h : Hoisted) (f : List ℕ × Function) → HoistedStands around units table scope h f → Sim (slots_view {H = H} table) (on_state (activations.define units activation h)) (names.define (keeping_free around) (environment_of scope activation) f)
    unfolding activations.define names.define
    define_sim h f stands =
        state_bind table (activations.capture units h.function activation) (λ at. declare h.name.text (activations.referent activation h.name.binding) (value.Fun at)) (names.define (keeping_free around) (environment_of scope activation) f)
        (sim_bind (slots_view table) (sim_capture around units table scope activation low h.function None f.1 stands.1) (λ at. declare_sim h.name f.0 stands.0 (value.Fun at)))

    define_all_sim : (hs : List Hoisted) (fs : List (List ℕ × Function)) → AllStand (HoistedStands around units table scope) hs fs → Sim (slots_view {H = H} table) (on_state (activations.define_all units activation hs)) (each (map (names.define (keeping_free around) (environment_of scope activation)) fs))
    define_all_sim [] [] stands = sim_pure (slots_view table) tt
    define_all_sim (h ∷ hs) (f ∷ fs) stands =
        state_bind table (activations.define units activation h) (λ _. activations.define_all units activation hs) (each (map (names.define (keeping_free around) (environment_of scope activation)) (f ∷ fs)))
        (sim_bind (slots_view table) (define_sim h f stands.0) (λ _. define_all_sim hs fs stands.1))
    define_all_sim [] (f ∷ fs) stands = absurd stands
    define_all_sim (h ∷ hs) [] stands = absurd stands

    defined_then : {A : Type 0} (hs : List Hoisted) (fs : List (List ℕ × Function)) (f : Activation → Eval H A) (g : Environment → Eval (Named H) A) → AllStand (HoistedStands around units table scope) hs fs → Sim (slots_view table) (f activation) (g (environment_of scope activation))
        → Sim (slots_view table) (λ s. and_then (on_state (λ t. and_then (activations.define_all units activation hs t) (λ _ t. gives activation t)) s) f) (λ s. and_then (and_then (each (map (names.define (keeping_free around) (environment_of scope activation)) fs) s) (λ _ s. gives (environment_of scope activation) s)) g)
    defined_then hs fs f g stands k =
        both_first table (activations.define_all units activation hs) (λ _ t. gives activation t) f (each (map (names.define (keeping_free around) (environment_of scope activation)) fs)) (λ _ s. gives (environment_of scope activation) s) g
        (sim_bind (slots_view table) (define_all_sim hs fs stands) (λ _. k))

  -- ---- entries

  pub function_then : {A : Type 0} (code : Code) (n : Numbered) → CodeStands around units table code n → (captured : Activation) → length captured ≡ length n.names → (at : ℕ) (vs : List Value) (f : Activation → Eval H A) (g : Environment → Eval (Named H) A)
      → ((inner : Activation) → length n.names + length (entry_of n) ≡ length inner → IsBelow (length inner) (scope_of around units table n) → Sim (slots_view table) (f inner) (g (environment_of (scope_of around units table n) inner)))
      → Sim (slots_view table) (λ s. and_then (on_state (activations.enter_function units code captured at vs) s) f) (λ s. and_then (names.enter_function (keeping_free around) (closure_of n captured) at vs s) g)
  unfolding activations.enter_function activations.enter_body names.enter_function
  function_then {A = A} code n stands captured same at vs f g h =
      let size = length n.names in
      let parameters = names_of (out-Function n.function).parameters in
      let ts = (out-Function n.function).body in
      let kept = zipped n.names captured in
      let count : code.parameters ≡ length parameters = stands.parameters ∙ sym (length-map (out-Function n.function).parameters (λ m. m.name)) in
      let size_is : size ≡ length captured = sym same in
      let next : Activation → Run State Activation = λ inner t. and_then (activations.define_all units inner code.body.hoisted t) (λ _ t. gives inner t) in
      let last : Environment → Eval (Named H) Environment = λ scope s. and_then (names.define_all (keeping_free around) (scope ++ kept) ts s) (λ _ s. gives (scope ++ kept) s) in
      let right : Eval (Named H) A = λ s. and_then (names.enter_function (keeping_free around) (closure_of n captured) at vs s) g in
      subst (λ (o : Bool). Sim (slots_view table) (λ s. and_then (on_state (λ t. and_then (with_own o at captured t) (λ named t. and_then (with_parameters code.parameters vs named t) (λ given. activations.enter_body units code.body given))) s) f) right) (sym stands.own)
      (subst (λ (k : ℕ). Sim (slots_view table) (λ s. and_then (on_state (λ t. and_then (with_own (own_given size n.own parameters ts) at captured t) (λ named t. and_then (with_parameters k vs named t) (λ given. activations.enter_body units code.body given))) s) f) right) (sym count)
      (sim_as (slots_view table) (λ s. and_then (on_state (λ t. and_then (with_own (own_given size n.own parameters ts) at captured t) (λ named t. and_then (with_parameters (length parameters) vs named t) (λ given. activations.enter_body units code.body given))) s) f)
      (λ s. and_then (on_state (λ t. and_then (with_own (own_given size n.own parameters ts) at captured t) (λ named t. and_then (with_parameters (length parameters) vs named t) (λ given. activations.enter_body units code.body given))) s) f)
      right (λ s. and_then (body_scope n.own at parameters vs ts s) (λ scope s. and_then (last scope s) g)) (λ s. refl) (λ s. regrouped (body_scope n.own at parameters vs ts s) last g)
      (body_then table size n.own parameters ts vs at code.body.variables code.body.undeclared captured next f (λ scope s. and_then (last scope s) g) size_is stands.body.variables stands.body.undeclared (λ inner grow long low.
      let own_low : IsBelow (length captured) (captured_scope 0 n.names) = captured_low around units table 0 n.names (length captured) (omega (arith, same)) in
      let whole_low : IsBelow (length inner) (scope_of around units table n) = both_low (length inner) (entry_of n) (captured_scope 0 n.names) low (wider (captured_scope 0 n.names) (length captured) (length inner) grow.longer own_low) in
      let is : environment_of (scope_of around units table n) inner ≡ environment_of (entry_of n) inner ++ kept =
      map-append (λ s. record { name = s.name; address = slice_index_or inner s.slot 0; constant = s.constant }) (entry_of n) (captured_scope 0 n.names)
      ∙ ap (λ (bs : Environment). environment_of (entry_of n) inner ++ bs) (grow.kept (captured_scope 0 n.names) own_low ∙ captured_environment around units table n.names captured same) in
      subst (λ (z : Environment). Sim (slots_view table) (λ s. and_then (on_state (next inner) s) f) (λ s. and_then (and_then (names.define_all (keeping_free around) z ts s) (λ _ s. gives z s)) g)) is
      (defined_then (scope_of around units table n) inner whole_low code.body.hoisted (functions ts) f g stands.body.hoisted (h inner (sym long) whole_low))))))

  pub file_then : {A : Type 0} (u : Unit') (items : List Stmt) → FileStands around units table u items → (f : Activation → Eval H A) (g : Environment → Eval (Named H) A)
      → ((inner : Activation) → 0 + length (body_entry 0 None [] items) ≡ length inner → IsBelow (length inner) (file_scope items) → Sim (slots_view table) (f inner) (g (environment_of (file_scope items) inner)))
      → Sim (slots_view table) (λ s. and_then (on_state (activations.enter_unit units u) s) f) (λ s. and_then (names.enter_file (keeping_free around) items s) g)
  unfolding activations.enter_unit activations.enter_body names.enter_file
  file_then {A = A} u items stands f g h =
      let next : Activation → Run State Activation = λ inner t. and_then (activations.define_all units inner u.body.hoisted t) (λ _ t. gives inner t) in
      let last : Environment → Eval (Named H) Environment = λ scope s. and_then (names.define_all (keeping_free around) scope items s) (λ _ s. gives scope s) in
      let right : Eval (Named H) A = λ s. and_then (names.enter_file (keeping_free around) items s) g in
      let entry = body_entry 0 None [] items in
      subst (λ (z : List (List ℕ)). Sim (slots_view table) (λ s. and_then (on_state (λ t. and_then (each (map declare_global z) t) (λ _. activations.enter_body units u.body [])) s) f) right) (sym stands.globals)
      (sim_as (slots_view table) (λ s. and_then (on_state (activations.enter_body units u.body []) s) f) (λ s. and_then (on_state (activations.enter_body units u.body []) s) f)
      right (λ s. and_then (body_scope None 0 [] [] items s) (λ scope s. and_then (last scope s) g)) (λ s. refl) (λ s. regrouped (body_scope None 0 [] [] items s) last g)
      (body_then table 0 None [] items [] 0 u.body.variables u.body.undeclared [] next f (λ scope s. and_then (last scope s) g) refl stands.body.variables stands.body.undeclared (λ inner grow long low.
      let all : entry ++ [] ≡ entry = append-nil entry in
      let all_low : IsBelow (length inner) (entry ++ []) = subst (λ (z : Scope). IsBelow (length inner) z) (sym all) low in
      subst (λ (z : Environment). Sim (slots_view table) (λ s. and_then (on_state (next inner) s) f) (λ s. and_then (and_then (names.define_all (keeping_free around) z items s) (λ _ s. gives z s)) g)) (ap (λ (z : Scope). environment_of z inner) all)
      (defined_then (entry ++ []) inner all_low u.body.hoisted (functions items) f g stands.body.hoisted (h inner (sym long) all_low)))))

  pub client_then : {A : Type 0} (u : Unit') (items : List Stmt) → ClientCodeStands around units table u items → (f : Activation → Eval H A) (g : Environment → Eval (Named H) A)
      → ((inner : Activation) → length (lexicals items) ≡ length inner → IsBelow (length inner) (client_scope items) → Sim (slots_view table) (f inner) (g (environment_of (client_scope items) inner)))
      → Sim (slots_view table) (λ s. and_then (on_state (activations.enter_unit units u) s) f) (λ s. and_then (names.enter_client (keeping_free around) items s) g)
  unfolding activations.enter_unit activations.enter_body names.enter_client
  client_then {A = A} u items stands f g h =
      let next : Activation → Run State Activation = λ inner t. and_then (activations.define_all units inner u.body.hoisted t) (λ _ t. gives inner t) in
      let last : Environment → Eval (Named H) Environment = λ scope s. and_then (names.define_all (keeping_free around) scope items s) (λ _ s. gives scope s) in
      let rest : Eval (Named H) Environment = λ s. and_then (lexical_variables (lexicals items) [] s) last in
      subst (λ (z : List (List ℕ)). Sim (slots_view table) (λ s. and_then (on_state (λ t. and_then (each (map declare_global z) t) (λ _. activations.enter_body units u.body [])) s) f) (λ s. and_then (names.enter_client (keeping_free around) items s) g)) (sym stands.globals)
      (both_first table (each (map declare_global (variables items))) (λ _. activations.enter_body units u.body []) f (each (map (λ name. on_state (declare_global name)) (variables items))) (λ _. rest) g
      (sim_bind (slots_view table) (globals_sim table (variables items)) (λ _.
      subst (λ (k : ℕ). Sim (slots_view table) (λ s. and_then (on_state (λ t. and_then (grown k (Some value.Undefined) [] t) (λ declared t. and_then (grown u.body.undeclared None declared t) next)) s) f) (λ s. and_then (rest s) g)) (sym stands.variables)
      (subst (λ (k : ℕ). Sim (slots_view table) (λ s. and_then (on_state (λ t. and_then (grown k None [] t) next) s) f) (λ s. and_then (rest s) g)) (sym stands.undeclared)
      (both_first table (grown (length (lexicals items)) None []) next f (lexical_variables (lexicals items) []) last g
      (entry_lexicals_then table (lexicals items) [] [] 0 (λ inner s. and_then (on_state (next inner) s) f) (λ env s. and_then (last env s) g) refl tt (λ inner grow long low.
      let n : length (lexicals items) ≡ length inner = omega (arith, long, lexicals_length 0 (lexicals items) []) in
      defined_then (client_scope items) inner low u.body.hoisted (functions items) f g stands.hoisted (h inner n low))))))))
