-- What names stand for in a scope and in the environment that an activation gives it.
use Rattle.std.proofs.Common.{◌≡◌, ℕ, zero, suc, ◌<◌, List, [], ◌∷◌, ◌++◌, length, map, Option, Some, None, Bool, true, false, cond, refl, ap, ap₂, ◌∙◌, arith}
use Rattle.std.specs.Prelude.{slice_get, slice_index_or}
use Rattle.mt_eval_meaning.specs.Free.{Names, has, without, cut}
use Rattle.mt_eval_meaning.specs.Scopes.{Slot, Scope, find_slot, environment_of, IsBelow, outer_binding, slot_or_outer, binding_of}
use Rattle.mt_eval_meaning.specs.Code.{lexical_of}
use Rattle.mt_eval_meaning.specs.States.{keeping_free}
use Rattle.mt_eval_agreement.proofs.Shown.{zipped}
use Rattle.mt_eval_meaning.specs.Names.{Binding, Environment, Surroundings, find, referent_outside, builtin_or_global, builtin_of, bound_or_outside, referent}
use Rattle.mt_eval_meaning.specs.declared.reference.Referent.TheVariants as refers
use Rattle.mt_eval_meaning.specs.Activations as activations
use Rattle.mt_eval_meaning.specs.Activations.{Activation, captured, address_in}
use Rattle.mt_value.specs.Names.{is_same}
use Rattle.mt_value.specs.declared.value.Native.{Native}
use Rattle.std.specs.List.{list_any}

slot_there : (activation : Activation) (slot : ℕ) → slot < length activation → slice_get activation slot ≡ Some (slice_index_or activation slot 0)
slot_there [] slot low = absurd (omega arith)
slot_there (at ∷ activation) zero low = refl
slot_there (at ∷ activation) (suc slot) low = slot_there activation slot (omega (arith, low))

-- what stands outside is no variable
native_outer : (activation : Activation) (n : Option Native) → activations.referent activation (outer_binding (builtin_or_global n)) ≡ builtin_or_global n
native_outer activation None = refl
native_outer activation (Some n) = refl

outer_at : (activation : Activation) (b : Bool) (n : Option Native) → activations.referent activation (outer_binding (cond b refers.Service (builtin_or_global n))) ≡ cond b refers.Service (builtin_or_global n)
outer_at activation true n = refl
outer_at activation false n = native_outer activation n

outer_same : (around : Surroundings) (activation : Activation) (name : List ℕ) → activations.referent activation (outer_binding (referent_outside around name)) ≡ referent_outside (keeping_free around) name
unfolding referent_outside
outer_same around activation name = outer_at activation (list_any (is_same name) around.services) (builtin_of around.tier name)

module _ (around : Surroundings) (activation : Activation) (name : List ℕ) where
  found_at : (b : Bool) (s : Slot) (scope : Scope) → s.slot < length activation
      → activations.referent activation (slot_or_outer (find_slot name scope) (outer_binding (referent_outside around name))) ≡ bound_or_outside (find name (environment_of scope activation)) (keeping_free around) name
      → activations.referent activation (slot_or_outer (cond {A = Option Slot} b (Some s) (find_slot name scope)) (outer_binding (referent_outside around name)))
      ≡ bound_or_outside (cond {A = Option Binding} b (Some (record { name = s.name; address = slice_index_or activation s.slot 0; constant = s.constant })) (find name (environment_of scope activation))) (keeping_free around) name
  found_at true s scope low rest = ap (λ o. activations.slot_referent o s.constant) (slot_there activation s.slot low)
  found_at false s scope low rest = rest

  pub referent_same : (scope : Scope) → IsBelow (length activation) scope → activations.referent activation (binding_of around scope name) ≡ referent (keeping_free around) (environment_of scope activation) name
  referent_same [] low = outer_same around activation name
  referent_same (s ∷ scope) low = found_at (is_same name s.name) s scope low.0 (referent_same scope low.1)

-- ---- environments cut to some names

cut_at : (b : Bool) (x : Binding) (xs : Environment) (y : Slot) (ys : Scope) (activation : Activation) (free : Names) → x ≡ record { name = y.name; address = slice_index_or activation y.slot 0; constant = y.constant }
    → cut (λ b. b.name) (without (y.name ∷ []) free) xs ≡ environment_of (cut (λ s. s.name) (without (y.name ∷ []) free) ys) activation
    → cut (λ b. b.name) free xs ≡ environment_of (cut (λ s. s.name) free ys) activation
    → cond {A = Environment} b (x ∷ cut (λ b. b.name) (without (y.name ∷ []) free) xs) (cut (λ b. b.name) free xs)
    ≡ environment_of (cond {A = Scope} b (y ∷ cut (λ s. s.name) (without (y.name ∷ []) free) ys) (cut (λ s. s.name) free ys)) activation
cut_at true x xs y ys activation free is inner outer = ap₂ (λ b (bs : Environment). b ∷ bs) is inner
cut_at false x xs y ys activation free is inner outer = outer

pub cut_same : (scope : Scope) (activation : Activation) (free : Names) → cut (λ b. b.name) free (environment_of scope activation) ≡ environment_of (cut (λ s. s.name) free scope) activation
cut_same [] activation free = refl
cut_same (s ∷ scope) activation free =
    cut_at (has free s.name) (record { name = s.name; address = slice_index_or activation s.slot 0; constant = s.constant }) (environment_of scope activation) s scope activation free refl (cut_same scope activation (without (s.name ∷ []) free)) (cut_same scope activation free)

below_at : (b : Bool) (size : ℕ) (y : Slot) (xs ys : Scope) → y.slot < size → IsBelow size xs → IsBelow size ys → IsBelow size (cond {A = Scope} b (y ∷ xs) ys)
below_at true size y xs ys low first second = (low, first)
below_at false size y xs ys low first second = second

pub cut_below : (size : ℕ) (scope : Scope) (free : Names) → IsBelow size scope → IsBelow size (cut (λ s. s.name) free scope)
cut_below size [] free low = tt
cut_below size (s ∷ scope) free low = below_at (has free s.name) size s (cut (λ s. s.name) (without (s.name ∷ []) free) scope) (cut (λ s. s.name) free scope) low.0 (cut_below size scope (without (s.name ∷ []) free) low.1) (cut_below size scope free low.1)

-- the captured addresses, with the names of their slots
pub captured_same : (scope : Scope) (activation : Activation) → IsBelow (length activation) scope → zipped (map lexical_of scope) (captured activation (map (λ s. s.slot) scope)) ≡ environment_of scope activation
captured_same [] activation low = refl
captured_same (s ∷ scope) activation low =
    ap (λ o. zipped (map lexical_of (s ∷ scope)) (address_in o ++ captured activation (map (λ s. s.slot) scope))) (slot_there activation s.slot low.0)
    ∙ ap (λ (bs : Environment). record { name = s.name; address = slice_index_or activation s.slot 0; constant = s.constant } ∷ bs) (captured_same scope activation low.1)

pub captured_length : (scope : Scope) (activation : Activation) → IsBelow (length activation) scope → length (captured activation (map (λ s. s.slot) scope)) ≡ length scope
captured_length [] activation low = refl
captured_length (s ∷ scope) activation low = ap (λ o. length (address_in o ++ captured activation (map (λ s. s.slot) scope))) (slot_there activation s.slot low.0) ∙ ap suc (captured_length scope activation low.1)
