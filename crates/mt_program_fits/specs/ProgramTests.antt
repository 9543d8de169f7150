-- The tests of a host that runs the code of an accepted program, and of one that runs client code.
use Rattle.std.specs.Prelude.{◌≡◌, ℕ, Bool, true, false, nat_eq, List, length, Option, None, Some, slice_get, IsTrue}
use Rattle.mt_eval_fits.specs.Fitting.{entry_fits}
use Rattle.mt_eval_keeps.specs.Growth.{Thing}
use Rattle.mt_eval_keeps.specs.Kept.{Tests}
use Rattle.mt_eval_meaning.specs.Evaluation.{dollars_of}
use Rattle.mt_eval_meaning.specs.States.{Numbered}
use Rattle.mt_program_fits.specs.Elements.{is_element}
use Rattle.mt_syntax.specs.declared.program.Program.{Program}
use Rattle.mt_syntax.specs.declared.program.Tilde.{Tilde}

-- what a host lets code of a program make: each element of the tables, and each tilde with as many values as it has dollars
pub record Admits {H : Type 0} (tests : Tests H) (p : Program) : Type 0 where
  pub elements : (tag : List ℕ) (names : List (List ℕ)) (children : ℕ) → is_element tag names children ≡ true → tests.element tag names children ≡ true
  pub tildes : (id : ℕ) (t : Tilde) → slice_get p.tildes id ≡ Some t → tests.tilde id (length t.dollars) ≡ true

abbrev pub has_dollars : Option Tilde → ℕ → Bool
has_dollars None count = false
has_dollars (Some t) count = nat_eq (length t.dollars) count

-- the number of a tilde, and of its dollars
abbrev pub is_tilde : List Tilde → ℕ → ℕ → Bool
is_tilde tildes id count = has_dollars (slice_get tildes id) count

abbrev pub is_met_in : List Tilde → ℕ → Bool
is_met_in tildes id = is_tilde tildes id (length (dollars_of (slice_get tildes id)))

module _ {H : Type 0} (own : H → Thing → Bool) (addresses : H → List ℕ) where
  -- with the numbers of the functions that the table names and whose syntax fits
  abbrev pub program_tests : Program → List Numbered → Tests H
  program_tests p table = record {
    own = own;
    addresses = addresses;
    element = is_element;
    tilde = is_tilde p.tildes;
    function = λ n. entry_fits is_element (is_met_in p.tildes) (slice_get table n);
  }

  -- client code makes no elements and meets no tildes
  abbrev pub no_element : List ℕ → List (List ℕ) → ℕ → Bool
  no_element tag names children = false

  abbrev pub client_tests : List Numbered → Tests H
  client_tests table = record {
    own = own;
    addresses = addresses;
    element = no_element;
    tilde = λ id count. false;
    function = λ n. entry_fits no_element (λ id. false) (slice_get table n);
  }
